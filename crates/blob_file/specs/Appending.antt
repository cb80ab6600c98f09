-- A log between its flushes, and what a flush does to it.
use Rattle.std.specs.Prelude.{◌≡◌, ℕ, ◌+◌, ◌<◌, ◌≤◌, ◌^◌, false, IsTrue, ⊤, List, [], ◌∷◌, ◌++◌, length}
use Rattle.sqlite_disk.specs.declared.Disk.{Ghosts}
use Rattle.sqlite_disk.specs.Digest.{digest}
use Rattle.sqlite_disk.specs.Disk.{MoreFaults}
use Rattle.blob_file.specs.Format.{head_bytes, joined, recovered, AreSummed}
use Rattle.blob_file.specs.Log.{IsReady}
use Rattle.blob_file.specs.Rows.{AreFormed}
use Rattle.blob_file.specs.declared.file_error.FileError.{FileError}
use Rattle.blob_file.specs.declared.file_error.FileError.TheVariants.{OutOfMemory, Failed, ReadOnly, Shut, TooLong}
use Rattle.blob_file.specs.declared.log.Log.{Log}
use Rattle.blob_file.specs.declared.staging.Plan.{Plan}

-- what is written of the batch at a gate, beside its bodies
pub record IsPlan (gate bodies : ℕ) (rows : List ℕ) (plan : Plan) : Type 0 where
  pub head : plan.head.items ≡ head_bytes bodies rows
  pub tail : plan.tail.items ≡ rows ++ 0 ∷ []
  pub end : plan.end ≡ gate + 25 + bodies + length rows
  pub fits : gate + 25 + bodies + length rows < 2 ^ 64
  pub sum : digest 0 rows < 2 ^ 64

-- why there is no plan
abbrev pub PlanFails : ℕ → ℕ → ℕ → FileError → Type 0
PlanFails gate bodies rows OutOfMemory = ⊤
PlanFails gate bodies rows TooLong = 2 ^ 64 ≤ gate + 25 + bodies + rows
PlanFails gate bodies rows _ = ⊥

-- why a batch isn't added
abbrev pub AppendFails : {D : Type 0} → Log D → ℕ → ℕ → ℕ → FileError → Type 0
AppendFails log end before after OutOfMemory = ⊤
AppendFails log end before after TooLong = 2 ^ 64 ≤ end
AppendFails log end before after Failed = MoreFaults before after
AppendFails log end before after Shut = log.is_whole ≡ false
AppendFails log end before after ReadOnly = log.may_write ≡ false
AppendFails log end before after _ = ⊥

-- the log was opened for its one writer, and no flush has failed
abbrev pub MayWrite : {D : Type 0} → Log D → Type 0
MayWrite log = IsTrue log.is_whole × IsTrue log.may_write

-- Unless a flush failed, the log knows where the batches of its file end; and if it may write, the file is ready for the next flush.
pub record IsOpen {D : Type 0} (g : Ghosts D) (log : Log D) : Type 0 where
  pub usable : IsTrue log.is_whole → IsTrue (g.is_usable log.disk)
  pub place : IsTrue log.is_whole → IsTrue (g.is_clean log.disk) → log.gate ≡ 16 + length (joined (recovered (g.seen log.disk)))
  pub ready : MayWrite log → IsTrue (g.is_clean log.disk) → IsReady g log.gate log.disk
  pub summed : IsTrue log.is_whole → IsTrue (g.is_clean log.disk) → AreSummed (recovered (g.seen log.disk))
  pub formed : IsTrue log.is_whole → IsTrue (g.is_clean log.disk) → AreFormed (recovered (g.seen log.disk))
