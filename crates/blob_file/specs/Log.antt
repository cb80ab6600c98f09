-- An open file of batches, and what a flush makes of it.
use Rattle.std.specs.Prelude.{◌≡◌, ◌≢◌, ◌⊎◌, ℕ, ◌+◌, ◌-◌, ◌<◌, ◌≤◌, false, List, [], ◌∷◌, ◌++◌, length, take, drop, slice_index}
use Rattle.sqlite_disk.specs.declared.Disk.{Ghosts}
use Rattle.sqlite_wal.specs.Format.{part}
use Rattle.blob_file.specs.Format.{header, head_bytes, size_of, is_open, recovered, joined, AreBatches, IsSummed}
use Rattle.blob_file.specs.Rows.{IsFormed}

-- the file is the header, the batches that it stands for, a shut gate at `gate`, and anything
pub record RestsAt (gate : ℕ) (file : List ℕ) : Type 0 where
  pub within : gate < length file
  pub front : take gate file ≡ header ++ joined (recovered file)
  pub place : gate ≡ 16 + length (joined (recovered file))
  pub whole : AreBatches (recovered file)
  pub shut : slice_index file gate ≢ 1

-- the file is the header, the batches that it stands for, and behind them no whole batch with an open gate
pub record EndsAt (gate : ℕ) (file : List ℕ) : Type 0 where
  pub within : gate ≤ length file
  pub front : take gate file ≡ header ++ joined (recovered file)
  pub place : gate ≡ 16 + length (joined (recovered file))
  pub whole : AreBatches (recovered file)
  pub ends : is_open (drop gate file) ≡ false

-- the new file has the first n bytes of the old one
pub record SameBelow (n : ℕ) (old new : List ℕ) : Type 0 where
  pub within : n ≤ length new
  pub each : (i : ℕ) → i < n → slice_index new i ≡ slice_index old i

-- the file rests at this gate, and whatever a crash leaves is the same up to the gate and with it
pub record IsReady {D : Type 0} (g : Ghosts D) (gate : ℕ) (disk : D) : Type 0 where
  pub rests : RestsAt gate (g.seen disk)
  pub crash : (c : List ℕ) → g.may_leave disk c → SameBelow (gate + 1) (g.seen disk) c

-- the file is as ready as it was, stands for the same, and hasn't changed up to the gate and with it
pub record StaysReady {D : Type 0} (g : Ghosts D) (gate : ℕ) (old new : D) : Type 0 where
  pub ready : IsReady g gate new
  pub same : recovered (g.seen new) ≡ recovered (g.seen old)
  pub below : SameBelow (gate + 1) (g.seen old) (g.seen new)

-- the batch that stands behind a shut gate, as it is once the gate is open
abbrev pub batch_behind : ℕ → List ℕ → List ℕ
batch_behind gate file = 1 ∷ part file (gate + 1) (size_of (drop gate file) - 1)

-- a batch of these parts
abbrev pub batch_of : List ℕ → List ℕ → List ℕ → List ℕ
batch_of head bodies rows = 1 ∷ (head ++ (bodies ++ rows))

-- a whole batch stands behind the gate, and a shut gate behind the batch
pub record IsStaged (gate : ℕ) (file : List ℕ) : Type 0 where
  pub within : gate + size_of (drop gate file) < length file
  pub next : slice_index file (gate + size_of (drop gate file)) ≢ 1

-- and it is this batch
pub record IsStagedAs (gate : ℕ) (batch file : List ℕ) : Type 0 where
  pub staged : IsStaged gate file
  pub same : batch_behind gate file ≡ batch

-- the file stands for the old batches, or for these and the new one behind them
abbrev pub IsOldOrNew : List (List ℕ) → List ℕ → List ℕ → Type 0
IsOldOrNew old batch file = (recovered file ≡ old) ⊎ (recovered file ≡ old ++ batch ∷ [])

-- the batch of these bodies and rows
abbrev pub new_batch : List ℕ → List ℕ → List ℕ
new_batch bodies rows = batch_of (head_bytes (length bodies) rows) bodies rows

-- the batch has the sum that it says, and rows that are as long as its bodies
pub record IsSound (batch : List ℕ) : Type 0 where
  pub summed : IsSummed batch
  pub formed : IsFormed batch

-- What a crash leaves where a batch is added at the gate: the old batches, or these and the new one, which is sound. Nothing below the gate differs.
pub record IsLeft (gate : ℕ) (old batch c : List ℕ) : Type 0 where
  pub stands : (recovered c ≡ recovered old) ⊎ ((recovered c ≡ recovered old ++ batch ∷ []) × IsSound batch)
  pub below : SameBelow gate old c
