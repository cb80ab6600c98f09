-- Why a file may be refused, and what a walk over its batches knows.
use Rattle.std.specs.Prelude.{◌≡◌, ◌⊎◌, ℕ, ◌+◌, ◌≤◌, false, ◌||◌, IsTrue, ⊤, List, ◌++◌, length, take}
use Rattle.sqlite_disk.specs.declared.Disk.{Ghosts}
use Rattle.sqlite_disk.specs.Disk.{MoreFaults}
use Rattle.sqlite_wal.specs.Reads.{IsClean, OnlyReads}
use Rattle.blob_file.specs.Format.{header, joined, recovered, is_made, is_unmade, AreBatches, AreSummed}
use Rattle.blob_file.specs.Log.{RestsAt, IsReady}
use Rattle.blob_file.specs.Rows.{AreFormed, Knows}
use Rattle.blob_file.specs.declared.index.Index.{Index}
use Rattle.blob_file.specs.declared.file_error.FileError.{FileError}
use Rattle.blob_file.specs.declared.file_error.FileError.TheVariants.{OutOfMemory, NotBlobs, Damaged, Failed}

-- what an error says of the file, where the disk is clean, and of the disk's faults
abbrev pub Refuses : Type 0 → List ℕ → ℕ → ℕ → FileError → Type 0
Refuses clean file before after OutOfMemory = ⊤
Refuses clean file before after NotBlobs = clean → (is_made file ≡ false) × (is_unmade file ≡ false)
Refuses clean file before after Damaged = clean → ¬ (AreSummed (recovered file) × AreFormed (recovered file))
Refuses clean file before after Failed = MoreFaults before after
Refuses clean file before after _ = ⊥

-- an error of memory, of damage where that is so, or of the disk where this is so
abbrev pub FailsFor : Type 0 → Type 0 → FileError → Type 0
FailsFor damage fault OutOfMemory = ⊤
FailsFor damage fault Damaged = damage
FailsFor damage fault Failed = fault
FailsFor damage fault _ = ⊥

-- Up to `at` the file is the header and whole batches, each with the sum that it says and rows that are as long as its
-- bodies. The index has what they say.
pub record StandsTo (at : ℕ) (file : List ℕ) (index : Index) : Type 0 where
  pub within : at ≤ length file
  pub before : List (List ℕ)
  pub front : take at file ≡ header ++ joined before
  pub whole : AreBatches before
  pub summed : AreSummed before
  pub formed : AreFormed before
  pub knows : Knows index before

-- The file is open, with its shut gate at `gate`, and the index has what its batches say. Nothing of what it stands for is
-- lost or made, and one that rested already has no byte written.
pub record Opens {D : Type 0} (g : Ghosts D) (old : D) (gate : ℕ) (index : Index) (new : D) : Type 0 where
  pub usable : IsTrue (g.is_usable new)
  pub found : IsClean g new → recovered (g.seen new) ≡ recovered (g.seen old)
  pub ready : IsClean g new → IsReady g gate new
  pub summed : IsClean g new → AreSummed (recovered (g.seen old))
  pub formed : IsClean g new → AreFormed (recovered (g.seen old))
  pub knows : IsClean g new → Knows index (recovered (g.seen old))
  pub kind : IsClean g new → IsTrue (is_made (g.seen old) || is_unmade (g.seen old))
  pub untouched : IsClean g new → (place : ℕ) → RestsAt place (g.seen old) → g.seen new ≡ g.seen old

-- The file was looked at, with no byte written; its batches end at `gate`, and the index has what they say.
pub record Looks {D : Type 0} (g : Ghosts D) (old : D) (gate : ℕ) (index : Index) (new : D) : Type 0 where
  pub reads : OnlyReads g old new
  pub place : IsClean g new → gate ≡ 16 + length (joined (recovered (g.seen old)))
  pub summed : IsClean g new → AreSummed (recovered (g.seen old))
  pub formed : IsClean g new → AreFormed (recovered (g.seen old))
  pub knows : IsClean g new → Knows index (recovered (g.seen old))
  pub kind : IsClean g new → IsTrue (is_made (g.seen old) || is_unmade (g.seen old))

-- whatever a crash leaves, it left before, or it stands for what the file stood for
pub record KeepsBatches {D : Type 0} (g : Ghosts D) (old new : D) : Type 0 where
  pub clean : IsClean g new → IsClean g old
  pub crash : IsClean g new → (c : List ℕ) → g.may_leave new c → g.may_leave old c ⊎ (recovered c ≡ recovered (g.seen old))

-- an open takes the file for one of blobs, and for none that is damaged
pub record CanOpen (file : List ℕ) : Type 0 where
  pub made : IsTrue (is_made file)
  pub summed : AreSummed (recovered file)
  pub formed : AreFormed (recovered file)

-- no byte was written
pub record KeepsBytes {D : Type 0} (g : Ghosts D) (old new : D) : Type 0 where
  pub seen : g.seen new ≡ g.seen old
  pub crash : (c : List ℕ) → g.may_leave new c → g.may_leave old c

-- a refusal leaves the file as it was, but where the disk failed
abbrev pub KeepsBytesUnlessFailed : {D : Type 0} → Ghosts D → D → D → FileError → Type 0
KeepsBytesUnlessFailed g old new OutOfMemory = KeepsBytes g old new
KeepsBytesUnlessFailed g old new NotBlobs = KeepsBytes g old new
KeepsBytesUnlessFailed g old new Damaged = KeepsBytes g old new
KeepsBytesUnlessFailed g old new Failed = ⊤
KeepsBytesUnlessFailed g old new _ = ⊥
