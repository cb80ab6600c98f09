-- What holds at each turn of the walk over a file's batches.
use Rattle.std.proofs.Common.{◌≡◌, refl, sym, ◌∙◌, ap, subst, ℕ, ◌≤◌, List, drop, Option}
use Rattle.std.specs.Prelude.{IfErr, IsErrAnd, IsTrue, Result, Ok, Err}
use Rattle.sqlite_disk.specs.Disk.{MoreFaults}
use Rattle.sqlite_disk.specs.declared.Disk.{Ghosts}
use Rattle.sqlite_wal.specs.Reads.{IsClean, OnlyReads}
use Rattle.blob_file.specs.Format.{AreSummed, open_head, recovered}
use Rattle.blob_file.specs.Opening.{FailsFor, Refuses, StandsTo}
use Rattle.blob_file.specs.declared.file_error.FileError.{FileError}
use Rattle.blob_file.specs.declared.file_error.FileError.TheVariants.{OutOfMemory, NotBlobs, Damaged, Failed, Shut, TooLong, NoSuchBlob, ReadOnly}
use Rattle.blob_file.specs.Rows.{AreFormed}
use Rattle.blob_file.specs.declared.head.Head.{Head}
use Rattle.blob_file.specs.declared.index.Index.{Index}

pub record Walks {D : Type 0} (g : Ghosts D) (at len : ℕ) (known : Index) (first disk : D) : Type 0 where
  pub within : at ≤ len
  pub same : OnlyReads g first disk
  pub faults : g.faults disk ≡ g.faults first
  pub stands : IsClean g disk → StandsTo at (g.seen first) known

pub reads_not : {D : Type 0} (g : Ghosts D) (disk : D) → IsTrue (g.is_usable disk) → OnlyReads g disk disk
reads_not g disk usable = record { seen = refl; clean = λ clean. clean; usable = usable; key = refl; rot = refl; crash = λ c left. left }

pub reads_then : {D : Type 0} (g : Ghosts D) (a b c : D) → OnlyReads g a b → OnlyReads g b c → OnlyReads g a c
reads_then g a b c s t = record {
  seen = t.seen ∙ s.seen;
  clean = λ clean. s.clean (t.clean clean);
  usable = t.usable;
  key = t.key ∙ s.key;
  rot = t.rot ∙ s.rot;
  crash = λ left may. s.crash left (t.crash left may);
}

-- what was found there, in the file as it was at first
pub found_here : (file now : List ℕ) (at : ℕ) (found it : Option Head) → now ≡ file → found ≡ open_head (drop at now) → found ≡ it
    → open_head (drop at file) ≡ it
found_here file now at found it same is e = ap (λ (f : List ℕ). open_head (drop at f)) (sym same) ∙ sym is ∙ e

-- why a batch that is read may refuse the file
pub refuses_batch : {X P Q : Type 0} (clean : Type 0) (file : List ℕ) (before after : ℕ) (r : Result X FileError) (e : FileError) → IsErrAnd r (λ x. x ≡ e)
    → FailsFor P Q e
    → (P → clean → AreSummed (recovered file) × AreFormed (recovered file) → ⊥) → (Q → MoreFaults before after) → IfErr r (Refuses clean file before after)
refuses_batch clean file before after (Ok x) e is fails damaged failed = tt
refuses_batch {P = P} {Q = Q} clean file before after (Err y) e is fails damaged failed = go y (subst (FailsFor P Q) (sym is) fails)
  where
    go : (y : FileError) → FailsFor P Q y → Refuses clean file before after y
    go OutOfMemory f = tt
    go NotBlobs f = absurd f
    go Damaged f = damaged f
    go Failed f = failed f
    go Shut f = f
    go TooLong f = f
    go NoSuchBlob f = f
    go ReadOnly f = f
