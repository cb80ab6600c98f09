-- The batch of some bodies and rows, and what adding it leaves.
use Rattle.std.proofs.Common.{◌≡◌, inl, inr, refl, sym, ◌∙◌, ap, ap₂, subst, ℕ, ◌+◌, ◌-◌, ◌<◌, ◌^◌, List, [], ◌∷◌, ◌++◌, length, take, drop, arith}
use Rattle.std.proofs.Common.{length-append, drop-drop, drop_at, take_at, take_all}
use Rattle.std.specs.Prelude.{slice_index}
use Rattle.std.proofs.lemmas.List.{get_or_push, length_push}
use Rattle.std.proofs.lemmas.Nat.{from_le_bytes-to_le_bytes_8}
use Rattle.sqlite_disk.specs.declared.Disk.{Ghosts}
use Rattle.sqlite_disk.specs.Digest.{digest}
use Rattle.sqlite_wal.specs.Format.{part}
use Rattle.blob_file.specs.Format.{head_bytes, number, size_of, rows_of, recovered, IsSummed}
use Rattle.blob_file.specs.Log.{SameBelow, IsStaged, StaysReady, IsOldOrNew, IsLeft, IsSound, batch_behind, batch_of, new_batch}
use Rattle.blob_file.specs.Rows.{AreWhole}
use Rattle.blob_file.proofs.BatchFiles.{kept, less_below}
use Rattle.blob_file.proofs.FlushWrites.{same_then, length_behind}

pub head_bodies : (n : ℕ) (rows : List ℕ) → n < 2 ^ 64 → number (head_bytes n rows) 0 ≡ n
unfolding number part
head_bodies n rows fits = from_le_bytes-to_le_bytes_8 n fits

pub head_rows : (n : ℕ) (rows : List ℕ) → length rows < 2 ^ 64 → number (head_bytes n rows) 8 ≡ length rows
unfolding number part
head_rows n rows fits = from_le_bytes-to_le_bytes_8 (length rows) fits

pub tail_last : (rows : List ℕ) → slice_index (rows ++ 0 ∷ []) (length rows) ≡ 0
tail_last rows = get_or_push rows 0 0 (length rows) refl

pub tail_front : (rows : List ℕ) → take (length (rows ++ 0 ∷ []) - 1) (rows ++ 0 ∷ []) ≡ rows
tail_front rows = take_at rows (0 ∷ []) (length (rows ++ 0 ∷ []) - 1) (omega (arith, length_push rows 0))

pub bodies_size : (bodies rows : List ℕ) → length bodies < 2 ^ 64 → number (new_batch bodies rows) 1 ≡ length bodies
unfolding number part
bodies_size bodies rows fits = from_le_bytes-to_le_bytes_8 (length bodies) fits

pub rows_size : (bodies rows : List ℕ) → length rows < 2 ^ 64 → number (new_batch bodies rows) 9 ≡ length rows
unfolding number part
rows_size bodies rows fits = from_le_bytes-to_le_bytes_8 (length rows) fits

sum_there : (bodies rows : List ℕ) → digest 0 rows < 2 ^ 64 → number (new_batch bodies rows) 17 ≡ digest 0 rows
unfolding number part
sum_there bodies rows fits = from_le_bytes-to_le_bytes_8 (digest 0 rows) fits

-- the rows of a new batch are those that it was made of
pub rows_of-new_batch : (bodies rows : List ℕ) → length bodies < 2 ^ 64 → length rows < 2 ^ 64 → rows_of (new_batch bodies rows) ≡ rows
unfolding rows_of part
rows_of-new_batch bodies rows few short =
    ap₂ (λ (x y : ℕ). take y (drop (25 + x) (new_batch bodies rows))) (bodies_size bodies rows few) (rows_size bodies rows short)
    ∙ ap (take (length rows)) (sym (drop-drop (length bodies) 25 (new_batch bodies rows)) ∙ drop_at bodies rows (length bodies) refl)
    ∙ take_all (length rows) rows (omega arith)

pub new_summed : (bodies rows : List ℕ) → length bodies < 2 ^ 64 → length rows < 2 ^ 64 → digest 0 rows < 2 ^ 64 → IsSummed (new_batch bodies rows)
new_summed bodies rows few short fits = sum_there bodies rows fits ∙ ap (digest 0) (sym (rows_of-new_batch bodies rows few short))

pub length-new_batch : (bodies rows : List ℕ) → length (new_batch bodies rows) ≡ 25 + length bodies + length rows
length-new_batch bodies rows = omega (arith, length-append bodies rows)

pub new_sound : (bodies rows : List ℕ) → length bodies < 2 ^ 64 → length rows < 2 ^ 64 → digest 0 rows < 2 ^ 64 → AreWhole (length bodies) rows
    → IsSound (new_batch bodies rows)
new_sound bodies rows few short fits whole = record {
  summed = new_summed bodies rows few short fits;
  formed = subst (AreWhole (number (new_batch bodies rows) 1)) (sym (rows_of-new_batch bodies rows few short))
      (subst (λ (n : ℕ). AreWhole n rows) (sym (bodies_size bodies rows few)) whole);
}

-- a crash of a file that is as ready as it was
pub left_ready : {D : Type 0} (g : Ghosts D) (gate : ℕ) (old new : D) (batch : List ℕ) → StaysReady g gate old new → (c : List ℕ) → g.may_leave new c
    → IsLeft gate (g.seen old) batch c
left_ready g gate old new batch s c left = record {
  stands = inl (kept gate (g.seen new) c s.ready.rests (s.ready.crash c left) ∙ s.same);
  below = less_below gate (gate + 1) (g.seen old) c (omega arith) (same_then (gate + 1) (g.seen old) (g.seen new) c s.below (s.ready.crash c left));
}

-- a crash while the gate is opened
pub left_sealed : (gate : ℕ) (old staged c batch : List ℕ) → recovered staged ≡ recovered old → batch_behind gate staged ≡ batch → IsSound batch
    → SameBelow (gate + 1) old staged → SameBelow gate staged c → IsOldOrNew (recovered staged) (batch_behind gate staged) c → IsLeft gate old batch c
left_sealed gate old staged c batch same is summed first below stands = record {
  stands = elim stands [
    | inl was ↦ inl (was ∙ same)
    | inr more ↦ inr (more ∙ ap₂ (λ (x : List (List ℕ)) (y : List ℕ). x ++ y ∷ []) same is, summed)
  ];
  below = same_then gate old staged c (less_below gate (gate + 1) old staged (omega arith) first) below;
}

-- where the next gate is
pub next_gate : (gate : ℕ) (file bodies rows : List ℕ) → IsStaged gate file → batch_behind gate file ≡ new_batch bodies rows
    → gate + size_of (drop gate file) ≡ gate + 25 + length bodies + length rows
next_gate gate file bodies rows staged is = omega (arith, length_behind gate file staged, ap length is, length-new_batch bodies rows)

-- the batch that was written by a plan
pub is_new : (gate : ℕ) (staged head bodies tail rows : List ℕ) → batch_behind gate staged ≡ batch_of head bodies (take (length tail - 1) tail)
    → head ≡ head_bytes (length bodies) rows → tail ≡ rows ++ 0 ∷ [] → batch_behind gate staged ≡ new_batch bodies rows
is_new gate staged head bodies tail rows is e f =
    is ∙ ap₂ (λ (x y : List ℕ). batch_of x bodies (take (length y - 1) y)) e f ∙ ap (batch_of (head_bytes (length bodies) rows) bodies) (tail_front rows)
