-- The batch that the three writes of a flush leave behind the shut gate.
use Rattle.std.proofs.Common.{◌≡◌, refl, sym, ◌∙◌, ap, ap₂, ℕ, zero, suc, ◌+◌, ◌-◌, ◌<◌, ◌≤◌, List, [], ◌∷◌, ◌++◌, length, take, drop, arith}
use Rattle.std.proofs.Common.{add-zero}
use Rattle.std.specs.Prelude.{slice_index}
use Rattle.std.specs.Int.{w64, from_le_bytes}
use Rattle.sqlite_disk.specs.Disk.{Holds, Torn}
use Rattle.sqlite_wal.specs.Format.{part}
use Rattle.sqlite_wal.proofs.PartLemmas.{part_above, part_below, part_held, held_is_part}
use Rattle.blob_file.specs.Format.{number, size_of}
use Rattle.blob_file.specs.Log.{IsStaged, batch_behind, batch_of}
use Rattle.blob_file.proofs.FlushWrites.{part-add}
use Rattle.blob_file.proofs.Heads.{part-drop}

-- a number of the head that was written
number_written : (file head : List ℕ) (gate k : ℕ) → Holds file (gate + 1) head → k + 8 ≤ length head → number (drop gate file) (k + 1) ≡ number head k
unfolding number
number_written file head gate k h within =
    let here : gate + (k + 1) ≡ gate + 1 + k = omega arith in
    ap (from_le_bytes w64) (part-drop file gate (k + 1) 8 ∙ ap (λ (x : ℕ). part file x 8) here ∙ part_held file head (gate + 1) k 8 h within)

pub size_written : (file head : List ℕ) (gate n m : ℕ) → Holds file (gate + 1) head → length head ≡ 24 → number head 0 ≡ n → number head 8 ≡ m
    → size_of (drop gate file) ≡ 25 + n + m
unfolding size_of
size_written file head gate n m h whole e f =
    ap₂ (λ (x y : ℕ). 25 + x + y) (number_written file head gate 0 h (omega (arith, whole)) ∙ e) (number_written file head gate 8 h (omega (arith, whole)) ∙ f)

-- a part of no bytes, or what the file holds there
part_or_none : (file bytes : List ℕ) (at : ℕ) → (0 < length bytes → Holds file at bytes) → part file at (length bytes) ≡ bytes
unfolding part
part_or_none file [] at h = refl
part_or_none file (b ∷ bs) at h = held_is_part file (b ∷ bs) at (length (b ∷ bs)) (h (omega arith)) refl

below_or_none : (old new : List ℕ) (at n a m : ℕ) → Torn at n old new → a + m ≤ at → (0 < m → a + m ≤ length old) → part new a m ≡ part old a m
unfolding part
below_or_none old new at n a zero torn low within = refl
below_or_none old new at n a (suc m) torn low within = part_below old new at n a (suc m) torn low (within (omega arith))

above_or_none : (old new : List ℕ) (at n a m : ℕ) → Torn at n old new → at + n ≤ a → (0 < m → a + m ≤ length old) → part new a m ≡ part old a m
unfolding part
above_or_none old new at n a zero torn high within = refl
above_or_none old new at n a (suc m) torn high within = part_above old new at n a (suc m) torn high (within (omega arith))

pub record Wrote (gate : ℕ) (head bodies tail s0 s1 s2 s3 : List ℕ) : Type 0 where
  pub first : Torn (gate + 25) (length bodies) s0 s1
  pub bodies_there : 0 < length bodies → Holds s1 (gate + 25) bodies
  pub second : Torn (gate + 25 + length bodies) (length tail) s1 s2
  pub tail_there : Holds s2 (gate + 25 + length bodies) tail
  pub third : Torn (gate + 1) (length head) s2 s3
  pub head_there : Holds s3 (gate + 1) head
  pub head_size : length head ≡ 24
  pub bodies_size : number head 0 ≡ length bodies
  pub tail_size : number head 8 + 1 ≡ length tail
  pub last : slice_index tail (number head 8) ≡ 0

size : (gate : ℕ) (head bodies tail s0 s1 s2 s3 : List ℕ) → Wrote gate head bodies tail s0 s1 s2 s3
    → size_of (drop gate s3) ≡ 25 + length bodies + number head 8
size gate head bodies tail s0 s1 s2 s3 w = size_written s3 head gate (length bodies) (number head 8) w.head_there w.head_size w.bodies_size refl

pub staged : (gate : ℕ) (head bodies tail s0 s1 s2 s3 : List ℕ) → Wrote gate head bodies tail s0 s1 s2 s3 → IsStaged gate s3
staged gate head bodies tail s0 s1 s2 s3 w =
    let it = size gate head bodies tail s0 s1 s2 s3 w in
    let end : gate + size_of (drop gate s3) ≡ gate + 25 + length bodies + number head 8 = omega (arith, it) in
    record {
      within = omega (arith, it, w.tail_there.within, w.tail_size, w.third.no_shorter);
      next = λ bad. absurd (omega (
        arith,
        bad,
        ap (slice_index s3) end,
        w.third.above (gate + 25 + length bodies + number head 8)
            (omega (arith, w.tail_there.within, w.tail_size)) (omega (arith, w.head_size)),
        w.tail_there.each (number head 8) (omega (arith, w.tail_size)),
        w.last,
      ));
    }

pub batch_written : (gate : ℕ) (head bodies tail s0 s1 s2 s3 : List ℕ) → Wrote gate head bodies tail s0 s1 s2 s3
    → batch_behind gate s3 ≡ batch_of head bodies (take (length tail - 1) tail)
unfolding part
batch_written gate head bodies tail s0 s1 s2 s3 w =
    let n = length bodies in
    let m = number head 8 in
    let long : size_of (drop gate s3) - 1 ≡ 24 + (n + m) = omega (arith, size gate head bodies tail s0 s1 s2 s3 w) in
    let few : length tail - 1 ≡ m = omega (arith, w.tail_size) in
    let behind : gate + 1 + 24 ≡ gate + 25 = omega arith in
    let last : gate + 25 + n + 0 ≡ gate + 25 + n = add-zero (gate + 25 + n) in
    let first_part : part s3 (gate + 1) 24 ≡ head = held_is_part s3 head (gate + 1) 24 w.head_there w.head_size in
    let middle : part s3 (gate + 25) n ≡ bodies =
    above_or_none s2 s3 (gate + 1) (length head) (gate + 25) n w.third (omega (arith, w.head_size)) (λ some. omega (arith, w.tail_there.within, w.tail_size))
    ∙ below_or_none s1 s2 (gate + 25 + n) (length tail) (gate + 25) n w.second (omega arith) (λ some. (w.bodies_there some).within)
    ∙ part_or_none s1 bodies (gate + 25) w.bodies_there in
    let end : part s3 (gate + 25 + n) m ≡ take (length tail - 1) tail =
    above_or_none s2 s3 (gate + 1) (length head) (gate + 25 + n) m w.third (omega (arith, w.head_size))
    (λ some. omega (arith, w.tail_there.within, w.tail_size))
    ∙ ap (λ (x : ℕ). part s2 x m) (sym last) ∙ part_held s2 tail (gate + 25 + n) 0 m w.tail_there (omega (arith, w.tail_size))
    ∙ ap (λ (k : ℕ). take k tail) (sym few) in
    ap (λ (l : List ℕ). 1 ∷ l)
    (ap (part s3 (gate + 1)) long ∙ part-add s3 (gate + 1) 24 (n + m)
    ∙ ap₂ (λ (x y : List ℕ). x ++ y) first_part (ap (λ (x : ℕ). part s3 x (n + m)) behind ∙ part-add s3 (gate + 25) n m
    ∙ ap₂ (λ (x y : List ℕ). x ++ y) middle end))
