-- What the 25 bytes that were read at a place say of the batch there.
use Rattle.std.proofs.Common.{◌≡◌, refl, sym, ◌∙◌, ap, ap₂, ℕ, ◌+◌, ◌-◌, ◌<◌, ◌≤◌, false, List, length, take}
use Rattle.std.proofs.Common.{drop, arith, length-drop, drop-drop, get_or-drop, None}
use Rattle.std.specs.Prelude.{slice_index}
use Rattle.std.specs.Int.{w64, from_le_bytes}
use Rattle.std.proofs.lemmas.Bool.{and_right, lt-leb}
use Rattle.sqlite_disk.specs.Disk.{Holds}
use Rattle.sqlite_wal.specs.Format.{part}
use Rattle.sqlite_wal.proofs.PartLemmas.{part_held}
use Rattle.blob_file.specs.Format.{number, size_of, is_open, head_within, open_head}

-- a part of what stands behind a place
pub part-drop : (file : List ℕ) (at k n : ℕ) → part (drop at file) k n ≡ part file (at + k) n
unfolding part
part-drop file at k n = ap (take n) (drop-drop k at file)

pub number_seen : (file bytes : List ℕ) (at k : ℕ) → Holds file at bytes → k + 8 ≤ length bytes → number (drop at file) k ≡ number bytes k
unfolding number
number_seen file bytes at k h within = ap (from_le_bytes w64) (part-drop file at k 8 ∙ part_held file bytes at k 8 h within)

pub gate_seen : (file bytes : List ℕ) (at : ℕ) → Holds file at bytes → 0 < length bytes → slice_index (drop at file) 0 ≡ slice_index bytes 0
gate_seen file bytes at h some = get_or-drop at file 0 0 ∙ h.each 0 some

pub size_seen : (file bytes : List ℕ) (at : ℕ) → Holds file at bytes → length bytes ≡ 25 → size_of (drop at file) ≡ size_of bytes
unfolding size_of
size_seen file bytes at h whole = ap₂ (λ (x y : ℕ). 25 + x + y) (number_seen file bytes at 1 h (omega arith)) (number_seen file bytes at 9 h (omega arith))

-- what the bytes say is what the file says
pub head_seen : (file bytes : List ℕ) (at rest : ℕ) → Holds file at bytes → length bytes ≡ 25 → rest ≡ length file - at
    → head_within rest bytes ≡ open_head (drop at file)
unfolding is_open
head_seen file bytes at rest h whole behind =
    let long : rest ≡ length (drop at file) = behind ∙ sym (length-drop at file) in
    rw (
      gate_seen file bytes at h (omega arith),
      size_seen file bytes at h whole,
      number_seen file bytes at 1 h (omega arith),
      number_seen file bytes at 9 h
          (omega arith),
      number_seen file bytes at 17 h (omega arith),
      long,
    ) refl

-- nothing shorter than a head is an open batch
pub short_shut : (b : List ℕ) → length b < 25 → is_open b ≡ false
unfolding is_open size_of
short_shut b short = and_right _ _ (lt-leb (25 + number b 1 + number b 9) (length b) (omega arith))

pub no_head : (b : List ℕ) → length b < 25 → None ≡ open_head b
no_head b short = rw (short_shut b short) refl
