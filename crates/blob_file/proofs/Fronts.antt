-- What was read of a file from its front, or written there.
use Rattle.std.proofs.Common.{◌≡◌, refl, sym, ◌∙◌, ℕ, ◌<◌, ◌≤◌, List, [], ◌∷◌, length, take, arith, take_all}
use Rattle.std.specs.List.{list_all, zip}
use Rattle.std.proofs.lemmas.Bool.{le-leb}
use Rattle.sqlite_disk.specs.Disk.{Holds, Torn}
use Rattle.sqlite_wal.specs.Format.{part}
use Rattle.sqlite_wal.proofs.PartLemmas.{held_is_part}
use Rattle.blob_file.specs.Format.{is_faint, is_unmade, new_file}

-- the front that was read
pub front_held : (file bytes : List ℕ) (n : ℕ) → Holds file 0 bytes → length bytes ≡ n → take n file ≡ bytes
unfolding part
front_held file bytes n h whole = held_is_part file bytes 0 n h whole

-- all of the file was read
pub file_held : (file bytes : List ℕ) → (0 < length bytes → Holds file 0 bytes) → length bytes ≡ length file → bytes ≡ file
file_held [] [] h whole = refl
file_held (f ∷ fs) [] h whole = absurd (omega arith)
file_held file (b ∷ bs) h whole = sym (front_held file (b ∷ bs) (length (b ∷ bs)) (h (omega arith)) refl) ∙ take_all (length (b ∷ bs)) file (omega arith)

-- what a new file is written over is no longer
pub file_written : (old file bytes : List ℕ) → Torn 0 (length bytes) old file → Holds file 0 bytes → length old ≤ length bytes → file ≡ bytes
file_written old file bytes torn h small = sym (file_held file bytes (λ _. h) (omega (arith, h.within, torn.no_longer)))

pub unmade_read : (file bytes : List ℕ) → bytes ≡ file → length file ≤ 17 → list_all is_faint (zip bytes new_file) ≡ is_unmade file
unmade_read file bytes same small = rw (same, le-leb (length file) 17 small) refl
