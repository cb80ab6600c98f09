-- The bytes of a file of blobs: a header, batches, a shut gate. A batch is its gate (1), the lengths of its bodies and
-- of its rows (8 bytes each), the sum of its rows (8), its bodies, its rows.
use Rattle.std.specs.Prelude.{◌≡◌, ℕ, zero, suc, ◌+◌, ◌==◌, nat_le, Bool, ◌&&◌, ◌||◌, if◌then◌else◌, ⊤, List, [], ◌∷◌, ◌++◌, length, take, drop, slice_index}
use Rattle.std.specs.Prelude.{Option, Some, None}
use Rattle.std.specs.List.{list_all, zip}
use Rattle.std.specs.Str.{bytes_eq}
use Rattle.std.specs.Int.{w64, from_le_bytes, to_le_bytes}
use Rattle.sqlite_disk.specs.Digest.{digest}
use Rattle.sqlite_wal.specs.Format.{part}
use Rattle.blob_file.specs.declared.head.Head.{Head}

-- "pagable blobs 2\n"
abbrev pub header : List ℕ
header = 112 ∷ 97 ∷ 103 ∷ 97 ∷ 98 ∷ 108 ∷ 101 ∷ 32 ∷ 98 ∷ 108 ∷ 111 ∷ 98 ∷ 115 ∷ 32 ∷ 50 ∷ 10 ∷ []

-- the number whose eight bytes stand at `at`, the lowest first
unfoldable pub number : List ℕ → ℕ → ℕ
number b at = from_le_bytes w64 (part b at 8)

-- what the 25 bytes at the front of a batch say
abbrev pub head_of : List ℕ → Head
head_of b = record { bodies = number b 1; rows = number b 9; sum = number b 17 }

-- the head of a batch without its gate: the lengths of the bodies and of the rows, and the sum of the rows
abbrev pub head_bytes : ℕ → List ℕ → List ℕ
head_bytes bodies rows = to_le_bytes w64 bodies ++ (to_le_bytes w64 (length rows) ++ to_le_bytes w64 (digest 0 rows))

-- how many bytes a batch has, as its head says
unfoldable pub size_of : List ℕ → ℕ
size_of b = 25 + number b 1 + number b 9

-- the gate is open, and as many bytes follow as the head says
unfoldable pub is_open : List ℕ → Bool
is_open b = (slice_index b 0 == 1) && nat_le (size_of b) (length b)

-- the head of a batch with an open gate that is at most n bytes long
abbrev pub head_within : ℕ → List ℕ → Option Head
head_within n b = if (slice_index b 0 == 1) && nat_le (size_of b) n then Some (head_of b) else None

-- the head of the batch at the front, if it is open
abbrev pub open_head : List ℕ → Option Head
open_head b = if is_open b then Some (head_of b) else None

-- the batches up to the first that is shut or longer than the file, n at most
unfoldable pub batches : ℕ → List ℕ → List (List ℕ)
batches zero file = []
batches (suc n) file = if is_open file then take (size_of file) file ∷ batches n (drop (size_of file) file) else []

-- the batches that a file stands for
unfoldable pub recovered : List ℕ → List (List ℕ)
recovered file = if bytes_eq (take 16 file) header then batches (length file) (drop 16 file) else []

-- one batch behind the other
unfoldable pub joined : List (List ℕ) → List ℕ
joined [] = []
joined (b ∷ bs) = b ++ joined bs

-- a batch with an open gate and all its bytes
pub record IsBatch (b : List ℕ) : Type 0 where
  pub gate : slice_index b 0 ≡ 1
  pub size : size_of b ≡ length b

abbrev pub AreBatches : List (List ℕ) → Type 0
AreBatches [] = ⊤
AreBatches (b ∷ bs) = IsBatch b × AreBatches bs

-- the rows of a batch, behind its bodies
unfoldable pub rows_of : List ℕ → List ℕ
rows_of b = part b (25 + number b 1) (number b 9)

-- the rows have the sum that the head says
abbrev pub IsSummed : List ℕ → Type 0
IsSummed b = number b 17 ≡ digest 0 (rows_of b)

abbrev pub AreSummed : List (List ℕ) → Type 0
AreSummed [] = ⊤
AreSummed (b ∷ bs) = IsSummed b × AreSummed bs

-- the file begins as a file of blobs does
abbrev pub is_made : List ℕ → Bool
is_made file = bytes_eq (take 16 file) header

-- a file without a batch
abbrev pub new_file : List ℕ
new_file = header ++ 0 ∷ []

-- the byte is 0, or that of a new file at its place
abbrev pub is_faint : ℕ × ℕ → Bool
is_faint it = (it.0 == 0) || (it.0 == it.1)

-- the file was never made, or a crash came when it was: it is no longer than a new one, and each byte is 0 or a new file's at its place
abbrev pub is_unmade : List ℕ → Bool
is_unmade file = nat_le (length file) 17 && list_all is_faint (zip file new_file)
