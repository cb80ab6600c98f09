-- The rows of a batch, and what they say: where the blobs stand, and which keys the names stand for.
use Rattle.std.specs.Prelude.{◌≡◌, ℕ, zero, suc, ◌+◌, ◌*◌, ◌==◌, nat_eq, nat_le, Bool, if◌then◌else◌, IsTrue, ⊤}
use Rattle.std.specs.Prelude.{List, [], ◌∷◌, ◌++◌, length, take, drop, Option, Some, None, option_map}
use Rattle.std.specs.HashMap.{get, get_by_text}
use Rattle.std.specs.Int.{w128, w32, from_le_bytes, to_le_bytes}
use Rattle.std.specs.Map.{update}
use Rattle.std.specs.Str.{bytes_eq, is_utf8}
use Rattle.sqlite_wal.specs.Format.{part}
use Rattle.blob_file.specs.Format.{header, number, joined, rows_of}
use Rattle.blob_file.specs.declared.index.Index.{Index}
use Rattle.blob_file.specs.declared.rows.Row.{Row}
use Rattle.blob_file.specs.declared.rows.Place.{Place}

-- what the 24 bytes at the front of a row say
unfoldable pub row_of : List ℕ → Row
row_of b = record { key = from_le_bytes w128 (part b 0 16); children = from_le_bytes w32 (part b 16 4); bytes = from_le_bytes w32 (part b 20 4) }

-- the 24 bytes at the front of a row
abbrev pub row_bytes : Row → List ℕ
row_bytes r = to_le_bytes w128 r.key ++ (to_le_bytes w32 r.children ++ to_le_bytes w32 r.bytes)

-- the row is a name's: it has 2^32 - 1 in place of a number of child keys
abbrev pub is_name : Row → Bool
is_name r = r.children == 4294967295

-- how many bytes of a name stand behind a row
abbrev pub name_len : Row → ℕ
name_len r = if is_name r then r.bytes else 0

-- how many bytes the row at the front has, with the name behind it
unfoldable pub row_len : List ℕ → ℕ
row_len b = 24 + name_len (row_of b)

-- the rows up to the first that isn't whole, n at most
unfoldable pub cut_rows : ℕ → List ℕ → List (List ℕ)
cut_rows zero b = []
cut_rows (suc n) b = if nat_le (row_len b) (length b) then take (row_len b) b ∷ cut_rows n (drop (row_len b) b) else []

-- the rows that these bytes begin with
unfoldable pub rows_in : List ℕ → List (List ℕ)
rows_in b = cut_rows (length b) b

-- what the rows of blobs say
unfoldable pub blobs_of : List (List ℕ) → List Row
blobs_of [] = []
blobs_of (r ∷ rs) = if is_name (row_of r) then blobs_of rs else row_of r ∷ blobs_of rs

-- the key that a name's row gives to the name: 0 is none
abbrev pub key_given : ℕ → Option ℕ
key_given key = if key == 0 then None else Some key

-- what the rows of names say: each name, and the key that it stands for from then on
unfoldable pub names_of : List (List ℕ) → List (List ℕ × Option ℕ)
names_of [] = []
names_of (r ∷ rs) = if is_name (row_of r) then (drop 24 r, key_given (row_of r).key) ∷ names_of rs else names_of rs

abbrev pub blobs_in : List ℕ → List Row
blobs_in rows = blobs_of (rows_in rows)

abbrev pub names_in : List ℕ → List (List ℕ × Option ℕ)
names_in rows = names_of (rows_in rows)

-- how many bytes the body of a row's blob has: 16 for each child key, and its own
abbrev pub size_of_row : Row → ℕ
size_of_row r = 16 * r.children + r.bytes

unfoldable pub total : List Row → ℕ
total [] = 0
total (r ∷ rs) = size_of_row r + total rs

abbrev pub place_at : ℕ → Row → Place
place_at at r = record { at = at; children = r.children; bytes = r.bytes }

-- the places of these rows' blobs, whose bodies begin at a place, and before them those that were known
unfoldable pub placed : ℕ → List Row → (ℕ → Option Place) → ℕ → Option Place
placed at [] known q = known q
placed at (r ∷ rs) known q = placed (at + size_of_row r) rs (update nat_eq known r.key (Some (place_at at r))) q

-- what names stand for once these are told, and before them what was known: of several with one name the last counts
unfoldable pub told : List (List ℕ × Option ℕ) → (List ℕ → Option ℕ) → List ℕ → Option ℕ
told [] known q = known q
told (n ∷ ns) known q = told ns (update bytes_eq known n.0 n.1) q

-- the rows of a batch's blobs
abbrev pub blobs_of_batch : List ℕ → List Row
blobs_of_batch b = blobs_in (rows_of b)

-- the places of the blobs of batches that begin at a place
unfoldable pub places_in : ℕ → List (List ℕ) → (ℕ → Option Place) → ℕ → Option Place
places_in at [] known q = known q
places_in at (b ∷ bs) known q = places_in (at + length b) bs (placed (at + 25) (blobs_of_batch b) known) q

abbrev pub nowhere : ℕ → Option Place
nowhere q = None

-- what names stand for once batches are read
unfoldable pub told_in : List (List ℕ) → (List ℕ → Option ℕ) → List ℕ → Option ℕ
told_in [] known q = known q
told_in (b ∷ bs) known q = told_in bs (told (names_in (rows_of b)) known) q

abbrev pub unnamed : List ℕ → Option ℕ
unnamed q = None

-- each name is UTF-8
abbrev pub AreTexts : List (List ℕ × Option ℕ) → Type 0
AreTexts [] = ⊤
AreTexts (n ∷ ns) = IsTrue (is_utf8 n.0) × AreTexts ns

-- the rows are whole, their names are texts, and their blobs' bodies are as long as this
pub record AreWhole (bodies : ℕ) (rows : List ℕ) : Type 0 where
  pub whole : joined (rows_in rows) ≡ rows
  pub texts : AreTexts (names_in rows)
  pub sized : total (blobs_in rows) ≡ bodies

-- the rows of the batch are whole, and its bodies are as long as they say
abbrev pub IsFormed : List ℕ → Type 0
IsFormed b = AreWhole (number b 1) (rows_of b)

abbrev pub AreFormed : List (List ℕ) → Type 0
AreFormed [] = ⊤
AreFormed (b ∷ bs) = IsFormed b × AreFormed bs

-- a blob as the file has it: how many child keys stand at the front of its body, and the body
pub record Body : Type 0 where
  pub children : ℕ
  pub bytes : List ℕ

abbrev pub size_of_place : Place → ℕ
size_of_place p = 16 * p.children + p.bytes

abbrev pub body_at : List ℕ → Place → Body
body_at file p = record { children = p.children; bytes = part file p.at (size_of_place p) }

-- the blob that batches have under a key: of several rows with one key, the last
abbrev pub stored_in : List (List ℕ) → ℕ → Option Body
stored_in bs key = option_map (body_at (header ++ joined bs)) (places_in 16 bs nowhere key)

-- the key that a name stands for in batches: of several rows with one name, the last counts
abbrev pub named_in : List (List ℕ) → List ℕ → Option ℕ
named_in bs name = told_in bs unnamed name

-- the index has what the batches say
pub record Knows (index : Index) (bs : List (List ℕ)) : Type 0 where
  pub places : (key : ℕ) → get nat_eq index.places key ≡ places_in 16 bs nowhere key
  pub names : (name : List ℕ) → get_by_text index.names name ≡ named_in bs name

-- the index learns what the rows say, whose blobs' bodies begin at a place
pub record Learns (first : ℕ) (rows : List ℕ) (old new : Index) : Type 0 where
  pub places : (key : ℕ) → get nat_eq new.places key ≡ placed first (blobs_in rows) (get nat_eq old.places) key
  pub names : (name : List ℕ) → get_by_text new.names name ≡ told (names_in rows) (get_by_text old.names) name
