-- What a garbage collection keeps.
use Rattle.blobctl.specs.Shown.{View}
use Rattle.blobctl.specs.declared.keep.KeptVersion.{KeptVersion}
use Rattle.pagable_file.specs.{Copies.{IsCopiedKey, IsCopiedRoot}, declared.root_log.LoggedRoot.LoggedRoot}
use Rattle.pagable_value_spec.specs.Blob.{Blob}
use Rattle.std.specs.{
  List.{AllByRecursion, Contains},
  Prelude.{List, Option, Some, count_by, if◌then◌else◌, map, nat_lt, ℕ, [], ◌∷◌, ◌≡◌},
  Str.{IsUtf8, bytes_eq},
  String.string_bytes,
}

-- how many rows are a name's
abbrev pub rows_of : List ℕ → List LoggedRoot → ℕ
rows_of name rows = count_by (λ row. bytes_eq (string_bytes row.name) name) rows

-- the rows that are kept: each has fewer than so many of its name behind it
unfoldable pub kept_rows : ℕ → List LoggedRoot → List LoggedRoot
kept_rows keep [] = []
kept_rows keep (row ∷ later) = if nat_lt (rows_of (string_bytes row.name) later) keep then row ∷ kept_rows keep later else kept_rows keep later

-- the key of a row, if it has one, is a version's
abbrev pub IsAmong : List KeptVersion → LoggedRoot → Type 0
IsAmong kept row = (key : ℕ) → row.key ≡ Some key → Contains (map (λ it. it.key) kept) key

-- both files have the same blobs under all keys that these versions reach
abbrev pub AreCopied : (ℕ → Option Blob) → (ℕ → Option Blob) → List KeptVersion → Type 0
AreCopied from to kept = AllByRecursion (λ it. IsCopiedKey from to it.key) kept

-- Each name stands for the same key in both files, which have the same blobs under all keys that this one reaches, and under all that the versions reach.
pub record Keeps (from to : View) (kept : List KeptVersion) : Type 0 where
  pub roots : (name : List ℕ) → IsUtf8 name → IsCopiedRoot from.blob to.blob from.key to.key name
  pub versions : AreCopied from.blob to.blob kept
