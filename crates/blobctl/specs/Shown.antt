-- What a file of blobs shows.
use Rattle.pagable_file.specs.declared.listing.ListedBlob.{ListedBlob}
use Rattle.pagable_value_spec.specs.Blob.{Blob}
use Rattle.std.specs.{
  List.Contains,
  Prelude.{Bool, IsSome, IsTrue, List, Option, map, ℕ, ◌≡◌},
}

-- the blob under each key, the key that each name stands for, and whether no wrong answer of the disk was taken for true
pub record View : Type 0 where
  pub is_honest : Bool
  pub blob : ℕ → Option Blob
  pub key : List ℕ → Option ℕ

-- all is as it was
abbrev pub Stays : View → View → Type 0
Stays old new = IsTrue new.is_honest → new ≡ old

-- each blob is listed
abbrev pub ListsAll : (ℕ → Option Blob) → List ListedBlob → Type 0
ListsAll blobs listed = (key : ℕ) → IsSome (blobs key) → Contains (map (λ it. it.key) listed) key
