-- What a list of a file's blobs shows.
use Rattle.blob_file.specs.{Rows.Body, declared.listing.ListedBlob.ListedBlob as FileEntry}
use Rattle.blobctl.specs.Shown.{ListsAll}
use Rattle.pagable_file.specs.{Bodies.{blob_if_some, blobs_of, unless}, Listed.{ListsStored, entry_of}, declared.listing.ListedBlob.ListedBlob}
use Rattle.std.proofs.{
  Common.{Bool, Err, IfOk, IsSome, List, None, Ok, Option, Result, Some, ap, false, map, refl, true, ℕ, [], ◌∷◌, ◌≡◌},
  lemmas.Bool.false≢true,
}

keys_of_entries : (entries : List FileEntry) → map (λ (x : ListedBlob). x.key) (map entry_of entries) ≡ map (λ (x : FileEntry). x.key) entries
keys_of_entries [] = refl
keys_of_entries (x ∷ xs) = ap (λ (l : List ℕ). x.key ∷ l) (keys_of_entries xs)

body_there : (found : Option Body) → IsSome (blob_if_some found) → IsSome found
body_there None some = some
body_there (Some it) some = refl

-- a list of the bodies has each blob
lists_all : (closed : Bool) (bodies : ℕ → Option Body) (listed : List ListedBlob) → (closed ≡ false → ListsStored bodies listed)
    → ListsAll (unless closed (blobs_of bodies)) listed
lists_all true bodies listed lists key some = absurd (false≢true some)
lists_all false bodies listed lists key some =
    let it = lists refl in
    rw (it.2, keys_of_entries it.0) (it.1.keys.all key (body_there (bodies key) some))

pub lists_if : {V E : Type 0} (r : Result V E) (items : V → List ListedBlob) (closed : Bool) (bodies : ℕ → Option Body)
    → (closed ≡ false → IfOk r (λ all. ListsStored bodies (items all))) → IfOk r (λ all. ListsAll (unless closed (blobs_of bodies)) (items all))
lists_if (Ok all) items closed bodies lists = lists_all closed bodies (items all) lists
lists_if (Err e) items closed bodies lists = tt
