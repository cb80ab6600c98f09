-- Names that stand for keys in a storage of blobs.
use Rattle.pagable_value_spec.specs.{Blob.Blob, Stored.HasFailed, declared.error.Error.Error}
use Rattle.std.specs.{
  List.{AllPairs, Contains},
  Prelude.{Bool, IsSome, List, None, Option, Some, if◌then◌else◌, true, ℕ, ◌≡◌, ◌≢◌},
  Prelude.◌⊎◌,
  Str.{IsUtf8, bytes_eq},
}

-- the name stands for this key now, or for none; each other name stands for what it stood for
abbrev pub Sets : List ℕ → Option ℕ → (List ℕ → Option ℕ) → (List ℕ → Option ℕ) → Type 0
Sets name key old new = (q : List ℕ) → new q ≡ (if bytes_eq name q then key else old q)

-- a blob is stored under the key, if there is a key
abbrev pub HasBlobIfKey : (ℕ → Option Blob) → Option ℕ → Type 0
HasBlobIfKey stored None = Unit {0}
HasBlobIfKey stored (Some key) = IsSome (stored key)

abbrev pub RefusesRoot : Option ℕ → (ℕ → Option Blob) → Bool → ℕ → ℕ → Error → Type 0
RefusesRoot key stored closed before after (Error.NoData k) = (key ≡ Some k) × (stored k ≡ None)
RefusesRoot key stored closed before after Error.Closed = closed ≡ true
RefusesRoot key stored closed before after Error.OutOfMemory = Unit {0}
RefusesRoot key stored closed before after (Error.Storage code) = HasFailed before after
RefusesRoot key stored closed before after _ = ⊥

-- what the names durably stand for stays as it was, or becomes what they stand for: all of them, or none
abbrev pub StaysOrTakes : (List ℕ → Option ℕ) → (List ℕ → Option ℕ) → (List ℕ → Option ℕ) → Type 0
StaysOrTakes roots old new = (new ≡ old) ⊎ (new ≡ roots)

-- Each name that stands for a key is listed, once, and no other. A name that isn't UTF-8 has no `str`.
pub record ListsEach (roots : List ℕ → Option ℕ) (names : List (List ℕ)) : Type 0 where
  pub once : AllPairs (λ a b. a ≢ b) names
  pub all : (name : List ℕ) → IsUtf8 name → IsSome (roots name) → Contains names name
  pub only : (name : List ℕ) → Contains names name → IsSome (roots name)
