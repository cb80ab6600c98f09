-- What a copy of one storage's blobs into another contains.
use Rattle.pagable_value_spec.specs.Blob.{Blob}
use Rattle.std.specs.{
  HashMap.{HashMap, get},
  List.{AllByRecursion, AllPairs, Contains, list_any},
  Prelude.{Bool, IsSome, IsTrue, List, Option, Some, String, length, nat_eq, string_bytes, ℕ, [], ◌∷◌, ◌≡◌, ◌≢◌},
  Prelude.◌⊎◌,
  Str.bytes_eq,
  declared.hash.{BuildHasherDefault.BuildHasherDefault, FoldHasher.FoldHasher},
}

abbrev pub is_among : {A : Type 0} → List ℕ → List (String A) → Bool
is_among name names = list_any (λ it. bytes_eq name (string_bytes it)) names

-- the keys that were copied
abbrev pub KeySet : Type 0
KeySet = HashMap ℕ (Unit {0}) (BuildHasherDefault FoldHasher)

abbrev pub HasCopied : KeySet → ℕ → Type 0
HasCopied copied key = IsSome (get nat_eq copied key)

-- both storages have the same blob under the key, and its children were copied
pub record IsCopied (from to : ℕ → Option Blob) (copied : KeySet) (key : ℕ) : Type 0 where
  pub blob : Blob
  pub there : from key ≡ Some blob
  pub stored : to key ≡ Some blob
  pub children : AllByRecursion (HasCopied copied) blob.keys

abbrev pub AreCopied : (ℕ → Option Blob) → (ℕ → Option Blob) → KeySet → Type 0
AreCopied from to copied = (key : ℕ) → HasCopied copied key → IsCopied from to copied key

-- each key of a path is a child of the one before it
abbrev pub IsPath : (ℕ → Option Blob) → ℕ → List ℕ → Type 0
IsPath stored key [] = Unit {0}
IsPath stored key (child ∷ path) = ((blob : Blob) × (stored key ≡ Some blob) × Contains blob.keys child)
    × IsPath stored child path

-- the last key of a path
abbrev pub end_of : ℕ → List ℕ → ℕ
end_of key [] = key
end_of key (child ∷ path) = end_of child path

-- there is a path from the first key to the second
abbrev pub Reaches : (ℕ → Option Blob) → ℕ → ℕ → Type 0
Reaches stored root key = (path : List ℕ) × IsPath stored root path × (end_of root path ≡ key)

-- both storages have the same blob under the key
abbrev pub IsInBoth : (ℕ → Option Blob) → (ℕ → Option Blob) → ℕ → Type 0
IsInBoth from to key = (blob : Blob) × (from key ≡ Some blob) × (to key ≡ Some blob)

-- both have the same blobs under all keys that this one reaches
abbrev pub IsCopiedKey : (ℕ → Option Blob) → (ℕ → Option Blob) → ℕ → Type 0
IsCopiedKey from to root = (key : ℕ) → Reaches from root key → IsInBoth from to key

-- a name stands for the wanted key, if there is one, and that was copied
abbrev pub HasWantedRoot : KeySet → (List ℕ → Option ℕ) → (List ℕ → Option ℕ) → List ℕ → Type 0
HasWantedRoot copied wanted roots name = (root : ℕ) → wanted name ≡ Some root → (roots name ≡ Some root)
    × HasCopied copied root

-- a name stands for the same key in both, and both have the same blobs under all keys that this one reaches
pub record IsSameRoot (from to : ℕ → Option Blob) (copies : List ℕ → Option ℕ) (name : List ℕ) (root : ℕ) : Type 0 where
  pub set : copies name ≡ Some root
  pub blobs : IsCopiedKey from to root

abbrev pub IsCopiedRoot : (ℕ → Option Blob) → (ℕ → Option Blob) → (List ℕ → Option ℕ) → (List ℕ → Option ℕ) → List ℕ
    → Type 0
IsCopiedRoot from to roots copies name = (root : ℕ) → roots name ≡ Some root → IsSameRoot from to copies name root

-- each name stands for what it stood for, or is this one, and was set to the wanted key
abbrev pub StaysOrSets : List ℕ → (List ℕ → Option ℕ) → (List ℕ → Option ℕ) → (List ℕ → Option ℕ) → Type 0
StaysOrSets name wanted old new = (q : List ℕ) → (new q ≡ old q)
    ⊎ (IsTrue (bytes_eq q name) × IsSome (wanted q) × (new q ≡ wanted q))

-- each name stands for what it stood for, or is one of these names, and was set to the wanted key
abbrev pub StaysOrCopies : {A : Type 0} → List (String A) → (List ℕ → Option ℕ) → (List ℕ → Option ℕ)
    → (List ℕ → Option ℕ)
    → Type 0
StaysOrCopies names wanted old new = (q : List ℕ) → (new q ≡ old q)
    ⊎ (IsTrue (is_among q names) × IsSome (wanted q) × (new q ≡ wanted q))

-- the key that one of these names stands for reaches this one
abbrev pub IsReachedFrom : {A : Type 0} → (ℕ → Option Blob) → (List ℕ → Option ℕ) → List (String A) → ℕ → Type 0
IsReachedFrom {A} stored roots names key = (name : String A) × Contains names name × ((root : ℕ)
    × (roots (string_bytes name) ≡ Some root) × Reaches stored root key)

-- As many keys as this: both storages have the same blob under each, and all that the names reach is among them.
pub record CountsCopied {A : Type 0} (from to : ℕ → Option Blob) (roots : List ℕ → Option ℕ) (names : List (String A)) (count : ℕ) : Type 0 where
  pub keys : List ℕ
  pub once : AllPairs (λ a b. a ≢ b) keys
  pub both : (key : ℕ) → Contains keys key → IsInBoth from to key
  pub all : (key : ℕ) → IsReachedFrom from roots names key → Contains keys key
  pub many : count ≡ length keys
