-- What a storage may do and return.
use Rattle.pagable_value_spec.specs.{Blob.Blob, declared.error.Error.Error}
use Rattle.std.specs.{
  List.{AllPairs, Contains},
  Prelude.{Bool, IsSome, List, None, Option, Some, if◌then◌else◌, length, true, ℕ, ◌-◌, ◌<◌, ◌==◌, ◌^◌, ◌↔◌, ◌≡◌, ◌≢◌},
  Prelude.◌⊎◌,
}

-- The blob is now stored under the key, where there was none or the same one, and nothing else changed.
pub record Adds (key : ℕ) (blob : Blob) (old new : ℕ → Option Blob) : Type 0 where
  pub each : (q : ℕ) → new q ≡ (if q == key then Some blob else old q)
  pub free : (old key ≡ None) ⊎ (old key ≡ Some blob)

-- Each blob is stored under its own key.
abbrev pub AreNamed : (Blob → ℕ) → (ℕ → Option Blob) → Type 0
AreNamed key_of stored = (key : ℕ) (blob : Blob) → stored key ≡ Some blob → key_of blob ≡ key

-- What is stored under a key stays stored there.
abbrev pub Keeps : (ℕ → Option Blob) → (ℕ → Option Blob) → Type 0
Keeps old new = (key : ℕ) (blob : Blob) → old key ≡ Some blob → new key ≡ Some blob

-- the storage failed: its count of failures rose, or stayed at its greatest
abbrev pub HasFailed : ℕ → ℕ → Type 0
HasFailed before after = (before < after) ⊎ ((before ≡ 2 ^ 64 - 1) × (after ≡ before))

abbrev pub RefusesFetch : ℕ → Option Blob → ℕ → ℕ → Error → Type 0
RefusesFetch key found before after (Error.NoData k) = (k ≡ key) × (found ≡ None)
RefusesFetch key found before after Error.OutOfMemory = Unit {0}
RefusesFetch key found before after (Error.Storage code) = HasFailed before after
RefusesFetch key found before after _ = ⊥

abbrev pub RefusesStore : Blob → Option Blob → Bool → ℕ → ℕ → Error → Type 0
RefusesStore blob found closed before after Error.KeyTaken = (other : Blob) × (found ≡ Some other) × (other ≢ blob)
RefusesStore blob found closed before after Error.Closed = closed ≡ true
RefusesStore blob found closed before after Error.OutOfMemory = Unit {0}
RefusesStore blob found closed before after (Error.Storage code) = HasFailed before after
RefusesStore blob found closed before after _ = ⊥

abbrev pub IsMemoryOrFailure : ℕ → ℕ → Error → Type 0
IsMemoryOrFailure before after Error.OutOfMemory = Unit {0}
IsMemoryOrFailure before after (Error.Storage code) = HasFailed before after
IsMemoryOrFailure before after _ = ⊥

-- count is the number of keys under which a blob is stored
pub record IsCount (stored : ℕ → Option Blob) (count : ℕ) : Type 0 where
  pub keys : List ℕ
  pub once : AllPairs (λ a b. a ≢ b) keys
  pub all : (key : ℕ) → Contains keys key ↔ IsSome (stored key)
  pub many : count ≡ length keys
