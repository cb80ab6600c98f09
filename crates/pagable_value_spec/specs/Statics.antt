-- Values that are written as an index into a registry, which is the list of its values by their index.
use Rattle.pagable_value_spec.{
  specs.{Meaning.Meaning, Reading.registered, Refusals.may_refuse_writing, declared.error.Error.Error},
}
use Rattle.std.proofs.Common.{subst, sym}
use Rattle.std.specs.{List.slice_get, Prelude.{Bool, IsTrue, List, Ok, Some, false, map, refl, true, ℕ, ◌<◌, ◌≡◌}}

-- what the registry's values mean, by their index
abbrev pub meanings_of : {T : Type 0} → (T → Meaning ⊥) → List T → List (Meaning ⊥)
meanings_of plain registry = map plain registry

-- the registry has an equal value under this index
pub record HasEqual {T : Type 0} (same : T → T → Bool) (value : T) (registry : List T) (i : ℕ) : Type 0 where
  pub known : T
  pub stands : slice_get registry i ≡ Some known
  pub equal : IsTrue (same value known)

-- the registry has no equal value below this index
abbrev pub NoEqualBelow : {T : Type 0} → (T → T → Bool) → T → List T → ℕ → Type 0
NoEqualBelow {T} same value registry i = (j : ℕ) (known : T) → j < i → slice_get registry j ≡ Some known
    → same value known ≡ false

-- the registry has a value of the same meaning under this index
abbrev pub StandsAt : {T : Type 0} → (T → Meaning ⊥) → List T → T → ℕ → Type 0
StandsAt plain registry value i = registered (meanings_of plain registry) i ≡ Ok (plain value)

-- the error for a value that isn't in the registry
abbrev pub unregistered : Error → Type 0
unregistered e = e ≡ Error.Unregistered

pub unregistered_may_refuse_writing : (e : Error) → unregistered e → may_refuse_writing e ≡ true
unregistered_may_refuse_writing e h = let P : Error → Type 0 = λ x. may_refuse_writing x ≡ true in subst P (sym h) refl
