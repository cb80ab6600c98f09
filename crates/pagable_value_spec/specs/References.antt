-- The references in a value.
use Rattle.pagable_value_spec.specs.{
  Meaning.{Meaning, followed, pair, reference, variant},
  declared.numbers.ArcRef.ArcRef,
}
use Rattle.std.specs.Prelude.{Bool, List, if◌then◌else◌, sum_by, [], ◌++◌, ◌∷◌, ◌≡◌}

-- the references in a meaning, from the front
unfoldable pub references_in : {A : Type 0} → Meaning A → List A
references_in (pair a b) = references_in a ++ references_in b
references_in (variant n a) = references_in a
references_in (reference a) = a ∷ []
references_in (followed kind a) = references_in a
references_in _ = []

-- The same references, each equally often, in any order: every test holds of equally many in both lists.
abbrev pub SameReferences : List ArcRef → List ArcRef → Type 0
SameReferences rs ss = (is : ArcRef → Bool) → sum_by (λ (r : ArcRef). if is r then 1 else 0) rs
    ≡ sum_by (λ (r : ArcRef). if is r then 1 else 0) ss
