-- What values that hold others hold beside references, made of what their parts hold.
use Rattle.pagable_traits.specs.{References.holding_reference, declared.arc.HoldingArc.HoldingArc}
use Rattle.pagable_value_spec.specs.{
  Collected.PutInTurn,
  Cursor.{HoldsLentValues, InputState},
  declared.numbers.ArcRef.ArcRef,
}
use Rattle.std.specs.{
  Arc.arc_value,
  List.All,
  Prelude.{Bool, IfSome, List, MatchResult, Option, Result, Some, ℕ, [], ◌≡◌},
}

-- what a value of the type X holds beside a reference is the value of this node
abbrev pub Beside : Type 0 → Type 0 → Type 1
Beside N X = X → ArcRef → N → Type 0

-- a type without an `Arc` and without a pin: its values hold nothing beside their references
abbrev pub only_references : {N T : Type 0} → Beside N T
only_references x r y = Unit {0}

-- if the reference is the holder's own, the holder has the node's value
abbrev pub holding_beside : {N T : Type 0} {sort : ℕ} → ℕ → Bool → (N → Option T) → Beside N (HoldingArc T sort)
holding_beside t pins held a r y = holding_reference t pins a ≡ r → held y ≡ Some (arc_value a.value)

abbrev pub options_beside : {N T : Type 0} → Beside N T → Beside N (Option T)
options_beside B o r y = IfSome o (λ x. B x r y)

abbrev pub results_beside : {N S T : Type 0} → Beside N S → Beside N T → Beside N (Result S T)
results_beside B C x r y = MatchResult x (λ z. B z r y) (λ z. C z r y)

abbrev pub pairs_beside : {N S T : Type 0} → Beside N S → Beside N T → Beside N (S × T)
pairs_beside B C p r y = B p.0 r y × C p.1 r y

abbrev pub lists_beside : {N T : Type 0} → Beside N T → Beside N (List T)
lists_beside B xs r y = All (λ x. B x r y) xs

-- the result of adding items one after another, each of which holds what the deserializer lent
pub record CollectsHeld {N T : Type 0} (s : InputState N) (B : Beside N T) (puts : List T → T → List T → Type 0)
    (now : List T) : Type 0 where
  pub xs : List T
  pub each : All (HoldsLentValues s B) xs
  pub is : PutInTurn puts [] xs now
