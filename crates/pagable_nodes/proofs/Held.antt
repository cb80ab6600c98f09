-- A value holds what its fields hold, and a node what its value holds.
use Rattle.pagable_nodes.specs.{Nodes.{either_beside, one_beside}, declared.one_node.OneNode.OneNode}
use Rattle.pagable_traits.proofs.Lent.{held_before}
use Rattle.pagable_traits.specs.HeldValues.{Beside}
use Rattle.pagable_value_spec.specs.{Cursor.{HoldsLentValues, InputState, MovesOn}, declared.numbers.ArcRef.ArcRef}
use Rattle.std.proofs.Common.{subst, sym, ◌≡◌}
use Rattle.std.specs.Arc.{arc_value}
use Rattle.pagable_nodes.specs.declared.either_node.EitherNode.TheVariants as nodes

-- what the parts hold that were read is all that the value made of them holds
pub parts_hold : {N X Y : Type 0} {P : Beside N X} {Q : Beside N Y} {s : InputState N} {x : X} {y : Y} → HoldsLentValues s P x
    → ((r : ArcRef) (z : N) → P x r z → Q y r z) → HoldsLentValues s Q y
parts_hold h so = record { each = λ r z only. so r z (h.each r z only) }

-- a value holds what its fields hold, if that is all; and so it does if something was read before the fields
pub fields_hold : {N X Y : Type 0} {P : Beside N X} {Q : Beside N Y} {s : InputState N} {x : X} {y : Y} → HoldsLentValues s P x → P x ≡ Q y
    → HoldsLentValues s Q y
fields_hold h same = record { each = λ r z only. rw (← same) (h.each r z only) }

pub case_holds : {N X Y : Type 0} {P : Beside N X} {Q : Beside N Y} {s t : InputState N} {x : X} {y : Y} → MovesOn s t → HoldsLentValues t P x → P x ≡ Q y
    → HoldsLentValues s Q y
case_holds m h same = fields_hold (held_before m h) same

pub one_holds : {N T : Type 0} {P : Beside N T} {s : InputState N} {n : OneNode T} {x : T} → arc_value n.value ≡ x → HoldsLentValues s P x
    → HoldsLentValues s (one_beside P) n
one_holds {P = P} {s = s} is h = record { each = (subst (HoldsLentValues s P) (sym is) h).each }

module _ {N A B C : Type 0} (P : Beside N A) (Q : Beside N B) (R : Beside N C) {s : InputState N} where
  pub first_holds : {n : OneNode A} {x : A} → arc_value n.value ≡ x → HoldsLentValues s P x → HoldsLentValues s (either_beside P Q R) (nodes.First n)
  first_holds {n} is h = record { each = (one_holds {P = P} {n = n} is h).each }

  pub second_holds : {n : OneNode B} {x : B} → arc_value n.value ≡ x → HoldsLentValues s Q x → HoldsLentValues s (either_beside P Q R) (nodes.Second n)
  second_holds {n} is h = record { each = (one_holds {P = Q} {n = n} is h).each }

  pub third_holds : {n : OneNode C} {x : C} → arc_value n.value ≡ x → HoldsLentValues s R x → HoldsLentValues s (either_beside P Q R) (nodes.Third n)
  third_holds {n} is h = record { each = (one_holds {P = R} {n = n} is h).each }

pub ruleset held = (first_holds, second_holds, third_holds)
