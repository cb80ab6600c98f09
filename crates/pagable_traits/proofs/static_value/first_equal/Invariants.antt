use Rattle.pagable_value_spec.specs.Statics.{NoEqualBelow}
use Rattle.pagable_traits.proofs.static_value.first_equal.Given as goal

abbrev pub invariant-loop-place : goal.invariant-loop-place
invariant-loop-place g l = NoEqualBelow g.T.PartialEq.eq l.value l.values l.place
