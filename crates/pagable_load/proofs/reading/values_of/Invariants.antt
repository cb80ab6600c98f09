use Rattle.pagable_load.proofs.Lending.{LentTo}
use Rattle.pagable_load.specs.AccessView.{IfKnown}
use Rattle.std.proofs.Common.{length, ◌≡◌}
use Rattle.std.specs.Arc.{arc_value}
use Rattle.pagable_load.proofs.reading.values_of.Given as goal

-- those before this one lend theirs
abbrev pub invariant-loop-reference : goal.invariant-loop-reference
invariant-loop-reference g l = record {
  long : length l.lent.items ≡ l.reference-index;
  lent : IfKnown (g.A.Access.known_state l.access) (λ s. LentTo arc_value s l.got l.reference-index l.lent.items);
}
