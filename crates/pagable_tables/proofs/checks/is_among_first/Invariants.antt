use Rattle.pagable_tables.proofs.Words.{false, is_in, seen, ◌≡◌}
use Rattle.pagable_tables.proofs.checks.is_among_first.Given as goal

abbrev pub invariant-loop-at : goal.invariant-loop-at
invariant-loop-at l = is_in (seen l.named l.at) l.number ≡ false
