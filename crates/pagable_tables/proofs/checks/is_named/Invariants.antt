use Rattle.pagable_tables.proofs.Words.{false, is_named_by, take, ◌≡◌}
use Rattle.pagable_tables.proofs.checks.is_named.Given as goal

abbrev pub invariant-loop-reference : goal.invariant-loop-reference
invariant-loop-reference l = is_named_by (take l.reference-index l.references) l.handle.0 ≡ false
