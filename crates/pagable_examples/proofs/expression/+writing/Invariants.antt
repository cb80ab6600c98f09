use Rattle.pagable_value_spec.specs.Reading.{deepest}
use Rattle.std.proofs.Common.{◌*◌, ◌+◌, ◌-◌}
use Rattle.pagable_examples.proofs.expression.+writing.Given as goal

abbrev pub decreases-write_nested : goal.decreases-write_nested
decreases-write_nested g l = 2 * (deepest - g.S.PagableSerializer.levels l.serializer.now)

abbrev pub decreases-write_variant : goal.decreases-write_variant
decreases-write_variant g l = 2 * (deepest - g.S.PagableSerializer.levels l.serializer.now) + 1
