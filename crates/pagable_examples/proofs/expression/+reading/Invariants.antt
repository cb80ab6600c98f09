use Rattle.pagable_value_spec.specs.Reading.{deepest}
use Rattle.std.proofs.Common.{◌*◌, ◌+◌, ◌-◌}
use Rattle.pagable_examples.proofs.expression.+reading.Given as goal

abbrev pub decreases-read_nested : goal.decreases-read_nested
decreases-read_nested g l = 2 * (deepest - g.D.PagableDeserializer.levels l.deserializer.now)

abbrev pub decreases-read_variant : goal.decreases-read_variant
decreases-read_variant g l = 2 * (deepest - g.D.PagableDeserializer.levels l.deserializer.now) + 1
