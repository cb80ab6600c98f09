use Rattle.pagable_traits.proofs.Registered.{NoneFrom}
use Rattle.std.proofs.Common.{map, ◌-◌}
use Rattle.std.specs.String.{string_bytes}
use Rattle.pagable_traits.proofs.typetag.last_reader.Given as goal

abbrev pub invariant-loop-passed : goal.invariant-loop-passed
invariant-loop-passed g l = NoneFrom l.tag (map (λ x. (string_bytes x.tag, x.deserialize)) l.registrations) (l.count - l.passed)
