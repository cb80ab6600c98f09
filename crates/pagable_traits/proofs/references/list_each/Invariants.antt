use Rattle.pagable_value_spec.specs.{Meaning.sequence, References.references_in}
use Rattle.std.proofs.Common.{◌++◌, ◌≡◌}
use Rattle.std.specs.Prelude.{map}
use Rattle.pagable_traits.proofs.references.list_each.Given as goal

-- the references of what was yielded so far are listed
abbrev pub invariant-loop-item : goal.invariant-loop-item
invariant-loop-item g l = l.list.items ≡ l.fn.list.items ++ references_in (sequence (map g.T.Carried.means.meaning l.yielded))
