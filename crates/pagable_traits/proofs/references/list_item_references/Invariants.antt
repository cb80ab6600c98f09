use Rattle.pagable_value_spec.specs.{Meaning.sequence, References.references_in}
use Rattle.std.proofs.Common.{◌++◌, ◌≡◌}
use Rattle.std.specs.Prelude.{drop, map}
use Rattle.pagable_traits.proofs.references.list_item_references.Given as goal

-- the references so far and those of the items that are left are those of all
abbrev pub invariant-loop-item : goal.invariant-loop-item
invariant-loop-item g l =
    let meaning = g.T.Carried.means.meaning in
    l.list.items ++ references_in (sequence (map meaning (drop l.item-index l.items))) ≡ l.fn.list.items ++ references_in (sequence (map meaning l.items))
