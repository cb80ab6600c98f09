use Rattle.pagable_traits.proofs.Listed.{none_listed, one_more_listed}
use Rattle.pagable_traits.proofs.references.list_each.Goals as goal

pub loop-item-init : goal.loop-item-init
loop-item-init g c = none_listed g.T.Carried.means.meaning _

pub loop-item-preserved : goal.loop-item-preserved
loop-item-preserved g c = one_more_listed g.T.Carried.means.meaning _ _ _ _ _ c.loop-item.invariant c.in_ok-list_references.ensures.ok

pub returns-clause-ok : goal.returns-clause-ok
returns-clause-ok g c =
    let by = rw c.into_iter-item-iterator.ensures.into_iter_gives at c.loop-item.yielded_by in
    record { xs = c.loop-item.yielded; all = (c.next.new.self, (c.loop-item.item-iterator, by, c.in-None.ensures.steps)); is = c.loop-item.invariant }
