use Rattle.pagable_pager.proofs.LentCalls.{known-if}
use Rattle.pagable_pager.specs.View.{storage_view}
use Rattle.pagable_pager.proofs.lent.LentWorkerAccess.check_reference.Goals as goal

pub returns-in-Some : goal.returns-in-Some
returns-in-Some g c = rw (← c.pager.view_is)
    (known-if _ _ (c.in-Some.ensures (storage_view g.S.PagableStorage c.pager.inside.storage)))

pub returns-in-None : goal.returns-in-None
returns-in-None g c = rw (← c.pager.view_is)
    (known-if _ _ (c.in-None.ensures (storage_view g.S.PagableStorage c.pager.inside.storage)))
