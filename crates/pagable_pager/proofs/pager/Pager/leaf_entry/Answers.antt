use Rattle.pagable_pager.specs.View.{storage_view}
use Rattle.pagable_pager.proofs.pager.Pager.leaf_entry.Goals as goal

pub returns-clause-leaf : goal.returns-clause-leaf
returns-clause-leaf g c = rw (← c.self.view_is) (c.in_ok-entry.ensures (storage_view g.S.PagableStorage c.self.inside.storage))
