use Rattle.pagable_pager.proofs.Invariant.{release_at-by}
use Rattle.pagable_theorems.proofs.ValuesOwned.{worker_released}
use Rattle.pagable_pager.proofs.pager.Pager.release_worker_node.Goals as goal

pub invariant_of-self : goal.invariant_of-self
invariant_of-self g c =
    (release_at-by c.self.invariant _ _ c.release_node.ensures c.has_closed-lists.ensures
    (λ left. worker_released c.self.invariant.state left c.args.worker.0 c.args.node.0)).0

pub returns : goal.returns
returns g c = rw (← c.self.view_is)
    (release_at-by c.self.invariant _ _ c.release_node.ensures c.has_closed-lists.ensures
    (λ left. worker_released c.self.invariant.state left c.args.worker.0 c.args.node.0)).1
