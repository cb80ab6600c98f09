use Rattle.pagable_pager.proofs.Invariant.{owner-free, release_at-by}
use Rattle.pagable_theorems.proofs.ValuesOwned.{scheduled}
use Rattle.pagable_pager.proofs.pager.Pager.schedule_for_paging_for.Goals as goal

pub invariant_of-self : goal.invariant_of-self
invariant_of-self g c = (release_at-by c.self.invariant _ _ c.schedule_for_paging.ensures c.has_closed-lists.ensures
    (λ left. scheduled c.self.invariant.state left (owner-free c.self.invariant c.args.me c.self.view_is c.requires) c.schedule_for_paging.result)).0

pub returns : goal.returns
returns g c = rw (← c.self.view_is) (release_at-by c.self.invariant _ _ c.schedule_for_paging.ensures c.has_closed-lists.ensures
    (λ left. scheduled c.self.invariant.state left (owner-free c.self.invariant c.args.me c.self.view_is c.requires) c.schedule_for_paging.result)).1
