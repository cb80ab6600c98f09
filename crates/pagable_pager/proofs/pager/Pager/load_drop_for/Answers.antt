use Rattle.pagable_pager.proofs.Invariant.{release_at-by}
use Rattle.pagable_theorems.proofs.ValuesOwned.{dropped}
use Rattle.pagable_pager.proofs.pager.Pager.load_drop_for.Goals as goal

pub invariant_of-self : goal.invariant_of-self
invariant_of-self g c =
    (release_at-by c.self.invariant _ _ c.load_drop.ensures c.has_closed-lists.ensures (λ left. dropped c.self.invariant.state left)).0

pub returns : goal.returns
returns g c = rw (← c.self.view_is)
    (release_at-by c.self.invariant _ _ c.load_drop.ensures c.has_closed-lists.ensures (λ left. dropped c.self.invariant.state left)).1
