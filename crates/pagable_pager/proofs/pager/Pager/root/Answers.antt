use Rattle.pagable_pager.proofs.Invariant.{asked, asks-it, kept-so}
use Rattle.pagable_pager.proofs.pager.Pager.root.Goals as goal

pub invariant_of-self : goal.invariant_of-self
invariant_of-self g c = let e = c.root.ensures in kept-so c.self.invariant c.root.new.self e.open e.later

pub returns-clause-asks : goal.returns-clause-asks
returns-clause-asks g c =
    let e = c.root.ensures in
    let s = c.root.new.self in
    rw (← c.self.view_is) (asks-it c.self.invariant s e.open e.later (λ h. asked c.self.invariant s e.open e.later (e.stays h).0) e.honest)
