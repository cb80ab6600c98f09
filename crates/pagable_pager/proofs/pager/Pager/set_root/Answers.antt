use Rattle.pagable_pager.proofs.Invariant.{asked, asks-it, kept-so}
use Rattle.pagable_pager.proofs.pager.Pager.set_root.Goals as goal

pub invariant_of-self : goal.invariant_of-self
invariant_of-self g c = let e = c.set_root.ensures in kept-so c.self.invariant c.set_root.new.self e.open e.later

pub returns-clause-asks : goal.returns-clause-asks
returns-clause-asks g c =
    let e = c.set_root.ensures in
    let s = c.set_root.new.self in
    rw (← c.self.view_is) (asks-it c.self.invariant s e.open e.later (λ h. asked c.self.invariant s e.open e.later (e.stays h).0) e.honest)
