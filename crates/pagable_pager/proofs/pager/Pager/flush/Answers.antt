use Rattle.pagable_pager.proofs.Invariant.{asked, asks-it, kept-so}
use Rattle.pagable_pager.proofs.pager.Pager.flush.Goals as goal

pub invariant_of-self : goal.invariant_of-self
invariant_of-self g c = let e = c.flush.ensures in kept-so c.self.invariant c.flush.new.self e.open e.later

pub returns-clause-asks : goal.returns-clause-asks
returns-clause-asks g c =
    let e = c.flush.ensures in
    let s = c.flush.new.self in
    rw (← c.self.view_is) (asks-it c.self.invariant s e.open e.later (λ h. record {
      asked = asked c.self.invariant s e.open e.later (e.same h);
      refused = e.only;
    }) e.honest)
