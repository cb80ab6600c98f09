use Rattle.pagable_pager.proofs.LentCalls.{shut-pager, shut-told}
use Rattle.pagable_pager.proofs.pager.Pager.close.Goals as goal

pub invariant_of-self : goal.invariant_of-self
invariant_of-self g c =
    let e = c.close-2.ensures in
    let s = c.close.ensures in
    shut-pager c.self.invariant c.close.new.self c.close-2.new.t c.close-2.new.values s.empty s.closed (e.closed _ _ s.later) e.whole e.drops
    (e.later c.self.invariant.later)

pub returns-clause-calls : goal.returns-clause-calls
returns-clause-calls g c =
    let e = c.close-2.ensures in
    let s = c.close.ensures in
    rw (← c.self.view_is) (shut-told c.self.invariant c.close.new.self c.close-2.new.t c.close-2.new.values s.empty s.closed
    (e.closed _ _ s.later) e.whole e.drops)
