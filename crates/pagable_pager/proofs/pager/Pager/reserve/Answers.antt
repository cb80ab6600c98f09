use Rattle.pagable_pager.proofs.Invariant.{called, calls-tables}
use Rattle.pagable_theorems.proofs.ValuesOwned.{unmoved}
use Rattle.pagable_pager.proofs.pager.Pager.reserve.Goals as goal

pub invariant_of-self : goal.invariant_of-self
invariant_of-self g c = called c.self.invariant c.reserve.ensures (λ r. unmoved r.stays c.self.invariant.state.whole.shut)

pub returns : goal.returns
returns g c = rw (← c.self.view_is) (calls-tables c.self.invariant c.reserve.ensures)
