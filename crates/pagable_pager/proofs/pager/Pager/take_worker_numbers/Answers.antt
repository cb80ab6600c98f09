use Rattle.pagable_pager.proofs.{Invariant.{called, calls-tables}, LeafPageOuts.takes-numbers}
use Rattle.pagable_pager.proofs.pager.Pager.take_worker_numbers.Goals as goal

pub invariant_of-self : goal.invariant_of-self
invariant_of-self g c = called c.self.invariant c.take_worker_numbers.ensures (takes-numbers c.self.invariant.state.whole.shut)

pub returns : goal.returns
returns g c = rw (← c.self.view_is) (calls-tables c.self.invariant c.take_worker_numbers.ensures)
