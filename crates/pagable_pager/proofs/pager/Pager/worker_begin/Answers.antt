use Rattle.pagable_pager.proofs.{Invariant.{called, calls-tables}, LentCalls.begins}
use Rattle.pagable_pager.proofs.pager.Pager.worker_begin.Goals as goal

pub invariant_of-self : goal.invariant_of-self
invariant_of-self g c = called c.self.invariant c.worker_begin.ensures.does (begins c.self.invariant.state.whole c.worker_begin.result)

pub returns : goal.returns
returns g c = rw (← c.self.view_is) (calls-tables c.self.invariant c.worker_begin.ensures.does)
