use Rattle.pagable_pager.proofs.{Invariant.{called, calls-tables}, LentCalls.takes}
use Rattle.pagable_pager.proofs.pager.Pager.worker_begin_with_entry.Goals as goal

pub invariant_of-self : goal.invariant_of-self
invariant_of-self g c = called c.self.invariant c.worker_begin_with_entry.ensures
    (takes c.self.invariant.state.whole c.args.place c.worker_begin_with_entry.result)

pub returns : goal.returns
returns g c = rw (← c.self.view_is) (calls-tables c.self.invariant c.worker_begin_with_entry.ensures)
