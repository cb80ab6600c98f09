use Rattle.pagable_pager.proofs.Invariant.{asks, called}
use Rattle.pagable_pager.proofs.pager.Pager.load_cached.Goals as goal

pub invariant_of-self : goal.invariant_of-self
invariant_of-self g c = called c.self.invariant c.load_cached.ensures.does (asks c.self.invariant.state.whole c.load_cached.result)

pub returns-clause-step : goal.returns-clause-step
returns-clause-step g c = rw (← c.self.view_is) (c.load_cached.ensures.does.does _)
