use Rattle.pagable_pager.proofs.Invariant.{called, caller-free, calls-tables}
use Rattle.pagable_theorems.proofs.ValuesOwned.{recalls}
use Rattle.pagable_pager.proofs.pager.Pager.cache_get.Goals as goal

pub invariant_of-self : goal.invariant_of-self
invariant_of-self g c = called c.self.invariant c.cache_get.ensures.does (recalls c.self.invariant.state.whole caller-free c.cache_get.result)

pub returns : goal.returns
returns g c = rw (← c.self.view_is) (calls-tables c.self.invariant c.cache_get.ensures.does)
