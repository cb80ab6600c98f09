use Rattle.pagable_pager.proofs.Invariant.{called, calls-tables}
use Rattle.pagable_theorems.proofs.ValuesOwned.{begins-key}
use Rattle.pagable_pager.proofs.pager.Pager.load_key_for.Goals as goal

pub invariant_of-self : goal.invariant_of-self
invariant_of-self g c = called c.self.invariant c.load_key.ensures (begins-key c.self.invariant.state.whole c.load_key.result)

pub returns : goal.returns
returns g c = rw (← c.self.view_is) (calls-tables c.self.invariant c.load_key.ensures)
