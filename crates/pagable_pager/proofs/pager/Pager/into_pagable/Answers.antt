use Rattle.pagable_pager.proofs.Invariant.{called, caller-free, calls-tables}
use Rattle.pagable_theorems.proofs.ValuesOwned.{loosens}
use Rattle.pagable_pager.proofs.pager.Pager.into_pagable.Goals as goal

pub invariant_of-self : goal.invariant_of-self
invariant_of-self g c = called c.self.invariant c.into_pagable.ensures
    (loosens c.self.invariant.state.whole caller-free c.into_pagable.result)

pub returns : goal.returns
returns g c = rw (← c.self.view_is) (calls-tables c.self.invariant c.into_pagable.ensures)
