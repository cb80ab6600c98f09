use Rattle.pagable_pager.proofs.Invariant.{called, calls-tables, owner-free}
use Rattle.pagable_theorems.proofs.ValuesOwned.{pins-it}
use Rattle.pagable_pager.proofs.pager.Pager.pin_for.Goals as goal

pub invariant_of-self : goal.invariant_of-self
invariant_of-self g c = called c.self.invariant c.pin.ensures
    (pins-it c.self.invariant.state.whole (owner-free c.self.invariant c.args.me c.self.view_is c.requires) c.pin.result)

pub returns : goal.returns
returns g c = rw (← c.self.view_is) (calls-tables c.self.invariant c.pin.ensures)
