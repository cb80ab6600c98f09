use Rattle.pagable_pager.proofs.Invariant.{called, calls-tables}
use Rattle.pagable_theorems.proofs.ValuesOwned.{rests-then, spares-same}
use Rattle.std.proofs.Common.{refl}
use Rattle.pagable_pager.proofs.pager.Pager.cache_clear.Goals as goal

pub invariant_of-self : goal.invariant_of-self
invariant_of-self g c = called c.self.invariant c.cache_clear.ensures
    (λ r. rests-then (spares-same refl (λ n. refl) refl) r.leaves (λ e. ((c.self.invariant.state.whole.shut e).0, λ kind key. refl)))

pub returns : goal.returns
returns g c = rw (← c.self.view_is) (calls-tables c.self.invariant c.cache_clear.ensures)
