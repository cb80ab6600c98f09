use Rattle.pagable_pager.proofs.Invariant.{made-by, only-tables}
use Rattle.pagable_theorems.proofs.ValuesOwned.{lazily}
use Rattle.std.proofs.Common.{ap, not, refl}
use Rattle.pagable_pager.proofs.pager.Pager.load_lazy_for.Goals as goal

pub invariant_of-self : goal.invariant_of-self
invariant_of-self g c = made-by c.self.invariant c.load_lazy.ensures (λ step. lazily c.self.invariant.state c.load_lazy.result
    (step (ap not c.has_closed-lists.ensures)) (λ n. refl))

pub returns : goal.returns
returns g c = rw (← c.self.view_is) (record {
  step = c.load_lazy.ensures.does _ (ap not c.has_closed-lists.ensures);
  only = only-tables c.self.invariant _;
})
