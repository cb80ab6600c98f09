use Rattle.pagable_pager.proofs.Invariant.{in-step, only-tables, owner-free, owner-loads}
use Rattle.pagable_theorems.proofs.ValuesOwned.{spared, takes}
use Rattle.std.proofs.Common.{refl}
use Rattle.pagable_pager.proofs.pager.Pager.take_pending_for.Goals as goal

pub invariant_of-self : goal.invariant_of-self
invariant_of-self g c =
    let later = c.take_pending.ensures.later (owner-loads c.self.invariant c.args.me c.self.view_is c.requires) c.self.invariant.later in
    in-step _ c.take_pending.ensures.whole later
    (spared c.self.invariant.state (takes c.self.invariant.state.whole c.args.place (owner-free c.self.invariant c.args.me c.self.view_is c.requires)
    c.take_pending.result
    (c.take_pending.ensures.taken _)) (λ n. refl))

pub returns : goal.returns
returns g c = rw (← c.self.view_is) (record {
  step = c.take_pending.ensures.taken _;
  only = only-tables c.self.invariant _;
})
