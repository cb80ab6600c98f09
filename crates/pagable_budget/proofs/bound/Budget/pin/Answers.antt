use Rattle.pagable_budget.proofs.Evicting.{failed, keeps-alone}
use Rattle.pagable_budget.specs.Budgets.{pin-is-answered, pin-is-refused}
use Rattle.std.proofs.Common.{IsTrue, subst}
use Rattle.pagable_budget.proofs.bound.Budget.pin.Goals as goal

pub returns-in_err-pinned-clause-pins : goal.returns-in_err-pinned-clause-pins
returns-in_err-pinned-clause-pins g c = λ honest. rw (failed c.from_residual.result c.from_residual.ensures.1)
    (pin-is-refused _ _ (c.in_err-pinned.ensures.pins honest))

pub returns-clause-pins : goal.returns-clause-pins
returns-clause-pins g c = λ honest.
    let first = subst (λ s. IsTrue (g.S.PagableStorage.is_honest s)) (keeps-alone _ c.keep.ensures) honest in
    pin-is-answered _ _ _ _ _ (c.in_ok-pinned.ensures.pins first) c.keep.ensures

pub returns-clause-honest : goal.returns-clause-honest
returns-clause-honest g c = λ honest. c.in_ok-pinned.ensures.honest (subst (λ s. IsTrue (g.S.PagableStorage.is_honest s)) (keeps-alone _ c.keep.ensures) honest)
