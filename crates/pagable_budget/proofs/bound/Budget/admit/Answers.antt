use Rattle.pagable_budget.specs.Budgets.{BudgetView, clone-is-refused, clone-is-stored, costs-too-much}
use Rattle.std.proofs.Common.{ap, subst, ◌<◌, ◌≤◌}
use Rattle.pagable_budget.proofs.bound.Budget.admit.Goals as goal

pub returns-then-cost-self : goal.returns-then-cost-self
returns-then-cost-self g c = costs-too-much (subst (λ n. n < c.args.cost) (ap (λ (b : BudgetView). b.most) c.self.view_is) c.if-cost-self.true)

pub returns-in-Ok : goal.returns-in-Ok
returns-in-Ok g c =
    clone-is-stored _ _ _ _ (subst (λ n. c.args.cost ≤ n) (ap (λ (b : BudgetView). b.most) c.self.view_is) c.if-cost-self.false) c.in-Ok.ensures
    c.insert_pin.ensures

pub returns-in_default : goal.returns-in_default
returns-in_default g c = clone-is-refused _ _ (subst (λ n. c.args.cost ≤ n) (ap (λ (b : BudgetView). b.most) c.self.view_is) c.if-cost-self.false)
    c.in_default.ensures
