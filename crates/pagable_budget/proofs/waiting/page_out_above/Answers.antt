use Rattle.pagable_budget.specs.Budgets.{few-wait, many-wait}
use Rattle.std.proofs.Common.{subst, ◌<◌, ◌≤◌}
use Rattle.pagable_budget.proofs.waiting.page_out_above.Goals as goal

pub returns-then-pending-most-clause-pages : goal.returns-then-pending-most-clause-pages
returns-then-pending-most-clause-pages g c = λ honest. few-wait (subst (λ n. n ≤ c.args.most) c.pending.ensures c.if-pending-most.true)

pub returns-clause-pages : goal.returns-clause-pages
returns-clause-pages g c = λ honest. many-wait _ _ (subst (λ n. c.args.most < n) c.pending.ensures c.if-pending-most.false)
    (c.page_out_pending.ensures.pages honest)
