use Rattle.pagable_budget.proofs.Evicting.{none-before, stored, unstored}
use Rattle.pagable_budget.specs.Budgets.{BudgetView, Kept}
use Rattle.std.proofs.Common.{List, None, ap, nat_eq, subst, ◌-◌, ◌∙◌, ◌≡◌}
use Rattle.std.specs.Map.{lookup}
use Rattle.pagable_budget.proofs.bound.Budget.insert_pin.Goals as goal

pub insert-requires-clause-new : goal.insert-requires-clause-new
insert-requires-clause-new g c =
    let evicts = c.trim.ensures.evicts in
    let left : c.self-2.inside.pins.entries ≡ c.trim.new.self.pins = ap (λ (b : BudgetView). b.pins) c.self-2.view_is in
    ap (λ (es : List Kept). lookup (nat_eq c.args.cell) es) left
    ∙ none-before (nat_eq c.args.cell) c.trim.new.self.pins evicts.evicted
    (subst (λ (es : List Kept). lookup (nat_eq c.args.cell) es ≡ None) evicts.are c.requires.new)

pub returns-then-insert : goal.returns-then-insert
returns-then-insert g c =
    stored _ c.args.self.now c.trim.new.self c.args.pager.now c.trim.new.pager c.args.cell c.args.pin c.self-2.inside.pins.entries c.insert.new.pins.entries
    (c.self.inside.most - c.args.pin.cost) c.self-2.inside.most c.self-2.inside.stats (ap (λ (b : BudgetView). b.most - c.args.pin.cost) c.self.view_is)
    c.self-2.view_is
    (c.insert.ensures.kept c.if-insert.true) c.trim.ensures

pub returns-else-insert : goal.returns-else-insert
returns-else-insert g c =
    unstored _ c.args.self.now c.trim.new.self c.args.pager.now c.trim.new.pager c.release-told.new.self c.args.cell c.args.pin c.self-2.inside.pins.entries
    c.insert.new.pins.entries
    (c.self.inside.most - c.args.pin.cost) c.self-2.inside.most c.self-2.inside.stats c.release-told.result
    (ap (λ (b : BudgetView). b.most - c.args.pin.cost) c.self.view_is) c.self-2.view_is
    (c.insert.ensures.refused c.if-insert.false) c.trim.ensures c.release-told.ensures
