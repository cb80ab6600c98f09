use Rattle.pagable_budget.proofs.Evicting.{came-new, kept-already, still-none}
use Rattle.pagable_budget.specs.Budgets.{no-cell}
use Rattle.pagable_budget.proofs.bound.Budget.keep.Goals as goal

pub returns-in_default : goal.returns-in_default
returns-in_default g c = no-cell _ c.in_default.ensures

pub admit-requires : goal.admit-requires
admit-requires g c = record {
  new = still-none c.in-Ok.cell.0 c.args.self.now c.touch.new.self c.touch.result c.touch.ensures.kept c.touch.ensures.touched c.if-touch.false;
}

pub returns-then-touch : goal.returns-then-touch
returns-then-touch g c =
    kept-already _ c.args.self.now c.touch.new.self c.args.pager.now c.args.pinned c.args.cost c.in-Ok.cell c.touch.result c.in-Ok.ensures c.touch.ensures.kept
    c.touch.ensures.touched
    c.if-touch.true

pub returns : goal.returns
returns g c =
    came-new _ c.args.self.now c.touch.new.self c.admit.new.self c.args.pager.now c.admit.new.pager c.args.pinned c.args.cost c.in-Ok.cell c.touch.result
    c.in-Ok.ensures
    c.touch.ensures.kept c.touch.ensures.touched c.if-touch.false c.admit.ensures
