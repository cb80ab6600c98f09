use Rattle.pagable_budget.proofs.Evicting.{cleared}
use Rattle.pagable_budget.specs.Budgets.{cost_of}
use Rattle.std.proofs.Common.{ap, arith, sym, ◌∙◌}
use Rattle.pagable_budget.proofs.bound.Budget.clear.Goals as goal

pub invariant_of-self : goal.invariant_of-self
invariant_of-self g c = record {
  sum = sym (ap cost_of c.evict_all.ensures.none);
  within = omega arith;
  wide = c.evict_all.ensures.room ∙ c.self.invariant.wide;
}

pub returns : goal.returns
returns g c =
    cleared _ c.args.self.now c.args.pager.now c.evict_all.new.pager c.self.inside.pins.entries c.evict_all.new.pins.entries c.self.inside.most
    c.self.inside.stats c.self.view_is
    c.evict_all.ensures.evicts c.evict_all.ensures.none
