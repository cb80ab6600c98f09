use Rattle.pagable_budget.proofs.Evicting.{trimmed}
use Rattle.std.proofs.Common.{ap, arith, length, length-append}
use Rattle.pagable_budget.proofs.bound.Budget.trim.Goals as goal

pub overflow_sub-evicted : goal.overflow_sub-evicted
overflow_sub-evicted g c =
    let evicts = c.evict_above-cost.ensures.evicts in
    omega (arith, c.len-before.ensures.len, c.len-after.ensures.len, ap length evicts.are, length-append c.evict_above-cost.new.pins.entries evicts.evicted)

pub returns : goal.returns
returns g c =
    trimmed _ c.args.self.now c.args.pager.now c.evict_above-cost.new.pager c.self.inside.pins.entries c.evict_above-cost.new.pins.entries c.self.inside.most
    c.args.most c.self.inside.stats
    c.len-before.result c.len-after.result c.saturating_add-evictions.result c.self.view_is c.evict_above-cost.ensures.evicts c.len-before.ensures.len
    c.len-after.ensures.len
    c.saturating_add-evictions.ensures
