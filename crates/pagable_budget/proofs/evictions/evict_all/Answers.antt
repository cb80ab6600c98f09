use Rattle.pagable_budget.proofs.Evicting.{at-first, one-more, one-shorter}
use Rattle.std.proofs.Common.{refl, ◌∙◌}
use Rattle.pagable_budget.proofs.evictions.evict_all.Goals as goal

pub loop-cost-init : goal.loop-cost-init
loop-cost-init g c = record { so = at-first _ _ _; room = refl }

pub loop-cost-smaller : goal.loop-cost-smaller
loop-cost-smaller g c = one-shorter _ c.in-Some.ensures.evicts

pub loop-cost-preserved : goal.loop-cost-preserved
loop-cost-preserved g c = record {
  so = one-more _ c.loop-cost.invariant.so c.in-Some.ensures.evicts;
  room = c.in-Some.ensures.room ∙ c.loop-cost.invariant.room;
}
