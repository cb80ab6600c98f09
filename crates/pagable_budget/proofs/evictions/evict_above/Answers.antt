use Rattle.pagable_budget.proofs.Evicting.{none-needed, one-less, one-needed, one-shorter}
use Rattle.std.proofs.Common.{arith, refl, subst, ◌<◌, ◌∙◌}
use Rattle.pagable_budget.proofs.evictions.evict_above.Goals as goal

pub loop-left-init : goal.loop-left-init
loop-left-init g c = record { so = none-needed _ _ _ _; sum = c.requires.sum; less = omega arith; room = refl }

pub overflow_sub-left : goal.overflow_sub-left
overflow_sub-left g c = omega (arith, c.loop-left.invariant.sum, one-less _ c.in-Some.ensures.evicts)

pub loop-left-smaller : goal.loop-left-smaller
loop-left-smaller g c = one-shorter _ c.in-Some.ensures.evicts

pub loop-left-preserved : goal.loop-left-preserved
loop-left-preserved g c =
    let i = c.loop-left.invariant in
    let less = one-less _ c.in-Some.ensures.evicts in
    record {
      so = one-needed _ i.so (subst (λ n. c.args.most < n) i.sum c.loop-left-test.true) c.in-Some.ensures.evicts;
      sum = omega (arith, i.sum, less);
      less = omega (arith, i.less);
      room = c.in-Some.ensures.room ∙ i.room;
    }
