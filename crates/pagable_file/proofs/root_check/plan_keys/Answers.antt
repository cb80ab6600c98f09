use Rattle.pagable_file.proofs.Planned.{plans_all, plans_more, plans_none}
use Rattle.pagable_file.proofs.root_check.plan_keys.Goals as goal

pub loop-key-init : goal.loop-key-init
loop-key-init c tracked = plans_none c.args.plan.now.order.items c.args.plan.now.planned tracked

pub loop-key-preserved : goal.loop-key-preserved
loop-key-preserved c tracked =
    let was = c.loop-key.invariant tracked in
    plans_more c.args.keys.now c.loop-key.key-index c.key-item.result c.loop-key-test.true c.key-item.is was (c.in_ok-plan_key.ensures.plans was.tracked)

pub returns : goal.returns
returns c = record {
  plans = λ tracked. plans_all c.args.keys.now c.loop-key.key-index c.loop-key-test.false (c.loop-key.invariant tracked);
}
