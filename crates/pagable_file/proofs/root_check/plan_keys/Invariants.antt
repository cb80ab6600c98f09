use Rattle.pagable_file.specs.Plans.{IsTracked, Plans}
use Rattle.std.proofs.Common.{take}
use Rattle.pagable_file.proofs.root_check.plan_keys.Given as goal

-- the keys so far were planned
abbrev pub invariant-loop-key : goal.invariant-loop-key
invariant-loop-key l =
    IsTracked l.fn.plan.order.items l.fn.plan.planned
    → Plans (take l.key-index l.keys) l.fn.plan.order.items l.plan.order.items l.plan.planned
