use Rattle.pagable_pageout.proofs.lent_slot.fail_open_claims.Given as goal
use Rattle.pagable_pageout.specs.Slots.{FailedTo}

-- the rows so far are failed
abbrev pub invariant-loop-place : goal.invariant-loop-place
invariant-loop-place g l = FailedTo l.worker l.place l.fn.slots.entries l.slots.entries
