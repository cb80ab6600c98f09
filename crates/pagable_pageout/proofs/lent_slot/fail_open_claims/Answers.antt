use Rattle.pagable_pageout.proofs.{Waits.{row-fails, still-named}, Words.sym}
use Rattle.pagable_pageout.proofs.lent_slot.fail_open_claims.Goals as goal
use Rattle.std.proofs.Common.{add-one}

pub loop-place-preserved : goal.loop-place-preserved
loop-place-preserved g c =
    let place = c.loop-place in
    rw add-one (row-fails c.args.worker place.place c.args.slots.now.entries place.slots.entries c.in-Some.slot.now c.fail_if_claimed_by.new.self
    (sym c.in-Some.ensures.value) c.fail_if_claimed_by.ensures.slot c.fail_if_claimed_by.ensures.own place.invariant)

pub returns-clause-own : goal.returns-clause-own
returns-clause-own g c j = still-named c.args.worker c.loop-place.place c.args.slots.now.entries c.loop-place.slots.entries j
    (j.kind.0, j.node.0) c.loop-place.invariant (c.requires j)
