use Rattle.record_store.proofs.Handling.{all-entries-gone, entries-start, entry-fails-at, one-entry-gone}
use Rattle.std.proofs.Common.{arith}
use Rattle.record_store.proofs.handles.release_entries.Goals as goal

pub loop-place-init : goal.loop-place-init
loop-place-init g c = entries-start c.pending-place.ensures

pub returns-in-Err : goal.returns-in-Err
returns-in-Err g c = entry-fails-at (omega (arith, c.loop-place-test.true)) c.loop-place.invariant c.in-Err.ensures

pub loop-place-preserved : goal.loop-place-preserved
loop-place-preserved g c = one-entry-gone (omega (arith, c.loop-place-test.true)) c.loop-place.invariant c.in-Ok.ensures

pub returns : goal.returns
returns g c = all-entries-gone (omega (arith, c.loop-place-test.false)) c.loop-place.invariant
