use Rattle.record_store.proofs.Handling.{all-gone, fails-at, one-gone}
use Rattle.record_store.specs.Handles.{none-is-gone}
use Rattle.std.proofs.{Common.{arith}, lemmas.Option.slice_get-get_or}
use Rattle.record_store.proofs.handles.release_each.Goals as goal

pub loop-handle-init : goal.loop-handle-init
loop-handle-init g c = record { within = omega arith; so = none-is-gone }

pub returns-in-Err : goal.returns-in-Err
returns-in-Err g c =
    fails-at c.loop-handle.invariant.so (slice_get-get_or c.args.handles.now c.loop-handle.handle-index _ c.loop-handle-test.true) c.in-Err.ensures

pub loop-handle-preserved : goal.loop-handle-preserved
loop-handle-preserved g c =
    let i = c.loop-handle.invariant in
    record {
      within = omega (arith, c.loop-handle-test.true);
      so = one-gone i.so (slice_get-get_or c.args.handles.now c.loop-handle.handle-index _ c.loop-handle-test.true) c.in-Ok.ensures;
    }

pub returns : goal.returns
returns g c = let i = c.loop-handle.invariant in all-gone i.so (omega (arith, i.within, c.loop-handle-test.false))
