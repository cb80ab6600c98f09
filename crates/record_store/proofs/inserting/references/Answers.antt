use Rattle.record_store.proofs.Handling.{all-referred, one-referred, refers-so}
use Rattle.record_store.specs.Records.{refers-to-none}
use Rattle.std.proofs.{Common.{arith}, lemmas.Option.slice_get-get_or}
use Rattle.record_store.proofs.inserting.references.Goals as goal

pub loop-handle-init : goal.loop-handle-init
loop-handle-init g c = record { within = omega arith; so = rw c.new-refs.ensures.items refers-to-none }

pub loop-handle-preserved : goal.loop-handle-preserved
loop-handle-preserved g c =
    let i = c.loop-handle.invariant in
    record {
      within = omega (arith, c.loop-handle-test.true);
      so = rw c.in_ok-push.ensures.items (one-referred i.so (slice_get-get_or c.args.handles.now c.loop-handle.handle-index _ c.loop-handle-test.true)
          (refers-so c.reference.ensures c.in_ok-made.ensures.named));
    }

pub returns : goal.returns
returns g c = let i = c.loop-handle.invariant in all-referred i.so (omega (arith, i.within, c.loop-handle-test.false))
