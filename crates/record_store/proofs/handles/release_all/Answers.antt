use Rattle.record_store.proofs.Handling.{all-released, one-released}
use Rattle.record_store.specs.Handles.{none-is-released}
use Rattle.std.proofs.{Common.{arith, refl, ◌∙◌}, lemmas.Option.slice_get-get_or}
use Rattle.record_store.proofs.handles.release_all.Goals as goal

pub loop-handle-init : goal.loop-handle-init
loop-handle-init g c = record { within = omega arith; so = none-is-released; storage = refl }

pub loop-handle-preserved : goal.loop-handle-preserved
loop-handle-preserved g c =
    let i = c.loop-handle.invariant in
    record {
      within = omega (arith, c.loop-handle-test.true);
      so = one-released i.so (slice_get-get_or c.args.handles.now c.loop-handle.handle-index _ c.loop-handle-test.true) c.release-told.ensures;
      storage = c.release-told.ensures.only.storage ∙ i.storage;
    }

pub returns-clause-releases : goal.returns-clause-releases
returns-clause-releases g c =
    let i = c.loop-handle.invariant in all-released i.so (omega (arith, i.within, c.loop-handle-test.false))
