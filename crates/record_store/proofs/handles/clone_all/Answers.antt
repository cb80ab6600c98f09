use Rattle.record_store.proofs.Handling.{all-cloned, gives-up, one-cloned}
use Rattle.record_store.specs.Handles.{none-is-cloned}
use Rattle.std.proofs.{Common.{arith, refl, ◌∙◌}, lemmas.Option.slice_get-get_or}
use Rattle.record_store.proofs.handles.clone_all.Goals as goal

pub loop-handle-init : goal.loop-handle-init
loop-handle-init g c = record { within = omega arith; so = rw c.new-clones.ensures.items none-is-cloned; storage = refl }

pub returns-in-Err-clause-clones : goal.returns-in-Err-clause-clones
returns-in-Err-clause-clones g c =
    gives-up c.loop-handle.invariant.so (slice_get-get_or c.args.handles.now c.loop-handle.handle-index _ c.loop-handle-test.true) c.in-Err.ensures.clones
    (rw c.as_slice.ensures.value at c.release_all.ensures.releases)

pub returns-in-Err-clause-storage : goal.returns-in-Err-clause-storage
returns-in-Err-clause-storage g c = c.release_all.ensures.storage ∙ c.in-Err.ensures.storage ∙ c.loop-handle.invariant.storage

pub loop-handle-preserved : goal.loop-handle-preserved
loop-handle-preserved g c =
    let i = c.loop-handle.invariant in
    record {
      within = omega (arith, c.loop-handle-test.true);
      so = one-cloned i.so (slice_get-get_or c.args.handles.now c.loop-handle.handle-index _ c.loop-handle-test.true) c.in-Ok.ensures.clones;
      storage = c.in-Ok.ensures.storage ∙ i.storage;
    }

pub returns-clause-clones : goal.returns-clause-clones
returns-clause-clones g c = let i = c.loop-handle.invariant in all-cloned i.so (omega (arith, i.within, c.loop-handle-test.false))
