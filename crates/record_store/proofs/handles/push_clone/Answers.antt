use Rattle.record_store.specs.Handles.{clone-has-no-place, clone-is-refused, none-is-appended, one-is-appended}
use Rattle.record_store.proofs.handles.push_clone.Goals as goal

pub returns-in-Err-clause-clones : goal.returns-in-Err-clause-clones
returns-in-Err-clause-clones g c = none-is-appended _ _ (clone-is-refused _ c.in-Err.ensures)

pub returns-in-Ok-push-clause-clones : goal.returns-in-Ok-push-clause-clones
returns-in-Ok-push-clause-clones g c = rw c.in-Ok-push.ensures.items (one-is-appended _ _ c.in-Ok.ensures)

pub returns-in-Err-push-clause-clones : goal.returns-in-Err-push-clause-clones
returns-in-Err-push-clause-clones g c =
    rw c.in-Err-push.ensures.items (none-is-appended _ _ (clone-has-no-place _ _ _ _ c.from.ensures c.in-Ok.ensures c.release-told.ensures))
