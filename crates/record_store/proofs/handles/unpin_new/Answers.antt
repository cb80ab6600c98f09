use Rattle.record_store.specs.Handles.{cell-is-let-go, cell-waits}
use Rattle.record_store.proofs.handles.unpin_new.Goals as goal

pub returns-in-Ok : goal.returns-in-Ok
returns-in-Ok g c = cell-waits _ c.in-Ok.ensures

pub returns-in-Err : goal.returns-in-Err
returns-in-Err g c = cell-is-let-go c.in-Err.e c.release-told.result _ _ c.in-Err.ensures c.release-told.ensures
