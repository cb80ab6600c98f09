use Rattle.record_store.specs.Handles.{is-inserted, isnt-inserted}
use Rattle.record_store.proofs.inserting.insert_unpinned.Goals as goal

pub returns-in-Ok : goal.returns-in-Ok
returns-in-Ok g c = is-inserted _ _ _ _ c.in-Ok.ensures c.unpin_new.ensures

pub returns-in-Err : goal.returns-in-Err
returns-in-Err g c = isnt-inserted _ _ _ c.in-Err.ensures c.release_all.ensures.releases
