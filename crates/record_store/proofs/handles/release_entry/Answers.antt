use Rattle.record_store.specs.Handles.{entry-is-released, there-is-no-entry}
use Rattle.record_store.proofs.handles.release_entry.Goals as goal

pub returns-in-Some : goal.returns-in-Some
returns-in-Some g c = entry-is-released c.in-Some.handle _ _ _ c.in-Some.ensures c.release.ensures

pub returns-in-None : goal.returns-in-None
returns-in-None g c = there-is-no-entry _ c.in-None.ensures
