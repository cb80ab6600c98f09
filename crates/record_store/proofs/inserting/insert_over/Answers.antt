use Rattle.record_store.specs.Handles.{goes-over-clones, handles-arent-cloned}
use Rattle.record_store.proofs.inserting.insert_over.Goals as goal

pub returns-in-Ok : goal.returns-in-Ok
returns-in-Ok g c = goes-over-clones _ _ _ _ c.in-Ok.ensures.clones (rw c.as_slice.ensures.value at c.insert_unpinned.ensures)

pub returns-in-Err : goal.returns-in-Err
returns-in-Err g c = handles-arent-cloned _ _ c.in-Err.ensures.clones
