use Rattle.record_store.specs.Stores.{clones-go-back, nothing-goes-back}
use Rattle.record_store.proofs.reading.give_back.Goals as goal

pub returns-in-Ok-clause-gives : goal.returns-in-Ok-clause-gives
returns-in-Ok-clause-gives g c = rw c.in-Ok.is (clones-go-back _ _ _ (rw c.as_slice.ensures.value at c.release_all.ensures.releases))

pub returns-in-Err-clause-gives : goal.returns-in-Err-clause-gives
returns-in-Err-clause-gives g c = rw c.in-Err.is (nothing-goes-back _)
