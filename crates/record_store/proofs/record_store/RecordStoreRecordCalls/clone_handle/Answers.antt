use Rattle.record_store.proofs.record_store.RecordStoreRecordCalls.clone_handle.Goals as goal

pub returns-clause-clones : goal.returns-clause-clones
returns-clause-clones g c = rw c.told.ensures c.clone.ensures.step
