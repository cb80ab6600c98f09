use Rattle.record_store.proofs.record_store.RecordStoreRecordCalls.release_waiting.Goals as goal

pub returns-clause-releases : goal.returns-clause-releases
returns-clause-releases g c = rw c.told.ensures c.release_entries.ensures
