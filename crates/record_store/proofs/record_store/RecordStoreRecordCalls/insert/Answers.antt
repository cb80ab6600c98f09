use Rattle.record_store.proofs.record_store.RecordStoreRecordCalls.insert.Goals as goal

pub returns-clause-inserts : goal.returns-clause-inserts
returns-clause-inserts g c = rw c.told.ensures c.insert_over.ensures
