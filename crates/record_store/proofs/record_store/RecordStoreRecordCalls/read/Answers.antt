use Rattle.record_store.proofs.record_store.RecordStoreRecordCalls.read.Goals as goal

pub returns : goal.returns
returns g c = λ honest. rw c.told.ensures (c.read_within.ensures honest)
