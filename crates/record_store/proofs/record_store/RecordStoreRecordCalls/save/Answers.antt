use Rattle.record_store.proofs.record_store.RecordStoreRecordCalls.save.Goals as goal

pub returns-clause-saves : goal.returns-clause-saves
returns-clause-saves g c = λ honest. rw c.told.ensures (c.save_under.ensures.saves honest)

pub returns-clause-flushed : goal.returns-clause-flushed
returns-clause-flushed g c = λ honest. rw c.told.ensures (c.save_under.ensures.flushed honest)

pub returns-clause-names_flushed : goal.returns-clause-names_flushed
returns-clause-names_flushed g c = λ honest. rw c.told.ensures (c.save_under.ensures.names_flushed honest)
