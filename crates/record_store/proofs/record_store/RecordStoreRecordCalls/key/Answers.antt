use Rattle.record_store.proofs.record_store.RecordStoreRecordCalls.key.Goals as goal

pub returns-clause-pages : goal.returns-clause-pages
returns-clause-pages g c = λ honest. rw c.told.ensures (c.page_out_changed.ensures.pages honest)

pub returns-clause-keeps_trees : goal.returns-clause-keeps_trees
returns-clause-keeps_trees g c = λ honest. rw c.told.ensures (c.page_out_changed.ensures.keeps_trees honest)
