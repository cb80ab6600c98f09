use Rattle.record_store.specs.Stores.{is-unlisted, is-unpinned}
use Rattle.std.proofs.Common.{◌∙◌}
use Rattle.record_store.proofs.reading.end_read.Goals as goal

pub returns-in-Ok-clause-ends : goal.returns-in-Ok-clause-ends
returns-in-Ok-clause-ends g c = is-unpinned _ _ _ c.release-told.ensures c.in-Ok.ensures

pub returns-in-Err-clause-ends : goal.returns-in-Err-clause-ends
returns-in-Err-clause-ends g c = is-unlisted _ _ _ _ _ c.release-told.ensures c.in-Err.ensures c.give_back.ensures.gives
