use Rattle.record_store.proofs.Handling.{unviewed, viewed}
use Rattle.record_store.specs.{Records.handles_in, Stores.memory-is-short}
use Rattle.std.proofs.Common.{ap, ◌∙◌}
use Rattle.record_store.proofs.reading.view.Goals as goal

pub returns-in-Err-clause-views : goal.returns-in-Err-clause-views
returns-in-Err-clause-views g c = memory-is-short _ c.from.ensures

pub returns-in-Err-list_handles-clause-views : goal.returns-in-Err-list_handles-clause-views
returns-in-Err-list_handles-clause-views g c = memory-is-short _ c.in-Err-list_handles.ensures.refused

pub returns-in-Ok-clone_all-clause-views : goal.returns-in-Ok-clone_all-clause-views
returns-in-Ok-clone_all-clause-views g c = viewed (c.as_slice.ensures.value ∙ c.in-Ok-list_handles.ensures.listed ∙ ap handles_in c.as_ref.ensures) c.in-Ok.ensures.cases c.in-Ok-clone_all.ensures.clones

pub returns-in-Err-clone_all-clause-views : goal.returns-in-Err-clone_all-clause-views
returns-in-Err-clone_all-clause-views g c = unviewed (c.as_slice.ensures.value ∙ c.in-Ok-list_handles.ensures.listed ∙ ap handles_in c.as_ref.ensures) c.in-Ok.ensures.cases c.in-Err-clone_all.ensures.clones
