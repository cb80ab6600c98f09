use Rattle.record_store.specs.Stores.{pin-is-refused, record-is-pinned}
use Rattle.std.proofs.Common.{IsTrue, subst, ◌∙◌}
use Rattle.record_store.proofs.record_store.RecordStore.read_within.Goals as goal

pub returns-in-Err : goal.returns-in-Err
returns-in-Err g c = λ honest. pin-is-refused _ _ _ (c.in-Err.ensures.pins honest)

pub returns : goal.returns
returns g c = λ honest.
    let first = subst (λ s. IsTrue (g.S.PagableStorage.is_honest s)) (c.end_read.ensures.storage ∙ c.view-viewed.ensures.storage) honest in
    record-is-pinned _ _ _ _ _ _ _ _ (c.in-Ok.ensures.pins first) (rw c.as_ref.ensures at c.view-viewed.ensures.views) c.end_read.ensures.ends
