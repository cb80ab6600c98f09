use Rattle.pagable_calls.specs.Cells.{clone-is-pinned, clone-is-refused}
use Rattle.pagable_tables.proofs.SameViews.{failed}
use Rattle.std.proofs.Common.{IsTrue, subst}
use Rattle.pagable_calls.proofs.cells.follow.Goals as goal

pub returns-in_err-clone-clause-follows : goal.returns-in_err-clone-clause-follows
returns-in_err-clone-clause-follows g c = λ honest. rw (failed c.from_residual.result c.from_residual.ensures.1) (clone-is-refused _ _ c.in_err-clone.ensures)

pub returns-clause-follows : goal.returns-clause-follows
returns-clause-follows g c = λ honest.
    let pinned = subst (λ s. IsTrue (g.S.PagableStorage.is_honest s)) c.release-told.ensures.only.storage honest in
    clone-is-pinned c.in_ok-clone.clone c.release-told.result _ _ _ _ c.in_ok-clone.ensures (c.pin-pinned.ensures.pins pinned) c.release-told.ensures
