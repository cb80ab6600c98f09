use Rattle.pagable_calls.specs.Cells.{cell-stays-unlisted, pin-is-refused, shows}
use Rattle.pagable_tables.proofs.SameViews.{failed}
use Rattle.std.proofs.Common.{IsTrue, subst, ◌∙◌}
use Rattle.pagable_calls.proofs.cells.look_by_pin.Goals as goal

pub returns-in_err-pinned-clause-looks : goal.returns-in_err-pinned-clause-looks
returns-in_err-pinned-clause-looks g c = λ honest. rw (failed c.from_residual.result c.from_residual.ensures.1)
    (pin-is-refused _ _ (c.in_err-pinned.ensures.pins honest))

pub returns-in-Ok-clause-looks : goal.returns-in-Ok-clause-looks
returns-in-Ok-clause-looks g c = λ honest.
    let pinned = subst (λ s. IsTrue (g.S.PagableStorage.is_honest s)) (c.release.ensures.only.storage ∙ c.unpin-told.ensures.only.storage) honest in
    shows _ _ _ _ _ (c.in_ok-pinned.ensures.pins pinned) c.show_shared-shown.ensures
    (record { mid = _; unpinned = _; unpins = c.unpin-told.ensures; releases = c.in-Ok.ensures })

pub returns-clause-looks : goal.returns-clause-looks
returns-clause-looks g c = λ honest.
    let pinned = subst (λ s. IsTrue (g.S.PagableStorage.is_honest s)) (c.release.ensures.only.storage ∙ c.unpin-told.ensures.only.storage) honest in
    cell-stays-unlisted _ _ _ _ _ _ (c.in_ok-pinned.ensures.pins pinned) c.show_shared-shown.ensures
    (record { mid = _; unpinned = _; unpins = c.unpin-told.ensures; releases = c.in-Err.ensures })
