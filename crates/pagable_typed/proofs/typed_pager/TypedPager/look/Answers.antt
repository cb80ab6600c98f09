use Rattle.pagable_typed.specs.Typed.{cell-is-not-listed, look-is-refused, value-is-shown}
use Rattle.std.proofs.Common.{IsTrue, refl, subst}
use Rattle.pagable_typed.proofs.typed_pager.TypedPager.look.Goals as goal

pub returns-in-Err-clause-looks : goal.returns-in-Err-clause-looks
returns-in-Err-clause-looks g c = λ honest. look-is-refused _ _ (rw c.reference.ensures at c.in-Err.ensures.pins honest)

pub returns-in-Ok-release-clause-looks : goal.returns-in-Ok-release-clause-looks
returns-in-Ok-release-clause-looks g c = λ honest.
    let pinned = subst (λ s. IsTrue (g.S.PagableStorage.is_honest s)) c.in-Ok-release.ensures.only.storage honest in
    value-is-shown c.in-Ok.pinned _ _ _ _ (rw c.reference.ensures at (c.in-Ok.ensures.pins pinned))
    c.show_pinned-shown.ensures (rw c.reference-2.ensures refl) c.in-Ok-release.ensures

pub returns-clause-looks : goal.returns-clause-looks
returns-clause-looks g c = λ honest.
    let pinned = subst (λ s. IsTrue (g.S.PagableStorage.is_honest s)) c.in-Err-release.ensures.only.storage honest in
    cell-is-not-listed c.in-Ok.pinned _ _ _ _ _ (rw c.reference.ensures at (c.in-Ok.ensures.pins pinned))
    c.show_pinned-shown.ensures (rw c.reference-2.ensures refl) c.in-Err-release.ensures
