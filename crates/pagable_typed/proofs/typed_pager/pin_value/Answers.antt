use Rattle.pagable_typed.specs.Typed.{pin-is-refused, value-is-lacking, value-is-pinned}
use Rattle.std.proofs.Common.{IsTrue, subst}
use Rattle.pagable_typed.proofs.typed_pager.pin_value.Goals as goal

pub returns-in-Err-clause-pins : goal.returns-in-Err-clause-pins
returns-in-Err-clause-pins g c = λ honest. pin-is-refused _ _ (c.in-Err.ensures.follows honest)

pub returns-in-Ok-take_value-clause-pins : goal.returns-in-Ok-take_value-clause-pins
returns-in-Ok-take_value-clause-pins g c = λ honest.
    value-is-pinned _ _ _ _ (c.in-Ok.ensures.follows honest) c.pinned_as.ensures.handle c.pinned_as.ensures.node
    (rw c.pinned_as.ensures.value (rw c.as_ref.ensures at c.in-Ok-take_value.ensures.value))

pub returns-clause-pins : goal.returns-clause-pins
returns-clause-pins g c = λ honest.
    let found = subst (λ s. IsTrue (g.S.PagableStorage.is_honest s)) c.release-told.ensures.only.storage honest in
    value-is-lacking _ _ _ c.release-told.result _ _ (c.in-Ok.ensures.follows found)
    (rw c.as_ref.ensures at c.in-Err-take_value.ensures.lacks) c.release-told.ensures
