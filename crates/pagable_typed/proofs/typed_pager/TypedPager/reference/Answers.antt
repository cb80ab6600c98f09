use Rattle.pagable_typed.specs.Typed.{clone-is-refused, kind-is-another, reference-is-made}
use Rattle.pagable_typed.proofs.typed_pager.TypedPager.reference.Goals as goal

pub returns-in-Err : goal.returns-in-Err
returns-in-Err g c = clone-is-refused _ _ (rw c.reference-reference.ensures at c.in-Err.ensures)

pub returns-in-Some : goal.returns-in-Some
returns-in-Some g c = reference-is-made _ c.in-Ok.clone _ (rw c.reference-reference.ensures at c.in-Ok.ensures)
    (rw c.reference-reference.ensures at c.in-Some.ensures)

pub returns-in-None : goal.returns-in-None
returns-in-None g c = kind-is-another c.in-Ok.clone c.release-told.result _ _
    (rw c.reference-reference.ensures at c.in-Ok.ensures) c.release-told.ensures
