use Rattle.pagable_typed.specs.Typed.{cell-is-of-another-type, cell-is-open, cell-is-refused}
use Rattle.pagable_typed.proofs.typed_pager.TypedPager.cell_of.Goals as goal

pub returns-in-Err : goal.returns-in-Err
returns-in-Err g c = cell-is-refused _ _ c.in-Err.ensures

pub returns-in-Ok-loose : goal.returns-in-Ok-loose
returns-in-Ok-loose g c = cell-is-open c.in-Ok.found _ _ c.in-Ok.ensures c.in-Ok-loose.ensures.named

pub returns-in-Err-loose : goal.returns-in-Err-loose
returns-in-Err-loose g c = cell-is-of-another-type c.in-Ok.found _ c.release-told.result _ _ c.in-Ok.ensures
    c.in-Err-loose.ensures.refused c.release-told.ensures
