use Rattle.pagable_calls.specs.Cells.{cache-gives, cache-refuses, cell-is-new}
use Rattle.pagable_tables.proofs.SameViews.{failed}
use Rattle.pagable_calls.proofs.cells.cell_of.Goals as goal

pub returns-in_err-handle : goal.returns-in_err-handle
returns-in_err-handle g c = rw (failed c.from_residual.result c.from_residual.ensures.1)
    (cache-refuses c.kind-kind.result _ _ c.kind-kind.ensures c.in_err-handle.ensures)

pub returns-in-Some : goal.returns-in-Some
returns-in-Some g c = cache-gives c.kind-kind.result c.in-Some.handle _ c.kind-kind.ensures (rw c.in-Some.is at c.in_ok-handle.ensures)

pub returns-in-None : goal.returns-in-None
returns-in-None g c = cell-is-new c.kind-kind.result _ _ _ c.kind-kind.ensures (rw c.in-None.is at c.in_ok-handle.ensures)
    (rw c.TYPE.ensures at c.new_paged_out.ensures)
