use Rattle.pagable_pager.proofs.LentCalls.{row_sorted}
use Rattle.pagable_tables.proofs.SameViews.{failed}
use Rattle.std.proofs.Common.{inr}

pub returns-in_err-pinned-in-Ok-true-clause-step :
    Rattle.pagable_pager.proofs.pager.Pager.pin_or_load_reference.Goals.returns-in_err-pinned-in-Ok-true-clause-step
returns-in_err-pinned-in-Ok-true-clause-step g c =
    let loose = row_sorted (rw c.in-Ok-true.field-0-test at c.in-Ok-true.ensures) in
    rw (failed c.from_residual-in_err-pinned-in-Ok-true.result c.from_residual-in_err-pinned-in-Ok-true.ensures.1)
    (record { takes = tt; refused = inr (loose, (_, c.in_ok-through.through, c.in_ok-through.ensures.step, c.in_err-pinned-in-Ok-true.ensures.step.refused)) })

pub returns-in-Pinned-clause-step : Rattle.pagable_pager.proofs.pager.Pager.pin_or_load_reference.Goals.returns-in-Pinned-clause-step
returns-in-Pinned-clause-step g c =
    let pins = rw c.in-Pinned.is at c.in_ok-pinned-in-Ok-true.ensures.step in
    record { takes = inr (row_sorted (rw c.in-Ok-true.field-0-test at c.in-Ok-true.ensures), (_, c.in_ok-through.ensures.step, pins.starts.0)); refused = tt }
