use Rattle.pagable_calls.specs.Cells.{by-pin, lends, no-handle}
use Rattle.pagable_tables.proofs.SameViews.{failed}
use Rattle.std.proofs.Common.{rules}
use Rattle.pagable_calls.proofs.cells.look.Goals as goal

pub returns-in_err-value-clause-looks : goal.returns-in_err-value-clause-looks
returns-in_err-value-clause-looks g c = λ honest. rw (failed c.from_residual.result c.from_residual.ensures.1) (no-handle _ c.in_err-value.ensures)

pub returns-in-Some-clause-looks : goal.returns-in-Some-clause-looks
returns-in-Some-clause-looks g c = λ honest. lends c.in-Some.value.now _ (rw c.in-Some.is at c.in_ok-value.ensures) (search (rules))

pub returns-in-None-clause-looks : goal.returns-in-None-clause-looks
returns-in-None-clause-looks g c = λ honest. by-pin _ _ (rw c.in-None.is at c.in_ok-value.ensures) (c.look_by_pin.ensures.looks honest)
