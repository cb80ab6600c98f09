use Rattle.pagable_calls.specs.PageOuts.{last-fails, last-has-key, none-is-last}
use Rattle.pagable_calls.proofs.cell_page_out.page_out_last.Goals as goal

pub returns-in-Ok-Some-clause-pages : goal.returns-in-Ok-Some-clause-pages
returns-in-Ok-Some-clause-pages g c = λ honest. last-has-key _ _ (rw c.in-Ok-Some.field-0-is at (c.in-Ok-Some.ensures.pages honest))

pub returns-in-Ok-None-clause-pages : goal.returns-in-Ok-None-clause-pages
returns-in-Ok-None-clause-pages g c = λ honest. none-is-last _ (rw c.in-Ok-None.field-0-is at (c.in-Ok-None.ensures.pages honest))

pub returns-in-Err-clause-pages : goal.returns-in-Err-clause-pages
returns-in-Err-clause-pages g c = λ honest. last-fails _ _ (c.in-Err.ensures.pages honest)
