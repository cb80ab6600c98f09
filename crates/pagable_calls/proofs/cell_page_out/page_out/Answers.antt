use Rattle.pagable_calls.specs.PageOuts.{has-key, has-no-key, no-handle}
use Rattle.pagable_calls.proofs.cell_page_out.page_out.Goals as goal

pub returns-in-Err-clause-pages : goal.returns-in-Err-clause-pages
returns-in-Err-clause-pages g c = λ honest. no-handle _ c.in-Err.ensures

pub returns-in-Some-clause-pages : goal.returns-in-Some-clause-pages
returns-in-Some-clause-pages g c = λ honest. has-key c.in-Some.key (rw c.in-Some.is at c.in-Ok.ensures)

pub returns-in-None-clause-pages : goal.returns-in-None-clause-pages
returns-in-None-clause-pages g c = λ honest. has-no-key _ _ (rw c.in-None.is at c.in-Ok.ensures) (c.page_out_clone.ensures.pages honest)
