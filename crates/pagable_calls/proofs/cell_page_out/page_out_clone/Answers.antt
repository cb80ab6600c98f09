use Rattle.pagable_calls.specs.PageOuts.{clone-is-listed, clone-is-not-listed}
use Rattle.pagable_calls.proofs.cell_page_out.page_out_clone.Goals as goal

pub returns-in-Ok-clause-pages : goal.returns-in-Ok-clause-pages
returns-in-Ok-clause-pages g c = λ honest. clone-is-listed _ _ _ c.in-Ok.ensures (c.page_out_last.ensures.pages honest)

pub returns-in-Err-clause-pages : goal.returns-in-Err-clause-pages
returns-in-Err-clause-pages g c = λ honest. clone-is-not-listed _ _ c.in-Err.ensures
