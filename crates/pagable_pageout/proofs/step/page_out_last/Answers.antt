use Rattle.pagable_pageout.proofs.{Pages.last-leaves-failed, Words.acts_map}
use Rattle.pagable_pageout.proofs.step.page_out_last.Goals as goal

pub returns-in-Err-clause-pages : goal.returns-in-Err-clause-pages
returns-in-Err-clause-pages g c = acts_map c.in-Err.ensures.pages (λ s t call. last-leaves-failed c.args.left c.in-Err.e s t call)
