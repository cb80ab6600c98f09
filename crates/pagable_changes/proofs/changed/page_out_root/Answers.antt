use Rattle.pagable_changes.specs.Changes.{no-handle, root-has-key, root-has-none}
use Rattle.pagable_changes.proofs.changed.page_out_root.Goals as goal

pub returns-in-Err-clause-pages : goal.returns-in-Err-clause-pages
returns-in-Err-clause-pages g c = λ honest. no-handle _ c.in-Err.ensures

pub returns-in-Some-clause-pages : goal.returns-in-Some-clause-pages
returns-in-Some-clause-pages g c = λ honest. root-has-key c.in-Some.key (rw c.in-Some.is at c.in-Ok.ensures)

pub returns-in-None-clause-pages : goal.returns-in-None-clause-pages
returns-in-None-clause-pages g c = λ honest. root-has-none _ _ (rw c.in-None.is at c.in-Ok.ensures) (c.page_out_keyless.ensures.pages honest)
