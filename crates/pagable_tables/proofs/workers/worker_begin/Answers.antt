use Rattle.pagable_tables.proofs.{
  CallsKeepWhole.worker-whole,
  OwnedByLoad.{does-by, later-begun, later-less, one-more-works},
  SameViews.{failed, same-cache},
  Views.{newer-alike, roomy-whole, settles},
  Words.{basics, refl},
}

pub returns-in_err-add_row-clause-does : Rattle.pagable_tables.proofs.workers.worker_begin.Goals.returns-in_err-add_row-clause-does
returns-in_err-add_row-clause-does c = rw (failed _ c.from_residual.ensures.1)
    (does-by (λ storage. grind (basics, same-cache, c.in_err-add_row.ensures.err)) c.requires.steady
    (λ begun. settles (roomy-whole c.requires.core) begun.refused.1)
    (λ begun later. later-less later (newer-alike begun.refused.1) refl (λ l load is. is)
    (record {
      wider = λ v q in-reach. grind (basics, c.in_err-add_row.ensures.err);
      before = λ v. grind (basics, c.in_err-add_row.ensures.err);
    })))

pub returns-clause-does : Rattle.pagable_tables.proofs.workers.worker_begin.Goals.returns-clause-does
returns-clause-does c = does-by (λ storage. grind (basics, same-cache, one-more-works, c.in_ok-add_row.ensures.here, c.in_ok-add_row.ensures.others))
    c.requires.steady
    (λ begun. settles (worker-whole c.requires.core) begun.begun.1)
    (λ begun later. later-begun c.requires.core later refl _ refl (grind (basics, c.in_ok-add_row.ensures.here))
    (λ u other. grind (basics, c.in_ok-add_row.ensures.others)))
