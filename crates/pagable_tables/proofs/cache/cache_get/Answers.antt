use Rattle.pagable_tables.proofs.{CallsKeepWhole.known-suits, OwnedByLoad.does-as, SameViews.{failed, not-recalled, recalls}, Words.sym}
use Rattle.pagable_tables.specs.Core.{no_blobs}
use Rattle.pagable_tables.proofs.cache.cache_get.Goals as goal

pub make_handle-requires-clause-suits : goal.make_handle-requires-clause-suits
make_handle-requires-clause-suits c = rw c.mode_of.ensures (known-suits c.requires.whole.core _ _ _
    (sym (c.in-Some.ensures no_blobs)))

pub returns-clause-does : goal.returns-clause-does
returns-clause-does c = does-as c.in_ok-make_handle.ensures.does
    (λ storage. recalls (sym (c.in-Some.ensures storage)) c.mode_of.ensures _)

pub returns-in_err-make_handle-clause-does : goal.returns-in_err-make_handle-clause-does
returns-in_err-make_handle-clause-does c = rw (failed _ c.from_residual.ensures.1) (does-as c.in_err-make_handle.ensures.does
    (λ storage. not-recalled (sym (c.in-Some.ensures storage)) c.mode_of.ensures _))
