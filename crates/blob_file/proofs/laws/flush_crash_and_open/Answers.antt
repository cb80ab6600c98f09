use Rattle.std.proofs.Common.{inl, inr, sym, ◌∙◌}
use Rattle.blob_file.proofs.Reopens.{if_err_both, if_ok_both, not_refused, on_ok_at}
use Rattle.blob_file.proofs.Standing.{stand_same}
use Rattle.blob_file.proofs.laws.flush_crash_and_open.Goals as goal

pub returns-clause-acknowledged : goal.returns-clause-acknowledged
returns-clause-acknowledged g c told =
    let ok = sym c.is_ok-acknowledged.ensures.value ∙ told in
    if_ok_both c.open.result (λ again found keeps clean.
    let was = on_ok_at c.flush.result ok c.flush.ensures.durable c.requires.open (c.crash.ensures.clean (keeps.clean clean)) _ c.crash.ensures.left in
    let now = found clean in
    record { blobs = λ key. now.blobs key ∙ was.blobs key; names = λ name. now.names name ∙ was.names name }) c.open.ensures.found c.open.ensures.moment

pub returns-clause-all_or_none : goal.returns-clause-all_or_none
returns-clause-all_or_none g c =
    if_ok_both c.open.result (λ again found keeps clean.
    let now = found clean in
    elim (c.flush.ensures.any_moment c.requires.open (c.crash.ensures.clean (keeps.clean clean)) _ c.crash.ensures.left) [
      | inl old ↦ inl (record { blobs = λ key. now.blobs key ∙ old.blobs key; names = λ name. now.names name ∙ old.names name })
      | inr new ↦ inr (record { blobs = λ key. now.blobs key ∙ new.blobs key; names = λ name. now.names name ∙ new.names name })
    ]) c.open.ensures.found c.open.ensures.moment

pub returns-clause-not_refused : goal.returns-clause-not_refused
returns-clause-not_refused g c =
    if_err_both c.open.result (λ e refuses keeps clean.
    not_refused _ _ _ _ _ clean (c.flush.ensures.opens_again c.requires.open (c.crash.ensures.clean (keeps.clean clean)) _ c.crash.ensures.left) refuses)
    c.open.ensures.refused c.open.ensures.moment_err

pub returns-clause-stand : goal.returns-clause-stand
returns-clause-stand g c flushed held =
    if_ok_both c.open.result (λ again one keeps clean.
    elim (one clean) [
      | inl old ↦ stand_same _ _ old flushed
      | inr new ↦ stand_same _ _ new held
    ]) (returns-clause-all_or_none g c) c.open.ensures.moment
