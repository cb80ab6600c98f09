use Rattle.std.proofs.Common.{◌∙◌}
use Rattle.blob_file.proofs.Flushing.{rest_kept, rest_opens, same_batches}
use Rattle.blob_file.proofs.Reopens.{if_err_both, if_ok_both, not_refused}
use Rattle.blob_file.proofs.laws.crash_and_open.Goals as goal

pub returns-clause-found : goal.returns-clause-found
returns-clause-found g c =
    if_ok_both c.open.result (λ again found keeps clean.
    let same = same_batches _ _ (rest_kept g.D.Disk _ c.requires.settled c.requires.open (c.crash.ensures.clean (keeps.clean clean)) _ c.crash.ensures.left) in
    let now = found clean in
    record { blobs = λ key. now.blobs key ∙ same.blobs key; names = λ name. now.names name ∙ same.names name }) c.open.ensures.found c.open.ensures.moment

pub returns-clause-not_refused : goal.returns-clause-not_refused
returns-clause-not_refused g c =
    if_err_both c.open.result (λ e refuses keeps clean.
    not_refused _ _ _ _ _ clean (rest_opens g.D.Disk _ c.requires.settled c.requires.open
    (c.crash.ensures.clean (keeps.clean clean)) _ c.crash.ensures.left) refuses)
    c.open.ensures.refused c.open.ensures.moment_err
