use Rattle.blob_file.proofs.{Flushing.{rest_kept, same_batches}, Reopens.if_ok_both}
use Rattle.std.proofs.Common.{◌∙◌}
use Rattle.pagable_file.proofs.laws.crash_and_open.Goals as goal

pub returns-clause-found : goal.returns-clause-found
returns-clause-found g c =
    if_ok_both c.over.result (λ again found keeps clean.
    let same = same_batches _ _ (rest_kept g.D.Disk c.args.blobs.file c.args.blobs.settled c.requires.whole
    (c.crash.ensures.clean (keeps.clean clean)) _ c.crash.ensures.left) in
    let now = found clean in
    record { blobs = λ key. now.blobs key ∙ same.blobs key; names = λ name. now.names name ∙ same.names name }) c.over.ensures.found c.over.ensures.moment
