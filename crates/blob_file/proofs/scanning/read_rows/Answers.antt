use Rattle.std.proofs.Common.{◌∙◌, sym, ap}
use Rattle.sqlite_disk.specs.Digest.{digest}
use Rattle.blob_file.proofs.Scans.{rows_at, sum_at}
use Rattle.blob_file.proofs.scanning.read_rows.Goals as goal

pub returns-then-digest_of-head-clause-refused : goal.returns-then-digest_of-head-clause-refused
returns-then-digest_of-head-clause-refused g c clean summed =
    let head = c.requires.head (c.read_part.ensures.same.clean clean) in
    let rows = c.deref.ensures.value ∙ c.in_ok-rows.ensures.bytes clean ∙ rows_at _ _ _ head in
    c.if-digest_of-head.true (c.digest_of.ensures.value ∙ ap (digest 0) rows ∙ sym summed ∙ sym (sum_at _ _ head))

pub returns-clause-rows : goal.returns-clause-rows
returns-clause-rows g c clean =
    c.in_ok-rows.ensures.bytes clean ∙ rows_at _ _ _ (c.requires.head (c.read_part.ensures.same.clean clean))

pub returns-clause-summed : goal.returns-clause-summed
returns-clause-summed g c clean =
    let head = c.requires.head (c.read_part.ensures.same.clean clean) in
    let rows = c.deref.ensures.value ∙ c.in_ok-rows.ensures.bytes clean ∙ rows_at _ _ _ head in
    sym (sum_at _ _ head) ∙ sym c.if-digest_of-head.false ∙ c.digest_of.ensures.value ∙ ap (digest 0) rows
