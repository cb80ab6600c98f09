use Rattle.blobctl.proofs.Naming.{one_item, only_named}
use Rattle.blobctl.specs.Digits.{begins}
use Rattle.pagable_file.specs.declared.listing.ListedBlob.{ListedBlob}
use Rattle.std.proofs.Common.{List, ap, filter, sym, ◌∙◌}
use Rattle.blobctl.proofs.find.find_by_digits.Goals as goal

pub returns-in-len1-clause-only : goal.returns-in-len1-clause-only
returns-in-len1-clause-only g c honest =
    let digits = c.in-Some.digits in
    let one = one_item c.as_slice-2.result.now c.blob-item.result c.in-len1.len_at_least c.in-len1.len_below c.blob-item.is in
    only_named (g.B.Blobs.view c.args.blobs.now).blob c.in_ok-all.all.items c.args.word.now digits c.blob-item.result c.in-Some.ensures
    (c.in_ok-all.ensures.all honest)
    (sym (c.in_ok-found.ensures ∙ ap (λ (l : List ListedBlob). filter (λ x. begins digits x.key) l) c.as_slice.ensures.value)
    ∙ sym c.as_slice-2.ensures.value ∙ one)
