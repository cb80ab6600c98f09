use Rattle.blob_file.specs.File.{content, flushed}
use Rattle.pagable_core.specs.Data.{blob_of}
use Rattle.pagable_file.proofs.Naming.{named_last}
use Rattle.pagable_file.specs.Settled.{is_honest_file}
use Rattle.pagable_value_spec.specs.Blob.{Blob}
use Rattle.std.proofs.{Common.{Option, Some, ap, ℕ, ◌∙◌}, lemmas.Bool.and_parts}
use Rattle.std.specs.Prelude.{IsTrue, List}
use Rattle.pagable_file.proofs.laws.named_again.Goals as goal

pub returns-in-Ok-find_named : goal.returns-in-Ok-find_named
returns-in-Ok-find_named g c sure =
    let stored = c.in-Ok.ensures in
    let opened = c.in_ok-again.ensures in
    let honest = c.find_named.ensures.honest sure in
    let again = c.in_ok-again.again in
    let file = c.store_named.new.storage in
    let clean = (and_parts (g.D.Disk.is_clean again.file.log.disk) again.file.log.is_whole honest).0 in
    let before : IsTrue (is_honest_file g.D.Disk file.file) = opened.was_honest clean in
    let name = c.args.name.now in
    let blob = blob_of c.args.blob in
    let stands = ap (λ (f : List ℕ → Option ℕ). f name) (stored.durable_name before) ∙ stored.stands before in
    let there = ap (λ (f : ℕ → Option Blob). f c.in-Ok.field-0) (stored.durable_blob before) ∙ stored.stored before in
    c.in-Ok-find_named.ensures.found sure
    ∙ named_last file.closed again.closed (flushed g.D.Disk file.file) (content g.D.Disk again.file) name c.in-Ok.field-0 blob
    stored.usable opened.usable (opened.found clean) stands there
    ∙ ap (λ (k : ℕ). Some (k, blob)) stored.key
