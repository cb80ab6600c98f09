use Rattle.blob_file.specs.{File.{found_body, stored}, declared.log.Log.Log}
use Rattle.pagable_file.proofs.Stored.{adds_behind, other_refuses}
use Rattle.pagable_file.specs.{Bodies.blob_if_some, Settled.is_honest_file}
use Rattle.std.proofs.{Common.{None, Some, ap, sym, ◌∙◌, ◌≡◌}, lemmas.{Bool.and_parts, Result.err_from_is_err_and}}
use Rattle.std.specs.Prelude.{IsTrue}
use Rattle.pagable_file.proofs.file_blobs.FileBlobsPagableStorage.store_data.Goals as goal

pub returns-in_err-test_same-in-Ok-Some-clause-refused : goal.returns-in_err-test_same-in-Ok-Some-clause-refused
returns-in_err-test_same-in-Ok-Some-clause-refused g c =
    let out = err_from_is_err_and c.from_residual.result c.from_residual.ensures.1 in
    rw (out.1, out.2) (blob_if_some (found_body (Some c.in-Ok-Some.found)), other_refuses _ _ _ _ _ _ c.in_err-test_same-in-Ok-Some.ensures.only)

pub returns-in-Ok-None-clause-adds : goal.returns-in-Ok-None-clause-adds
returns-in-Ok-None-clause-adds g c honest =
    let it = c.args.self.now in
    let file = c.add_blob.new.file in
    let whole : IsTrue (is_honest_file g.D.Disk file) = honest in
    let clean : IsTrue (g.D.Disk.is_clean file.log.disk) = (and_parts (g.D.Disk.is_clean file.log.disk) file.log.is_whole whole).0 in
    let was_clean : IsTrue (g.D.Disk.is_clean c.fetch.new.self.log.disk) = sym (ap (λ (log : Log _). g.D.Disk.is_clean log.disk) c.add_blob.ensures.log) ∙ clean in
    let none : stored g.D.Disk it.file c.compute_key-key.result ≡ None =
    ap (λ k. stored g.D.Disk it.file k) (sym c.get.ensures.value) ∙ sym (c.in-Ok-None.ensures.found was_clean) ∙ ap found_body c.in-Ok-None.field-0-is in
    rw (← c.compute_key-key.ensures) (adds_behind it.closed _ (stored g.D.Disk c.fetch.new.self) _ _ _ c.if-self.false c.fetch.ensures.same.blobs
    c.in_ok-add_blob-in-Ok-None.ensures.fit none (c.in_ok-add_blob-in-Ok-None.ensures.added clean))
