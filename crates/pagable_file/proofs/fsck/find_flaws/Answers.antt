use Rattle.blob_file.specs.File.{named, stored}
use Rattle.pagable_file.proofs.Flawed.{all_found, bodies_same, names_same}
use Rattle.pagable_value_spec.specs.Blob.{key_of}
use Rattle.pagable_file.proofs.fsck.find_flaws.Goals as goal

pub returns-clause-tested : goal.returns-clause-tested
returns-clause-tested g c sure =
    let of = key_of g.H.KeyHash.digest in
    let old = c.args.file.now in
    let new = c.test_blobs.new.file in
    let same = c.test_blobs.ensures.stays.content in
    all_found of (stored g.D.Disk old) (stored g.D.Disk new) (named old) (named new) c.new-flaws.ensures.items (bodies_same g.D.Disk old new same)
    (names_same g.D.Disk old new same) (c.in_ok-test_blobs.ensures.tested sure) c.in_ok-test_names.ensures.tested
