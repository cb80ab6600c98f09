use Rattle.blob_file.specs.File.{named, stored}
use Rattle.pagable_file.proofs.Flawed.{all_real, all_told, exactly, root_unflawed}
use Rattle.pagable_value_spec.specs.Blob.{key_of}
use Rattle.pagable_file.proofs.file_blobs.FileBlobs.fsck_root.Goals as goal

pub returns-in-Ok-clause-exact : goal.returns-in-Ok-clause-exact
returns-in-Ok-clause-exact g c is_open honest =
    let file = c.args.self.now.file in
    exactly (root_unflawed (key_of g.E.Hash.KeyHash.digest) (stored g.D.Disk file) (named file) c.args.name.now) (c.in-Ok.ensures.tested honest)

pub returns-in-Ok-clause-real : goal.returns-in-Ok-clause-real
returns-in-Ok-clause-real g c honest = all_real (c.in-Ok.ensures.tested honest)

pub returns-in-Ok-clause-each : goal.returns-in-Ok-clause-each
returns-in-Ok-clause-each g c is_open honest = all_told (c.in-Ok.ensures.tested honest)
