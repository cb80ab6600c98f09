use Rattle.blobctl.proofs.Keeping.{of_versions}
use Rattle.pagable_file.specs.Copies.{IsCopiedKey}
use Rattle.blobctl.proofs.keep.copy_versions.Goals as goal

pub returns-clause-copied : goal.returns-clause-copied
returns-clause-copied g c from_honest to_honest =
    let copied = c.in_ok-copy_keys.ensures.copied from_honest (c.in_ok-set_names.ensures.honest to_honest) in
    of_versions (IsCopiedKey (g.B.Blobs.view c.args.from.now).blob (g.B.Blobs.view c.set_names.new.to).blob) c.args.kept.now
    (rw (← c.in_ok-set_names.ensures.blobs to_honest, c.as_slice.ensures.value, c.in_ok-keys.ensures) at copied)
