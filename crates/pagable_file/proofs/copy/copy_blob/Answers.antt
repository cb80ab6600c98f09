use Rattle.pagable_core.specs.Data.{blob_of}
use Rattle.pagable_file.proofs.Copying.{copied_more}
use Rattle.std.specs.Arc.{arc_value}
use Rattle.pagable_file.proofs.copy.copy_blob.Goals as goal

pub returns-clause-copied : goal.returns-clause-copied
returns-clause-copied g c from_honest to_honest all =
    let store = c.in_ok-store_copy.ensures in
    copied_more (g.S.PagableStorage.stored c.args.from.now) (g.T.PagableStorage.stored c.args.to.now) (g.T.PagableStorage.stored c.store_copy.new.to)
    c.args.copied.now c.insert.new.self c.args.key (blob_of (arc_value c.in_ok-blob.blob)) c.in_ok-insert.ensures.updates.0
    (c.in_ok-blob.ensures.ok from_honest) (cc (store.stored to_honest, c.deref-2.ensures, c.in_ok-blob.ensures.named))
    (rw (c.as_slice.ensures.value, c.deref.ensures) at c.in_ok-test_children.ensures) (store.keeps to_honest) all
