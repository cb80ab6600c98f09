use Rattle.pagable_file.proofs.Copying.{are_copied_keys}
use Rattle.pagable_file.proofs.copy.copy_keys.Goals as goal

pub returns-clause-copied : goal.returns-clause-copied
returns-clause-copied g c from_honest to_honest =
    are_copied_keys (g.S.PagableStorage.stored c.args.from.now) (g.T.PagableStorage.stored c.copy_reached.new.to) c.in_ok-copied.copied c.args.keys.now
    (c.in_ok-copied.ensures.copied from_honest to_honest) c.in_ok-test_children.ensures
