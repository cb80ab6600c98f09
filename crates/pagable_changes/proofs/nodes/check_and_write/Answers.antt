use Rattle.pagable_changes.proofs.Changing.{not-written}
use Rattle.pagable_changes.specs.Changes.{clone-is-elsewhere, pin-is-elsewhere}
use Rattle.pagable_load.specs.AccessView.{values_at}
use Rattle.std.proofs.Common.{refl}
use Rattle.pagable_changes.proofs.nodes.check_and_write.Goals as goal

pub returns-then-not-is_handle_of-clause-fails : goal.returns-then-not-is_handle_of-clause-fails
returns-then-not-is_handle_of-clause-fails g c = clone-is-elsewhere (c.if-not-is_handle_of.ensures.elsewhere refl)

pub returns-then-not-is_handle_of-2-clause-fails : goal.returns-then-not-is_handle_of-2-clause-fails
returns-then-not-is_handle_of-2-clause-fails g c = pin-is-elsewhere (c.if-not-is_handle_of-2.ensures.elsewhere refl)

pub returns-clause-fails : goal.returns-clause-fails
returns-clause-fails g c = not-written (values_at g.E.Node.NodeSet g.E.Env g.E.Hash.KeyHash c.args.pager.now.environment) _ _ _ _
    c.write_pinned.result c.write_pinned.ensures.fails
