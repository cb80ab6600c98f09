use Rattle.pagable_changes.proofs.Changing.{down-by, nowhere-by, passed-by}
use Rattle.pagable_changes.specs.Changes.{has-key, next-is-lost}
use Rattle.pagable_load.specs.AccessView.{values_at}
use Rattle.std.proofs.Common.{refl, ◌+◌}
use Rattle.pagable_changes.proofs.turns.process_reference.Goals as goal

pub returns-in-Err-clause-fails : goal.returns-in-Err-clause-fails
returns-in-Err-clause-fails g c = next-is-lost _ _ c.requires.next c.in-Err.ensures.refused

pub returns-in-Some-clause-turns : goal.returns-in-Some-clause-turns
returns-in-Some-clause-turns g c = has-key _ _ _ _ c.requires.next (rw c.in-Some.is at c.in-Ok.ensures.found) refl (passed-by _ c.args.node.now _ _ _ (c.args.node.now.keyed + 1)
    (c.pass_reference.ensures _ c.requires.next))

pub returns-in-None-clause-turns : goal.returns-in-None-clause-turns
returns-in-None-clause-turns g c = down-by (values_at g.E.Node.NodeSet g.E.Env g.E.Hash.KeyHash c.args.pager.now.environment) _ _ _ _ _ _ _ c.requires.next
    (rw c.in-None.is at c.in-Ok.ensures.found) c.open_child.result c.open_child.ensures.opens

pub returns-in-None-clause-fails : goal.returns-in-None-clause-fails
returns-in-None-clause-fails g c = nowhere-by (values_at g.E.Node.NodeSet g.E.Env g.E.Hash.KeyHash c.args.pager.now.environment) _ _ c.args.path.now.items
    c.args.path.now.items c.args.node.now c.args.node.now _ c.requires.next (rw c.in-None.is at c.in-Ok.ensures.found) c.open_child.result c.open_child.ensures.fails
