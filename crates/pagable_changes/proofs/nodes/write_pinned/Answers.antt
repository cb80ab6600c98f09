use Rattle.pagable_changes.proofs.Changing.{writer-by}
use Rattle.pagable_changes.specs.Changes.{handle-does-not-pin, pin-is-not-live, value-is-of-another-type}
use Rattle.pagable_load.specs.AccessView.{values_at}
use Rattle.std.proofs.Common.{sym, ◌∙◌}
use Rattle.pagable_changes.proofs.nodes.write_pinned.Goals as goal

pub returns-then-node_type-clause-fails : goal.returns-then-node_type-clause-fails
returns-then-node_type-clause-fails g c = value-is-of-another-type c.in-Ok-Some.node.now (rw c.in-Ok-Some.field-0-is at c.in-Ok-Some.ensures)
    (λ same. c.if-node_type.true (c.node_type.ensures.value ∙ same ∙ sym c.node_type-in-Ok-Some.ensures))

pub returns-else-node_type-clause-fails : goal.returns-else-node_type-clause-fails
returns-else-node_type-clause-fails g c = writer-by (values_at g.E.Node.NodeSet g.E.Env g.E.Hash.KeyHash c.args.pager.now.environment) _ _ _
    c.in-Ok-Some.node.now (rw c.in-Ok-Some.field-0-is at c.in-Ok-Some.ensures) c.write.result c.write.ensures.refused

pub returns-in-Ok-None-clause-fails : goal.returns-in-Ok-None-clause-fails
returns-in-Ok-None-clause-fails g c = handle-does-not-pin (rw c.in-Ok-None.field-0-is at c.in-Ok-None.ensures)

pub returns-in-Err-clause-fails : goal.returns-in-Err-clause-fails
returns-in-Err-clause-fails g c = pin-is-not-live _ c.in-Err.ensures
