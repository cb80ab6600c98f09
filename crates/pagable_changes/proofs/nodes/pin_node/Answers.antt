use Rattle.pagable_changes.specs.Changes.{clone-is-refused, node-is-taken}
use Rattle.std.proofs.Common.{sym}
use Rattle.pagable_changes.proofs.nodes.pin_node.Goals as goal

pub returns-in-Ok-clause-pins : goal.returns-in-Ok-clause-pins
returns-in-Ok-clause-pins g c = node-is-taken _ _ (sym c.if-is_loose.ensures) c.in-Ok.ensures.called

pub returns-in-Err-clause-fails : goal.returns-in-Err-clause-fails
returns-in-Err-clause-fails g c = clone-is-refused _ _ c.in-Err.ensures.called
