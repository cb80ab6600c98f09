use Rattle.pagable_changes.proofs.Changing.{no-memory}
use Rattle.pagable_changes.specs.Changes.{no-memory-for-path, node-is-refused, way-is-too-deep}
use Rattle.pagable_changes.proofs.turns.open_child.Goals as goal

pub returns-in-Err-clause-fails : goal.returns-in-Err-clause-fails
returns-in-Err-clause-fails g c = rw c.in-Err.ensures.fails.0 (way-is-too-deep c.in-Err.ensures.fails.1)

pub returns-in_err-reserve-clause-fails : goal.returns-in_err-reserve-clause-fails
returns-in_err-reserve-clause-fails g c = no-memory _ c.from_residual.result c.from_residual.ensures.1 no-memory-for-path

pub returns-in-Err-open_node-clause-fails : goal.returns-in-Err-open_node-clause-fails
returns-in-Err-open_node-clause-fails g c = node-is-refused _ _ c.in-Err-open_node.ensures.fails
