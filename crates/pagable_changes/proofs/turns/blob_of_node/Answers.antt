use Rattle.pagable_changes.proofs.Changing.{no-memory}
use Rattle.pagable_changes.specs.Changes.{keys-arent-there, no-memory-for-blob, path-is-too-long}
use Rattle.std.proofs.Common.{arith}
use Rattle.pagable_changes.proofs.turns.blob_of_node.Goals as goal

pub returns-in-Err-clause-fails : goal.returns-in-Err-clause-fails
returns-in-Err-clause-fails g c = keys-arent-there _ c.in-Err.ensures.fails

pub returns-in-Err-check_height-clause-fails : goal.returns-in-Err-check_height-clause-fails
returns-in-Err-check_height-clause-fails g c =
    let tall = c.in-Ok.ensures.height in
    let high = c.in-Err-check_height.ensures.high in
    rw high.0 (path-is-too-long _ c.in-Ok.ensures.keys (omega (arith, tall, high.1)))

pub returns-in_err-bytes-clause-fails : goal.returns-in_err-bytes-clause-fails
returns-in_err-bytes-clause-fails g c = no-memory _ c.from_residual.result c.from_residual.ensures.1 no-memory-for-blob
