use Rattle.pagable_changes.proofs.Changing.{fails-in, lets-same}
use Rattle.pagable_changes.specs.Changes.{isnt-taken, isnt-written}
use Rattle.pagable_load.specs.AccessView.{values_at}
use Rattle.pagable_changes.proofs.nodes.open_node.Goals as goal

pub returns-in-Err-clause-fails : goal.returns-in-Err-clause-fails
returns-in-Err-clause-fails g c = isnt-taken _ _ c.in-Err.ensures.fails

pub returns-in-Err-check_and_write-clause-fails : goal.returns-in-Err-check_and_write-clause-fails
returns-in-Err-check_and_write-clause-fails g c =
    isnt-written _ _ _ _ _ c.in-Ok.ensures.pins (fails-in (values_at g.E.Node.NodeSet g.E.Env g.E.Hash.KeyHash)
    c.in-Ok.ensures.keeps.environment c.in-Err-check_and_write.ensures.fails) (lets-same (values_at g.E.Node.NodeSet g.E.Env g.E.Hash.KeyHash) c.in-Ok.ensures.keeps.environment
    c.release_both.ensures.releases)
