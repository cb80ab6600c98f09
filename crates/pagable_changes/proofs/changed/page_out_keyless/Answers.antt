use Rattle.pagable_changes.proofs.Changing.{walks-same}
use Rattle.pagable_changes.specs.Changes.{handle-is-of-no-cell, root-is-refused, root-is-walked}
use Rattle.pagable_load.specs.AccessView.{values_at}
use Rattle.pagable_changes.proofs.changed.page_out_keyless.Goals as goal

pub returns-in-Err-clause-pages : goal.returns-in-Err-clause-pages
returns-in-Err-clause-pages g c = λ honest. handle-is-of-no-cell _ c.in-Err.ensures.fails

pub returns-in-Err-open_node-clause-pages : goal.returns-in-Err-open_node-clause-pages
returns-in-Err-open_node-clause-pages g c = λ honest. root-is-refused _ _ _ c.in-Ok.ensures.is c.in-Err-open_node.ensures.fails

pub returns-clause-pages : goal.returns-clause-pages
returns-clause-pages g c = λ honest.
    root-is-walked _ _ _ _ _ c.in-Ok.ensures.is c.in-Ok-open_node.ensures.opens
    (walks-same (values_at g.E.Node.NodeSet g.E.Env g.E.Hash.KeyHash) c.in-Ok-open_node.ensures.keeps.environment (c.walk.ensures.walks honest))
