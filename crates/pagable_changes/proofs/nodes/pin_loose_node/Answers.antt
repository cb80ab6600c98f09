use Rattle.pagable_changes.proofs.Changing.{at-same, pins-same}
use Rattle.pagable_changes.specs.Changes.{cell-is-taken, clone-is-refused, pin-is-refused}
use Rattle.pagable_load.specs.AccessView.{values_at}
use Rattle.pagable_tables.proofs.SameViews.{failed}
use Rattle.std.proofs.Common.{◌∙◌}
use Rattle.pagable_changes.proofs.nodes.pin_loose_node.Goals as goal

pub returns-in_err-cloned-clause-fails : goal.returns-in_err-cloned-clause-fails
returns-in_err-cloned-clause-fails g c = rw (failed c.from_residual.result c.from_residual.ensures.1) (clone-is-refused _ _ c.in_err-cloned.ensures.called)

pub returns-in-Ok-clause-pins : goal.returns-in-Ok-clause-pins
returns-in-Ok-clause-pins g c =
    let first = c.in_ok-cloned.ensures.keeps.environment in
    cell-is-taken _ _ _ _ _ _ c.requires.loose c.in_ok-cloned.ensures.called
    (at-same (values_at g.E.Node.NodeSet g.E.Env g.E.Hash.KeyHash) first c.loosen-turned.ensures.called)
    (pins-same (values_at g.E.Node.NodeSet g.E.Env g.E.Hash.KeyHash) (c.loosen-turned.ensures.keeps.environment ∙ first) c.in-Ok.ensures.pins)

pub returns-in-Err-clause-fails : goal.returns-in-Err-clause-fails
returns-in-Err-clause-fails g c =
    let first = c.in_ok-cloned.ensures.keeps.environment in
    let then = c.loosen-turned.ensures.keeps.environment ∙ first in
    pin-is-refused _ _ _ _ _ _ _ _ c.in_ok-cloned.ensures.called (at-same (values_at g.E.Node.NodeSet g.E.Env g.E.Hash.KeyHash) first
    c.loosen-turned.ensures.called) (pins-same (values_at g.E.Node.NodeSet g.E.Env g.E.Hash.KeyHash) then c.in-Err.ensures.pins)
    (at-same (values_at g.E.Node.NodeSet g.E.Env g.E.Hash.KeyHash) (c.in-Err.ensures.keeps.environment ∙ then) c.release-released.ensures.called)
