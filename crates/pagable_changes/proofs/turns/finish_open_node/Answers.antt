use Rattle.pagable_changes.proofs.Changing.{blob-fails-by, key-fails-by, leaves-by, lets-same, no-memory, sets-same, unset-same}
use Rattle.pagable_changes.specs.Changes.{no-memory-for-blob, nothing-is-stored}
use Rattle.pagable_load.specs.AccessView.{values_at}
use Rattle.std.proofs.Common.{IsTrue, subst, ◌∙◌}
use Rattle.pagable_changes.proofs.turns.finish_open_node.Goals as goal

pub returns-in-Err-clause-fails : goal.returns-in-Err-clause-fails
returns-in-Err-clause-fails g c = λ honest. nothing-is-stored _ c.in-Err.ensures.fails

pub returns-in_err-reserve-clause-fails : goal.returns-in_err-reserve-clause-fails
returns-in_err-reserve-clause-fails g c = λ honest. no-memory _ c.from_residual.result c.from_residual.ensures.1
    (nothing-is-stored _ no-memory-for-blob)

pub returns-in-Err-store-clause-fails : goal.returns-in-Err-store-clause-fails
returns-in-Err-store-clause-fails g c = λ honest. blob-fails-by (values_at g.E.Node.NodeSet g.E.Env g.E.Hash.KeyHash c.args.pager.now.environment)
    c.in-Ok.ensures.is (c.in-Err-store.ensures.called honest)

pub returns-in-Err-record_key-clause-fails : goal.returns-in-Err-record_key-clause-fails
returns-in-Err-record_key-clause-fails g c = λ honest.
    let stored = rw c.in-Err-record_key.ensures.keeps.storage at honest in
    key-fails-by (values_at g.E.Node.NodeSet g.E.Env g.E.Hash.KeyHash c.args.pager.now.environment) c.in-Ok.ensures.is (c.in-Ok-store.ensures.called stored)
    (unset-same (values_at g.E.Node.NodeSet g.E.Env g.E.Hash.KeyHash) c.in-Ok-store.ensures.environment c.in-Err-record_key.ensures.refused)

pub returns-clause-finishes : goal.returns-clause-finishes
returns-clause-finishes g c = λ honest.
    let set = c.in-Ok-record_key.ensures in
    let stored = rw (c.release_both.ensures.keeps.storage ∙ set.keeps.storage) at honest in
    leaves-by (values_at g.E.Node.NodeSet g.E.Env g.E.Hash.KeyHash c.args.pager.now.environment) c.in-Ok.ensures.is
    (c.in-Ok-store.ensures.called stored) c.reserve.ensures.rows (sets-same (values_at g.E.Node.NodeSet g.E.Env g.E.Hash.KeyHash)
    c.in-Ok-store.ensures.environment set.sets)
    (lets-same (values_at g.E.Node.NodeSet g.E.Env g.E.Hash.KeyHash) (set.keeps.environment ∙ c.in-Ok-store.ensures.environment)
    c.release_both.ensures.releases)
