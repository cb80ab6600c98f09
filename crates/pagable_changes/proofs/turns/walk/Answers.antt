use Rattle.pagable_changes.proofs.Changing.{gives-same, lets-same, refused-by, walks-by}
use Rattle.pagable_load.specs.AccessView.{values_at}
use Rattle.std.proofs.Common.{IsTrue, subst, ◌∙◌}
use Rattle.pagable_changes.proofs.turns.walk.Goals as goal

pub returns-in-Ok-clause-walks : goal.returns-in-Ok-clause-walks
returns-in-Ok-clause-walks g c = λ honest. walks-by (values_at g.E.Node.NodeSet g.E.Env g.E.Hash.KeyHash c.args.pager.now.environment) c.new-path.ensures.items
    c.new-found.ensures (c.in-Ok.ensures.turns honest)

pub returns-clause-walks : goal.returns-clause-walks
returns-clause-walks g c = λ honest.
    let turned = rw (c.release_path.ensures.keeps.storage ∙ c.release_both.ensures.keeps.storage) at honest in
    let same = c.in-Err.ensures.environment in
    refused-by (values_at g.E.Node.NodeSet g.E.Env g.E.Hash.KeyHash c.args.pager.now.environment) c.new-path.ensures.items c.new-found.ensures
    (c.in-Err.ensures.fails turned) (lets-same (values_at g.E.Node.NodeSet g.E.Env g.E.Hash.KeyHash) same c.release_both.ensures.releases)
    (gives-same (values_at g.E.Node.NodeSet g.E.Env g.E.Hash.KeyHash) (c.release_both.ensures.keeps.environment ∙ same) c.release_path.ensures.releases)
