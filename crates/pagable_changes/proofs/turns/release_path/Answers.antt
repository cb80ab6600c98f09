use Rattle.pagable_changes.proofs.Changing.{lets-same, none-left, one-given-up}
use Rattle.pagable_load.specs.AccessView.{values_at}
use Rattle.std.proofs.Common.{◌∙◌}
use Rattle.pagable_changes.proofs.turns.release_path.Goals as goal

pub loop-node-preserved : goal.loop-node-preserved
loop-node-preserved g c =
    let i = c.loop-node.invariant in
    record {
      so = λ s' gives. i.so s' (one-given-up (values_at g.E.Node.NodeSet g.E.Env g.E.Hash.KeyHash c.args.pager.now.environment) c.in-Some.node
          c.in-Some.ensures.some (lets-same (values_at g.E.Node.NodeSet g.E.Env g.E.Hash.KeyHash) i.keeps.environment c.release_both.ensures.releases) gives);
      keeps = record {
        storage = c.release_both.ensures.keeps.storage ∙ i.keeps.storage;
        environment = c.release_both.ensures.keeps.environment
            ∙ i.keeps.environment;
      };
    }

pub returns-clause-releases : goal.returns-clause-releases
returns-clause-releases g c = c.loop-node.invariant.so _ (none-left (values_at g.E.Node.NodeSet g.E.Env g.E.Hash.KeyHash c.args.pager.now.environment)
    c.in_default.ensures.none)
