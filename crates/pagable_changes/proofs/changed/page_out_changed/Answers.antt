use Rattle.pagable_changes.proofs.Kept.{changed_law}
use Rattle.pagable_load.specs.AccessView.{values_at}
use Rattle.pagable_changes.proofs.changed.page_out_changed.Goals as goal

pub returns-clause-keeps_trees : goal.returns-clause-keeps_trees
returns-clause-keeps_trees g c = λ honest.
    changed_law g.row.E.Denot (values_at g.E.Node.NodeSet g.E.Env g.E.Hash.KeyHash c.args.pager.now.environment) _ _ _ _
    c.assert_invariant.ensures
    (record {
      has_meaning = g.met.E.Node.NodeSet.has_meaning;
      refers = g.met.E.Node.NodeSet.refers;
      shaped = λ x. (_, g.met.E.Node.NodeSet.has_shape c.args.pager.now.environment x);
      own_reading = g.met.E.Node.NodeSet.read_causes_are_own;
      own_writing = g.met.E.Node.NodeSet.write_causes_may_refuse;
    })
