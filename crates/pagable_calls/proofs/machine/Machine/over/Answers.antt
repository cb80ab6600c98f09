use Rattle.pagable_load.specs.AccessView.{values_at}
use Rattle.pagable_theorems.proofs.NewPager.{new_whole}
use Rattle.std.proofs.Common.{rules}
use Rattle.pagable_calls.proofs.machine.Machine.over.Goals as goal

-- the values are lawful by the laws of their nodes
pub returns-clause-starts : goal.returns-clause-starts
returns-clause-starts g c = (new_whole _ (values_at g.E.Node.NodeSet g.E.Env g.E.Hash.KeyHash c.args.env)).starts _ (search rules) (search rules) (record {
  has_meaning = g.met.E.Node.NodeSet.has_meaning;
  refers = g.met.E.Node.NodeSet.refers;
  shaped = λ x. (_, g.met.E.Node.NodeSet.has_shape c.args.env x);
  own_reading = g.met.E.Node.NodeSet.read_causes_are_own;
  own_writing = g.met.E.Node.NodeSet.write_causes_may_refuse;
})
