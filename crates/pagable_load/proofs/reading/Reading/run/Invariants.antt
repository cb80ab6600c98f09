use Rattle.pagable_load.specs.{AccessView.{Acts, values_at}, Decoding.{RowsFit, rows_of}, Frames.frames_of, Keyed.StaysKeyed, LoadEnd.to_do, LoadSteps.HasGone}
use Rattle.std.proofs.Common.{None, ◌≡◌}
use Rattle.pagable_load.proofs.reading.Reading.run.Given as goal

abbrev pub invariant-loop-answer : goal.invariant-loop-answer
invariant-loop-answer g l = record {
  so_far : Acts g.A.Access.known_state g.A.Access.acting l.fn.access l.access
      (λ a s t. HasGone (values_at g.E.Node.NodeSet g.E.Env g.E.Hash.KeyHash a.environment)
      a.me l.fn.self l.self s t);
  ahead : RowsFit (values_at g.E.Node.NodeSet g.E.Env g.E.Hash.KeyHash (g.A.Access.acting l.access).environment).types
      (frames_of l.self.top l.self.below.items) (rows_of l.ahead);
  for_cell : l.self.for_cell ≡ l.fn.self.for_cell;
  key : l.self.key ≡ l.fn.self.key;
  node_type : l.self.node_type ≡ l.fn.self.node_type;
  keyed : StaysKeyed (values_at g.E.Node.NodeSet g.E.Env g.E.Hash.KeyHash (g.A.Access.acting l.fn.access).environment) l.fn.self.key l.fn.self.node_type
      (frames_of l.fn.self.top l.fn.self.below.items) None (frames_of l.self.top l.self.below.items);
}

abbrev pub decreases-loop-answer : goal.decreases-loop-answer
decreases-loop-answer g l = to_do (frames_of l.self.top l.self.below.items)
