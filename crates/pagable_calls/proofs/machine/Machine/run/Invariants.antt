use Rattle.pagable_calls.proofs.Running.{SoFar}
use Rattle.pagable_load.specs.AccessView.{values_at}
use Rattle.std.proofs.Common.{length, vec_len, ◌+◌, ◌≤◌}
use Rattle.std.specs.Vec.{vec_capacity}
use Rattle.pagable_calls.proofs.machine.Machine.run.Given as goal

-- the events so far have happened, and there is room for the replies to the rest
abbrev pub invariant-loop-event : goal.invariant-loop-event
invariant-loop-event g l = record {
  room : length l.rest.items + vec_len l.replies ≤ vec_capacity l.replies;
  run : SoFar g.S.PagableStorage (values_at g.E.Node.NodeSet g.E.Env g.E.Hash.KeyHash) l.fn.self l.fn.events.items
      l.rest.items l.replies.items l.self-inside.pager l.self-inside.held;
}

abbrev pub decreases-loop-event : goal.decreases-loop-event
decreases-loop-event g l = length l.rest.items
