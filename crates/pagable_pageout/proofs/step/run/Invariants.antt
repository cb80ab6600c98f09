use Rattle.pagable_pageout.proofs.Words.{EachIsAwaited, EndsWithItem, HasWalked, Written, todo_of, todos, values_at, work_left, ◌*◌, ◌+◌, ◌∷◌}
use Rattle.pagable_pageout.proofs.step.run.Given as goal
use Rattle.pagable_pageout.specs.{Joint.ActsBoth, Tasks.claim_weight}

-- the path leads to the task, and a run from here is one from the beginning
abbrev pub invariant-loop-next : goal.invariant-loop-next
invariant-loop-next g l = record {
  way : EachIsAwaited (todo_of l.task ∷ todos l.path.items);
  ends : (w : Written) → EndsWithItem w (todo_of l.fn.first ∷ todos l.fn.path.items) → EndsWithItem w (todo_of l.task ∷ todos l.path.items);
  walked : ActsBoth g.A.Access.known_state g.A.Access.acting g.T.Claims.shelf l.fn.access l.fn.table l.access l.table (λ a. a)
      (λ a s q s' q'. HasWalked (values_at g.E.Node.NodeSet g.E.Env g.E.Hash.KeyHash a.environment) a.me l.worker.0 q l.fn.first
      (todos l.fn.path.items) q' l.task (todos l.path.items) s s');
}

abbrev pub decreases-loop-next : goal.decreases-loop-next
decreases-loop-next g l = l.left * claim_weight + work_left (todo_of l.task ∷ todos l.path.items)
