use Rattle.pagable_pageout.proofs.{
  ItemLast.refused-ends,
  Joint.{both-as, both-first, both-on, both-second},
  Stacks.other-falls,
  Strides.{comes-strides, steps-stride, turn-walked, walk-strides},
  Words.{EndsIfAnswered, Task, acts_map, no_shelf, refl, tells_all, todos, todos_after, values_at, ◌≡◌},
  WorkerRuns.none-walked,
  WorkerTurns.start-refused,
}
use Rattle.pagable_pageout.proofs.stride.make_next_steps.Goals as goal

pub returns-then-left-eq0-clause-acts : goal.returns-then-left-eq0-clause-acts
returns-then-left-eq0-clause-acts g c =
    let says = c.fail_unclaimed.ensures in
    rw c.in-Start.is (both-second {P = λ s. Unit {0}} (tells_all (λ s. tt)) says.table
    (λ s x y u same. walk-strides (turn-walked (start-refused says.todo says.plain same s) refl)))

pub returns-then-left-eq0-clause-ends : goal.returns-then-left-eq0-clause-ends
returns-then-left-eq0-clause-ends g c = rw c.in-Start.is (refused-ends c.fail_unclaimed.ensures.todo)

pub returns-else-left-eq0-clause-ends : goal.returns-else-left-eq0-clause-ends
returns-else-left-eq0-clause-ends g c = rw c.in-Start.is c.claim_as_turn.ensures.ends

pub returns-else-left-eq0-clause-acts : goal.returns-else-left-eq0-clause-acts
returns-else-left-eq0-clause-acts g c = rw c.in-Start.is c.claim_as_turn.ensures.acts

pub returns-in-Finish-clause-falls : goal.returns-in-Finish-clause-falls
returns-in-Finish-clause-falls g c =
    rw c.in-Finish.is (other-falls (Task.Finish c.in-Finish.waiting) (λ r place is. absurd (cc)) c.finish_waiting-last.result c.args.left.now
    (todos c.args.path.now.items) (todos_after c.finish_waiting-last.result c.finish_waiting-last.new.path.items) c.finish_waiting-last.ensures.goes.leads)

pub returns-in-Finish-clause-ends : goal.returns-in-Finish-clause-ends
returns-in-Finish-clause-ends g c = rw c.in-Finish.is c.finish_waiting-last.ensures.ends

pub returns-in-Finish-clause-acts : goal.returns-in-Finish-clause-acts
returns-in-Finish-clause-acts g c =
    rw c.in-Finish.is (both-on c.finish_waiting-last.ensures.acts
    (both-first {R = λ a s q s' q'. EndsIfAnswered (values_at g.E.Node.NodeSet g.E.Env g.E.Hash.KeyHash a.environment) c.args.worker.0
    c.finish_waiting-last.result s s'
    × (q ≡ q')} (λ q. acts_map c.end_if_answered.ensures (λ s t close. (close, refl))) no_shelf)
    (λ s mid s' x y z comes close. rw (← close.1) (comes-strides c.finish_waiting-last.new.path.items comes close.0)) refl)

pub returns-in_default-clause-acts : goal.returns-in_default-clause-acts
returns-in_default-clause-acts g c =
    both-as (λ s s' x y step. steps-stride c.step-turn.new.path.items none-walked step refl) c.step-turn.ensures.acts
