use Rattle.pagable_pageout.proofs.{Joint.{both-all, both-on}, Strides.{walked-on, walked-runs}, Words.ap, WorkerRuns.none-walked}
use Rattle.pagable_pageout.proofs.step.run.Goals as goal
use Rattle.pagable_pageout.specs.Turns.{acting_after}

pub loop-next-init : goal.loop-next-init
loop-next-init g c = record {
  way = c.requires;
  ends = λ w h. h;
  walked = both-all (λ s x. none-walked);
}

pub loop-next-preserved : goal.loop-next-preserved
loop-next-preserved g c =
    let says = c.make_next_steps-turn.ensures in
    record {
      way = rw c.in-Goes.is at says.way;
      ends = λ w h. (rw c.in-Goes.is at says.ends).stays w (c.loop-next.invariant.ends w h);
      walked = both-on c.loop-next.invariant.walked says.acts
          (λ s mid s' x y z walked strides. walked-on walked (strides.goes c.in-Goes.next c.in-Goes.is))
          (ap (λ t. acting_after t (g.A.Access.acting c.args.access.now)) c.in-Goes.is);
    }

pub returns-in-Answers-clause-over : goal.returns-in-Answers-clause-over
returns-in-Answers-clause-over g c = λ w h. (rw c.in-Answers.is at c.make_next_steps-turn.ensures.ends).over w (c.loop-next.invariant.ends w h)

pub returns-in-Answers-clause-acts : goal.returns-in-Answers-clause-acts
returns-in-Answers-clause-acts g c =
    both-on c.loop-next.invariant.walked c.make_next_steps-turn.ensures.acts
    (λ s mid s' x y z walked strides. walked-runs walked (strides.answers c.in-Answers.answer c.in-Answers.is))
    (ap (λ t. acting_after t (g.A.Access.acting c.args.access.now)) c.in-Answers.is)
