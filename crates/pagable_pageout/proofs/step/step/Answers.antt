use Rattle.pagable_pageout.proofs.{Joint.{both-first, both-on}, Words.{EndsIfAnswered, acts_map, no_shelf, refl, values_at, ◌≡◌}, WorkerRuns.steps-to}

pub returns-clause-acts : Rattle.pagable_pageout.proofs.step.step.Goals.returns-clause-acts
returns-clause-acts g c =
    both-on c.perform_task-moved.ensures.acts
    (both-first {R = λ a s q s' q'. EndsIfAnswered (values_at g.E.Node.NodeSet g.E.Env g.E.Hash.KeyHash a.environment) c.args.worker.0
    c.perform_task-moved.result.turn s s' × (q ≡ q')}
    (λ q. acts_map c.end_if_answered.ensures (λ s t close. (close, refl))) no_shelf)
    (λ s mid s' x y z turns close. rw (← close.1) (steps-to turns close.0)) refl
