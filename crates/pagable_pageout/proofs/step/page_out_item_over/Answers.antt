use Rattle.pagable_pageout.proofs.{
  ItemLast.{item-ends, told-over},
  Joint.{both-first, both-on},
  Pages.{is-caller, item-unbegun, item-walked},
  Words.{acts_map, arc_value, no_shelf, refl, values_at, written_of, ◌≡◌},
}
use Rattle.pagable_pageout.proofs.step.page_out_item_over.Goals as goal
use Rattle.pagable_pager_spec.specs.Access.{WorkerStarts}

pub returns-in-Ok-worker_begin-clause-over : goal.returns-in-Ok-worker_begin-clause-over
returns-in-Ok-worker_begin-clause-over g c =
    let w = written_of (arc_value c.args.item) in
    told-over _ c.result_of.result c.run.result c.result_of.ensures (c.run.ensures.over w (item-ends w c.in-Ok.ensures.todo))

pub returns-in-Ok-worker_begin-clause-acts : goal.returns-in-Ok-worker_begin-clause-acts
returns-in-Ok-worker_begin-clause-acts g c =
    rw c.result_of.ensures (both-on (both-first {R = λ a s q s' q'. WorkerStarts (values_at g.E.Node.NodeSet g.E.Env g.E.Hash.KeyHash a.environment) s.core s
    c.in-Ok-worker_begin.worker.0 s' × (q ≡ q')} (λ q. acts_map c.in-Ok-worker_begin.ensures.begins (λ s t starts. (starts, refl))) no_shelf)
    c.run.ensures.acts
    (λ s mid s' x y z starts run. rw starts.1 (item-walked refl c.in-Ok.ensures.plain c.in-Ok.ensures.todo starts.0 run))
    (is-caller (g.A.Access.acting c.args.access.now) c.requires.caller))

pub returns-in-Err-worker_begin-clause-acts : goal.returns-in-Err-worker_begin-clause-acts
returns-in-Err-worker_begin-clause-acts g c =
    both-first (λ q. acts_map c.in-Err-worker_begin.ensures.refused item-unbegun) no_shelf
