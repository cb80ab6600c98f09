use Rattle.pagable_pageout.proofs.{
  ItemLast.{goes-ends, refused-ends},
  Joint.{both-first, both-on},
  Strides.{ends-as, turn-walked, walked-on},
  Words.{HasWalked, Task, acts_map, arith, no_shelf, refl, todos, values_at},
  WorkerTurns.{pin-begins, pin-fails, pin-holds},
}
use Rattle.pagable_pageout.proofs.stride.pin_and_write.Goals as goal

pub returns-in-Held-clause-ends : goal.returns-in-Held-clause-ends
returns-in-Held-clause-ends g c = ends-as (λ w h. h) c.write_and_advance.ensures.ends

pub returns-in-Held-clause-goes : goal.returns-in-Held-clause-goes
returns-in-Held-clause-goes g c = record {
  way = c.write_and_advance.ensures.goes.way;
  leads = let less = c.write_and_advance.ensures.goes.leads in omega (arith, less);
}

pub returns-in-Held-clause-acts : goal.returns-in-Held-clause-acts
returns-in-Held-clause-acts g c n =
    both-on (both-first {R = λ a s q s' q'. HasWalked {g = g.E.Env} {gh = g.E.Hash.KeyHash} {go = g.E.CtxKey.Ord} {gq = g.E.CtxKey.PartialEq}
    {gp = g.E.CtxKey.PartialOrd} {gn = g.E.Node.NodeSet} (values_at g.E.Node.NodeSet g.E.Env g.E.Hash.KeyHash a.environment) a.me n q
    (Task.Pin c.args.reference c.args.place) (todos c.args.path.now.items) q' (Task.Write c.args.reference c.args.place c.in-Held.through c.in-Held._pin)
    (todos c.args.path.now.items) s s'}
    (λ q. acts_map (rw c.in-Held.is at c.in-Ok.ensures.takes) (λ s t call. turn-walked (pin-holds s t call) refl)) no_shelf)
    (c.write_and_advance.ensures.step n c.in-Held._pin (rw c.in-Held.is at c.in-Ok.ensures.shares)) (λ s mid s' x y z one two. walked-on one two) refl

pub returns-in-Begun-clause-acts : goal.returns-in-Begun-clause-acts
returns-in-Begun-clause-acts g c n =
    let says = c.new-reading.ensures in
    both-first (λ q. acts_map (rw c.in-Begun.is at c.in-Ok.ensures.takes)
    (λ s t call. turn-walked (pin-begins (rw c.node_type.ensures at says.reading) says.key says.for_cell s t call) refl)) no_shelf

pub returns-in-Err-clause-acts : goal.returns-in-Err-clause-acts
returns-in-Err-clause-acts g c n =
    both-first (λ q. acts_map c.in-Err.ensures.takes
    (λ s t call. turn-walked (pin-fails c.fail_with.ensures.plain c.fail_with.ensures.todo s t call) refl)) no_shelf

pub returns-in-Begun-clause-ends : goal.returns-in-Begun-clause-ends
returns-in-Begun-clause-ends g c = goes-ends (λ w h. h)

pub returns-in-Err-clause-ends : goal.returns-in-Err-clause-ends
returns-in-Err-clause-ends g c = refused-ends c.fail_with.ensures.todo
