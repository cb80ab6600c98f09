use Rattle.pagable_pageout.proofs.{
  ItemLast.{claimed-ends, refused-ends},
  Joint.{both-on, both-second},
  Strides.{ends-as, turn-walked, walked-on},
  Words.{Action, Claim, HasWalked, Ok, PerformsStep, Task, Turn, ap, arith, claim_result, false, identity_of, refl, tells_all, to_start, todos, values_at, ◌∙◌},
  Words.{◌∷◌, ◌≡◌},
  WorkerRuns.{steps-to, waits-walked},
  WorkerTurns.start-turns,
}
use Rattle.pagable_pageout.proofs.stride.claim_and_write.Goals as goal
use Rattle.pagable_pageout.specs.declared.claims.ClaimResult.{ClaimResult}

pub returns-in-Ok-Claimed-clause-ends : goal.returns-in-Ok-Claimed-clause-ends
returns-in-Ok-Claimed-clause-ends g c = ends-as (λ w h. h) c.pin_and_write.ensures.ends

pub returns-in-Ok-Claimed-clause-goes : goal.returns-in-Ok-Claimed-clause-goes
returns-in-Ok-Claimed-clause-goes g c = record {
  way = c.pin_and_write.ensures.goes.way;
  leads = let less = c.pin_and_write.ensures.goes.leads in omega (arith, less);
}

pub returns-in-Ok-Claimed-clause-acts : goal.returns-in-Ok-Claimed-clause-acts
returns-in-Ok-Claimed-clause-acts g c =
    let is : c.claim-found.result ≡ Ok ClaimResult.Claimed = c.in-Ok-Claimed.is ∙ ap (λ x. Ok x) (rw c.in-Ok-Claimed.is at c.in-Ok-Claimed.field-0-is) in
    both-on (both-second {D = λ a s q s' q'. HasWalked {g = g.E.Env} {gh = g.E.Hash.KeyHash} {go = g.E.CtxKey.Ord} {gq = g.E.CtxKey.PartialEq}
    {gp = g.E.CtxKey.PartialOrd} {gn = g.E.Node.NodeSet} (values_at g.E.Node.NodeSet g.E.Env g.E.Hash.KeyHash a.environment) a.me c.args.worker.0 q
    (Task.Start c.args.reference c.args.place) (todos c.args.path.now.items) q' (Task.Pin c.args.reference c.args.place) (todos c.args.path.now.items) s s'}
    c.check_claim-checked.ensures (rw is at c.claim-found.ensures.step)
    (λ s x y fault step. turn-walked (start-turns (Ok ClaimResult.Claimed) refl refl s (step s.core (todos c.args.path.now.items) fault)) refl))
    (c.pin_and_write.ensures.acts c.args.worker.0) (λ s mid s' x y z one two. walked-on one two) refl

pub returns-in-Ok-Waiting-clause-ends : goal.returns-in-Ok-Waiting-clause-ends
returns-in-Ok-Waiting-clause-ends g c = refused-ends c.fail_unclaimed.ensures.todo

pub returns-in-Ok-Waiting-clause-acts : goal.returns-in-Ok-Waiting-clause-acts
returns-in-Ok-Waiting-clause-acts g c =
    let is : c.claim-found.result ≡ Ok ClaimResult.Waiting = c.in-Ok-Waiting.is ∙ ap (λ x. Ok x) (rw c.in-Ok-Waiting.is at c.in-Ok-Waiting.field-0-is) in
    both-on (both-second {D = λ a s q s' q'. PerformsStep {g = g.E.Env} {gh = g.E.Hash.KeyHash} {go = g.E.CtxKey.Ord} {gq = g.E.CtxKey.PartialEq}
    {gp = g.E.CtxKey.PartialOrd} {gn = g.E.Node.NodeSet} (values_at g.E.Node.NodeSet g.E.Env g.E.Hash.KeyHash a.environment) a.me c.args.worker.0 q
    (Task.Start c.args.reference c.args.place) (todos c.args.path.now.items) q'
    (record {
      action = Action.Claim (identity_of c.args.reference) (Ok Claim.Waiting);
      turn = Turn.Goes (Task.Start c.args.reference c.args.place);
      counted = false;
    }) (to_start c.args.reference c.args.place ∷ todos c.args.path.now.items) s s'}
    c.check_claim-checked.ensures (rw is at c.claim-found.ensures.step)
    (λ s x y fault step. steps-to (start-turns (Ok ClaimResult.Waiting) refl tt s (step s.core (todos c.args.path.now.items) fault))
    (record { closes = refl })))
    (both-second {P = λ s. Unit {0}} {D = λ a s q s' q'. Unit {0}} (tells_all (λ s. tt)) c.fail_unclaimed.ensures.table (λ s x y u same. tt))
    (λ s mid s' x y z step none. waits-walked step refl) refl

pub returns-in_default-clause-ends : goal.returns-in_default-clause-ends
returns-in_default-clause-ends g c = claimed-ends (claim_result c.claim-found.result) c.task_after_claim.ensures.todo

pub returns-in_default-clause-acts : goal.returns-in_default-clause-acts
returns-in_default-clause-acts g c =
    let says = c.task_after_claim.ensures in
    both-second c.check_claim-checked.ensures c.claim-found.ensures.step
    (λ s x y fault step. turn-walked (start-turns c.claim-found.result says.todo says.leaves s (step s.core (todos c.args.path.now.items) fault)) refl)
