-- An item stays the last of what a worker has to do.
use Rattle.pagable_pageout.proofs.Words.{
  ArcRef,
  Claim,
  ClaimedNode,
  EndsWithItem,
  EntryGetsResult,
  Environments,
  Equalities,
  Error,
  FollowsStore,
  HandleNumber,
  Hashes,
  List,
  Nodes,
  None,
  Ok,
  Option,
  Orders,
  PageOutError,
  PartialOrders,
  Result,
  Some,
  Task,
  Todo,
  Turn,
  WaitingValue,
  WorkerAnswer,
  Written,
  advance,
  answer_of,
  refl,
  subst,
  sym,
  tests,
  to_fail,
  to_finish,
  to_item,
  to_release,
  to_start,
  todos,
  todos_after,
  values_at,
  waits_as,
  ℕ,
  [],
  ◌∷◌,
  ◌≡◌,
}
use Rattle.pagable_pageout.specs.{Results.IsKeyOverResults, Tasks.{IfKey, IfKeyOf, KeepsItemOrGivesItsKey, fails, fault_of}, Turns.claim_todo}
use Rattle.pagable_pager_spec.specs.{Basics.above, Workers.{first_todo, give, give_known, next_start}, World.{Fault, Open, answer_of_fault, of_item}}
use Rattle.std.proofs.Common.{◌++◌}
use Rattle.std.specs.Prelude.{IfOk, max}

-- the next reference is started before it
next-ends : (w : Written) (place : ℕ) (rest : List ArcRef) (below : List Todo) → EndsWithItem w below → EndsWithItem w (next_start place rest ++ below)
next-ends w place [] below h = h
next-ends w place (r ∷ rs) below h = h

advance-ends : (w : Written) (todo : List Todo) → EndsWithItem w todo → EndsWithItem w (advance todo)
advance-ends w todo h = grind (tests, next-ends)

give-ends : (w : Written) (r : ArcRef) (key height : ℕ) (todo : List Todo) → EndsWithItem w todo → EndsWithItem w (give r key height todo)
give-ends w r key height (to_finish o ∷ below) h = advance-ends w (to_finish
    (record o { keys = o.keys ++ key ∷ []; height = max o.height (above r.kind.0 height) }) ∷ below) h
give-ends w r key height (to_item written keys ∷ below) h = advance-ends w (to_item written (keys ++ key ∷ []) ∷ below) h
give-ends w r key height todo h = h

known-ends : (w : Written) (r : ArcRef) (key height : ℕ) (todo : List Todo) → EndsWithItem w todo → EndsWithItem w (give_known r key height todo)
known-ends w r key height [] h = h
known-ends w r key height (x ∷ below) h = give-ends w r key height (x ∷ below) h

-- what is to be done after a claim

claim-ends : (w : Written) (r : ArcRef) (place : ℕ) (below : List Todo) (found : Result Claim Error) → EndsWithItem w (to_start r place ∷ below)
    → EndsWithItem w (claim_todo r place below found)
claim-ends w r place below (Ok Claim.Claimed) h = h
claim-ends w r place below (Ok (Claim.Known key height)) h = known-ends w r key height below h
claim-ends w r place below (Ok Claim.Waiting) h = h
claim-ends w r place below found h = tt

module _ {X XN XH XK XV : Type 0} {g : Environments X XN XH XK XV} {gh : Hashes XH} {go : Orders XK} {gq : Equalities XK} {gp : PartialOrders XK}
    {gn : Nodes XN X XN XH XK XV} where
  -- what goes on keeps its end
  pub goes-ends : {todo after : List Todo} {t : Task X XN XH XK XV g gh go gq gp gn} → ((w : Written) → EndsWithItem w todo → EndsWithItem w after)
      → KeepsItemOrGivesItsKey {g = g} {gh = gh} {go = go} {gq = gq} {gp = gp} {gn = gn} todo (Turn.Goes t) after
  goes-ends f = record { stays = f; over = λ w h. tt }

  pub refused-ends : {todo after : List Todo} {t : Task X XN XH XK XV g gh go gq gp gn} {fault : Fault} {back : Option HandleNumber} → after
      ≡ fails fault back → KeepsItemOrGivesItsKey {g = g} {gh = gh} {go = go} {gq = gq} {gp = gp} {gn = gn} todo (Turn.Goes t) after
  refused-ends is = goes-ends (λ w h. subst (EndsWithItem w) (sym is) tt)

  pub claimed-ends : {r : ArcRef} {place : ℕ} {below after : List Todo} (found : Result Claim Error) {t : Task X XN XH XK XV g gh go gq gp gn} → after
      ≡ claim_todo r place below found
      → KeepsItemOrGivesItsKey {g = g} {gh = gh} {go = go} {gq = gq} {gp = gp} {gn = gn} (to_start r place ∷ below) (Turn.Goes t) after
  claimed-ends {r} {place} {below} found is = goes-ends (λ w h. subst (EndsWithItem w) (sym is) (claim-ends w r place below found h))

  pub written-ends : {x : Todo} (o : Open) {below after : List Todo} {t : Task X XN XH XK XV g gh go gq gp gn}
      → ((w : Written) → EndsWithItem w (x ∷ below) → EndsWithItem w below) → after ≡ advance (to_finish o ∷ below)
      → KeepsItemOrGivesItsKey {g = g} {gh = gh} {go = go} {gq = gq} {gp = gp} {gn = gn} (x ∷ below) (Turn.Goes t) after
  written-ends o {below} f is = goes-ends (λ w h. subst (EndsWithItem w) (sym is) (advance-ends w (to_finish o ∷ below) (f w h)))

  pub given-ends : {r : ArcRef} {key height : ℕ} {below after : List Todo} {t : Task X XN XH XK XV g gh go gq gp gn} → EntryGetsResult r key height below after
      → KeepsItemOrGivesItsKey {g = g} {gh = gh} {go = go} {gq = gq} {gp = gp} {gn = gn} (to_release r key height ∷ below) (Turn.Goes t) after
  given-ends {r} {key} {height} gives = goes-ends (λ w h. subst (EndsWithItem w) (sym gives.is)
      (give-ends w r key height (gives.x ∷ gives.rest) (subst (EndsWithItem w) gives.was h)))

  pub alone-ends : {r : ArcRef} {key height : ℕ} {below : List Todo} {k : ℕ} → below ≡ []
      → KeepsItemOrGivesItsKey {g = g} {gh = gh} {go = go} {gq = gq} {gp = gp} {gn = gn} (to_release r key height ∷ below)
      (Turn.Answers (WorkerAnswer.Key k)) []
  alone-ends none = record { stays = λ w h. tt; over = λ w h. absurd (subst (EndsWithItem w) none h) }

  pub stored-ends : (node : Option ClaimedNode) (written : Written) (keys : List ℕ) (key : ℕ) {turn : Turn X XN XH XK XV g gh go gq gp gn}
      (path : List (WaitingValue X XN XH XK XV g gh go gq gp gn)) → FollowsStore node key turn
      → IfKey turn (λ k. ∥ IsKeyOverResults gh.digest (values_at gn g gh) written k ∥₁)
      → KeepsItemOrGivesItsKey (waits_as node written keys ∷ todos path) turn (todos_after turn path)
  stored-ends None written keys key path is over =
      let at = subst (λ t. IfKey t (λ k. ∥ IsKeyOverResults gh.digest (values_at gn g gh) written k ∥₁)) is over in
      rw is (record { stays = λ w h. tt; over = λ w h. subst (λ x. ∥ IsKeyOverResults gh.digest (values_at gn g gh) x key ∥₁) h.0 at })
  stored-ends (Some n) written keys key path (task, is, goes, plain) over =
      rw is (goes-ends (λ w h. subst (λ x. EndsWithItem w (x ∷ todos path)) (sym goes) h))

  pub failed-ends : (why : PageOutError) {back : Option HandleNumber} {below : List Todo}
      → KeepsItemOrGivesItsKey {g = g} {gh = gh} {go = go} {gq = gq} {gp = gp} {gn = gn} (to_fail (fault_of why) back ∷ below)
      (Turn.Answers (answer_of_fault (fault_of why))) []
  failed-ends why = record { stays = λ w h. tt; over = λ w h. grind tests }

-- an item's answer
pub told-over : (P : ℕ → Type 0) (r : Result ℕ PageOutError) (a : WorkerAnswer) → answer_of r ≡ a → IfKeyOf a P → IfOk r P
told-over P r a is h = grind tests

pub item-ends : (w : Written) {todo : List Todo} → todo ≡ first_todo (of_item w) → EndsWithItem w todo
item-ends w is = subst (EndsWithItem w) (sym is) (advance-ends w (to_item w [] ∷ []) (refl, refl))
