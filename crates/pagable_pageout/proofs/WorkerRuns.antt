-- A turn with the worker's end is a step of the worker, and its steps, one after the other, are a run.
use Rattle.pagable_core.specs.declared.context.writing.SerializedData.{SerializedData}
use Rattle.pagable_load.proofs.LoadSteps.{acts_on, moves_then}
use Rattle.pagable_pageout.proofs.{
  Words.{Action, ArcRef, Claim, EndsIfAnswered, Environments, Equalities, Err, HasWalked, Hashes, IsPagerWhole, List, Nodes, None, Ok, Option, Orders, Owner},
  Words.{PagerState, PartialOrders, PerformsStep, PerformsTask, RunsToAnswer, SameShelf, Shelf, Some, StepResult, Task, Todo, Turn, Values, WorkerAnswer},
  Words.{Written, acts_all, ap, basics, false, identity_of, if_there, if◌then◌else◌, nat_eq, plain, published, refl, same_some, sym, tests, to_fail, to_finish},
  Words.{to_item, to_publish, to_release, to_start, todo_of, true, with_changed_slot, with_outcome, ℕ, ◌∙◌, ◌∷◌, ◌≡◌},
  WorkerTurns.{alike, same-shelf},
}
use Rattle.pagable_pageout.specs.Turns.{IsAlone, LeavesFit, Stepped, answer_in, is_waiting, plain_took, worker_state}
use Rattle.pagable_pager_spec.specs.{
  Access.{worker-ends, worker-goes-on},
  Basics.Identity,
  Events.Ends,
  Pager.Moves,
  Workers.{ComesToEnd, WorkDoes, WorkerState, may-go-on, waits-on, with_failed, works},
  World.{Outcome, Seen, Slot, failed, is_identity, no_result, to_load, to_pin, to_set, to_write},
  declared.events.PinStep.PinStep,
}
use Rattle.std.specs.declared.{alloc.Global.Global, sync.Arc.Arc}

module _ {X XN XH XK XV : Type 0} {g : Environments X XN XH XK XV} {gh : Hashes XH} {go : Orders XK} {gq : Equalities XK} {gp : PartialOrders XK}
    {gn : Nodes XN X XN XH XK XV} {N E : Type 0} {v : Values N} {n : ℕ} where
  -- what the end after a turn does
  closed : {turn : Turn X XN XH XK XV g gh go gq gp gn} {s t : PagerState N E} → EndsIfAnswered v n turn s t
      → Ends (answer_in turn) n s.core t.core × Moves (λ k x. ⊥) s t × (IsPagerWhole v s → IsPagerWhole v t)
      × (LeavesFit n s.core turn → LeavesFit n t.core turn)
  closed {turn} {s} {t} close = grind (basics, alike)

  -- a turn with the worker's end is its step
  pub steps-to : {me : Owner} {shelf shelf' : Shelf} {task : Task X XN XH XK XV g gh go gq gp gn} {below after : List Todo}
      {moved : StepResult X XN XH XK XV g gh go gq gp gn} {s mid t : PagerState N E} → PerformsTask v me n shelf task below shelf' moved after s mid
      → EndsIfAnswered v n moved.turn mid t → PerformsStep v me n shelf task below shelf' moved after s t
  steps-to {shelf' = shelf'} turns close = record {
    steps = λ f.
        let turned = turns.turns f in
        let end = closed close in
        record {
          does = record {
            after = _;
            does = turned.does;
            goes_on = refl;
            shelf_is = same-shelf shelf';
            ends = rw turned.answers end.0;
            moves = moves_then turned.moves end.1;
            holds = moves_then turned.holds end.1;
            writes = turned.writes;
            whole = end.2 turned.whole;
          };
          answers = turned.answers;
          fits = end.3 turned.fits;
        };
    counts = turns.counts;
  }

-- ---- a run

-- who comes to an end isn't the asker
other-ends : {s : Shelf} {v u : ℕ} → ComesToEnd s v u → nat_eq u v ≡ false
other-ends (works u other none) = other
other-ends (may-go-on u i other waits done) = other
other-ends (waits-on u i slot other waits still ends) = other

-- a slot that is changed so is open only where it was, or by this worker's claim
put-alone : (n : ℕ) (shelf shelf' : Shelf) (i : Identity) (new : Option Slot)
    → ((j : Identity) → shelf'.slots j ≡ (if is_identity i j then new else shelf.slots j))
    → ((slot : Slot) → new ≡ Some slot → slot.outcome ≡ no_result → slot.worker ≡ n) → IsAlone n shelf → IsAlone n shelf'
put-alone n shelf shelf' i new puts own alone j slot still = elim (is_identity i j) as
    (λ b. shelf'.slots j ≡ (if b then new else shelf.slots j) → slot.worker ≡ n) [
      | true ↦ λ at. own slot (sym at ∙ still.claimed) still.no_result_yet
      | false ↦ λ at. alone j slot (record { claimed = sym at ∙ still.claimed; no_result_yet = still.no_result_yet })
    ] (puts j)

same-alone : (n : ℕ) (shelf shelf' : Shelf) → ((j : Identity) → shelf'.slots j ≡ shelf.slots j) → IsAlone n shelf → IsAlone n shelf'
same-alone n shelf shelf' same alone j slot still = alone j slot (record { claimed = sym (same j) ∙ still.claimed; no_result_yet = still.no_result_yet })

changed-alone : (n : ℕ) (shelf shelf' : Shelf) (i : Identity) (f : Slot → Slot) → SameShelf (with_changed_slot shelf i f) shelf'
    → ((slot : Slot) → ((f slot).outcome ≡ no_result → slot.outcome ≡ no_result) × ((f slot).worker ≡ slot.worker)) → IsAlone n shelf → IsAlone n shelf'
changed-alone n shelf shelf' i f same keeps alone = put-alone n shelf shelf' i _ same.slots (by (shelf.slots i) refl) alone
  where
    by : (found : Option Slot) → shelf.slots i ≡ found → (slot : Slot) → if_there (λ (old : Slot). Some (f old)) None found ≡ Some slot → slot.outcome
        ≡ no_result → slot.worker ≡ n
    by None there slot is still = absurd (cc)
    by (Some old) there slot is still =
        let e : f old ≡ slot = same_some _ _ is in
        let kept = keeps old in
        sym (ap (λ (x : Slot). x.worker) e) ∙ kept.1 ∙ alone i old (record { claimed = there; no_result_yet = kept.0 (ap (λ (x : Slot). x.outcome) e ∙ still) })

outcome-keeps : (outcome : Outcome) (slot : Slot) → ((with_outcome outcome slot).outcome ≡ no_result → (outcome ≡ no_result → ⊥) → slot.outcome ≡ no_result)
    × ((with_outcome outcome slot).worker ≡ slot.worker)
outcome-keeps outcome slot = grind basics

failed-alone : (n v : ℕ) (shelf shelf' : Shelf) → SameShelf (with_failed shelf v) shelf' → IsAlone n shelf → IsAlone n shelf'
failed-alone n v shelf shelf' same alone i slot still = by (shelf.slots i) refl (sym (same.slots i) ∙ still.claimed)
  where
    by : (found : Option Slot) → shelf.slots i ≡ found → if_there (λ (old : Slot). Some (if nat_eq old.worker v then with_outcome failed old else old)) None
        found ≡ Some slot → slot.worker ≡ n
    by None there is = absurd (cc)
    by (Some old) there is =
        let e = same_some _ _ is in let none_yet = still.no_result_yet in let kept = alone i old in grind basics

module _ {N B W : Type 0} (m : Seen N B W) (n : ℕ) (s s' : WorkerState) where
  -- a step of the worker leaves it alone
  keeps-alone : (todo : List Todo) (step : Action W) → WorkDoes m n s todo step s' → IsAlone n s.shelf → IsAlone n s'.shelf
  keeps-alone (to_start r place ∷ below) (Action.Claim i (Ok Claim.Claimed)) (is, c) alone =
      put-alone n s.shelf s'.shelf (identity_of r) _ c.finds.1.2.table_is.slots (λ slot is still. ap (λ (x : Slot). x.worker) (sym (same_some _ _ is))) alone
  keeps-alone (to_write r place through ∷ below) (Action.Write i (Ok out)) (is, p) alone =
      changed-alone n s.shelf s'.shelf (identity_of r) (λ slot. record slot { references = Some (m.written_of out).references }) p.writes.table_is
      (λ slot. (λ still. still, refl)) alone
  keeps-alone (to_publish r key height ∷ below) (Action.Publish i k h) (is, same_key, same_height, t) alone =
      changed-alone n s.shelf s'.shelf (identity_of r) (with_outcome (published key height)) t.table_is
      (λ slot. (λ still. (outcome-keeps (published key height) slot).0 still (λ e. absurd (cc)), (outcome-keeps (published key height) slot).1)) alone
  keeps-alone (to_fail fault back ∷ below) Action.Fail (back_is, table_is, list_is) alone = failed-alone n n s.shelf s'.shelf table_is alone
  keeps-alone (to_start r place ∷ below) (Action.Claim i (Ok (Claim.Known key height))) (is, c) alone =
      same-alone n s.shelf s'.shelf c.finds.1.2.table_is.slots alone
  keeps-alone (to_start r place ∷ below) (Action.Claim i (Ok Claim.Waiting)) (is, c) alone = same-alone n s.shelf s'.shelf c.finds.1.2.table_is.slots alone
  keeps-alone (to_start r place ∷ below) (Action.Claim i (Ok Claim.AlreadyFailed)) (is, c) alone =
      same-alone n s.shelf s'.shelf c.finds.1.2.table_is.slots alone
  keeps-alone (to_start r place ∷ below) (Action.Claim i (Err e)) (is, c) alone = same-alone n s.shelf s'.shelf c.refused.1.table_is.slots alone
  keeps-alone (to_pin r place ∷ below) (Action.Pin i (Ok (PinStep.Pinned k))) (is, p) alone = same-alone n s.shelf s'.shelf p.pins.2.table_stays.slots alone
  keeps-alone (to_pin r place ∷ below) (Action.Pin i (Ok (PinStep.LoadBegun l))) (is, p) alone = same-alone n s.shelf s'.shelf p.pins.2.table_stays.slots alone
  keeps-alone (to_pin r place ∷ below) (Action.Pin i (Ok PinStep.LoadStepMade)) (is, p) alone = absurd p.pins
  keeps-alone (to_pin r place ∷ below) (Action.Pin i (Err e)) (is, p) alone = same-alone n s.shelf s'.shelf p.refused.1.table_stays.slots alone
  keeps-alone (to_load r place through reading ∷ below) (Action.Pin i (Ok (PinStep.Pinned k))) (is, p) alone =
      same-alone n s.shelf s'.shelf p.goes.1.table_stays.slots alone
  keeps-alone (to_load r place through reading ∷ below) (Action.Pin i (Ok (PinStep.LoadBegun l))) (is, p) alone = absurd p.goes
  keeps-alone (to_load r place through reading ∷ below) (Action.Pin i (Ok PinStep.LoadStepMade)) (is, p) alone =
      same-alone n s.shelf s'.shelf p.goes.2.table_stays.slots alone
  keeps-alone (to_load r place through reading ∷ below) (Action.Pin i (Err e)) (is, p) alone = same-alone n s.shelf s'.shelf p.refused.1.table_stays.slots alone
  keeps-alone (to_write r place through ∷ below) (Action.Write i (Err e)) (is, p) alone = same-alone n s.shelf s'.shelf p.refused.1.table_is.slots alone
  keeps-alone (to_finish o ∷ below) (Action.Store i (Ok key)) (is, p) alone = same-alone n s.shelf s'.shelf p.goes.table_stays.slots alone
  keeps-alone (to_finish o ∷ below) (Action.Store i (Err e)) (is, p) alone = same-alone n s.shelf s'.shelf p.refused.table_stays.slots alone
  keeps-alone (to_item written keys ∷ below) (Action.Store i (Ok key)) (is, p) alone = same-alone n s.shelf s'.shelf p.goes.table_stays.slots alone
  keeps-alone (to_item written keys ∷ below) (Action.Store i (Err e)) (is, p) alone = same-alone n s.shelf s'.shelf p.refused.table_stays.slots alone
  keeps-alone (to_set r through key height ∷ below) (Action.SetKey i (Ok u)) (is, p) alone = same-alone n s.shelf s'.shelf p.goes.table_stays.slots alone
  keeps-alone (to_set r through key height ∷ below) (Action.SetKey i (Err e)) (is, p) alone = same-alone n s.shelf s'.shelf p.refused.table_stays.slots alone
  keeps-alone (to_release r key height ∷ below) (Action.Release i) (is, falls, t) alone = same-alone n s.shelf s'.shelf t.table_stays.slots alone
  keeps-alone todo step does alone = grind tests

module _ {X XN XH XK XV : Type 0} {g : Environments X XN XH XK XV} {gh : Hashes XH} {go : Orders XK} {gq : Equalities XK} {gp : PartialOrders XK}
    {gn : Nodes XN X XN XH XK XV} {N E : Type 0} {v : Values N} {n : ℕ} {shelf : Shelf} {r : ArcRef} {place : ℕ} {below : List Todo} where
  -- a worker that is alone waits for nobody
  none-waits : {after : List Todo} {mid : Shelf} {moved : StepResult X XN XH XK XV g gh go gq gp gn} {s t : PagerState N E}
      → Stepped v n shelf (to_start r place ∷ below) s mid moved after t → IsAlone n shelf → is_waiting moved.action ≡ true → ⊥
  none-waits {moved = moved} {s} st alone waits = by (plain_took moved.action) (waits-plain moved.action waits) st.does.does.does
    where
      waits-plain : (action : Action (Arc SerializedData Global)) → is_waiting action ≡ true → is_waiting (plain_took action) ≡ true
      waits-plain action is = grind tests

      by : (action : Action Written) → is_waiting action ≡ true → WorkDoes (plain v) n (worker_state s.core shelf (to_start r place ∷ below))
          (to_start r place ∷ below) action st.does.after → ⊥
      by (Action.Claim i (Ok Claim.Waiting)) is (at, c) =
          let (slot, still, ends) = c.finds.1.1 in let own : slot.worker ≡ n = alone (identity_of r) slot still in let other =
          other-ends ends in grind tests
      by action is does = grind tests

  -- whatever comes then
  pub waits-walked : {me : Owner} {mid shelf' : Shelf} {after rest : List Todo} {moved : StepResult X XN XH XK XV g gh go gq gp gn}
      {task : Task X XN XH XK XV g gh go gq gp gn} {s t u : PagerState N E} → PerformsStep v me n shelf (Task.Start r place) below mid moved after s t
      → is_waiting moved.action ≡ true → HasWalked v me n shelf (Task.Start r place) below shelf' task rest s u
  waits-walked step waits = record {
    fits = λ f alone. absurd (none-waits (step.steps f) alone waits);
    alone = λ f alone. absurd (none-waits (step.steps f) alone waits);
    then = λ f alone answer u shelf' w. absurd (none-waits (step.steps f) alone waits);
  }

module _ {X XN XH XK XV : Type 0} {g : Environments X XN XH XK XV} {gh : Hashes XH} {go : Orders XK} {gq : Equalities XK} {gp : PartialOrders XK}
    {gn : Nodes XN X XN XH XK XV} {N E : Type 0} {v : Values N} {me : Owner} {n : ℕ} {shelf : Shelf}
    {first : Task X XN XH XK XV g gh go gq gp gn} {below : List Todo} where
  pub none-walked : {s : PagerState N E} → HasWalked v me n shelf first below shelf first below s s
  none-walked = record { fits = λ f alone. f; alone = λ f alone. alone; then = λ f alone answer u shelf' w. w }

  -- a step that goes on
  pub step-walked : {shelf' : Shelf} {next : Task X XN XH XK XV g gh go gq gp gn} {next_below after : List Todo}
      {moved : StepResult X XN XH XK XV g gh go gq gp gn} {s t : PagerState N E} → PerformsStep v me n shelf first below shelf' moved after s t
      → moved.turn ≡ Turn.Goes next → after ≡ todo_of next ∷ next_below → HasWalked v me n shelf first below shelf' next next_below s t
  step-walked {shelf'} {moved = moved} {s = s} step goes is = record {
    fits = λ f alone. let st = step.steps f in record { me_is = f.me_is; whole = st.does.whole; task_fits = rw goes at st.fits };
    alone = λ f alone. let st = step.steps f in same-alone n st.does.after.shelf shelf' st.does.shelf_is.slots
        (keeps-alone (plain v) n (worker_state s.core shelf (todo_of first ∷ below)) st.does.after (todo_of first ∷ below)
        (plain_took moved.action) st.does.does.does alone);
    then = λ f alone answer u last w. let st = step.steps f in
        record { steps = _; run = worker-goes-on _ _ _ _ answer _ _ _ (rw is at st.does) (st.answers ∙ ap answer_in goes) w.run };
  }

  -- one that ends the walk
  pub step-ends : {shelf' : Shelf} {after : List Todo} {moved : StepResult X XN XH XK XV g gh go gq gp gn} {answer : WorkerAnswer} {s t : PagerState N E}
      → PerformsStep v me n shelf first below shelf' moved after s t → moved.turn ≡ Turn.Answers answer
      → RunsToAnswer v me n shelf first below shelf' answer s t
  step-ends {answer = answer} step ends = record {
    runs = λ f alone. let st = step.steps f in
        record { steps = _; run = worker-ends _ _ _ answer _ _ st.does (st.answers ∙ ap answer_in ends) };
  }

pub ruleset joining = (tests, acts_all, acts_on)
