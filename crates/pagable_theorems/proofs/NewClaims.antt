-- What each event does to workers and tables: it changes at most one worker, and claims of that worker.
use Rattle.pagable_pager_spec.specs.{
  Events.{Starts, WorkStays, new_walking},
  Order.{Follows, Leads, MetError, is_claim, own_references, references_written},
  Rightness.{FailedElsewhere, IsMetFailure},
  Workers.{advance, first_todo, is_counted, next_start, with_outcome, with_wait},
  World.{Open, answer_of_fault, is_identity, published, to_publish},
  declared.events.TableNumber.TableNumber,
}
use Rattle.pagable_theorems.proofs.{
  Decoding.{among-left, among-right},
  EventEffects.{event-goes, site_of},
  HandlesKept.{le-of, updated-at},
  SlotsGrow.{AllStand, Covers, CoversBy, Goes, HasNoFailed, SameSlots, ShelfGrows, SlotChanges, Turned, WorkStands, all-stay, changes-slot, failed-goes, fails},
  SlotsGrow.{follows-waits, given-open, gives, grows, is-changed, is-new, is-quiet, is-same, is-self, is-started, is-stepped, is_failed, is_open_in},
  SlotsGrow.{meets-grow, open-slot, own-goes, plain, put-cases, puts-slot, same-slots, settles, some-none, some-same, started-open, swaps, true-false},
  SlotsGrow.work-stands,
  Trees.{same-number, steps_follow},
  Words.{Action, Among, ArcRef, Call, Claim, Core, Err, Error, Event, EventReply, Happens, Identity, IsIdle, KeepsOpen, List, MachineState, None, Ok, Option},
  Words.{Seen, Shelf, Slot, Some, Task, Todo, Walking, WorkDoes, WorkerAnswer, WorkerNumber, WorkerReply, WorkerState, WorkerSteps, World, Written},
  Words.{answer_after, ap, arith, basics, cases_Bool, drop, false, false_from_ne_true, give, identity_of, if◌then◌else◌, inl, inr, length, nat_eq, no_result},
  Words.{one, refl, rules, step_of, subst, sum_by-cons, sym, times, to_fail, to_finish, to_item, to_load, to_pin, to_release, to_set, to_start, to_write, true},
  Words.{updated, world_of, ℕ, [], ◌*◌, ◌++◌, ◌+◌, ◌<◌, ◌==◌, ◌∙◌, ◌∷◌, ◌≡◌, ◌≤◌, ◌⊎◌},
}
use Rattle.std.proofs.{Common.{append-nil, length-append, ◌-◌}, lemmas.{Bool.{or_cases, or_left, or_right}, List.{Sums.sum_by-append, length-drop}}}
use Rattle.std.specs.List.{sum_by}

-- ---- whatever a worker does, what stands of its list and of its table stands afterwards

module _ {N B W : Type 0} (m : Seen N B W) (v : ℕ) (task : Task) (s s' : WorkerState) where
  to-list : {answer : Option WorkerAnswer} {todo : List Todo} → s'.todo ≡ todo → Goes v task s.shelf answer s'.shelf todo
      → Goes v task s.shelf answer s'.shelf s'.todo
  to-list {answer = answer} e goes = subst (λ t. Goes v task s.shelf answer s'.shelf t) (sym e) goes

  released : (r : ArcRef) (key height : ℕ) (below : List Todo) → AllStand s.shelf v task (to_release r key height ∷ below)
      → CoversBy v task s.shelf (to_release r key height ∷ below)
      → ((i : Identity) → s'.shelf.slots i ≡ s.shelf.slots i) → (step : Action W)
      → Goes v task s.shelf (answer_after (to_release r key height ∷ below) step) s'.shelf (give r key height below)
  released r key height below (stands, apart, rest) covers same step =
      plain v task s.shelf s'.shelf same _ (give r key height below) (λ a is. grind basics) (gives v task s.shelf r key height below rest)
      (λ i slot there own still. given-open v task s.shelf i r key height below ∙ covers i slot there own still)

  pub stands-on : (todo : List Todo) → s.todo ≡ todo → AllStand s.shelf v task todo → Covers s.shelf v todo → (step : Action W) → WorkDoes m v s todo step s'
      → Goes v task s.shelf (answer_after todo step) s'.shelf s'.todo
  stands-on (to_start r place ∷ below) e (meets, apart, rest) covers (Action.Claim i (Ok Claim.Claimed)) (is, c) =
      let new : Slot = record { worker = v; references = None; outcome = no_result } in
      let free : is_open_in (identity_of r) below ≡ false = false_from_ne_true (is_open_in (identity_of r) below)
      (λ is. let a = open-slot v task s.shelf (identity_of r) below rest is in some-none a.1 c.finds.1.1) in
      to-list c.finds.1.2.list_is (own-goes v task s.shelf s'.shelf (identity_of r) new (to_pin r place ∷ below)
      (puts-slot (with_wait s.shelf v None) s'.shelf (identity_of r) new c.finds.1.2.table_is) (is-new new c.finds.1.1 refl refl) meets refl
      (λ changes now. (grind (basics, all-stay, grows, false_from_ne_true, true-false, is-same, is-self)))
      (grind (basics, put-cases, identity_of, is_open_in, or_right, is_identity, or_left, is-self)))
  -- the key of the reference was known
  stands-on (to_start r place ∷ []) e (meets, apart, rest) covers (Action.Claim i (Ok (Claim.Known key height))) (is, c) = to-list c.finds.1.2.list_is
      (plain v task s.shelf s'.shelf c.finds.1.2.table_is.slots None (to_release r key height ∷ []) (λ a is. absurd (cc)) (
        (meets, c.finds.1.1),
        (λ i no. absurd (cc)),
        tt,
      ) covers)
  stands-on (to_start r place ∷ x ∷ below) e (meets, apart, rest) covers (Action.Claim i (Ok (Claim.Known key height))) (is, c) = to-list c.finds.1.2.list_is
      (plain v task s.shelf s'.shelf c.finds.1.2.table_is.slots None (give r key height (x ∷ below)) (λ a is. absurd (cc))
      (gives v task s.shelf r key height (x ∷ below) rest)
      (λ i slot there own still. given-open v task s.shelf i r key height (x ∷ below) ∙ covers i slot there own still))
  stands-on (to_start r place ∷ below) e all covers (Action.Claim i (Ok Claim.Waiting)) (is, c) = to-list (c.finds.1.2.list_is ∙ e)
      (plain v task s.shelf s'.shelf c.finds.1.2.table_is.slots None (to_start r place ∷ below) (λ a is. absurd (cc)) all covers)
  stands-on (to_write r place through ∷ below) e ((meets, c), apart, rest) covers (Action.Write i (Ok out)) (is, p) =
      let new : Slot = record c.slot { references = Some (m.written_of out).references } in
      let puts = changes-slot s.shelf s'.shelf (identity_of r) c.slot (λ slot. record slot { references = Some (m.written_of out).references }) c.claimed
      p.writes.table_is in
      let o : Open = record { reference = r; place = place; through = through; written = m.written_of out; keys = []; height = 0 } in
      to-list p.writes.list_is (own-goes v task s.shelf s'.shelf (identity_of r) new (advance (to_finish o ∷ below)) puts
      (is-changed c.slot new c.claimed c.own refl (grind (basics, some-none))) meets (ap is_failed c.no_result_yet)
      (λ changes now. settles v task s'.shelf o below (grind (basics, all-stay, grows, false_from_ne_true, true-false, is-same, is-self)))
      (grind (basics, or_right, started-open, put-cases, is_identity, or_left, is-self)))
  stands-on (to_publish r key height ∷ below) e ((meets, c), apart, rest) covers (Action.Publish i k h) (is, same_key, same_height, t) =
      let new = with_outcome (published key height) c.slot in
      let puts = changes-slot s.shelf s'.shelf (identity_of r) c.slot (with_outcome (published key height)) c.claimed t.table_is in
      to-list t.list_is (own-goes v task s.shelf s'.shelf (identity_of r) new (to_release r key height ∷ below) puts
      (is-changed c.slot new c.claimed c.own refl (grind arith)) meets (grind arith)
      (λ changes now. (grind (basics, all-stay, grows, false_from_ne_true, true-false, is-same, is-self)))
      (grind (basics, put-cases, or_cases, true-false, is-same, is-self)))
  stands-on (to_fail fault back ∷ below) e all covers Action.Fail (back_is, table_is, list_is) =
      to-list list_is (failed-goes v task s.shelf s'.shelf (answer_of_fault fault) table_is)
  stands-on _ e all covers step does = grind (basics, to-list, fails, swaps, plain, released)

abbrev pub StandsIn : World → Type 0
StandsIn u = WorkStands u.work.shelves u.work.walkings u.core.last.worker

-- what an event does to the worker that it touches, which makes these steps
pub data OwnTurn {N B W : Type 0} (m : Seen N B W) (u : World) (v : ℕ) (taken : List (Action W)) (u' : World) : Type 0 where
  rests : taken ≡ [] → SameSlots u.work.shelves u'.work.shelves → u'.work.walkings v ≡ u.work.walkings v → OwnTurn m u v taken u'
  begins : (t : TableNumber) (task : Task) → taken ≡ [] → SameSlots u.work.shelves u'.work.shelves → u.work.walkings v ≡ None → u'.work.walkings v
      ≡ Some (new_walking t task) → OwnTurn m u v taken u'
  steps : (k : WorkerNumber) (reply : WorkerReply W) → k.0 ≡ v → taken ≡ reply.action ∷ [] → WorkerSteps m u k reply u' → OwnTurn m u v taken u'

pub record EventTurns {N B W : Type 0} (m : Seen N B W) (u : World) (event : Event N B W) (reply : EventReply N B W) (u' : World) : Type 0 where
  pub who : ℕ
  pub turned : Turned who u.work.shelves u'.work.shelves u.work.walkings u'.work.walkings
  pub last : u.core.last.worker ≤ u'.core.last.worker
  pub small : who ≤ u'.core.last.worker
  pub others : (n : ℕ) → nat_eq n who ≡ false → step_of n event reply ≡ []
  pub own : OwnTurn m u who (step_of who event reply) u'

updated-off : {X : Type 0} (n : ℕ) (x : X) (f : ℕ → X) (q : ℕ) → nat_eq q n ≡ false → updated n x f q ≡ f q
updated-off n x f q e = let a : (q == n) ≡ false = grind basics in ap (λ b. if b then x else f q) a

pub goes-same : (v : ℕ) (task : Task) (shelf mid shelf' : Shelf) (answer : Option WorkerAnswer) (todo : List Todo)
    → ((i : Identity) → shelf'.slots i ≡ mid.slots i)
    → Goes v task shelf answer mid todo → Goes v task shelf answer shelf' todo
goes-same v task shelf mid shelf' answer todo same g =
    let more = grows v mid shelf' (same-slots v mid shelf' same) in
    let changes : (i : Identity) → SlotChanges v (shelf.slots i) (shelf'.slots i) =
    λ i. subst (λ o. SlotChanges v (shelf.slots i) o) (sym (same i)) (g.changes i) in
    grind (arith, changes, all-stay v task mid shelf' more todo (λ i is slot there own. same i ∙ there) g.all, same, meets-grow mid shelf' task)

module _ {N B W : Type 0} (m : Seen N B W) (u u' : World) (work : StandsIn u) where
  module _ (event : Event N B W) (reply : EventReply N B W) (h : Happens m u event reply u') where
    last-on : u.core.last.worker ≤ u'.core.last.worker
    last-on = let cases : KeepsOpen event ⊎ (event ≡ Event.Call Call.Close) = grind basics in elim cases [
      | inl keeps ↦ (event-goes m u u' event reply keeps h).goes.workers_last
      | inr closes ↦ (grind (basics, le-of))
    ]

    quiet : ((n : ℕ) → step_of n event reply ≡ []) → SameSlots u.work.shelves u'.work.shelves → ((v : ℕ) → u'.work.walkings v ≡ u.work.walkings v)
        → EventTurns m u event reply u'
    quiet no_step same stay = grind (basics, is-quiet, last-on)

    by-work : ((n : ℕ) → step_of n event reply ≡ []) → WorkStays u.work u'.work → EventTurns m u event reply u'
    by-work no_step w = quiet no_step (λ t i. (w.shelves t).slots i) w.walkings

    starts : ((n : ℕ) → step_of n event reply ≡ []) → (t : TableNumber) (task : Task) (core : Core) (v : WorkerNumber) → core.last.worker ≡ u.core.last.worker
        → Starts u t task core v u'
        → EventTurns m u event reply u'
    starts no_step t task core v same s =
        let above : u.core.last.worker < v.0 = omega arith in
        let last : u'.core.last.worker ≡ core.last.worker + 1 = ap (λ l. l.worker) s.pager.last in
        let new : u'.work.walkings v.0 ≡ Some (new_walking t task) = s.work.same_walkings v.0 ∙ updated-at v.0 (Some (new_walking t task)) u.work.walkings in
        let turned = is-started u.work.shelves u'.work.shelves u.work.walkings u'.work.walkings u.core.last.worker work (λ q i. (s.work.same_shelves q).slots i)
        v.0 (new_walking t task) above refl refl new (λ n other. s.work.same_walkings n
        ∙ updated-off v.0 (Some (new_walking t task)) u.work.walkings n other) in
        let own : OwnTurn m u v.0 (step_of v.0 event reply) u' = begins t task (no_step v.0) (λ q i. (s.work.same_shelves q).slots i)
        (grind basics) new in
        record { who = v.0; turned = turned; last = last-on; small = omega (arith, s.next); others = λ n other. no_step n; own = own }

  pub event-turns : ((v : ℕ) (w : Walking) → u.work.walkings v ≡ Some w → w.table ≤ u.work.last_table) → (event : Event N B W) (reply : EventReply N B W)
      → Happens m u event reply u'
      → EventTurns m u event reply u'
  event-turns tables Event.TableNew (EventReply.TableMade (Ok t)) h =
      let w = h.made.3 in let next = h.made.0 in let nothing : (i : Identity) (slot : Slot) → (u.work.shelves t.0).slots i ≡ Some slot → ⊥ =
      λ i slot there. let s = work.slots t.0 i slot there in absurd (omega (arith, tables slot.worker s.walking s.there)) in
      quiet _ _ h (λ n. refl) (λ q i. grind (basics, cases_Bool (nat_eq q t.0), same-number q t.0, nothing i, (w.same_shelves q).slots i)) w.same_walkings
  event-turns tables (Event.WorkerItem t item) (EventReply.WorkerMade (Ok v)) h = starts _ _ h (λ n. refl) t _ u.core v refl h.starts
  event-turns tables (Event.WorkerListed t i) (EventReply.WorkerMade (Ok v)) h = starts _ _ h (λ n. refl) t _ _ v refl h.starts.5
  event-turns tables (Event.WorkerStep v) (EventReply.WorkerMoved (Ok reply)) h =
      let s = h.moves in let w = s.walking in
      let now : Walking = record w { todo = s.after.todo; steps = reply.steps; answer = reply.answer } in
      let stands = work.workers v.0 w s.at in
      let goes = stands-on m v.0 w.task (site_of u w) s.after w.todo refl stands.all stands.covers reply.action s.does.does in
      let shelf_is : (i : Identity) → (u'.work.shelves w.table).slots i ≡ s.after.shelf.slots i =
      λ i. (s.work.same_shelves w.table).slots i ∙ ap (λ (x : Shelf). x.slots i) (updated-at w.table s.after.shelf u.work.shelves) in
      let turned =
      is-stepped v.0 u.work.shelves u'.work.shelves u.work.walkings u'.work.walkings w now s.at
      (s.work.same_walkings v.0 ∙ updated-at v.0 (Some now) u.work.walkings) refl refl
      (λ n other. s.work.same_walkings n ∙ updated-off v.0 (Some now) u.work.walkings n other)
      (λ t other i. (s.work.same_shelves t).slots i ∙ ap (λ (x : Shelf). x.slots i) (updated-off w.table s.after.shelf u.work.shelves t other))
      (stands.unfailed s.at_work) (follows-waits m.written_of w.todo reply.action s.after.todo (steps_follow m v.0 (site_of u w) s.after reply.action s.does)
      stands.waits)
      (goes-same v.0 w.task (u.work.shelves w.table) s.after.shelf (u'.work.shelves w.table) reply.answer s.after.todo shelf_is (rw s.answers goes)) in
      let few = work.numbered v.0 w s.at in let last = last-on (Event.WorkerStep v) (EventReply.WorkerMoved (Ok reply)) h in
      record {
        who = v.0;
        turned = turned;
        last = last;
        small = omega arith;
        others = λ n other. grind basics;
        own = steps v reply refl (grind basics) s;
      }
  event-turns tables x1 x2 h = grind (basics, by-work)

-- one of two: at the number, or elsewhere
at-number : {X : Type 0} (P : X → Type 0) (k : ℕ) (x : X) (f : ℕ → X) (q : ℕ) → P x → P (f q) → P (updated k x f q)
at-number P k x f q here there = grind basics

pub turns-stand : {N B W : Type 0} (m : Seen N B W) {u u' : World} {event : Event N B W} {reply : EventReply N B W} → EventTurns m u event reply u' → StandsIn u
    → StandsIn u'
turns-stand m {u} {u'} turns work =
    work-stands turns.who u.work.shelves u'.work.shelves u.work.walkings u'.work.walkings turns.turned u.core.last.worker u'.core.last.worker turns.last
    turns.small work

abbrev SameAs : Shelf → Shelf → Type 0
SameAs a b = (i : Identity) → b.slots i ≡ a.slots i

pub same-grow : (a b : Shelf) → SameAs a b → ShelfGrows a b
same-grow a b same = grows 0 a b (same-slots 0 a b same)

-- what holds of each table, and of each worker on its table
pub record HoldsOfAll (u : World) (Slots : Shelf → Type 0) (Walk : ℕ → Shelf → Walking → Type 0) : Type 0 where
  pub slots : (t : ℕ) → Slots (u.work.shelves t)
  pub walks : (n : ℕ) (w : Walking) → u.work.walkings n ≡ Some w → Walk n (u.work.shelves w.table) w

module _ {N B W : Type 0} (m : Seen N B W) {u u' : World} {event : Event N B W} {reply : EventReply N B W} (turns : EventTurns m u event reply u') where
  pub turns-grow : (t : ℕ) → ShelfGrows (u.work.shelves t) (u'.work.shelves t)
  turns-grow t = let turned = turns.turned in grows turns.who (u.work.shelves t) (u'.work.shelves t) (turned.changes t)

  -- so it holds afterwards: of tables that stay, of workers that make no step, of one that begins, and of the table and the worker of a step
  module _ (Slots : Shelf → Type 0) (Walk : ℕ → Shelf → Walking → Type 0) (alike : (a b : Shelf) → SameAs a b → Slots a → Slots b)
      (onward : (a b : Shelf) → ShelfGrows a b → Slots a → (n : ℕ) (w : Walking) → Walk n a w → Walk n b w)
      (stay : (t : ℕ) (shelf : Shelf) → ShelfGrows (u.work.shelves t) shelf → SameAs (u.work.shelves t) shelf → Slots shelf)
      (rest : (n : ℕ) (w : Walking) → step_of n event reply ≡ [] → u.work.walkings n ≡ Some w → Walk n (u'.work.shelves w.table) w)
      (begin : (n : ℕ) (shelf : Shelf) (t : TableNumber) (task : Task) → Walk n shelf (new_walking t task))
      (step : (k : WorkerNumber) (r : WorkerReply W) (s : WorkerSteps m u k r u') → k.0 ≡ turns.who → step_of turns.who event reply ≡ r.action ∷ []
      → ShelfGrows (u.work.shelves s.walking.table) s.after.shelf
      → Slots s.after.shelf × Walk k.0 s.after.shelf (record s.walking { todo = s.after.todo; steps = r.steps; answer = r.answer })) where
    all-hold : ((t : ℕ) → Slots (u'.work.shelves t)) → ((w : Walking) → u'.work.walkings turns.who ≡ Some w → Walk turns.who (u'.work.shelves w.table) w)
        → HoldsOfAll u' Slots Walk
    all-hold slots own = search (rules, nat_eq, true, false)

    pub turns-keep : OwnTurn m u turns.who (step_of turns.who event reply) u' → HoldsOfAll u' Slots Walk
    turns-keep (rests none same still) = all-hold (λ t. stay t (u'.work.shelves t) (turns-grow t) (same t))
        (λ w there. rest turns.who w none (sym still ∙ there))
    turns-keep (begins t task none same nobody new) =
        all-hold (λ q. stay q (u'.work.shelves q) (turns-grow q) (same q))
        (λ w there. subst (λ x. Walk turns.who (u'.work.shelves x.table) x) (some-same new there) (begin turns.who (u'.work.shelves t.0) t task))
    turns-keep (steps k r at one s) =
        let w = s.walking in
        let now : Walking = record w { todo = s.after.todo; steps = r.steps; answer = r.answer } in
        let at_now : u'.work.walkings turns.who ≡ Some now = sym (ap u'.work.walkings at) ∙ s.work.same_walkings k.0
        ∙ updated-at k.0 (Some now) u.work.walkings in
        let table : SameAs s.after.shelf (u'.work.shelves w.table) = λ i. (s.work.same_shelves w.table).slots i
        ∙ ap (λ (z : Shelf). z.slots i) (updated-at w.table s.after.shelf u.work.shelves) in
        let d = step k r s at one (λ i slot there. let a = turns-grow w.table i slot there in (a.0, sym (table i) ∙ a.1, a.2)) in
        all-hold
        (λ t. at-number (λ shelf. SameAs shelf (u'.work.shelves t) → Slots (u'.work.shelves t)) w.table s.after.shelf u.work.shelves t
        (λ same. alike s.after.shelf (u'.work.shelves t) same d.0)
        (stay t (u'.work.shelves t) (turns-grow t)) (s.work.same_shelves t).slots)
        (λ x there. rw (← some-same at_now there, ← at) (onward s.after.shelf (u'.work.shelves w.table)
        (same-grow s.after.shelf (u'.work.shelves w.table) table) d.0 k.0 now d.1))

-- and so it does where nobody works yet
pub idle-stands : {N E : Type 0} (s : MachineState N E) → IsIdle s → StandsIn (world_of s)
idle-stands s idle = grind (arith, some-none)

-- A worker with all its steps so far: what an event adds to them keeps what they come to.

-- ---- bounded steps: what a worker has counted, with what it still has to do, is at most what its claims and references allow

-- how many counted steps are to be done for this at most, with those of references that aren't started yet
abbrev due : Todo → List Todo → ℕ
due (to_start r place) [] = 2
due (to_start r place) (x ∷ below) = 1
due (to_pin r place) below = 6
due (to_load r place through reading) below = 5
due (to_write r place through) below = 5
due (to_finish o) below = 4 + (length o.written.references - (length o.keys + 1))
due (to_item written keys) below = 2 + (length written.references - (length keys + 1))
due (to_set r through key height) below = 3
due (to_publish r key height) below = 2
due (to_release r key height) below = 1
due (to_fail fault back) below = 1

abbrev pub all-due : List Todo → ℕ
all-due [] = 0
all-due (x ∷ below) = due x below + all-due below

-- what waits starts the first of the references that are left, if there is one
started-due : (place : ℕ) (rs : List ArcRef) (x : Todo) (below : List Todo)
    → all-due (next_start place rs ++ x ∷ below) + (length rs - 1) ≤ length rs + all-due (x ∷ below)
started-due place x1 x below = grind basics

given-due : (r : ArcRef) (key height : ℕ) (below : List Todo) → all-due (give r key height below) ≤ all-due below
given-due r key height x3 = grind (basics, started-due, length-drop, length-append)

first-due : (written : Written) (below : List Todo) → all-due (next_start 0 written.references ++ to_item written [] ∷ below) ≤ 2 + length written.references +
    all-due below
first-due written below = grind (arith, started-due)

-- one step pays for itself: out of what was due, of its claim, or of the references that it wrote
pays : {W : Type 0} (f : W → Written) (todo : List Todo) (step : Action W) (next : List Todo) → Follows f todo step next
    → one (is_counted todo step) + all-due next ≤ 8 * one (is_claim step) + references_written f step + all-due todo
pays f (to_start r place ∷ x ∷ xs) (Action.Claim j (Ok (Claim.Known key height))) next (is, e) =
    rw e (omega (arith, given-due r key height (x ∷ xs)))
pays f _ step next follows = grind (basics, given-due)

-- ---- what a worker fails with: a refusal that a step of its own met, or that another's claim has failed where its walk came

pub failed-stays : (n : ℕ) (shelf shelf' : Shelf) (i : Identity) → ShelfGrows shelf shelf' → FailedElsewhere shelf n i → FailedElsewhere shelf' n i
failed-stays n shelf shelf' i more was = grind arith

module _ {W : Type 0} (n : ℕ) where
  met-stays : (shelf shelf' : Shelf) (past more : List (Action W)) (answer : WorkerAnswer) → ShelfGrows shelf shelf'
      → ((x : Action W) → Among past x → Among more x)
      → IsMetFailure shelf n past answer → IsMetFailure shelf' n more answer
  met-stays shelf shelf' past more x4 grown on x7 = grind (basics, on, failed-stays)

  abbrev pub FailsMet : Shelf → List (Action W) → List Todo → Type 0
  FailsMet shelf past [] = Unit {0}
  FailsMet shelf past (to_fail fault back ∷ below) = IsMetFailure shelf n past (answer_of_fault fault) × FailsMet shelf past below
  FailsMet shelf past (x ∷ below) = FailsMet shelf past below

  pub fails-stay : (shelf shelf' : Shelf) (past more : List (Action W)) (todo : List Todo) → ShelfGrows shelf shelf'
      → ((x : Action W) → Among past x → Among more x)
      → FailsMet shelf past todo → FailsMet shelf' more todo
  fails-stay shelf shelf' past more [] grown on met = tt
  fails-stay shelf shelf' past more (x ∷ below) grown on met = let rest =
      fails-stay shelf shelf' past more below grown on in grind (basics, rest, met-stays)

  module _ (shelf : Shelf) (past : List (Action W)) where
    started : (place : ℕ) (rs : List ArcRef) (todo : List Todo) → FailsMet shelf past todo → FailsMet shelf past (next_start place rs ++ todo)
    started place x1 todo met = grind basics

    given : (r : ArcRef) (key height : ℕ) (todo : List Todo) → FailsMet shelf past todo → FailsMet shelf past (give r key height todo)
    given r key height x3 met = grind (basics, started)

    pub first-met : (task : Task) → FailsMet shelf past (first_todo task)
    first-met x0 = grind (basics, started)

    refused : (step : Action W) (e : Error) → Among past step → MetError step e → IsMetFailure shelf n past (WorkerAnswer.Failed e) × Unit {0}
    refused step e among met = ((step, among, met), tt)

    on : {next other : List Todo} → next ≡ other → FailsMet shelf past other → FailsMet shelf past next
    on e met = subst (λ t. FailsMet shelf past t) (sym e) met

    -- what follows a step, where the other's claim has failed if that is what was found
    pub follows-met : (f : W → Written) (todo : List Todo) (step : Action W) (next : List Todo) → Follows f todo step next → Among past step
        → ((i : Identity) → step ≡ Action.Claim i (Ok Claim.AlreadyFailed) → FailedElsewhere shelf n i) → FailsMet shelf past todo → FailsMet shelf past next
    follows-met f (to_start r place ∷ below) (Action.Claim j (Ok Claim.AlreadyFailed)) next (is, e) among already met = rw e ((j, among, already j refl), tt)
    follows-met f (to_start r place ∷ below) (Action.Claim j (Err fault)) next (is, e) among already met = rw e (refused _ fault among refl)
    follows-met f (to_pin r place ∷ below) (Action.Pin j (Err fault)) next (is, e) among already met = rw e (refused _ fault among refl)
    follows-met f (to_load r place through reading ∷ below) (Action.Pin j (Err fault)) next (is, e) among already met = rw e (refused _ fault among refl)
    follows-met f (to_write r place through ∷ below) (Action.Write j (Err fault)) next (is, e) among already met = rw e (refused _ fault among refl)
    follows-met f (to_finish o ∷ below) (Action.Store (Some j) (Err fault)) next (is, e) among already met = rw e (refused _ fault among refl)
    follows-met f (to_item written keys ∷ below) (Action.Store None (Err fault)) next e among already met = rw e (refused _ fault among refl)
    follows-met f (to_set r through key height ∷ below) (Action.SetKey j (Err fault)) next (is, e) among already met = rw e (refused _ fault among refl)
    follows-met f _ step next follows among already met = grind (basics, on, given, started, drop)

    -- the answer is what the list was about to fail with, or a key
    pub answered : (todo : List Todo) (step : Action W) (answer : WorkerAnswer) → answer_after todo step ≡ Some answer → FailsMet shelf past todo
        → IsMetFailure shelf n past answer
    answered x0 x1 answer is x4 = grind basics

-- of a worker and its steps: they lead to its list, whatever it fails with was met, and they are within their bound
pub record Went {W : Type 0} (f : W → Written) (n : ℕ) (shelf : Shelf) (w : Walking) (past : List (Action W)) : Type 0 where
  pub leads : Leads f (first_todo w.task) past w.todo
  pub fails : FailsMet n shelf past w.todo
  pub met : (answer : WorkerAnswer) → w.answer ≡ Some answer → IsMetFailure shelf n past answer
  pub within : w.steps + all-due w.todo ≤ 8 * times is_claim past + (own_references w.task + sum_by (references_written f) past) + 4

-- a worker that hasn't begun has made no step
abbrev pub HasGone : {W : Type 0} → (W → Written) → ℕ → (ℕ → Shelf) → Option Walking → List (Action W) → Type 0
HasGone f n shelves None past = past ≡ []
HasGone f n shelves (Some w) past = Went f n (shelves w.table) w past

leads-more : {W : Type 0} (f : W → Written) (todo : List Todo) (past : List (Action W)) (mid : List Todo) (step : Action W) (last : List Todo)
    → Leads f todo past mid → Follows f mid step last
    → Leads f todo (past ++ step ∷ []) last
leads-more f todo [] mid step last is follows = (last, subst (λ t. Follows f t step last) is follows, refl)
leads-more f todo (x ∷ past) mid step last (next, first, leads) follows = (next, first, leads-more f next past mid step last leads follows)

-- where a claim finds one that has failed, it is another's
pub failed-elsewhere : {N B W : Type 0} (m : Seen N B W) (v : ℕ) (s s' : WorkerState) (todo : List Todo) (i : Identity)
    → WorkDoes m v s todo (Action.Claim i (Ok Claim.AlreadyFailed)) s'
    → HasNoFailed s.shelf v → FailedElsewhere s.shelf v i
failed-elsewhere m v s s' (to_start r place ∷ below) i (is, c) clean =
    let found = c.finds.1.1 in
    let claimed = ap s.shelf.slots is ∙ found.1 in
    let other : (found.0.worker == v) ≡ false =
    false_from_ne_true (found.0.worker == v) (λ e. cc (clean i found.0 claimed (same-number found.0.worker v e), ap is_failed found.2)) in
    record { slot = found.0; claimed = claimed; of_another = other; is_failed = found.2 }
failed-elsewhere m v s s' todo i does clean = absurd does

module _ {N B W : Type 0} (m : Seen N B W) (u u' : World) (grow : (t : ℕ) → ShelfGrows (u.work.shelves t) (u'.work.shelves t)) where
  abbrev f : W → Written
  f = m.written_of

  stays : (n : ℕ) (o o' : Option Walking) (past taken : List (Action W)) → o' ≡ o → taken ≡ [] → HasGone f n u.work.shelves o past
      → HasGone f n u'.work.shelves o' (past ++ taken)
  stays n None o' past taken same none gone = rw (same, none, append-nil past) gone
  stays n (Some w) o' past taken same none gone =
      let met = λ (answer : WorkerAnswer). met-stays n (u.work.shelves w.table) (u'.work.shelves w.table) past past answer (grow w.table) (λ x among. among) in
      rw (same, none, append-nil past)
      (search (
        gone.leads,
        fails-stay n (u.work.shelves w.table) (u'.work.shelves w.table) past past w.todo (grow w.table) (λ x among. among) gone.fails,
        met,
        gone.met,
        gone.within,
      ))

  begun : (n : ℕ) (t : TableNumber) (task : Task) (past taken : List (Action W)) → taken ≡ [] → u.work.walkings n ≡ None → u'.work.walkings n
      ≡ Some (new_walking t task)
      → HasGone f n u.work.shelves (u.work.walkings n) past → HasGone f n u'.work.shelves (u'.work.walkings n) (past ++ taken)
  begun n t task past taken none nobody new gone = search (rules, f, new_walking, fails, first-met, first-due, append-nil)

  went-on : StandsIn u → (k : WorkerNumber) (reply : WorkerReply W) (past : List (Action W)) → WorkerSteps m u k reply u'
      → HasGone f k.0 u.work.shelves (u.work.walkings k.0) past
      → HasGone f k.0 u'.work.shelves (u'.work.walkings k.0) (past ++ reply.action ∷ [])
  went-on work k reply past s gone =
      let w = s.walking in
      let shelf = u.work.shelves w.table in
      let shelf' = u'.work.shelves w.table in
      let now : Walking = record w { todo = s.after.todo; steps = reply.steps; answer = reply.answer } in
      let new : u'.work.walkings k.0 ≡ Some now = s.work.same_walkings k.0 ∙ updated-at k.0 (Some now) u.work.walkings in
      let was = subst (λ o. HasGone f k.0 u.work.shelves o past) s.at gone in
      let follows = steps_follow m k.0 (site_of u w) s.after reply.action s.does in
      let fails = fails-stay k.0 shelf shelf' past (past ++ reply.action ∷ []) w.todo (grow w.table) (λ x (i, at). among-left past (reply.action ∷ []) i x at)
      was.fails in
      let already : (i : Identity) → reply.action ≡ Action.Claim i (Ok Claim.AlreadyFailed) → FailedElsewhere shelf' k.0 i =
      λ i is. failed-stays k.0 shelf shelf' i (grow w.table)
      (failed-elsewhere m k.0 (site_of u w) s.after w.todo i (subst (λ step. WorkDoes m k.0 (site_of u w) w.todo step s.after) is s.does.does)
      ((work.workers k.0 w s.at).unfailed s.at_work)) in
      let leads = leads-more f (first_todo w.task) past w.todo reply.action s.after.todo was.leads follows in
      let left = follows-met k.0 shelf' (past ++ reply.action ∷ []) f w.todo reply.action s.after.todo follows
      (among-right past (reply.action ∷ []) 0 reply.action refl) already fails in
      let met = λ (answer : WorkerAnswer) (is : reply.answer ≡ Some answer). answered k.0 shelf' (past ++ reply.action ∷ []) w.todo reply.action answer
      (sym s.answers ∙ is) fails in
      let counts = s.counts in let was_so = was.within in let paid = pays f w.todo reply.action s.after.todo follows in
      rw new (record { leads = leads; fails = left; met = met; within = grind (basics, sum_by-append, sum_by-cons) })

-- whatever an event does, its steps are added
pub goes-on : {N B W : Type 0} (m : Seen N B W) (u u' : World) (event : Event N B W) (reply : EventReply N B W) → StandsIn u → EventTurns m u event reply u'
    → (n : ℕ) (past : List (Action W))
    → HasGone m.written_of n u.work.shelves (u.work.walkings n) past → HasGone m.written_of n u'.work.shelves (u'.work.walkings n)
    (past ++ step_of n event reply)
goes-on {W = W} m u u' event reply work turns n past gone = elim (cases_Bool (nat_eq n turns.who)) [
  | inl e ↦ let is = same-number n turns.who e in let before = rw is at gone in rw is (grind (basics, stays, begun, went-on))
  | inr e ↦ stays m u u' (turns-grow m turns) n (u.work.walkings n) (u'.work.walkings n) past (step_of n event reply) (turns.turned.others n e)
      (turns.others n e) gone
]
