-- A pager on which nobody else works, and which stands for trees, does so after each whole operation: an item, the list, a call.
use Rattle.pagable_pager_spec.specs.{
  Access.{AccessState, EntryRun, ItemRun, ListRun, MakesCall, WalkStep, WorkerRun, WorkerStarts, entry-is-refused, entry-is-walked, fails, item-is-walked},
  Access.{no-entry-worker, no-more, no-worker, pages, skips, worker-ends, worker-goes-on},
  Events.{CallDoes, IsEntry, entry_task, no_shelf, steps_after, with_entry_taken},
  Kinds.HasKinds,
  Rightness.{IsRight, LeavesAll, PinGives},
  Runs.{AsksWell, EventDoes, IsPremised, TodoAsksWell},
  Workers.{first_todo, is_counted},
  World.{SameShelf, Work},
}
use Rattle.pagable_theorems.proofs.{
  CallEffects.calls-go,
  Chains.{IsGoingOn, goes, idle-goes},
  EventEffects.event-goes,
  HandlesKept.{rows-self, updated-at},
  LoadProgress.{moves-as, settled-on},
  LoadResults.{After, after-then, answered},
  Moments.{IsAtRest, WorksAlone, at-rest, at-work, entry-began, item-began, moved, reply-of, rest-whole, same-shelf, table-made, walking-on, with-table},
  Moments.{with-table-rests, works-alone},
  ReadingSteps.caller-free,
  TablesKept.{done-on, keys-same},
  Trees.{same-number, same_some},
  Words.{Action, Alike, Call, Core, Event, EventReply, HandleNumber, HandleRow, HoldsSettled, IsLawful, IsPagerWhole, IsWellAsked, KeepsOpen, List},
  Words.{MachineState, Moment, None, Ok, Option, Owner, PagerStandsFor, PagerState, Reply, Result, Seen, Shelf, Some, Task, Todo, Tree, Values, Walking},
  Words.{WorkerAnswer, WorkerState, answer_after, ap, arith, basics, cases_Bool, inl, inr, length, of_item, refl, subst, sym, true, world_of, ℕ, ◌+◌, ◌<◌},
  Words.{◌==◌, ◌∙◌, ◌≡◌, ◌≤◌},
}
use Rattle.pagable_theorems.specs.{
  CallerLaws.{CallIsRight, IsCall},
  PageOutLaws.{EachIsPagedOut, EntryAsksWell, EntryIsPagedOut, ItemAsksWell, ItemLaw, LeavesPagedOut, ListAsksWell, ListLaw, NobodyWorks, WorkerAsksWell},
  SmallWorlds.no_work,
  TreeSteps.{Ground, IsDone, SlotsFit, Walks},
}
use Rattle.std.specs.Prelude.{is_none}

-- ---- where the pager stands for trees, so it does afterwards

-- where the pager stands for trees, with all that is asked of it
pub record Stands {N E : Type 0} (v : Values N) (s : PagerState N E) (trees : ℕ → Tree) : Type 0 where
  pub well : IsPagerWhole v s
  pub nobody : NobodyWorks s.core
  pub settled : HoldsSettled v s
  pub stands : PagerStandsFor v s trees

-- afterwards, with the trees that there are then
pub record Stays {N E : Type 0} (v : Values N) (s : PagerState N E) (trees : ℕ → Tree) (s' : PagerState N E) : Type 0 where
  pub trees' : ℕ → Tree
  pub after : After v s trees s' trees'
  pub now : Stands v s' trees'

abbrev pub stays-then : {N E : Type 0} {v : Values N} {s mid s' : PagerState N E} {trees trees' : ℕ → Tree} → After v s trees mid trees' → Stays v mid trees' s'
    → Stays v s trees s'
stays-then a r = record { trees' = r.trees'; after = after-then a r.after; now = r.now }

abbrev pub ground : {N E : Type 0} → PagerState N E → (ℕ → Tree) → Ground
ground s trees = record { stored = s.core.stored; last = s.core.last.node; trees = trees }

-- after a worker's answer: where that is a key, all that its task met is left paged out; and its table fits the trees
pub record Ended {N E : Type 0} (v : Values N) (s : PagerState N E) (trees : ℕ → Tree) (answer : WorkerAnswer) (task : Task)
    (s' : AccessState N E) : Type 0 where
  pub stays : Stays v s trees s'.pager
  pub out : (key : ℕ) → answer ≡ WorkerAnswer.Key key → LeavesPagedOut v s'.pager s'.shelf stays.trees' task key
  pub slots : SlotsFit v (ground s'.pager stays.trees') s'.shelf
  pub done : (key : ℕ) → answer ≡ WorkerAnswer.Key key → IsDone v s'.shelf task key

from-after : {N E : Type 0} {v : Values N} {s mid : PagerState N E} {trees trees' : ℕ → Tree} {answer : WorkerAnswer} {task : Task} {s' : AccessState N E}
    → After v s trees mid trees' → Ended v mid trees' answer task s' → Ended v s trees answer task s'
from-after a r = record { stays = stays-then a r.stays; out = r.out; slots = r.slots; done = r.done }

module _ {N E B W : Type 0} (m : Seen N B W) (lawful : IsLawful m.values) where
  record Came (a : MachineState N E) (trees : ℕ → Tree) (x : Moment N E B W) : Type 0 where
    pub trees' : ℕ → Tree
    pub after : After m.values a.pager trees x.after.pager trees'
    pub right : IsRight m.values a trees x.event x.reply x.after trees'
    pub going : IsGoingOn m.values x.after trees'

  comes : (a : MachineState N E) (trees : ℕ → Tree) (x : Moment N E B W) → IsGoingOn m.values a trees → EventDoes m a x.event x.reply x.after
      → IsPremised m.values a trees x.event x.reply x.after → Came a trees x
  comes a trees x on does premised =
      let g = goes m lawful a trees x on does premised in
      let e = event-goes m (world_of a) (world_of x.after) x.event x.reply premised.stays_open does.step.happens in
      record {
        trees' = g.0;
        after = record {
          same = g.1.keeps;
          nodes = e.goes.nodes;
          stands = g.1.stands.pager;
          handles = e.goes.handles;
          rows =
              e.goes.rows;
        };
        right = g.1.so;
        going = g.2;
      }

  module _ (base : Work) (rests : IsAtRest base) (n t : ℕ) (there : (0 < t) × (t ≤ base.last_table)) (task : Task) where
    abbrev at : AccessState N E → List Todo → ℕ → Option WorkerAnswer → MachineState N E
    at = at-work m base rests n t there task

    step-comes : (s s' : AccessState N E) (todo next : List Todo) (count : ℕ) (step : Action W) (trees : ℕ → Tree) → WalkStep m n todo s step next s'
        → WorksAlone s.pager.core n true
        → IsGoingOn m.values (at s todo count None) trees → HoldsSettled m.values s'.pager → TodoAsksWell m.values s.pager todo
        → Came (at s todo count None) trees (record {
          event = Event.WorkerStep (record { 0 = n });
          reply = EventReply.WorkerMoved (Ok (reply-of todo count step));
          after = at s' next (steps_after count (is_counted todo step)) (answer_after todo step);
        })
    step-comes s s' todo next count step trees w alone on settled takes =
        comes _ trees _ on (moved m base rests n t there task s s' todo next count step w alone).0 (record {
          settled = settled;
          reads_settled = λ x is. absurd (cc);
          stays_open = tt;
          well = λ walking is. subst (λ (x : Walking). TodoAsksWell m.values s.pager x.todo) (same_some _ _ (sym (updated-at n (Some
              (walking-on t task todo count None)) base.walkings) ∙ is)) takes;
        })

    pub ends : {todo : List Todo} {s s' : AccessState N E} {steps : List (Action W)} {answer : WorkerAnswer} (run : WorkerRun m n todo s steps answer s')
        → WorkerAsksWell run
        → (count : ℕ) (trees : ℕ → Tree) → WorksAlone s.pager.core n true → IsGoingOn m.values (at s todo count None) trees
        → Ended m.values s.pager trees answer task s'
    unfolding WorkerAsksWell
    ends (worker-ends todo next step answer s s' w is) asks count trees alone on =
        let c = step-comes s s' todo next count step trees w alone on asks.0 asks.1 in
        let rested = (moved m base rests n t there task s s' todo next count step w alone).1 in
        let now = walking-on t task next (steps_after count (is_counted todo step)) (answer_after todo step) in
        let there_now = updated-at n (Some now) base.walkings in
        record {
          stays = record {
            trees' = c.trees';
            after = c.after;
            now = record {
              well = w.whole;
              nobody = λ q. elim (cases_Bool (q == n)) [
                | inl e ↦ ap s'.pager.core.workers (same-number q n e) ∙ rested.self ∙ ap (λ (a : Option WorkerAnswer). is_none a) is
                | inr e ↦ rested.others q e
              ];
              settled = asks.0;
              stands = c.after.stands;
            };
          };
          out = λ key same.
              let e : answer_after todo step ≡ Some (WorkerAnswer.Key key) = is ∙ ap Some same in
              record {
                leaves = subst (λ (x : Shelf). LeavesAll m.values s'.pager x c.trees' task) (updated-at t s'.shelf base.shelves)
                    (c.right.leaves now key there_now e);
                is_key = c.right.key now key there_now e;
              };
          slots = subst (λ (x : Shelf). SlotsFit m.values (ground s'.pager c.trees') x) (updated-at t s'.shelf base.shelves) (c.going.fits.slots t);
          done = λ key same.
              let site : WorkerState = record { core = s.pager.core; shelf = s.shelf; todo = todo } in
              let walking = walking-on t task todo count None in
              let walks = subst (λ (x : Shelf). Walks m.values (ground s.pager trees) x task todo) (updated-at t s.shelf base.shelves)
              (on.fits.walks n walking (updated-at n (Some walking) base.walkings)) in
              let a = answered m n (ground s.pager trees) task site w.after todo step w.does.does walks key (is ∙ ap Some same) in
              done-on (keys-same (λ i. w.shelf_is.slots i ∙ a.1 i)) m.values task key a.0;
        }
    ends (worker-goes-on todo next step steps answer s mid s' w is more) asks count trees alone on =
        let c = step-comes s mid todo next count step trees w alone on asks.0 asks.1 in
        let alone' = (moved m base rests n t there task s mid todo next count step w alone).1 in
        let r = ends more asks.2 (steps_after count (is_counted todo step)) c.trees' (subst (λ a. WorksAlone mid.pager.core n (is_none a)) is alone')
        (subst (λ a. IsGoingOn m.values (at mid next (steps_after count (is_counted todo step)) a) c.trees') is c.going) in
        from-after c.after r

-- ---- an item, or an entry of the list, on a new table of a machine that nobody has worked for

nobody-yet : IsAtRest no_work
nobody-yet = record { unread = λ l. refl; answered = λ q w is. absurd (cc) }

module _ {N E B W : Type 0} (m : Seen N B W) (lawful : IsLawful m.values) (s : PagerState N E) (well : IsPagerWhole m.values s) (nobody : NobodyWorks s.core)
    (settled : HoldsSettled m.values s) (trees : ℕ → Tree) (stands : PagerStandsFor m.values s trees) where
  starting : IsGoingOn m.values (at-rest m s no_work) trees
  starting = idle-goes m lawful (at-rest m s no_work) trees (rest-whole m s no_work nobody-yet well nobody)
      (record { no_table = refl; shelves = λ t i. refl; waits = λ t v. refl; readings = λ l. refl; walkings = λ v. refl; nobody = nobody }) settled
      (record { pager = stands; readings = λ reading is. absurd (grind basics) })

module _ {N E B W : Type 0} (m : Seen N B W) (lawful : IsLawful m.values) (s : AccessState N E) (well : IsPagerWhole m.values s.pager)
    (nobody : NobodyWorks s.pager.core)
    (new : SameShelf no_shelf s.shelf) (settled : HoldsSettled m.values s.pager) (trees : ℕ → Tree) (stands : PagerStandsFor m.values s.pager trees) where
  abbrev tabled : Work
  tabled = with-table no_work s.shelf

  tabled-rests : IsAtRest tabled
  tabled-rests = with-table-rests no_work s.shelf nobody-yet

  with-a-table : Came m lawful (at-rest m s.pager no_work) trees (record {
    event = Event.TableNew;
    reply = EventReply.TableMade (Ok
        (record { 0 = 1 }));
    after = at-rest m s.pager tabled;
  })
  with-a-table = comes m lawful _ trees _ (starting m lawful s.pager well nobody settled trees stands)
      (table-made m s.pager no_work s.shelf nobody-yet well nobody new)
      (record { settled = settled; reads_settled = λ x is. absurd (cc); stays_open = tt; well = tt })

  -- what the worker's run on it leaves
  on-new : (n : ℕ) (task : Task) (core : Core) (mid : PagerState N E) (s' : AccessState N E) (steps : List (Action W)) (answer : WorkerAnswer)
      (event : Event N B W)
      → EventDoes m (at-rest m s.pager tabled) event (EventReply.WorkerMade (Ok (record { 0 = n })))
      (at-work m tabled tabled-rests n 1 (omega arith, omega arith) task (record { pager = mid; shelf = s.shelf }) (first_todo task) 0 None)
      → KeepsOpen event → IsWellAsked m.values (at-rest m s.pager tabled) with-a-table.trees' event (EventReply.WorkerMade (Ok (record { 0 = n })))
      → WorkerStarts m.values core s.pager n mid → NobodyWorks core → core.last.worker ≡ s.pager.core.last.worker
      → (run : WorkerRun m n (first_todo task) (record { pager = mid; shelf = s.shelf }) steps answer s') → WorkerAsksWell run
      → Ended m.values s.pager trees answer task s'
  on-new n task core mid s' steps answer event does stays well starts nobody last run asks =
      let c = comes m lawful _ with-a-table.trees' _ with-a-table.going does (record {
        settled = settled-on m.values settled starts.begins.moves;
        reads_settled = λ x is. absurd (cc);
        stays_open = stays;
        well = well;
      }) in
      from-after with-a-table.after (from-after c.after (ends m lawful tabled tabled-rests n 1 (omega arith, omega arith) task run asks 0 c.trees'
      (works-alone n core mid starts.begins.step (starts.next ∙ ap (λ k. k + 1) (sym last)) nobody) c.going))

  pub item-walks : (item : W) {n : ℕ} {mid : PagerState N E} {s' : AccessState N E} {steps : List (Action W)} {answer : WorkerAnswer}
      → WorkerStarts m.values s.pager.core s.pager n mid
      → (run : WorkerRun m n (first_todo (of_item (m.written_of item))) (record { pager = mid; shelf = s.shelf }) steps answer s') → WorkerAsksWell run
      → Ended m.values s.pager trees answer (of_item (m.written_of item)) s'
  item-walks item {n} {mid} {s'} {steps} {answer} starts run asks =
      let task = of_item (m.written_of item) in
      on-new n task s.pager.core mid s' steps answer (Event.WorkerItem (record { 0 = 1 }) item)
      (item-began m tabled tabled-rests n 1 (omega arith, omega arith) task item s mid refl (updated-at 1 s.shelf no_work.shelves) starts nobody) tt tt starts
      nobody refl run asks

  pub entry-walks : (place : ℕ) (h : HandleNumber) (row : HandleRow) (type n : ℕ) (mid : PagerState N E) {s' : AccessState N E} {steps : List (Action W)}
      {answer : WorkerAnswer}
      → IsEntry s.pager.core place h row type → HasKinds type
      → WorkerStarts m.values (with_entry_taken s.pager.core place h (record { 0 = n })) s.pager n mid
      → (run : WorkerRun m n (first_todo (entry_task h row type)) (record { pager = mid; shelf = s.shelf }) steps answer s') → WorkerAsksWell run
      → Ended m.values s.pager trees answer (entry_task h row type) s'
  entry-walks place h row type n mid {s'} {steps} {answer} entry kinds starts run asks =
      let task = entry_task h row type in
      on-new n task (with_entry_taken s.pager.core place h (record { 0 = n })) mid s' steps answer (Event.WorkerListed (record { 0 = 1 }) place)
      (entry-began m tabled tabled-rests n 1 (omega arith, omega arith) task place h row type s mid refl (updated-at 1 s.shelf no_work.shelves) entry kinds
      starts nobody) tt tt starts nobody refl run asks

-- ---- calls

module _ {N E B W : Type 0} (m : Seen N B W) where
  pub call-nobody : {s s' : PagerState N E} {call : Call N B} {reply : Reply N B} → IsCall m s call reply s'
      → KeepsOpen {N = N} {B = B} {W = W} (Event.Call call) → NobodyWorks s.core → NobodyWorks s'.core
  call-nobody {s} {s'} {call} {reply} c stays nobody q = (calls-go m s.core Owner.Caller caller-free s'.core call reply stays c.step.does).does.workers q
      ∙ nobody q

  pub called : (s s' : PagerState N E) (work : Work) (call : Call N B) (reply : Reply N B) → IsAtRest work → IsCall m s call reply s' → NobodyWorks s'.core
      → EventDoes m (at-rest m s work) (Event.Call call) (EventReply.CallReply reply) (at-rest m s' work)
  called s s' work call reply rests c nobody = record {
    step = record {
      happens = record {
        step = c.step;
        readings = λ l. (let f = rests.unread l in (grind basics));
        work = record { shelves = λ t. same-shelf refl; last_table = refl; walkings = λ q. refl };
      };
    };
    moves = c.moves;
    holds = moves-as (λ q x is came. tt) c.moves;
    writes = tt;
    whole = rest-whole m s' work rests c.whole nobody;
  }

-- ---- an operation after the other

call-right : (W : Type 0) {N E B : Type 0} (v : Values N) (s s' : MachineState N E) (trees trees' : ℕ → Tree) (call : Call N B) (reply : Reply N B)
    → PinGives {W = W} v s trees (Event.Call call) (EventReply.CallReply reply) s' trees' → CallIsRight v s'.pager trees' call reply
call-right W v s s' trees trees' x6 x7 gives = grind basics

module _ {N E B W : Type 0} (m : Seen N B W) (lawful : IsLawful m.values) where
  pub call-stays : {s s' : PagerState N E} {trees : ℕ → Tree} (call : Call N B) (reply : Reply N B) → Stands m.values s trees → IsCall m s call reply s'
      → KeepsOpen {N = N} {B = B} {W = W} (Event.Call call)
      → AsksWell m.values s trees call reply → HoldsSettled m.values s' → (a : Stays m.values s trees s') × CallIsRight m.values s' a.trees' call reply
  call-stays {s} {s'} {trees} call reply at c stays asks settled =
      let nobody = call-nobody m c stays at.nobody in
      let g = comes m lawful _ trees _ (starting m lawful s at.well at.nobody at.settled trees at.stands) (called m s s' no_work call reply nobody-yet c nobody)
      (record { settled = settled; reads_settled = λ x is. absurd (cc); stays_open = stays; well = asks }) in (
        record { trees' = g.trees'; after = g.after; now = record { well = c.whole; nobody = nobody; settled = settled; stands = g.after.stands } },
        call-right W m.values (at-rest m s no_work) (at-rest m s' no_work) trees g.trees' call reply g.right.pins_give,
      )

  -- a call that brings no value
  pub plainly : {does : Core → Type 0} {s s' : PagerState N E} (call : Call N B) (reply : Reply N B) → MakesCall m.values does s s'
      → CallDoes m s.core Owner.Caller call reply s'.core → IsCall m s call reply s'
  plainly call reply c does = record { step = record { does = does }; moves = moves-as (λ q x is came. absurd came) c.moves; whole = c.whole }

  pub plain-stays : {does : Core → Type 0} {s s' : PagerState N E} {trees : ℕ → Tree} (call : Call N B) (reply : Reply N B) → Stands m.values s trees
      → MakesCall m.values does s s' → CallDoes m s.core Owner.Caller call reply s'.core → KeepsOpen {N = N} {B = B} {W = W} (Event.Call call)
      → AsksWell m.values s trees call reply → (a : Stays m.values s trees s') × CallIsRight m.values s' a.trees' call reply
  plain-stays call reply at c does stays asks = call-stays call reply at (plainly call reply c does) stays asks (settled-on m.values at.settled c.moves)

  pub stays-same : {s : PagerState N E} {trees : ℕ → Tree} → Stands m.values s trees → Stays m.values s trees s
  stays-same {s} {trees} at = record {
    trees' = trees;
    after = record { same = λ n within. refl; nodes = omega arith; stands = at.stands; handles = omega arith; rows = rows-self _ _ _ refl };
    now = at;
  }

  -- nothing that can be told of changes
  unchanged : {s s' : PagerState N E} {trees : ℕ → Tree} → Stands m.values s trees → MakesCall m.values (λ w'. Alike s.core w') s s'
      → Stays m.values s trees s'
  unchanged {s} at c = (plain-stays Call.Pending (Reply.Length (length s.core.list)) at c (refl, c.step) tt tt).0

  pub entry-stays : {s s' : PagerState N E} {place : ℕ} {answer : WorkerAnswer} {trees : ℕ → Tree} → Stands m.values s trees → (run : EntryRun m s place answer s')
      → EntryAsksWell run
      → (a : Stays m.values s trees s') × ((key : ℕ) → answer ≡ WorkerAnswer.Key key → EntryIsPagedOut m.values s.core place s' a.trees' key)
  entry-stays at (entry-is-refused h row t s' is none c) asks = (unchanged at c, λ key same. absurd (cc))
  entry-stays at (no-entry-worker e s' why c) asks = (unchanged at c, λ key same. absurd (cc))
  entry-stays {s} {place = place} {trees = trees} at (entry-is-walked h row t n steps answer mid s' is kinds starts run) asks =
      let r = entry-walks m lawful (record { pager = s; shelf = no_shelf }) at.well at.nobody
      (same-shelf refl) at.settled trees at.stands place h row t n mid is kinds starts run asks in (
        r.stays,
        λ key same. record { h = h; row = row; t = t; shelf = s'.shelf; entry = is; out = r.out key same },
      )

  pub item-stays : {s s' : AccessState N E} {answer : WorkerAnswer} {trees : ℕ → Tree} (item : W) → Stands m.values s.pager trees → SameShelf no_shelf s.shelf
      → (run : ItemRun m s (m.written_of item) answer s') → ItemAsksWell run
      → (a : Stays m.values s.pager trees s'.pager) × ((key : ℕ) → answer ≡ WorkerAnswer.Key key
      → LeavesPagedOut m.values s'.pager s'.shelf a.trees' (of_item (m.written_of item)) key)
  item-stays item at new (no-worker e s' why c same_shelf) asks = (unchanged at c, λ key same. absurd (cc))
  item-stays {s} {trees = trees} item at new (item-is-walked n steps answer mid s' starts run) asks =
      let r = item-walks m lawful s at.well at.nobody new at.settled trees at.stands item starts run asks in (r.stays, r.out)

  pub list-stays : {i : ℕ} {s s' : PagerState N E} {answer : Result (Unit {0}) WorkerAnswer} {trees : ℕ → Tree} (run : ListRun m i s answer s')
      → Stands m.values s trees → ListAsksWell run
      → Stays m.values s trees s' × EachIsPagedOut run trees
  unfolding ListAsksWell EachIsPagedOut
  list-stays {trees = trees} (no-more s) at asks = (stays-same at, tt)
  list-stays (skips i place key h told answer s mid low s' is has takes releases more) at asks =
      let a = (plain-stays (Call.TakePending place) (Reply.TakenPending (Some h)) at takes takes.step tt tt).0 in
      let b = (plain-stays (Call.Release h) (Reply.Done told) a.now releases releases.step tt tt).0 in
      let r = list-stays more b.now asks in
      let both = after-then a.after b.after in
      (stays-then both r.0, (b.trees', both.same, both.stands, r.1))
  list-stays (pages i place key h answer s mid s' is has entry more) at asks =
      let (a, out) = entry-stays at entry asks.0 in
      let r = list-stays more a.now asks.1 in
      (stays-then a.after r.0, (a.trees', a.after.same, a.after.stands, out key refl, r.1))
  list-stays (fails i place h e s s' is has entry) at asks = let (a, out) = entry-stays at entry asks in (a, tt)

pub list_law : {N B W : Type 0} (E : Type 0) (m : Seen N B W) → ListLaw E m
list_law E m i s s' answer run well nobody asks lawful settled trees stands =
    let r = list-stays m lawful run (record { well = well; nobody = nobody; settled = settled; stands = stands }) asks in
    (r.0.trees', r.0.after.same, r.0.after.stands, r.1)

pub item_law : {N B W : Type 0} (E : Type 0) (m : Seen N B W) → ItemLaw E m
item_law E m s s' item key run well nobody new asks lawful settled trees stands =
    let (a, out) = item-stays m lawful item (record { well = well; nobody = nobody; settled = settled; stands = stands }) new run asks in
    (a.trees', a.after.same, a.after.stands, out key refl)
