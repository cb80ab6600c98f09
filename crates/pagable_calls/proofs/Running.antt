-- A worker's step, and the table that it changes. And a run continues by one more event, and the headline holds of it after whatever was before.
use Rattle.pagable_calls.proofs.{
  Keeping.{Leaves, are-these, as-before, at-one, end-leaves, event-passes, kept-on, leaves-so, makes-with, not-same, one-serves, works_after},
}
use Rattle.pagable_calls.specs.{
  Driving.{Answer, Drives, Given, HeldFitsPager, Holding, IsServing, IsWalkKept, MachineView, Makes, Runs, SetsOne, WalksOn, claims_at, claims_of, holding},
  Driving.{machine_in, machine_of, plain_answer, plain_event, plain_moved, plainly, readings_in, shelf_at, table_view, view_of, walking_of},
  declared.workers.{LoadsAndWorkers.LoadsAndWorkers, WorkerProgress.WorkerProgress},
}
use Rattle.pagable_codec.specs.declared.{env.Env.Ghosts as Environments, hash.KeyHash.Ghosts as Hashes, nodes.NodeSet.Ghosts as Nodes}
use Rattle.pagable_core.specs.declared.{context.writing.SerializedData.SerializedData, storage.data.PagableData.PagableData}
use Rattle.pagable_pageout.specs.{
  Slots.{is_same, slot_of},
  Table.shelf_of,
  Tasks.{EachIsAwaited, todo_of, todos},
  Turns.{LeavesFit, Stepped, TaskFits, answer_in, plain, plain_took, todos_after},
  declared.{lent_table.LentTable.LentTable, tasks.{Task.Task, Turn.Turn}},
}
use Rattle.pagable_pager.specs.View.{PagerView, Storages, pager_state}
use Rattle.pagable_pager_spec.specs.{
  Basics.{if_there, updated},
  Events.{Ends, Happens, WorkerSteps, no_shelf, steps_after},
  Kinds.{is_owner, owner_worker},
  Pager.{IsPagerWhole, MachineState, PagerState, TodoBrings, world_of},
  Runs.{AreMoments, EventDoes, HasRun, Moment, state_after},
  Workers.{WorkerState, answer_after, is_counted},
  World.{Core, SameShelf, Seen, Shelf, Todo, Values, Written},
  declared.events.{Action.Action, Event.Event, EventReply.EventReply, WorkerAnswer.WorkerAnswer, WorkerReply.WorkerReply},
}
use Rattle.pagable_theorems.proofs.{
  Chains.headline_law,
  Effects.owned-mine,
  EventEffects.{FrontMine, walk-goes},
  HandlesKept.updated-at,
  Trees.{chains_join, same-number},
}
use Rattle.pagable_value_spec.specs.declared.numbers.WorkerNumber.{WorkerNumber}
use Rattle.std.proofs.{
  Common.{Bool, List, None, Ok, Option, Some, ap, arith, false, if◌then◌else◌, inl, inr, length, map, refl, rules, subst, suc, sym, true, zero, ℕ, [], ◌++◌},
  Common.{◌==◌, ◌∙◌, ◌∷◌, ◌≡◌, ◌≢◌, ◌≤◌},
  Math.{ListN.set, Path.fun_ext},
  lemmas.{Bool.Decides.nat_tests, Grind.common_steps},
  lemmas.{List.{append-nil, append_assoc, get_or-set_other, get_or-set_same, length-map, length-set, map-append, nil_from_length}, Map.Made.lookup-map_values},
  lemmas.Option.{slice_get-map, slice_get_cases, slice_get_past, slice_get_read, slice_get_within},
}
use Rattle.std.specs.{
  Map.lookup,
  Option.option_map,
  Prelude.{IsTrue, is_none, is_some, nat_eq, slice_get},
  declared.{alloc.Global.Global, cmp.{Ord.Ghosts as Orders, PartialEq.Ghosts as Equalities, PartialOrd.Ghosts as PartialOrders}, sync.Arc.Arc},
}
use Rattle.pagable_pager_spec.specs.Workers as workers

-- ---- a table of a list is written in its place

set-at : {Y : Type 0} (xs : List Y) (place q : ℕ) (x y : Y) → slice_get xs place ≡ Some y → slice_get (set xs place x) q
    ≡ (if q == place then Some x else slice_get xs q)
set-at xs place q x y is = grind (
  arith,
  nat_tests,
  get_or-set_other,
  get_or-set_same,
  length-set,
  set,
  slice_get_cases,
  slice_get_past,
  slice_get_read,
  slice_get_within,
)

-- a worker's step sees no blob
as-does : {N : Type 0} (v : Values N) (n : ℕ) (s s' : WorkerState) (todo : List Todo) (step : Action Written) → workers.WorkDoes (plain v) n s todo step s'
    → workers.WorkDoes (plainly v) n s todo step s'
as-does v n s s' todo step d = grind (arith, nat_tests)

-- the load that it goes on with is its own
front-mine : {X XN XH XK XV : Type 0} {g : Environments X XN XH XK XV} {gh : Hashes XH} {go : Orders XK} {gq : Equalities XK} {gp : PartialOrders XK}
    {gn : Nodes XN X XN XH XK XV} (n : ℕ) (w : Core) (task : Task X XN XH XK XV g gh go gq gp gn) (below : List Todo) → TaskFits n w task
    → FrontMine w (owner_worker n) (todo_of task ∷ below)
front-mine n w x2 below fits = grind (arith, nat_tests, owned-mine)

module _ {X XN XH XK XV : Type 0} {g : Environments X XN XH XK XV} {gh : Hashes XH} {go : Orders XK} {gq : Equalities XK} {gp : PartialOrders XK}
    {gn : Nodes XN X XN XH XK XV} where
  -- the shelf of a table that is set, and of the others
  shelf-set : (tables : List (LentTable X XN XH XK XV g gh go gq gp gn)) (place : ℕ) (table table' : LentTable X XN XH XK XV g gh go gq gp gn) (after : Shelf)
      → slice_get tables place ≡ Some table → SameShelf after (shelf_of table') → (t : ℕ)
      → SameShelf (updated (suc place) after (shelf_at tables) t) (shelf_at (set tables place table') t)
  shelf-set tables place table table' after there same x7 = grind (arith, nat_tests, set-at, same-number, not-same)

pub apart : (q n : ℕ) → q ≢ n → (q == n) ≡ false
apart q n other = first_of (grind (arith, common_steps, nat_tests), grind (arith, nat_tests, same-number), search (rules, same-number))

-- who is at work after its answer
works-others : (answer : Option WorkerAnswer) (n q : ℕ) (works : ℕ → Bool) → q ≢ n → works_after answer n works q ≡ works q
works-others answer n q works other = grind (arith, nat_tests, same-number)

module _ {X XN XH XK XV : Type 0} {g : Environments X XN XH XK XV} {gh : Hashes XH} {go : Orders XK} {gq : Equalities XK} {gp : PartialOrders XK}
    {gn : Nodes XN X XN XH XK XV} {N E : Type 0} (v : Values N) (s s' : PagerState N E)
    (h : Holding g gh go gq gp gn) {tables' : List (LentTable X XN XH XK XV g gh go gq gp gn)}
    {walks' : ℕ → Option (WorkerProgress X XN XH XK XV g gh go gq gp gn)}
    (serving : IsServing s.core h)
    (was : IsPagerWhole v s) (n : WorkerNumber) (k k' : WorkerProgress X XN XH XK XV g gh go gq gp gn) (kept : h.walks n.0 ≡ Some k)
    (reply : WorkerReply (Arc SerializedData Global)) (on : WalksOn v n.0 h.tables k s reply tables' k' s')
    (keeps : SetsOne h.walks n.0 (Some k') walks') where
  abbrev after : Holding g gh go gq gp gn
  after = record h { tables = tables'; walks = walks' }

  abbrev m : Seen N PagableData Written
  m = plainly v

  abbrev turn : Turn X XN XH XK XV g gh go gq gp gn
  turn = on.moved.turn

  abbrev step : Action Written
  step = plain_took on.moved.action

  abbrev todo : List Todo
  todo = todo_of on.task ∷ todos k.path.items

  abbrev told : WorkerReply Written
  told = record { action = step; answer = answer_in turn; steps = k'.steps }

  mine : IsWalkKept s.core (length h.tables) n.0 k
  mine = serving.walks n.0 k kept

  fits : TaskFits n.0 s.core on.task
  fits = subst (λ t. LeavesFit n.0 s.core t) on.had mine.fits

  done : Stepped v n.0 (shelf_of on.table) todo s (shelf_of on.table') on.moved (todos_after turn k'.path.items) s'
  done = on.steps.steps (record { me_is = refl; whole = was; task_fits = fits })

  ends : Ends (answer_in turn) n.0 done.does.after.core s'.core
  ends = subst (λ a. Ends a n.0 done.does.after.core s'.core) done.answers done.does.ends

  leaves : Leaves (owner_worker n.0) (works_after (answer_in turn) n.0 s.core.workers) s.core s'.core
  leaves =
      let goes = walk-goes (plain v) n.0 (record { core = s.core; shelf = shelf_of on.table; todo = todo }) done.does.after todo step done.does.does.does in
      end-leaves (answer_in turn) n.0 (leaves-so goes.does (front-mine n.0 s.core on.task (todos k.path.items) fits)) ends

  -- its list and table are those that the machine knows
  todo-is : todos_after k.turn k.path.items ≡ todo
  todo-is = ap (λ t. todos_after t k.path.items) on.had

  len : length tables' ≡ length h.tables
  len = ap length on.sets ∙ length-set h.tables on.place on.table'

  shelf-is : shelf_at h.tables k.table ≡ shelf_of on.table
  shelf-is = ap (shelf_at h.tables) on.on ∙ ap (λ (found : Option (LentTable X XN XH XK XV g gh go gq gp gn)). if_there shelf_of no_shelf found) on.there

  walking-is : walking_of k' ≡ record (walking_of k) { todo = done.does.after.todo; steps = k'.steps; answer = answer_in turn }
  walking-is = first_of (grind (arith, common_steps, nat_tests), search (rules))

  steps-so : WorkerSteps m (world_of (machine_of s h)) n told (world_of (machine_of s' after))
  steps-so = record {
    walking = walking_of k;
    after = done.does.after;
    at = ap (option_map walking_of) kept;
    at_work = ap answer_in on.had;
    does = rw (shelf-is, todo-is) (record { does = as-does v n.0 _ _ todo step done.does.does.does });
    answers = sym done.answers ∙ ap (λ list. answer_after list step) (sym todo-is);
    counts = on.after.steps ∙ ap (steps_after k.steps) (on.steps.counts ∙ ap (λ list. is_counted list step) (sym todo-is));
    ends = ends;
    readings = are-these s'.core h.readings (readings_in h.readings s.core) (λ l load is. as-before serving.readings leaves l load is);
    work = record {
      same_shelves = λ t. subst (λ number. SameShelf (updated number done.does.after.shelf (shelf_at h.tables) t) (shelf_at tables' t)) (sym on.on)
          (subst (λ tables. SameShelf (updated (suc on.place) done.does.after.shelf (shelf_at h.tables) t) (shelf_at tables t)) (sym on.sets)
          (shelf-set h.tables on.place on.table on.table' done.does.after.shelf on.there done.does.shelf_is t));
      last_is = len;
      same_walkings = λ q. at-one walking_of n.0 (Some k') _ (λ u. option_map walking_of (h.walks u)) keeps (ap Some walking-is) q refl;
    };
  }

  happens : Happens m (world_of (machine_of s h)) (Event.WorkerStep n) (EventReply.WorkerMoved (Ok told)) (world_of (machine_of s' after))
  happens = record { moves = steps-so; refused = tt }

  still : IsWalkKept s'.core (length tables') n.0 k'
  still =
      let at_work : s.core.workers n.0 ≡ true = mine.at_work ∙ ap (λ t. is_none (answer_in t)) on.had in
      record {
        stands = record {
          table = rw (on.after.table, len) mine.stands.table;
          way = subst (λ t. EachIsAwaited (todos_after t k'.path.items)) (sym on.after.turn) on.way;
        };
        at_work = grind (arith, nat_tests, at_work, leaves, updated-at);
        fits = subst (λ t. LeavesFit n.0 s'.core t) (sym on.after.turn) done.fits;
      }

  pub worker-moved : Makes m s h (Event.WorkerStep n) (EventReply.WorkerMoved (Ok (plain_moved reply))) s' after
  worker-moved = rw on.replies (makes-with m s s' {h' = after} done.does.whole (Event.WorkerStep n) (EventReply.WorkerMoved (Ok told)) happens
      (record {
        each = λ q x is. elim (done.does.moves.each q x is) [
          | inl there ↦ inl there
          | inr (none, came) ↦ inr (
            none,
            (
              walking_of k,
              ap (option_map walking_of) kept,
              subst (λ (list : List Todo). TodoBrings v s.core list q x) (sym todo-is) came,
            ),
          )
        ];
        environment = done.does.moves.environment;
      }) done.does.holds done.does.writes
      (one-serves {h' = after} serving was.whole.handles n.0 k' keeps (subst (λ last. length h.tables ≤ last) (sym len) (omega arith))
      (kept-on serving.readings leaves (λ l own is. inl is))
      (λ q other. event-passes m q (world_of (machine_of s h)) (world_of (machine_of s' after)) was.whole (Event.WorkerStep n)
      (EventReply.WorkerMoved (Ok told))
      (ap (λ b. if b then step ∷ [] else []) (apart n.0 q (λ is. other (sym is)))) happens
      (λ l load is own. leaves.others l load is (was.whole.loads.numbered l (ap is_some is)).1 (ap (is_owner (owner_worker n.0)) own ∙ apart q n.0 other)))
      (λ q other. leaves.workers q ∙ works-others (answer_in turn) n.0 q s.core.workers other) still))

-- ---- what the machine's value shows of tables and workers is what it keeps of them

module _ {X XN XH XK XV : Type 0} {g : Environments X XN XH XK XV} {gh : Hashes XH} {go : Orders XK} {gq : Equalities XK} {gp : PartialOrders XK}
    {gn : Nodes XN X XN XH XK XV} where
  claims-are : (t : LentTable X XN XH XK XV g gh go gq gp gn) → claims_of (table_view t) ≡ shelf_of t
  claims-are t = ap (λ slots. let s : Shelf = record { slots = slots; waits = λ v. lookup (nat_eq v) t.waits.entries } in s)
      (fun_ext (λ i. lookup-map_values slot_of (is_same (i.kind.0, i.node.0)) t.slots.entries))

  shelves-are : (tables : List (LentTable X XN XH XK XV g gh go gq gp gn)) (t : ℕ) → claims_at (map table_view tables) t ≡ shelf_at tables t
  shelves-are tables zero = refl
  shelves-are tables (suc n) = ap (if_there claims_of no_shelf) (slice_get-map table_view tables n) ∙ by (slice_get tables n)
    where
      by : (found : Option (LentTable X XN XH XK XV g gh go gq gp gn)) → if_there claims_of no_shelf (option_map table_view found)
          ≡ if_there shelf_of no_shelf found
      by None = refl
      by (Some t) = claims-are t

  module _ {N S E H K V : Type 0} (tells : Storages S E N H K V) (p : PagerView N S E) (h : LoadsAndWorkers X XN XH XK XV g gh go gq gp gn) where
    -- the machine by what it keeps
    abbrev pub raw_in : MachineState N E
    raw_in = machine_of (pager_state tells p) (holding h)

    pub view-is : machine_in tells (view_of p h) ≡ raw_in
    view-is =
        let shelves = fun_ext (shelves-are h.tables.items) in
        let last = length-map h.tables.items table_view in
        let walks = fun_ext (λ v. lookup-map_values walking_of (nat_eq v) h.walks.entries) in
        cc

module _ {N E B W : Type 0} (m : Seen N B W) where
  pub run-more : (old mid new : MachineState N E) (happened : List (Event N B W)) (replied : List (EventReply N B W)) (event : Event N B W)
      (reply : EventReply N B W)
      → HasRun m old happened replied mid → EventDoes m mid event reply new
      → HasRun m old (happened ++ event ∷ []) (replied ++ reply ∷ []) new
  unfolding state_after
  run-more old mid new happened replied event reply run does =
      let x : Moment N E B W = record { event = event; reply = reply; after = new } in
      record {
        moments = run.moments ++ x ∷ [];
        events_are = map-append (λ y. y.event) run.moments (x ∷ []) ∙ ap (λ (ys : List (Event N B W)). ys ++ event ∷ []) run.events_are;
        replies_are = map-append (λ y. y.reply) run.moments (x ∷ []) ∙ ap (λ (ys : List (EventReply N B W)). ys ++ reply ∷ []) run.replies_are;
        ends = (chains_join E m).ends old run.moments (x ∷ []);
        chain = (chains_join E m).joins old run.moments (x ∷ []) run.chain (subst (λ s. EventDoes m s event reply new) (sym run.ends) does, tt);
      }

module _ {N S E H K V : Type 0} {X XN XH XK XV : Type 0} {g : Environments X XN XH XK XV} {gh : Hashes XH} {go : Orders XK} {gq : Equalities XK}
    {gp : PartialOrders XK} {gn : Nodes XN X XN XH XK XV} (tells : Storages S E N H K V) (v : E → Values N) (old : MachineView N S E) where
  -- the events so far have happened, as long as the storage is honest, and the others are left
  pub record SoFar (all rest : List (Given N)) (replies : List (Answer N)) (p : PagerView N S E)
      (h : LoadsAndWorkers X XN XH XK XV g gh go gq gp gn) : Type 0 where
    pub done : List (Given N)
    pub left : done ++ rest ≡ all
    pub run : IsTrue (tells.is_honest p.storage) → HasRun (plainly (v old.pager.environment)) (machine_in tells old) (map plain_event done)
        (map plain_answer replies)
        (raw_in tells p h)
    pub environment : IsTrue (tells.is_honest p.storage) → p.environment ≡ old.pager.environment
    pub faithful : IsTrue (tells.is_honest p.storage) → IsTrue (tells.is_honest old.pager.storage)
    pub in_step : HeldFitsPager tells p h

  pub at-first : (all : List (Given N)) (p : PagerView N S E) (h : LoadsAndWorkers X XN XH XK XV g gh go gq gp gn) → old ≡ view_of p h
      → HeldFitsPager tells p h
      → SoFar all all [] p h
  unfolding state_after
  at-first all p h is in_step = record {
    done = [];
    left = refl;
    run = λ is_true. subst (λ x. HasRun (plainly (v old.pager.environment)) (machine_in tells old) [] [] x) (ap (machine_in tells) is ∙ view-is tells p h)
        (record { moments = []; events_are = refl; replies_are = refl; ends = refl; chain = tt });
    environment = λ is_true. ap (λ (x : MachineView N S E). x.pager.environment) (sym is);
    faithful = λ is_true. ap (λ (x : MachineView N S E). tells.is_honest x.pager.storage) is ∙ is_true;
    in_step = in_step;
  }

  pub one-more : (all rest : List (Given N)) (event : Given N) (replies : List (Answer N)) (reply : Answer N) (p q : PagerView N S E)
      (h h' : LoadsAndWorkers X XN XH XK XV g gh go gq gp gn)
      → SoFar all (event ∷ rest) replies p h → Drives (v p.environment) tells p h event reply q h' → SoFar all rest (replies ++ reply ∷ []) q h'
  one-more all rest event replies reply p q h h' so made =
      record {
        done = so.done ++ event ∷ [];
        left = append_assoc so.done (event ∷ []) rest ∙ so.left;
        run = λ is.
            let same = so.environment (made.honest is) in
            let does = subst (λ e. EventDoes (plainly (v e)) (raw_in tells p h) (plain_event event) (plain_answer reply) (raw_in tells q h')) same
            (made.makes is).does in
            let more = run-more _ _ _ _ _ _ (plain_event event) (plain_answer reply) (so.run (made.honest is)) does in
            rw (map-append plain_event so.done (event ∷ []), map-append plain_answer replies (reply ∷ [])) more;
        environment = λ is. (made.makes is).does.moves.environment ∙ so.environment (made.honest is);
        faithful = λ is. so.faithful (made.honest is);
        in_step = record { on_tables = made.on_tables; serving = λ is. (made.makes is).serving };
      }

  pub all-ran : (all rest : List (Given N)) (replies : List (Answer N)) (p : PagerView N S E) (h : LoadsAndWorkers X XN XH XK XV g gh go gq gp gn)
      → length rest ≡ 0 → SoFar all rest replies p h → IsTrue (tells.is_honest p.storage) → Runs (v old.pager.environment) tells old all replies (view_of p h)
  all-ran all rest replies p h none so is_true =
      let is : so.done ≡ all = sym (append-nil so.done) ∙ ap (λ xs. so.done ++ xs) (sym (nil_from_length rest none)) ∙ so.left in
      let m = plainly (v old.pager.environment) in
      let run = subst (λ xs. HasRun m (machine_in tells old) (map plain_event xs) (map plain_answer replies) (machine_in tells (view_of p h))) is
      (subst (λ x. HasRun m (machine_in tells old) (map plain_event so.done) (map plain_answer replies) x) (sym (view-is tells p h)) (so.run is_true)) in
      record {
        run = run;
        right = λ start before whole idle chain ends.
            headline_law E m start (before ++ run.moments) whole idle ((chains_join E m).joins start before run.moments chain
            (subst (λ s. AreMoments m s run.moments) (sym ends) run.chain));
      }
