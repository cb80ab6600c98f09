-- A machine's loads, tables and workers as the definitions know them, and when they agree with its pager; what its
-- calls, events and runs do.
use Rattle.pagable_calls.specs.declared.{
  workers.{LoadsAndWorkers.LoadsAndWorkers, PageOutTarget.PageOutTarget, WorkerProgress.WorkerProgress},
}
use Rattle.pagable_codec.specs.{
  declared.{env.Env.Ghosts as Environments, hash.KeyHash.Ghosts as Hashes, nodes.NodeSet.Ghosts as Nodes},
}
use Rattle.pagable_core.specs.{
  Data.blob_of,
  declared.{context.writing.SerializedData.SerializedData, storage.data.PagableData.PagableData},
}
use Rattle.pagable_load.specs.{
  Frames.{IsLoadOf, is_cell, reading_of},
  LoadSteps.IsSameLoad,
  declared.reading.Reading.Reading as Own,
}
use Rattle.pagable_pageout.specs.{
  Slots.{is_same, slot_of, written_of},
  Table.shelf_of,
  Tasks.{EachIsAwaited, NeedsNoPager, todos},
  Turns.{LeavesFit, PerformsStep, answer_in, plain_took, todos_after},
  declared.{lent_table.LentTable.LentTable, tasks.{StepResult.StepResult, Task.Task, Turn.Turn}},
}
use Rattle.pagable_pager.specs.View.{PagerView, Storages, pager_core, pager_state}
use Rattle.pagable_pager_spec.specs.{
  Access.ReadingStep,
  Basics.{Identity, if_there},
  Events.{CallStep, new_walking, no_shelf, steps_after},
  Kinds.{identity_of, owner_worker},
  Pager.{CallBrings, FitsRoot, IsIdle, IsMachineWhole, MachineState, Moves, PagerState},
  Runs.{AreMoments, EventDoes, HasRun, Moment, state_after},
  Theorem.Headline,
  Workers.fresh,
  World.{Core, OpenLoad, Reading, Seen, Shelf, Slot, Values, Walking, Work, Written, of_entry, of_item, one_more},
  World.result_map,
  declared.calls.{Call.Call, Found.Found, Reply.Reply},
  declared.events.{Event.Event, EventReply.EventReply, LoadAnswer.LoadAnswer, LoadReply.LoadReply},
  declared.{events.{TableNumber.TableNumber, WorkerReply.WorkerReply}, handle_row.Owner.Owner},
}
use Rattle.pagable_value_spec.specs.declared.numbers.LoadNumber.{LoadNumber}
use Rattle.std.specs.{
  Arc.arc_value,
  HashMap.{HashMap, get},
  Map.lookup,
  Option.option_map,
  Prelude.{Bool, IsTrue, List, None, Option, Some, is_none, is_some, length, map, nat_eq, set, slice_get, suc, true},
  Prelude.{zero, ℕ, ◌++◌, ◌<◌, ◌≡◌, ◌≢◌, ◌≤◌, ◌⊎◌},
  declared.alloc.Global.Global,
  declared.cmp.{Ord.Ghosts as Orders, PartialEq.Ghosts as Equalities, PartialOrd.Ghosts as PartialOrders},
  declared.{hash.{BuildHasherDefault.BuildHasherDefault, FoldHasher.FoldHasher}, sync.Arc.Arc},
}
use Rattle.pagable_pager_spec.specs.World as world

abbrev pub task_of : PageOutTarget → world.Task
task_of (PageOutTarget.Item item) = of_item (written_of (arc_value item))
task_of (PageOutTarget.Entry r) = of_entry r.handle (identity_of r)

module _ {X XN XH XK XV : Type 0} {g : Environments X XN XH XK XV} {gh : Hashes XH} {go : Orders XK}
    {gq : Equalities XK} {gp : PartialOrders XK} {gn : Nodes XN X XN XH XK XV} where
  -- the table of this number, from 1 on
  abbrev pub shelf_at : List (LentTable X XN XH XK XV g gh go gq gp gn) → ℕ → Shelf
  shelf_at tables zero = no_shelf
  shelf_at tables (suc t) = if_there shelf_of no_shelf (slice_get tables t)

  abbrev pub walking_of : WorkerProgress X XN XH XK XV g gh go gq gp gn → Walking
  walking_of k = record {
    table = k.table;
    task = task_of k.begun;
    todo = todos_after k.turn k.path.items;
    steps = k.steps;
    answer = answer_in k.turn;
  }

  -- The worker's table exists, and its list of tasks is in order.
  pub record IsOnTable (last : ℕ) (k : WorkerProgress X XN XH XK XV g gh go gq gp gn) : Type 0 where
    pub table : (0 < k.table) × (k.table ≤ last)
    pub way : EachIsAwaited (todos_after k.turn k.path.items)

  -- The worker is on its table, runs until it has answered, and its task fits.
  pub record IsWalkKept (w : Core) (last v : ℕ) (k : WorkerProgress X XN XH XK XV g gh go gq gp gn) : Type 0 where
    pub stands : IsOnTable last k
    pub at_work : w.workers v ≡ is_none (answer_in k.turn)
    pub fits : LeavesFit v w k.turn

  -- a worker that has just begun on this table
  pub record IsBegun (t : TableNumber) (task : world.Task)
      (k : WorkerProgress X XN XH XK XV g gh go gq gp gn) : Type 0 where
    pub walking : walking_of k ≡ new_walking t task
    pub way : EachIsAwaited (todos_after k.turn k.path.items)
    pub plain : (x : Task X XN XH XK XV g gh go gq gp gn) → k.turn ≡ Turn.Goes x → NeedsNoPager x

  -- the worker after a step
  pub record IsAfter (k : WorkerProgress X XN XH XK XV g gh go gq gp gn)
      (moved : StepResult X XN XH XK XV g gh go gq gp gn)
      (k' : WorkerProgress X XN XH XK XV g gh go gq gp gn) : Type 0 where
    pub table : k'.table ≡ k.table
    pub begun : k'.begun ≡ k.begun
    pub steps : k'.steps ≡ steps_after k.steps moved.counted
    pub turn : k'.turn ≡ moved.turn

  -- A worker that hasn't answered makes a step on its table.
  pub record WalksOn {N E : Type 0} (v : Values N) (n : ℕ) (tables : List (LentTable X XN XH XK XV g gh go gq gp gn))
      (k : WorkerProgress X XN XH XK XV g gh go gq gp gn) (s : PagerState N E)
      (reply : WorkerReply (Arc SerializedData Global))
      (tables' : List (LentTable X XN XH XK XV g gh go gq gp gn)) (k' : WorkerProgress X XN XH XK XV g gh go gq gp gn)
      (s' : PagerState N E) : Type 0 where
    pub task : Task X XN XH XK XV g gh go gq gp gn
    pub table : LentTable X XN XH XK XV g gh go gq gp gn
    pub table' : LentTable X XN XH XK XV g gh go gq gp gn
    pub moved : StepResult X XN XH XK XV g gh go gq gp gn
    pub place : ℕ
    pub had : k.turn ≡ Turn.Goes task
    pub on : k.table ≡ suc place
    pub there : slice_get tables place ≡ Some table
    pub sets : tables' ≡ set tables place table'
    pub steps : PerformsStep v (owner_worker n) n (shelf_of table) task (todos k.path.items) (shelf_of table') moved
        (todos_after moved.turn k'.path.items) s s'
    pub way : EachIsAwaited (todos_after moved.turn k'.path.items)
    pub after : IsAfter k moved k'
    pub replies : reply ≡ record { action = moved.action; answer = answer_in moved.turn; steps = k'.steps }

  -- a table has this number
  abbrev pub IsTableNumber : ℕ → List (LentTable X XN XH XK XV g gh go gq gp gn) → Type 0
  IsTableNumber t tables = (0 < t) × (t ≤ length tables)

  -- whether there is no worker, or it has answered
  abbrev pub is_done : Option (WorkerProgress X XN XH XK XV g gh go gq gp gn) → Bool
  is_done found = if_there (λ (walking : Walking). is_some walking.answer) true (option_map walking_of found)

-- ---- when a machine agrees with its pager, and what one event does to both

-- what is kept of loads, by their numbers
abbrev pub Kept : Type 0
Kept = ℕ → Option Own

-- what is kept of loads, tables and workers
pub record Holding {X XN XH XK XV : Type 0} (g : Environments X XN XH XK XV) (gh : Hashes XH) (go : Orders XK)
    (gq : Equalities XK) (gp : PartialOrders XK) (gn : Nodes XN X XN XH XK XV) : Type 0 where
  pub readings : Kept
  pub tables : List (LentTable X XN XH XK XV g gh go gq gp gn)
  pub walks : ℕ → Option (WorkerProgress X XN XH XK XV g gh go gq gp gn)

-- a load that is open and that the machine keeps
abbrev pub readings_in : Kept → Core → ℕ → Option Reading
readings_in kept w l = if_there (λ (load : OpenLoad). option_map reading_of (kept l)) None (w.loads l)

abbrev pub work_of : {X XN XH XK XV : Type 0} {g : Environments X XN XH XK XV} {gh : Hashes XH} {go : Orders XK}
    {gq : Equalities XK} {gp : PartialOrders XK} {gn : Nodes XN X XN XH XK XV} → Holding g gh go gq gp gn → Core → Work
work_of h w = record {
  shelves = shelf_at h.tables;
  last_table = length h.tables;
  readings = readings_in h.readings w;
  walkings = λ v. option_map walking_of (h.walks v);
}

abbrev pub machine_of : {X XN XH XK XV : Type 0} {g : Environments X XN XH XK XV} {gh : Hashes XH} {go : Orders XK}
    {gq : Equalities XK} {gp : PartialOrders XK} {gn : Nodes XN X XN XH XK XV} {N E : Type 0} → PagerState N E
    → Holding g gh go gq gp gn → MachineState N E
machine_of s h = record { pager = s; work = work_of h s.core }

-- the caller's load, of this key and root
pub record ReadsFor (load : OpenLoad) (own : Own) : Type 0 where
  pub owned : load.owner ≡ Owner.Caller
  pub key : load.key ≡ own.key
  pub sort : is_cell load.root ≡ own.for_cell
  pub typed : FitsRoot load.root (reading_of own)

-- The progress is that of a load that was begun, and fits the load while that is open.
pub record IsKept (w : Core) (l : ℕ) (own : Own) : Type 0 where
  pub number : own.load.0 ≡ l
  pub given : l ≤ w.last.load
  pub reads : (load : OpenLoad) → w.loads l ≡ Some load → ReadsFor load own

abbrev pub AllKept : Core → Kept → Type 0
AllKept w kept = (l : ℕ) (own : Own) → kept l ≡ Some own → IsKept w l own

module _ {X XN XH XK XV : Type 0} {g : Environments X XN XH XK XV} {gh : Hashes XH} {go : Orders XK}
    {gq : Equalities XK} {gp : PartialOrders XK} {gn : Nodes XN X XN XH XK XV} where
  -- each worker is on its table, whatever the storage answered
  pub record AllOnTables (tables : List (LentTable X XN XH XK XV g gh go gq gp gn))
      (walks : ℕ → Option (WorkerProgress X XN XH XK XV g gh go gq gp gn)) : Type 0 where
    pub each : (v : ℕ) (k : WorkerProgress X XN XH XK XV g gh go gq gp gn) → walks v ≡ Some k
        → IsOnTable (length tables) k

  -- what holds of a machine after each event, beside what holds of its pager, as long as its storage is honest
  pub record IsServing (w : Core) (h : Holding g gh go gq gp gn) : Type 0 where
    pub readings : AllKept w h.readings
    pub walks : (v : ℕ) (k : WorkerProgress X XN XH XK XV g gh go gq gp gn) → h.walks v ≡ Some k
        → IsWalkKept w (length h.tables) v k
    pub each_walks : (v : ℕ) → w.workers v ≡ true → is_some (h.walks v) ≡ true

  -- One event and its reply: a step of the world after which the machine agrees with its pager.
  pub record Makes {N E B W : Type 0} (m : Seen N B W) (s : PagerState N E) (h : Holding g gh go gq gp gn)
      (event : Event N B W) (reply : EventReply N B W) (s' : PagerState N E) (h' : Holding g gh go gq gp gn) : Type 0
    where
      pub does : EventDoes m (machine_of s h) event reply (machine_of s' h')
      pub serving : IsServing s'.core h'

-- what is kept of an open load stays, and nothing is added
pub record Forgets (w : Core) (kept kept' : Kept) : Type 0 where
  pub still : (l : ℕ) (load : OpenLoad) → w.loads l ≡ Some load → kept' l ≡ kept l
  pub only : (l : ℕ) (own : Own) → kept' l ≡ Some own → kept l ≡ Some own

-- this is kept of this number, and what is kept of others is unchanged
pub record SetsOne {Y : Type 0} (kept : ℕ → Option Y) (l : ℕ) (own : Option Y) (kept' : ℕ → Option Y) : Type 0 where
  pub here : kept' l ≡ own
  pub others : (q : ℕ) → q ≢ l → kept' q ≡ kept q

-- A load's progress: what is kept of it, or that of a load of a cell of this type that hasn't made a step.
pub record IsTaken (kept : Kept) (l : LoadNumber) (key : ℕ) (t : Option ℕ) (own : Own) : Type 0 where
  pub why : (kept l.0 ≡ Some own) ⊎ ((kept l.0 ≡ None)
      × ((type : ℕ) × (t ≡ Some type) × (reading_of own ≡ fresh l type)) × (own.key ≡ key) × (own.for_cell ≡ true))

-- If a load's progress is kept now, it was kept before or has just begun; if none is kept, nothing has changed.
pub record IsPrepared (kept : Kept) (l : LoadNumber) (key : ℕ) (t : Option ℕ) (kept' : Kept) : Type 0 where
  pub taken : (own : Own) → kept' l.0 ≡ Some own → IsTaken kept l key t own
  pub full : kept' l.0 ≡ None → (q : ℕ) → kept' q ≡ kept q
  pub others : (q : ℕ) → q ≢ l.0 → kept' q ≡ kept q

-- A load made a step, which is counted.
pub record StepsLoad {N E : Type 0} (v : Values N) (me : Owner) (own : Own) (reply : LoadReply N) (new : Own)
    (s s' : PagerState N E) : Type 0 where
  pub does : IsLoadOf s.core me own → ReadingStep v me (reading_of own) s reply.ended (reading_of new).frames s'
  pub same : IsSameLoad own new (one_more own.steps)
  pub counts : reply.steps ≡ one_more own.steps

-- what is kept after a step that ended the load, or didn't
abbrev pub rest_after : {N : Type 0} → Option (LoadAnswer N) → Option Own → Option Own
rest_after None own = own
rest_after (Some answer) own = None

-- ---- what a call does to a pager

-- blobs as the pager has them, and written values as they are
abbrev pub plainly : {N : Type 0} → Values N → Seen N PagableData Written
plainly v = record { values = v; blob_of = blob_of; written_of = λ w. w }

-- A reply without the place of its blob in memory: the core has one type of blobs for calls and replies.
abbrev pub plain_found : Found (Arc PagableData Global) → Found PagableData
plain_found (Found.Cached k) = Found.Cached k
plain_found (Found.Blob b) = Found.Blob (arc_value b)

-- the reply with its blob as the call has it
abbrev pub plain_reply : {N : Type 0} → Reply N (Arc PagableData Global) → Reply N PagableData
plain_reply (Reply.Made r) = Reply.Made r
plain_reply (Reply.Handle r) = Reply.Handle r
plain_reply (Reply.Pin r) = Reply.Pin r
plain_reply (Reply.Done r) = Reply.Done r
plain_reply (Reply.Count r) = Reply.Count r
plain_reply (Reply.KeyFound r) = Reply.KeyFound r
plain_reply (Reply.PagedOut r) = Reply.PagedOut r
plain_reply (Reply.Node r) = Reply.Node r
plain_reply (Reply.NodeType t) = Reply.NodeType t
plain_reply (Reply.Length n) = Reply.Length n
plain_reply (Reply.TakenPending h) = Reply.TakenPending h
plain_reply (Reply.FromCache r) = Reply.FromCache r
plain_reply (Reply.Fetched r) = Reply.Fetched (result_map arc_value r)
plain_reply (Reply.Stored r) = Reply.Stored r
plain_reply (Reply.Begun r) = Reply.Begun r
plain_reply (Reply.LoadFound r) = Reply.LoadFound (result_map plain_found r)
plain_reply (Reply.LoadEnded r) = Reply.LoadEnded r

-- the event and its reply with written values as the definitions have them
abbrev pub plain_event : {N : Type 0} → Event N PagableData SerializedData → Event N PagableData Written
plain_event (Event.Call call) = Event.Call call
plain_event (Event.LoadStart h) = Event.LoadStart h
plain_event (Event.LoadKey key t) = Event.LoadKey key t
plain_event (Event.LoadStep l) = Event.LoadStep l
plain_event Event.TableNew = Event.TableNew
plain_event (Event.WorkerItem t item) = Event.WorkerItem t (written_of item)
plain_event (Event.WorkerListed t i) = Event.WorkerListed t i
plain_event (Event.WorkerStep v) = Event.WorkerStep v

abbrev pub plain_moved : WorkerReply (Arc SerializedData Global) → WorkerReply Written
plain_moved r = record { action = plain_took r.action; answer = r.answer; steps = r.steps }

abbrev pub plain_answer : {N : Type 0} → EventReply N (Arc PagableData Global) (Arc SerializedData Global)
    → EventReply N PagableData Written
plain_answer (EventReply.CallReply r) = EventReply.CallReply (plain_reply r)
plain_answer (EventReply.Started r) = EventReply.Started r
plain_answer (EventReply.LoadMoved r) = EventReply.LoadMoved r
plain_answer (EventReply.TableMade r) = EventReply.TableMade r
plain_answer (EventReply.WorkerMade r) = EventReply.WorkerMade r
plain_answer (EventReply.WorkerMoved r) = EventReply.WorkerMoved (result_map plain_moved r)

-- The caller's call does this step, and inserts no value but its own.
pub record Serves {N S E H K V : Type 0} (v : Values N) (tells : Storages S E N H K V) (old : PagerView N S E)
    (call : Call N PagableData) (r : Reply N (Arc PagableData Global)) (new : PagerView N S E) : Type 0 where
  pub step : CallStep (plainly v) (pager_core tells old) Owner.Caller call (plain_reply r) (pager_core tells new)
  pub moves : Moves (CallBrings (pager_core tells old) call) (pager_state tells old) (pager_state tells new)

-- ---- a machine over a pager, as a world

abbrev pub ByNumber : Type 0 → Type 0
ByNumber Y = HashMap ℕ Y (BuildHasherDefault FoldHasher)

-- what is kept of a number
abbrev pub kept_at : {Y : Type 0} → ByNumber Y → ℕ → Option Y
kept_at kept q = get nat_eq kept q

-- the claims of a table, and for what each worker waits
pub record TableView : Type 0 where
  pub slots : List ((ℕ × ℕ) × Slot)
  pub waits : List (ℕ × Identity)

-- a machine: its pager, and what it keeps of loads, tables and workers
pub record MachineView (N S E : Type 0) : Type 0 where
  pub pager : PagerView N S E
  pub readings : ByNumber Own
  pub tables : List TableView
  pub walks : List (ℕ × Walking)

abbrev pub claims_of : TableView → Shelf
claims_of t = record {
  slots = λ i. lookup (is_same (i.kind.0, i.node.0)) t.slots;
  waits = λ v. lookup (nat_eq v) t.waits;
}

abbrev pub claims_at : List TableView → ℕ → Shelf
claims_at tables zero = no_shelf
claims_at tables (suc t) = if_there claims_of no_shelf (slice_get tables t)

abbrev pub machine_in : {N S E H K V : Type 0} → Storages S E N H K V → MachineView N S E → MachineState N E
machine_in tells s = record {
  pager = pager_state tells s.pager;
  work = record {
    shelves = claims_at s.tables;
    last_table = length s.tables;
    readings = readings_in (kept_at s.readings) (pager_core tells s.pager);
    walkings = λ v. lookup (nat_eq v) s.walks;
  };
}

-- the events and replies of a machine
abbrev pub Given : Type 0 → Type 0
Given N = Event N PagableData SerializedData

abbrev pub Answer : Type 0 → Type 0
Answer N = EventReply N (Arc PagableData Global) (Arc SerializedData Global)

module _ {X XN XH XK XV : Type 0} {g : Environments X XN XH XK XV} {gh : Hashes XH} {go : Orders XK}
    {gq : Equalities XK} {gp : PartialOrders XK} {gn : Nodes XN X XN XH XK XV} where
  abbrev pub table_view : LentTable X XN XH XK XV g gh go gq gp gn → TableView
  table_view t = record { slots = map (λ e. (e.0, slot_of e.1)) t.slots.entries; waits = t.waits.entries }

  abbrev pub view_of : {N S E : Type 0} → PagerView N S E → LoadsAndWorkers X XN XH XK XV g gh go gq gp gn
      → MachineView N S E
  view_of p h = record {
    pager = p;
    readings = h.readings;
    tables = map table_view h.tables.items;
    walks = map (λ e. (e.0, walking_of e.1)) h.walks.entries;
  }

  abbrev pub holding : LoadsAndWorkers X XN XH XK XV g gh go gq gp gn → Holding g gh go gq gp gn
  holding h = record { readings = kept_at h.readings; tables = h.tables.items; walks = kept_at h.walks }

module _ {N S E H K V : Type 0} {X XN XH XK XV : Type 0} {g : Environments X XN XH XK XV} {gh : Hashes XH}
    {go : Orders XK}
    {gq : Equalities XK} {gp : PartialOrders XK} {gn : Nodes XN X XN XH XK XV} where
  -- what holds of each machine: whatever its storage answered, and as long as that is honest
  pub record HeldFitsPager (tells : Storages S E N H K V) (p : PagerView N S E)
      (h : LoadsAndWorkers X XN XH XK XV g gh go gq gp gn) : Type 0 where
    pub on_tables : AllOnTables h.tables.items (kept_at h.walks)
    pub serving : IsTrue (tells.is_honest p.storage) → IsServing (pager_core tells p) (holding h)

  -- One event, as long as the storage is honest afterwards. A storage that is honest afterwards was honest before.
  pub record Drives (v : Values N) (tells : Storages S E N H K V) (old : PagerView N S E)
      (held : LoadsAndWorkers X XN XH XK XV g gh go gq gp gn) (event : Given N) (reply : Answer N)
      (new : PagerView N S E)
      (held' : LoadsAndWorkers X XN XH XK XV g gh go gq gp gn) : Type 0 where
    pub makes : IsTrue (tells.is_honest new.storage) → Makes (plainly v) (pager_state tells old) (holding held)
        (plain_event event) (plain_answer reply) (pager_state tells new) (holding held')
    pub honest : IsTrue (tells.is_honest new.storage) → IsTrue (tells.is_honest old.storage)
    pub on_tables : AllOnTables held'.tables.items (kept_at held'.walks)

-- These events, with these replies, lead from the old machine to the new one; and the headline holds of them after any
-- events that led from an idle machine to the old one.
pub record Runs {N S E H K V : Type 0} (v : Values N) (tells : Storages S E N H K V) (old : MachineView N S E)
    (happened : List (Given N)) (replied : List (Answer N)) (new : MachineView N S E) : Type 0 where
  pub run : HasRun (plainly v) (machine_in tells old) (map plain_event happened) (map plain_answer replied)
      (machine_in tells new)
  pub right : (start : MachineState N E) (before : List (Moment N E PagableData Written)) → IsMachineWhole v start
      → IsIdle start → AreMoments (plainly v) start before
      → state_after start before ≡ machine_in tells old
      → Headline (plainly v) start (before ++ run.moments)
