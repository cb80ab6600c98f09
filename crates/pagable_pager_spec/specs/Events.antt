-- One call of the pager: its effect on the core, and a reply of the call's type. One event: a call, or one step
-- of a load or of a worker.
use Rattle.pagable_pager_spec.specs.{
  Basics.{Beginning, Blob, Call, Error, Event, EventReply, Found, HandleNumber, HandleRow, LoadAnswer, LoadNumber},
  Basics.{LoadReply, Mode, Owner, Reply, SameAt, TableNumber, WorkerAnswer, WorkerNumber, WorkerReply, if_there},
  Basics.{or_else, updated},
  Calls.{ClearCall, CloneCall, CloseCall, CountCall, FetchCall, FlushCall, InsertCall, InsertPagedOutCall},
  Calls.{IsPagedOutCall, KeyCall, LoosenCall, NodeCall, OfferCall, PinCall, RecallCall, ReleaseCall, ReserveCall},
  Calls.{ScheduleCall, SetKeyCall, StoreCall, TakeCall, TypeCall, UnpinCall, moved, room_of},
  Cascade.only_handle,
  Kinds.{HasKinds, HasNoKinds, loose_kind},
  LoadCalls.{AdoptCall, BeginCall, BeginKeyCall, DropCall, EndCall, Given, HandOverCall, LazyCall, LoadFetchCall},
  LoadCalls.{from_cache, from_store},
  Loads.{ReadingDoes, gone_on},
  Refusals.{WorkerFault, earlier, load_fault, refused_if},
  Workers.{WalkDoes, WorkerEnds, WorkerState, answer_after, first_todo, fresh, is_counted},
  World.{Alike, Core, Frame, OpenLoad, Reading, Root, SameShelf, Seen, Shelf, Task, Values, Walking, Work, World},
  World.{digest, of_cell, of_entry, of_item, of_key, one_more, result_map, row_at, type_at},
}
use Rattle.std.specs.{
  List.remove,
  Prelude.{Bool, IfErr, IfOk, List, None, Option, Result, Some, if◌then◌else◌, is_none, is_some, length, slice_get},
  Prelude.{true, ℕ, ◌+◌, ◌<◌, ◌≡◌, ◌≤◌, ◌⊎◌},
}

-- what was found, with the blob as `Blob`
abbrev pub given_of : {B : Type 0} → (B → Blob) → Found B → Given
given_of f (Found.Cached k) = from_cache k
given_of f (Found.Blob b) = from_store (f b)

abbrev pub CallDoes : {N B W : Type 0} → Seen N B W → Core → Owner → Call N B → Reply N B → Core → Type 0
CallDoes m w me (Call.NewPinned x) (Reply.Made r) w' = InsertCall w me x (m.values.node_type x)
    (m.values.references x) Mode.Pinned r w'
CallDoes m w me (Call.NewLoose x) (Reply.Made r) w' = InsertCall w me x (m.values.node_type x)
    (m.values.references x) Mode.LoosePinned r w'
CallDoes m w me (Call.NewShared x) (Reply.Made r) w' = InsertCall w me x (m.values.node_type x)
    (m.values.references x) Mode.Shared r w'
CallDoes m w me (Call.NewPagedOut t key) (Reply.Handle r) w' = InsertPagedOutCall w me t key r w'
CallDoes m w me (Call.Clone h) (Reply.Handle r) w' = CloneCall w me h r w'
CallDoes m w me (Call.Pin h) (Reply.Pin r) w' = PinCall w me h r w'
CallDoes m w me (Call.Unpin h) (Reply.Done r) w' = UnpinCall w me h r w'
CallDoes m w me (Call.Release h) (Reply.Done r) w' = ReleaseCall w me h r w'
CallDoes m w me (Call.IntoPagable h) (Reply.Handle r) w' = LoosenCall w me h r w'
CallDoes m w me (Call.SetDataKey h key) (Reply.Done r) w' = SetKeyCall w me h key r w'
CallDoes m w me (Call.Count h) (Reply.Count r) w' = CountCall w h r × Alike w w'
CallDoes m w me (Call.Key h) (Reply.KeyFound r) w' = KeyCall w h r × Alike w w'
CallDoes m w me (Call.IsPagedOut h) (Reply.PagedOut r) w' = IsPagedOutCall w h r × Alike w w'
CallDoes m w me (Call.NodeOf h) (Reply.Node r) w' = NodeCall w h r × Alike w w'
CallDoes m w me (Call.NodeLive n) (Reply.NodeType t) w' = TypeCall w n t × Alike w w'
CallDoes m w me (Call.ScheduleForPaging h) (Reply.Done r) w' = ScheduleCall w me h r w'
CallDoes m w me Call.Pending (Reply.Length n) w' = (n ≡ length w.list) × Alike w w'
CallDoes m w me (Call.TakePending i) (Reply.TakenPending h) w' = TakeCall w me i h w'
CallDoes m w me (Call.CacheGet kind key) (Reply.FromCache r) w' = RecallCall w me kind key r w'
CallDoes m w me (Call.OnArcDeserialized kind key h) (Reply.FromCache r) w' = OfferCall w me kind key h r w'
CallDoes m w me Call.CacheClear (Reply.Done r) w' = ClearCall w r w'
CallDoes m w me (Call.Fetch key) (Reply.Fetched r) w' = FetchCall w key (result_map m.blob_of r) w'
CallDoes m w me (Call.Store b) (Reply.Stored r) w' = StoreCall (digest m.values) w (m.blob_of b) r w'
CallDoes m w me Call.Flush (Reply.Done r) w' = FlushCall w r w'
CallDoes m w me (Call.LoadBegin h) (Reply.Begun r) w' = BeginCall w me h r w'
CallDoes m w me (Call.LoadKey key) (Reply.Begun r) w' = BeginKeyCall w me key r w'
CallDoes m w me (Call.LoadFetch l want) (Reply.LoadFound r) w' =
    LoadFetchCall w me l want (result_map (given_of m.blob_of) r) w'
CallDoes m w me (Call.LoadAdopt l kind key x) (Reply.Made r) w' =
    AdoptCall w me l kind key x (m.values.node_type x) (m.values.references x) r w'
CallDoes m w me (Call.LoadLazy l kind key) (Reply.Handle r) w' = LazyCall w me l kind key r w'
CallDoes m w me (Call.LoadEnd l x) (Reply.LoadEnded r) w' =
    EndCall w me l x (m.values.node_type x) (m.values.references x) r w'
CallDoes m w me (Call.LoadTake l hs) (Reply.Done r) w' = HandOverCall w me l hs.items r w'
CallDoes m w me (Call.LoadDrop l) (Reply.Done r) w' = DropCall w me l r w'
CallDoes m w me (Call.Reserve n) (Reply.Done r) w' = ReserveCall w n r w'
CallDoes m w me Call.Room (Reply.Length n) w' = (n ≡ room_of w) × Alike w w'
CallDoes m w me Call.Close (Reply.Done r) w' = CloseCall w r w'
CallDoes m w me call reply w' = ⊥

-- In the state w the call of `me` may return this reply and lead to the state w'.
pub record CallStep {N B W : Type 0} (m : Seen N B W) (w : Core) (me : Owner) (call : Call N B) (reply : Reply N B)
    (w' : Core) : Type 0 where
  pub does : CallDoes m w me call reply w'

-- the loads' readings are these, except that a closed load has none
abbrev pub ReadingsAre : (ℕ → Option Reading) → World → Type 0
ReadingsAre readings u' = (l : ℕ) → u'.work.readings l ≡ if_there (λ load. readings l) None (u'.core.loads l)

pub record WorkStays (work work' : Work) : Type 0 where
  pub shelves : (t : ℕ) → SameShelf (work.shelves t) (work'.shelves t)
  pub last_table : work'.last_table ≡ work.last_table
  pub walkings : SameAt work.walkings work'.walkings

pub record Stays (u u' : World) : Type 0 where
  pub core : Alike u.core u'.core
  pub readings : ReadingsAre u.work.readings u'
  pub work : WorkStays u.work u'.work

pub record OnlyCore (u : World) (does : Core → Type 0) (u' : World) : Type 0 where
  pub step : does u'.core
  pub readings : ReadingsAre u.work.readings u'
  pub work : WorkStays u.work u'.work

abbrev pub reading_of_root : LoadNumber → Root → Option Reading
reading_of_root l (of_cell node t h) = Some (fresh l t)
reading_of_root l of_key = None

abbrev pub reading_of_load : LoadNumber → Option OpenLoad → Option Reading
reading_of_load l load = if_there (λ (load : OpenLoad). reading_of_root l load.root) None load

-- The load's reading: a load of a cell has a fresh one before its first step. A load of a key that a plain call began
-- has none, and the machine makes no steps of it.
abbrev pub reading_at : World → LoadNumber → Option Reading
reading_at u l = or_else (u.work.readings l.0) (reading_of_load l (u.core.loads l.0))

abbrev pub step_fault : World → LoadNumber → Option Error
step_fault u l = earlier (load_fault u.core Owner.Caller l) (refused_if (is_none (reading_at u l)) Error.WrongMode)

-- the load's reading after a step: with its new frames, or None if it has ended
abbrev pub reading_after : {N : Type 0} → Option (LoadAnswer N) → Reading → List Frame → Option Reading
reading_after None reading frames = Some (gone_on reading frames)
reading_after (Some answer) reading frames = None

-- a load that the caller began makes a step, and counts it
pub record LoadSteps {N : Type 0} (v : Values N) (u : World) (l : LoadNumber) (reply : LoadReply N)
    (u' : World) : Type 0 where
  pub reading : Reading
  pub frames : List Frame
  pub may : load_fault u.core Owner.Caller l ≡ None
  pub at : reading_at u l ≡ Some reading
  pub does : ReadingDoes v u.core Owner.Caller reading reply.ended frames u'.core
  pub counts : reply.steps ≡ one_more reading.steps
  pub readings : ReadingsAre (updated l.0 (reading_after reply.ended reading frames) u.work.readings) u'
  pub work : WorkStays u.work u'.work

pub record LoadStepped {N : Type 0} (v : Values N) (u : World) (l : LoadNumber) (r : Result (LoadReply N) Error)
    (u' : World) : Type 0 where
  pub moves : IfOk r (λ reply. LoadSteps v u l reply u')
  pub refused : IfErr r (λ e. (step_fault u l ≡ Some e) × Stays u u')

abbrev pub begun_readings : Beginning → ℕ → (ℕ → Option Reading) → ℕ → Option Reading
begun_readings Beginning.InMemory t readings = readings
begun_readings (Beginning.Load l key) t readings = updated l.0 (Some (fresh l t)) readings

-- a load begins for a key that is to be read as a value of this type
pub record KeyStarted (u : World) (key t : ℕ) (r : Result Beginning Error) (u' : World) : Type 0 where
  pub step : BeginKeyCall u.core Owner.Caller key r u'.core
  pub begun : IfOk r (λ b. ReadingsAre (begun_readings b t u.work.readings) u')
  pub refused : IfErr r (λ e. ReadingsAre u.work.readings u')
  pub work : WorkStays u.work u'.work

abbrev pub no_shelf : Shelf
no_shelf = record { slots = λ i. None; waits = λ v. None }

pub record WorkIs (shelves : ℕ → Shelf) (last : ℕ) (walkings : ℕ → Option Walking) (work : Work) : Type 0 where
  pub same_shelves : (t : ℕ) → SameShelf (shelves t) (work.shelves t)
  pub last_is : work.last_table ≡ last
  pub same_walkings : SameAt walkings work.walkings

-- a new table, under the next number; only memory can run out
pub record Tabled (u : World) (r : Result TableNumber Error) (u' : World) : Type 0 where
  pub made : IfOk r (λ t. (t.0 ≡ u.work.last_table + 1) × Alike u.core u'.core × ReadingsAre u.work.readings u'
      × WorkIs (updated t.0 no_shelf u.work.shelves) t.0 u.work.walkings u'.work)
  pub refused : IfErr r (λ e. (e ≡ Error.OutOfMemory) × Stays u u')

abbrev pub IsTable : World → TableNumber → Type 0
IsTable u t = (0 < t.0) × (t.0 ≤ u.work.last_table)

abbrev pub IsNoTable : World → TableNumber → Type 0
IsNoTable u t = (t.0 ≡ 0) ⊎ (u.work.last_table < t.0)

-- one more worker is at work, under the next number
abbrev pub with_worker : Core → Core
with_worker w = record w {
  workers = updated (w.last.worker + 1) true w.workers;
  last = record w.last { worker = w.last.worker + 1 };
}

abbrev pub new_walking : TableNumber → Task → Walking
new_walking t task = record { table = t.0; task = task; todo = first_todo task; steps = 0; answer = None }

-- a worker with the number v begins on the table, and the pager's state becomes `core` with this worker
pub record Starts (u : World) (t : TableNumber) (task : Task) (core : Core) (v : WorkerNumber)
    (u' : World) : Type 0 where
  pub table : IsTable u t
  pub next : v.0 ≡ u.core.last.worker + 1
  pub pager : Alike (with_worker core) u'.core
  pub readings : ReadingsAre u.work.readings u'
  pub work : WorkIs u.work.shelves u.work.last_table (updated v.0 (Some (new_walking t task)) u.work.walkings) u'.work

pub record StartedItem (u : World) (t : TableNumber) (task : Task) (r : Result WorkerNumber Error)
    (u' : World) : Type 0 where
  pub starts : IfOk r (λ v. Starts u t task u.core v u')
  pub refused : IfErr r (λ e. (((e ≡ Error.NoSuchHandle) × IsNoTable u t)
      ⊎ ((WorkerFault u.core e ⊎ (e ≡ Error.OutOfMemory)) × IsTable u t)) × Stays u u')

-- the list has the handle h at this place, and h's cell is of this type
pub record IsEntry (w : Core) (i : ℕ) (h : HandleNumber) (row : HandleRow) (t : ℕ) : Type 0 where
  pub listed : slice_get w.list i ≡ Some h
  pub live : row_at w h ≡ Some row
  pub typed : type_at w row.node.0 ≡ Some t

-- the entry moves from the list to the worker
abbrev pub with_entry_taken : Core → ℕ → HandleNumber → WorkerNumber → Core
with_entry_taken w i h v = record w { rows = moved (only_handle h) (Owner.Worker v) w.rows; list = remove w.list i }

-- the task of a worker for an entry: its cell, as a loose handle refers to it
abbrev pub entry_task : HandleNumber → HandleRow → ℕ → Task
entry_task h row t = of_entry h (record { kind = record { 0 = loose_kind t }; node = row.node })

-- A worker begins for a list entry, which it owns from then on. It fails with WrongKind for a type whose kinds would
-- exceed 32 bits.
pub record StartedListed (u : World) (t : TableNumber) (i : ℕ) (r : Result WorkerNumber Error)
    (u' : World) : Type 0 where
  pub starts : IfOk r (λ v. (h : HandleNumber) × (row : HandleRow) × (type : ℕ) × IsEntry u.core i h row type
      × HasKinds type × Starts u t (entry_task h row type) (with_entry_taken u.core i h v) v u')
  pub refused : IfErr r (λ e. (((e ≡ Error.NoSuchHandle) × (IsNoTable u t ⊎ (length u.core.list ≤ i)))
      ⊎ ((e ≡ Error.WrongKind) × IsTable u t × ((h : HandleNumber) × (row : HandleRow) × (type : ℕ)
      × IsEntry u.core i h row type × HasNoKinds type))
      ⊎ ((WorkerFault u.core e ⊎ (e ≡ Error.OutOfMemory)) × IsTable u t × (i < length u.core.list))) × Stays u u')

-- how many steps the worker has made after this one
abbrev pub steps_after : ℕ → Bool → ℕ
steps_after n counted = if counted then one_more n else n

-- a worker ends with its result; otherwise nothing more happens
abbrev pub Ends : Option WorkerAnswer → ℕ → Core → Core → Type 0
Ends None v w w' = Alike w w'
Ends (Some answer) v w w' = WorkerEnds w v w'

-- a worker makes its next step, which changes the pager, the worker's table and the worker
pub record WorkerSteps {N B W : Type 0} (m : Seen N B W) (u : World) (v : WorkerNumber) (reply : WorkerReply W)
    (u' : World) : Type 0 where
  pub walking : Walking
  pub after : WorkerState
  pub at : u.work.walkings v.0 ≡ Some walking
  pub at_work : walking.answer ≡ None
  pub does : WalkDoes m v.0 (record { core = u.core; shelf = u.work.shelves walking.table; todo = walking.todo })
      reply.action after
  pub answers : reply.answer ≡ answer_after walking.todo reply.action
  pub counts : reply.steps ≡ steps_after walking.steps (is_counted walking.todo reply.action)
  pub ends : Ends reply.answer v.0 after.core u'.core
  pub readings : ReadingsAre u.work.readings u'
  pub work : WorkIs (updated walking.table after.shelf u.work.shelves) u.work.last_table
      (updated v.0 (Some (record walking { todo = after.todo; steps = reply.steps; answer = reply.answer }))
      u.work.walkings) u'.work

-- A worker makes its next step. If there is no such worker, or it has its result already, the call fails with
-- NoSuchHandle, and nothing changes.
pub record WorkerStepped {N B W : Type 0} (m : Seen N B W) (u : World) (v : WorkerNumber)
    (r : Result (WorkerReply W) Error) (u' : World) : Type 0 where
  pub moves : IfOk r (λ reply. WorkerSteps m u v reply u')
  pub refused : IfErr r (λ e. (e ≡ Error.NoSuchHandle)
      × (if_there (λ (walking : Walking). is_some walking.answer) true (u.work.walkings v.0) ≡ true) × Stays u u')

abbrev pub Happens : {N B W : Type 0} → Seen N B W → World → Event N B W → EventReply N B W → World → Type 0
Happens m u (Event.Call call) (EventReply.CallReply r) u' =
    OnlyCore u (λ w'. CallStep m u.core Owner.Caller call r w') u'
Happens m u (Event.LoadStart h) (EventReply.Started r) u' = OnlyCore u (λ w'. BeginCall u.core Owner.Caller h r w') u'
Happens m u (Event.LoadKey key t) (EventReply.Started r) u' = KeyStarted u key t r u'
Happens m u (Event.LoadStep l) (EventReply.LoadMoved r) u' = LoadStepped m.values u l r u'
Happens m u Event.TableNew (EventReply.TableMade r) u' = Tabled u r u'
Happens m u (Event.WorkerItem t item) (EventReply.WorkerMade r) u' = StartedItem u t (of_item (m.written_of item)) r u'
Happens m u (Event.WorkerListed t i) (EventReply.WorkerMade r) u' = StartedListed u t i r u'
Happens m u (Event.WorkerStep v) (EventReply.WorkerMoved r) u' = WorkerStepped m u v r u'
Happens m u event reply u' = ⊥

-- In the state u the event may return this reply and lead to the state u'.
pub record Step {N B W : Type 0} (m : Seen N B W) (u : World) (event : Event N B W) (reply : EventReply N B W)
    (u' : World) : Type 0 where
  pub happens : Happens m u event reply u'
