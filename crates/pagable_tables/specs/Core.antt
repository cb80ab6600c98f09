-- The core that whole tables stand for, what a call of the tables does and keeps, and the steps that calls make.
use Rattle.indexmap.specs.IndexMap.{IndexMap}
use Rattle.pagable_pager_spec.specs.{
  Basics.{Among, Blob, if_there},
  Calls.{IsNext, next_node, with_handle, with_mode, with_node},
  Events.{with_entry_taken, with_worker},
  Kinds.{find_row, is_owner, is_shared, owner_worker},
  LoadCalls.is_owned_in,
  Refusals.{AreHandlesFull, Refused, WorkerFault, spent},
  Workers.is_load_of,
  World.{Alike, Core, HasRoom, OpenLoad, Root, greatest, of_cell, of_key},
  declared.{handle_row.{HandleRow.HandleRow, Owner.Owner}, mode.Mode.Mode},
}
use Rattle.pagable_tables.specs.{
  CascadeInvariant.{IsSoundInCascade, is_value_owner, owns_nothing},
  HandleTable.{alive, live, room, rows_of},
  Indexes.{cached_at, load_at, reach_at, worker_at},
  Nodes.{cell_in, counts_at, key_in},
  NumberTable.{place_at, row_by},
  ValuesKept.DropsValues,
  declared.{handle_table.HandleAt.HandleAt, load_table.{LoadRoot.LoadRoot, LoadRow.LoadRow}},
  declared.{number_table.NumberTable.NumberTable, place.Place.Place, release.ReleaseSet.ReleaseSet},
  declared.tables.{HandleRange.HandleRange, Tables.Tables},
}
use Rattle.pagable_value_spec.specs.declared.{
  error.Error.Error,
  numbers.{ArcRef.ArcRef, HandleNumber.HandleNumber, LoadNumber.LoadNumber, NodeNumber.NodeNumber},
  numbers.WorkerNumber.WorkerNumber,
}
use Rattle.std.specs.{
  Option.option_map,
  Prelude.{Bool, IfErr, IfOk, IsSome, List, None, Option, Result, Some, false, get_or, if◌then◌else◌, is_some, length},
  Prelude.{not, slice_get, suc, true, vec_capacity, zero, ℕ, [], ◌&&◌, ◌+◌, ◌<◌, ◌==◌, ◌||◌, ◌∷◌, ◌≡◌, ◌≤◌, ◌⊎◌},
  VecDeque.deque_capacity,
}
use Rattle.pagable_pager_spec.specs.Pager as pager

abbrev pub root_in : LoadRoot → Root
root_in (LoadRoot.Cell node t h) = of_cell node t h
root_in LoadRoot.Key = of_key

abbrev pub load_in : LoadRow → OpenLoad
load_in row = record { owner = row.owner; key = row.key; root = root_in row.root }

-- The view of a storage: what it holds under each key, whether it is closed, and how often it has failed.
pub record StorageView : Type 0 where
  pub stored : ℕ → Option Blob
  pub closed : Bool
  pub failures : ℕ

-- a storage without blobs: an open one, one that is open exactly if cells are listed, and a closed one
abbrev pub no_blobs : StorageView
no_blobs = record { stored = λ key. None; closed = false; failures = 0 }

abbrev pub no_blobs_of : Bool → StorageView
no_blobs_of lists = record { stored = λ key. None; closed = not lists; failures = 0 }

abbrev pub shut_view : ℕ → StorageView
shut_view failures = record { stored = λ key. None; closed = true; failures = failures }

-- the core of these tables over a storage
abbrev pub core_of : Tables → StorageView → Core
core_of t storage = record {
  rows = rows_of t.ref_counts;
  cells = λ n. cell_in (counts_at t.ref_counts.nodes n);
  list = t.ref_counts.list.items;
  cache = λ kind key. option_map (λ (n : NodeNumber). n.0) (cached_at t.cache kind key);
  stored = storage.stored;
  closed = storage.closed;
  failures = storage.failures;
  loads = λ l. option_map load_in (load_at t.loads l);
  workers = λ v. is_some (worker_at t.workers v);
  last = record { node = t.last_node; handle = t.ref_counts.last_handle; load = t.last_load; worker = t.last_worker };
  places = record { handles = vec_capacity t.ref_counts.handles.places; entries = deque_capacity t.ref_counts.list };
}

-- the world of these tables with nothing stored
abbrev pub core_alone : Tables → Core
core_alone t = core_of t no_blobs

-- The tables are whole: handles, nodes and list agree, no node is dying, and the core is whole.
pub record IsWhole (t : Tables) : Type 0 where
  pub steady : IsSoundInCascade t.ref_counts [] owns_nothing
  pub core : pager.IsWhole (core_alone t)

-- there are places for the rows and for the list's entries
pub record ArePlaced (w : Core) : Type 0 where
  pub rows : length w.rows ≤ w.places.handles
  pub list : length w.list ≤ w.places.entries

-- who may get a handle: the caller, a worker that is at work, or an open load
abbrev pub MayOwnHandle : Core → Owner → Type 0
MayOwnHandle w Owner.Caller = Unit {0}
MayOwnHandle w (Owner.Worker v) = w.workers v.0 ≡ true
MayOwnHandle w (Owner.Load l) = is_some (w.loads l.0) ≡ true
MayOwnHandle w (Owner.Value n) = ⊥
MayOwnHandle w Owner.List = ⊥

-- The node has a handle that is Shared exactly if the mode is.
pub record Suits (w : Core) (node : NodeNumber) (mode : Mode) : Type 0 where
  pub row : HandleRow
  pub there : Among w.rows row
  pub at : row.node ≡ node
  pub shared : is_shared row.mode ≡ is_shared mode

-- A handle of a live node is made under the next number. It succeeds while numbers and places are left.
pub record MakesHandle (w : Core) (node : NodeNumber) (mode : Mode) (owner : Owner) (r : Result HandleNumber Error)
    (w' : Core) : Type 0 where
  pub made : IfOk r (λ k. IsNext k w × Alike (with_handle w node mode owner) w')
  pub refused : IfErr r (λ e. Refused (spent w.last.handle) (spent w.last.handle) (AreHandlesFull w) w e w')

-- ---- handles that are given up together, and workers that begin

-- whether the set contains a handle of this owner at this node
abbrev pub contains_owned : Core → ReleaseSet → Owner → NodeNumber → Bool
contains_owned w (ReleaseSet.Load l) owner node = is_owner (Owner.Load l) owner
contains_owned w (ReleaseSet.AtNode v n) owner node = is_owner (Owner.Worker v) owner && node.0 == n.0
contains_owned w (ReleaseSet.Worker v) owner node = is_owner (Owner.Worker v) owner || is_load_of w v.0 owner
contains_owned w ReleaseSet.Listed owner node = is_owner Owner.List owner

abbrev pub contains_row : Core → ReleaseSet → HandleRow → Bool
contains_row w giving row = contains_owned w giving row.owner row.node

-- whether the row of this number, if it is among these, passes the test
abbrev pub passes_in : (HandleRow → Bool) → List HandleRow → ℕ → Bool
passes_in test rows q = if_there test false (find_row q rows)

-- whether the range contains a handle of this number
abbrev pub InReach : HandleRange → ℕ → Type 0
InReach reach q = (0 < q) × ((reach.since < q) ⊎ (q ≡ reach.beside))

-- these are the open loads of a world
abbrev pub LoadsAre : {S : Type 0} → IndexMap ℕ LoadRow S → Core → Type 0
LoadsAre loads w = (l : ℕ) → w.loads l ≡ option_map load_in (load_at loads l)

-- the last live row of the set whose number is asked for and at most `left`, with its index
pub record IsLast {S : Type 0} (places : List Place) (loads : IndexMap ℕ LoadRow S) (giving : ReleaseSet)
    (IsAsked : ℕ → Type 0) (left : ℕ) (at : HandleAt) : Type 0 where
  pub place : slice_get places at.place ≡ Some (alive at.row)
  pub found : find_row at.row.number.0 (live places) ≡ Some at.row
  pub between : IsAsked at.row.number.0 × (at.row.number.0 ≤ left)
  pub contains : (w : Core) → LoadsAre loads w → contains_row w giving at.row ≡ true
  pub not_a_value : is_value_owner at.row.owner ≡ false
  pub last : (w : Core) (q : ℕ) → LoadsAre loads w → IsAsked q → at.row.number.0 < q → q ≤ left
      → passes_in (contains_row w giving) (live places) q ≡ false

-- a load's row, unless the worker owns the load
abbrev pub left_load : ℕ → Option LoadRow → Option LoadRow
left_load v None = None
left_load v (Some row) = if is_owner (owner_worker v) row.owner then None else Some row

-- each worker's range contains what it contained before
pub record AreRangesWider {S : Type 0} (workers workers' : IndexMap ℕ HandleRange S) : Type 0 where
  pub wider : (v q : ℕ) → InReach (reach_at workers v) q → InReach (reach_at workers' v) q
  pub before : (v : ℕ) → (reach_at workers' v).since ≤ (reach_at workers v).since

-- a worker begins, or the call fails and nothing changes
pub record BeginsWorker (w : Core) (r : Result WorkerNumber Error) (w' : Core) : Type 0 where
  pub begun : IfOk r (λ v. (v.0 ≡ w.last.worker + 1) × Alike (with_worker w) w')
  pub refused : IfErr r (λ e. WorkerFault w e × Alike w w')

-- a worker begins with the handle of a list entry, or the call fails and nothing changes
pub record TakesWorker (w : Core) (place : ℕ) (r : Result WorkerNumber Error) (w' : Core) : Type 0 where
  pub taken : IfOk r (λ v. (h : HandleNumber) × (slice_get w.list place ≡ Some h) × (v.0 ≡ w.last.worker + 1)
      × Alike (with_worker (with_entry_taken w place h v)) w')
  pub refused : IfErr r (λ e. WorkerFault w e × Alike w w')

-- ---- loads and workers own only handles that were made since they began

pub record OwnLaterHandles (t : Tables) : Type 0 where
  -- all handles of an open load have numbers above the last one that was given out before it began
  pub given : (l : ℕ) (load : LoadRow) → load_at t.loads l ≡ Some load → load.since ≤ t.ref_counts.last_handle
  pub since : (l : ℕ) (load : LoadRow) (q : ℕ) → load_at t.loads l ≡ Some load
      → is_owned_in (core_alone t) (Owner.Load (record { 0 = l })) q ≡ true → load.since < q
  -- a worker's range contains all its handles, and its loads began after it
  pub begun : (v : ℕ) → (reach_at t.workers v).since ≤ t.ref_counts.last_handle
  pub reach : (v q : ℕ) → is_owned_in (core_alone t) (owner_worker v) q ≡ true → InReach (reach_at t.workers v) q
  pub loads : (v l : ℕ) (load : LoadRow) → load_at t.loads l ≡ Some load → is_owner (owner_worker v) load.owner ≡ true
      → (reach_at t.workers v).since ≤ load.since
  -- `last` of an open load's row is at least each handle that it owns up to `noted`
  pub noted : t.noted ≤ t.ref_counts.last_handle
  pub until : (l : ℕ) (load : LoadRow) (q : ℕ) → load_at t.loads l ≡ Some load
      → is_owned_in (core_alone t) (Owner.Load (record { 0 = l })) q ≡ true → q ≤ t.noted → q ≤ load.last

-- all handles that a load owns have numbers up to this one; below: above this one
abbrev pub IsOwnedUpTo : Tables → LoadNumber → ℕ → Type 0
IsOwnedUpTo t l until = (q : ℕ) → is_owned_in (core_alone t) (Owner.Load l) q ≡ true → q ≤ until

abbrev pub IsOwnedAbove : Tables → LoadNumber → ℕ → Type 0
IsOwnedAbove t l since = (q : ℕ) → is_owned_in (core_alone t) (Owner.Load l) q ≡ true → since < q

-- `last` of a load's row is at least each handle that it owns, above a number, at the first `count` places
abbrev pub AreNoted : {S : Type 0} → IndexMap ℕ LoadRow S → List Place → (number count : ℕ) → Type 0
AreNoted loads places number count = (l : LoadNumber) (row : LoadRow) (k : ℕ) (d : Place) → load_at loads l.0 ≡ Some row
    → k < count → number < (get_or places k d).row.number.0
    → (get_or places k d).row.owner ≡ Owner.Load l → (get_or places k d).row.number.0 ≤ row.last

-- the new row is of the same load, with the same last handle or a greater one
abbrev pub Raised : Option LoadRow → Option LoadRow → Type 0
Raised None None = Unit {0}
Raised None (Some new) = ⊥
Raised (Some old) None = ⊥
Raised (Some old) (Some new) = (new ≡ record old { last = new.last }) × (old.last ≤ new.last)

abbrev pub AreRaised : {S : Type 0} → IndexMap ℕ LoadRow S → IndexMap ℕ LoadRow S → Type 0
AreRaised old new = (l : ℕ) → Raised (load_at old l) (load_at new l)

-- the rows of loads took note of more handles, and nothing else changed
pub record Notes (old new : Tables) : Type 0 where
  pub same : new ≡ record old { loads = new.loads; noted = new.noted }
  pub rows : AreRaised old.loads new.loads
  pub whole : IsWhole new
  pub later : OwnLaterHandles new

-- ---- what a call of the tables does: its step in the core, and what it keeps

-- The core makes the step, whatever is stored; the tables stay whole; and loads and workers own only handles
-- made since they began, if that was so.
pub record Does (old : Tables) (step : Core → Core → Type 0) (new : Tables) : Type 0 where
  pub does : (storage : StorageView) → step (core_of old storage) (core_of new storage)
  pub whole : IsWhole new
  pub later : OwnLaterHandles old → OwnLaterHandles new

-- As `Does`, where `lists` is set exactly while the storage is open; and the value of each node is dropped when it has
-- to be.
pub record DoesAndDropsValues {X : Type 0} (lists : Bool) (old : Tables) (values : NumberTable X)
    (step : Core → Core → Type 0)
    (new : Tables) (values' : NumberTable X) : Type 0 where
  pub does : (storage : StorageView) → lists ≡ not storage.closed → step (core_of old storage) (core_of new storage)
  pub whole : IsWhole new
  pub later : OwnLaterHandles old → OwnLaterHandles new
  pub drops : DropsValues (counts_at old.ref_counts.nodes) (row_by values)
      (counts_at new.ref_counts.nodes) (row_by values')

-- ---- handles that get another owner, one after the other as they are named, or are pinned

-- A Pinned handle of the row's node is made, and the row's handle is pinned too. It succeeds while numbers and places
-- are left.
pub record PinsInMemory (w : Core) (me : Owner) (row : HandleRow) (r : Result HandleNumber Error)
    (w' : Core) : Type 0 where
  pub pinned : IfOk r (λ k. IsNext k w × Alike (with_handle (with_mode w row.number Mode.LoosePinned) row.node
      Mode.Pinned me) w')
  pub refused : IfErr r (λ e. Refused (spent w.last.handle) (spent w.last.handle) (AreHandlesFull w) w e w')

-- the handle at a place
abbrev pub named_at : List HandleNumber → ℕ → ℕ
named_at hs place = (get_or hs place (record { 0 = 0 })).0

-- the numbers before a place, the last of them first
unfoldable pub seen : List HandleNumber → ℕ → List ℕ
seen hs zero = []
seen hs (suc place) = named_at hs place ∷ seen hs place

-- ---- nodes that are inserted

-- numbers are left for a node and a handle, and there is room for both
pub record HasRoomForNode (t : Tables) : Type 0 where
  pub node_left : t.last_node < greatest
  pub handle_left : t.ref_counts.last_handle < greatest
  pub handle_room : 0 < room t.ref_counts.handles
  pub node_room : IsSome (place_at t.ref_counts.nodes (t.last_node + 1))

-- the second world is the first one with at least as much room
pub record OnlyRoom (w w' : Core) : Type 0 where
  pub same : w' ≡ record w { places = w'.places }
  pub more : HasRoom w.places w'.places

-- A node of this type is inserted with this key (0 for none), with references that were checked, and one handle of it.
pub record InsertsNode (w : Core) (me : Owner) (node_type key : ℕ) (references : List ArcRef) (mode : Mode)
    (k : HandleNumber)
    (w' : Core) : Type 0 where
  pub next : IsNext k w
  pub leaves : Alike (with_handle (with_node w node_type (key_in key) references) (next_node w) mode me) w'
