-- The pager and the machine as contracts see them: the core, a count for each node, the values in memory and the
-- environment; their invariants; and what a step does to values. Which trees nodes stand for, and when a pager stands
-- for its nodes' trees.
use Rattle.pagable_pager_spec.specs.{
  Basics.{Action, Among, ArcRef, Blob, Call, Error, Event, EventReply, HandleNumber, HandleRow, Identity, LoadNumber},
  Basics.{Meaning, Mode, NodeNumber, Owner, ReadsTree, Shape, Tree, Types, is_eager, is_shared_kind, times, tree},
  Basics.type_of,
  Calls.Looks,
  Events.reading_at,
  Kinds.{has_key, held, is_handle, is_loose, is_owned_by, is_pinning, is_shared, owner_value, pins, sharing},
  Loads.{ReadsNode, ReadsRoot, asks, next_in},
  Refusals.IsReference,
  World.{Core, Frame, HasForm, OpenLoad, Reading, Root, Seen, Todo, Values, Walking, Work, World, Written, greatest},
  World.{is_here, key_at, of_cell, of_key, row_at, to_load, type_at},
}
use Rattle.pagable_value_spec.specs.{
  Height.{Kid, kid},
  Meaning.{followed, integer, none, number, pair, pattern, reference, text, variant},
  Refusals.is_writing_fault,
  Writing.{NoFormOfSome, nesting},
  declared.data_key.OptionalDataKey.OptionalDataKey,
}
use Rattle.std.specs.{
  List.AllPairs,
  Prelude.{Err, IfOk, List, None, Ok, Option, Result, Some, false, is_none, is_some, length, map, nat_lt, slice_get},
  Prelude.{true, ℕ, ℤ, [], ◌&&◌, ◌<◌, ◌==◌, ◌∷◌, ◌≡◌, ◌≤◌, ◌⊎◌},
}

-- the pager: its core, the kept counts and the values by the numbers of their nodes, and the environment
pub record PagerState (N E : Type 0) : Type 0 where
  pub core : Core
  pub counts : ℕ → ℕ
  pub values : ℕ → Option N
  pub environment : E

pub record MachineState (N E : Type 0) : Type 0 where
  pub pager : PagerState N E
  pub work : Work

abbrev pub world_of : {N E : Type 0} → MachineState N E → World
world_of s = record { core = s.pager.core; work = s.work }

abbrev pub IsHandleBefore : HandleRow → HandleRow → Type 0
IsHandleBefore a b = a.number.0 < b.number.0

pub record HandlesAreWhole (w : Core) : Type 0 where
  -- Handles are in the order of their numbers. Handles and nodes have numbers from 1 to the last one given out, which
  -- is at most `greatest`, as the last load's is.
  pub ordered : AllPairs IsHandleBefore w.rows
  pub numbered : (h : HandleRow) → Among w.rows h → (0 < h.number.0) × (h.number.0 ≤ w.last.handle)
  pub nodes_numbered : (n : ℕ) → is_some (w.cells n) ≡ true → (0 < n) × (n ≤ w.last.node)
  pub within : (w.last.handle ≤ greatest) × (w.last.node ≤ greatest) × (w.last.load ≤ greatest)
  -- a node is live exactly if it has a handle
  pub live : (n : ℕ) → is_some (w.cells n) ≡ nat_lt 0 (held n w.rows)
  -- all handles of a node are Shared, or none is; a shared node has no key
  pub uniform : (n : ℕ) → (sharing n w.rows ≡ 0) ⊎ (sharing n w.rows ≡ held n w.rows)
  pub unkeyed : (n : ℕ) → 0 < sharing n w.rows → has_key (key_at w n) ≡ false
  -- rows and list entries have room reserved
  pub places : (length w.rows ≤ w.places.handles) × (length w.list ≤ w.places.entries)

pub record OwnersAreThere (w : Core) : Type 0 where
  -- the list contains just the handles that it owns, each once, and all are loose and unpinned
  pub listed : (q : ℕ) → times (λ (h : HandleNumber). h.0 == q) w.list
      ≡ times (λ h. is_handle q h && is_owned_by Owner.List h) w.rows
  pub waiting : (h : HandleRow) → Among w.rows h → h.owner ≡ Owner.List → h.mode ≡ Mode.LooseUnpinned
  -- if a load owns a handle, it is open; if a worker owns one, it is at work
  pub loads : (h : HandleRow) (l : LoadNumber) → Among w.rows h → h.owner ≡ Owner.Load l → is_some (w.loads l.0) ≡ true
  pub workers : (h : HandleRow) (v : ℕ) → Among w.rows h → h.owner ≡ Owner.Worker (record { 0 = v }) → w.workers v
      ≡ true

-- The owner of a load is the caller, or a worker that is at work.
abbrev pub MayOwnLoad : Core → Owner → Type 0
MayOwnLoad w Owner.Caller = Unit {0}
MayOwnLoad w (Owner.Worker v) = w.workers v.0 ≡ true
MayOwnLoad w _ = ⊥

-- A load of a cell has the cell's type, if the cell is still live. The handle that began it is a loose one of the cell,
-- if it is still live. Both numbers have been given out.
pub record IsRootWhole (w : Core) (node : NodeNumber) (t : ℕ) (h : HandleNumber) : Type 0 where
  pub typed : (type : ℕ) → type_at w node.0 ≡ Some type → type ≡ t
  pub begun : (row : HandleRow) → row_at w h ≡ Some row → (row.node ≡ node) × (is_loose row.mode ≡ true)
  pub given : (h.0 ≤ w.last.handle) × (node.0 ≤ w.last.node)

pub record LoadsAreWhole (w : Core) : Type 0 where
  pub numbered : (l : ℕ) → is_some (w.loads l) ≡ true → (0 < l) × (l ≤ w.last.load)
  pub owned : (l : ℕ) (load : OpenLoad) → w.loads l ≡ Some load → MayOwnLoad w load.owner
  pub roots : (l : ℕ) (load : OpenLoad) (node : NodeNumber) (t : ℕ) (h : HandleNumber) → w.loads l ≡ Some load
      → load.root ≡ of_cell node t h → IsRootWhole w node t h

-- The cache names a node whose number has been given out. If it is live, it has the kind's type, and it is shared
-- exactly if the kind is a shared one.
pub record IsEntryWhole (w : Core) (kind n : ℕ) : Type 0 where
  pub given : n ≤ w.last.node
  pub typed : (t : ℕ) → type_at w n ≡ Some t → t ≡ type_of kind
  pub shares : (h : HandleRow) → Among w.rows h → h.node.0 ≡ n → is_shared h.mode ≡ is_shared_kind kind

pub record IsWhole (w : Core) : Type 0 where
  pub handles : HandlesAreWhole w
  pub owners_there : OwnersAreThere w
  pub loads : LoadsAreWhole w
  pub cache : (kind key n : ℕ) → w.cache kind key ≡ Some n → IsEntryWhole w kind n
  pub workers_numbered : (v : ℕ) → w.workers v ≡ true → v ≤ w.last.worker
  -- if the storage is closed, nothing is listed or cached
  pub shut : w.closed ≡ true → (w.list ≡ []) × ((kind key : ℕ) → w.cache kind key ≡ None)

-- the invariant of a pager, which every call keeps
pub record IsPagerWhole {N E : Type 0} (v : Values N) (s : PagerState N E) : Type 0 where
  pub whole : IsWhole s.core
  -- the kept count of a node is the number of handles that pin it
  pub counted : (n : ℕ) → s.counts n ≡ pins n s.core.rows
  -- a node has a value, which is of its type, exactly if it is live, and pinned or without a key
  pub valued : (n : ℕ) → is_some (s.values n) ≡ (is_some (s.core.cells n) && is_here s.core n)
  pub typed : (n : ℕ) (x : N) → s.values n ≡ Some x → type_at s.core n ≡ Some (v.node_type x)
  -- the handles that a value owns are exactly its references' (none without a value): each is of the named node, and
  -- its mode and the node's type fit the kind
  pub owns_references : (n : ℕ) (x : N) (q : ℕ) → s.values n ≡ Some x
      → times (λ (r : ArcRef). r.handle.0 == q) (v.references x)
      ≡ times (λ h. is_handle q h && is_owned_by (owner_value n) h) s.core.rows
  pub owns_nothing : (n : ℕ) → s.values n ≡ None → times (is_owned_by (owner_value n)) s.core.rows ≡ 0
  pub references : (n : ℕ) (x : N) (r : ArcRef) → s.values n ≡ Some x → Among (v.references x) r
      → IsReference s.core (owner_value n) r

-- The node of the reference has a value in memory, and x holds that value beside the reference.
pub record HoldsNode {N E : Type 0} (v : Values N) (s : PagerState N E) (x : N) (r : ArcRef) : Type 0 where
  pub y : N
  pub there : s.values r.node.0 ≡ Some y
  pub beside : v.beside x r y

-- `HoldsNode` for each reference loaded with x
abbrev pub HoldsItsNodes : {N E : Type 0} → Values N → PagerState N E → N → Type 0
HoldsItsNodes v s x = (r : ArcRef) → Among (v.references x) r → is_eager r.kind.0 ≡ true → HoldsNode v s x r

-- each value in memory holds the values of the nodes that are loaded with it
pub record HoldsItsValues {N E : Type 0} (v : Values N) (s : PagerState N E) : Type 0 where
  pub each : (n : ℕ) (x : N) → s.values n ≡ Some x → HoldsItsNodes v s x

-- a load of a cell is read as the cell's type; below: and it is the caller's open load l
abbrev pub FitsRoot : Root → Reading → Type 0
FitsRoot (of_cell node t h) reading = reading.node_type ≡ t
FitsRoot of_key reading = Unit {0}

pub record IsReadingWhole (w : Core) (l : ℕ) (reading : Reading) : Type 0 where
  pub number : reading.load.0 ≡ l
  pub load : OpenLoad
  pub open_load : w.loads l ≡ Some load
  pub owned : load.owner ≡ Owner.Caller
  pub typed : FitsRoot load.root reading

-- a worker is on an existing table, and at work exactly as long as it has no result
pub record IsWalkingWhole (w : Core) (work : Work) (v : ℕ) (walking : Walking) : Type 0 where
  pub table : (0 < walking.table) × (walking.table ≤ work.last_table)
  pub at_work : w.workers v ≡ is_none walking.answer

-- The invariant of a machine, which every event keeps. It says nothing about trees, order and past events.
pub record IsMachineWhole {N E : Type 0} (v : Values N) (s : MachineState N E) : Type 0 where
  pub pager : IsPagerWhole v s.pager
  pub readings : (l : ℕ) (reading : Reading) → s.work.readings l ≡ Some reading → IsReadingWhole s.pager.core l reading
  pub walkings : (n : ℕ) (walking : Walking) → s.work.walkings n ≡ Some walking
      → IsWalkingWhole s.pager.core s.work n walking
  pub each_walks : (n : ℕ) → s.pager.core.workers n ≡ true → is_some (s.work.walkings n) ≡ true

-- a new pager over a storage: nothing in it, no number given out, and any contents of the storage
pub record IsNew {N E : Type 0} (s : PagerState N E) : Type 0 where
  pub rows : s.core.rows ≡ []
  pub cells : (n : ℕ) → s.core.cells n ≡ None
  pub list : s.core.list ≡ []
  pub cache : (kind key : ℕ) → s.core.cache kind key ≡ None
  pub loads : (l : ℕ) → s.core.loads l ≡ None
  pub workers : (v : ℕ) → s.core.workers v ≡ false
  pub last : s.core.last ≡ record { node = 0; handle = 0; load = 0; worker = 0 }
  pub counts : (n : ℕ) → s.counts n ≡ 0
  pub values : (n : ℕ) → s.values n ≡ None

-- a machine on which nobody works: no table, no reading, no worker
pub record IsIdle {N E : Type 0} (s : MachineState N E) : Type 0 where
  pub no_table : s.work.last_table ≡ 0
  pub shelves : (t : ℕ) (i : Identity) → (s.work.shelves t).slots i ≡ None
  pub waits : (t v : ℕ) → (s.work.shelves t).waits v ≡ None
  pub readings : (l : ℕ) → s.work.readings l ≡ None
  pub walkings : (v : ℕ) → s.work.walkings v ≡ None
  pub nobody : (v : ℕ) → s.pager.core.workers v ≡ false

-- Each value that is in memory afterwards was there before, at the same node; or the node had none, and `comes` allows
-- this one. The environment is unchanged.
pub record Moves {N E : Type 0} (comes : ℕ → N → Type 0) (s s' : PagerState N E) : Type 0 where
  pub each : (n : ℕ) (x : N) → s'.values n ≡ Some x → (s.values n ≡ Some x) ⊎ ((s.values n ≡ None) × comes n x)
  pub environment : s'.environment ≡ s.environment

abbrev pub IsNewNode : Core → ℕ → Type 0
IsNewNode w n = w.last.node < n

pub record IsCellOf (w : Core) (l : LoadNumber) (n : ℕ) : Type 0 where
  pub load : OpenLoad
  pub node : NodeNumber
  pub t : ℕ
  pub h : HandleNumber
  pub open_load : w.loads l.0 ≡ Some load
  pub root : load.root ≡ of_cell node t h
  pub is : node.0 ≡ n

-- the value that a call may bring into memory: the one that it was given, at a new node or at its load's cell
abbrev pub CallBrings : {N B : Type 0} → Core → Call N B → ℕ → N → Type 0
CallBrings w (Call.NewPinned y) n x = (x ≡ y) × IsNewNode w n
CallBrings w (Call.NewLoose y) n x = (x ≡ y) × IsNewNode w n
CallBrings w (Call.NewShared y) n x = (x ≡ y) × IsNewNode w n
CallBrings w (Call.LoadAdopt l kind key y) n x = (x ≡ y) × IsNewNode w n
CallBrings w (Call.LoadEnd l y) n x = (x ≡ y) × IsCellOf w l n
CallBrings w call n x = ⊥

-- the value that a load's step may bring into memory: the one that its innermost blob reads as, at a new node or at the
-- load's cell
abbrev pub ReadingBrings : {N : Type 0} → Values N → Core → Reading → ℕ → N → Type 0
ReadingBrings v w reading n x = (ReadsNode v reading x × IsNewNode w n)
    ⊎ (ReadsRoot v reading x × IsCellOf w reading.load n)

-- the value that a worker's step may bring into memory: the one that its load brings
abbrev pub TodoBrings : {N : Type 0} → Values N → Core → List Todo → ℕ → N → Type 0
TodoBrings v w (to_load r place through reading ∷ below) n x = ReadingBrings v w reading n x
TodoBrings v w todo n x = ⊥

abbrev pub EventBrings : {N B W : Type 0} → Values N → World → Event N B W → ℕ → N → Type 0
EventBrings v u (Event.Call call) n x = CallBrings u.core call n x
EventBrings v u (Event.LoadStep l) n x = (reading : Reading) × (reading_at u l ≡ Some reading)
    × ReadingBrings v u.core reading n x
EventBrings v u (Event.WorkerStep k) n x = (walking : Walking) × (u.work.walkings k.0 ≡ Some walking)
    × TodoBrings v u.core walking.todo n x
EventBrings v u event n x = ⊥

-- a value that a load's or a worker's step brings into memory holds the values of its nodes; for a call's value the
-- caller is responsible
abbrev pub EventHolds : {N E B W : Type 0} → Values N → PagerState N E → Event N B W → N → Type 0
EventHolds v s (Event.LoadStep l) x = HoldsItsNodes v s x
EventHolds v s (Event.WorkerStep k) x = HoldsItsNodes v s x
EventHolds v s event x = Unit {0}

-- what was written is a form of the node's value, with exactly the value's references in order
pub record IsWrittenOf {N E : Type 0} (v : Values N) (s : PagerState N E) (n : ℕ) (written : Written) : Type 0 where
  pub x : N
  pub held : s.values n ≡ Some x
  pub form : HasForm v x written
  pub listed : written.references ≡ v.references x

-- one of the value's meanings has no form
pub record IsFormless {N : Type 0} (v : Values N) (x : N) : Type 0 where
  pub shape : Shape
  pub is : v.types.nodes (v.node_type x) ≡ Some shape
  pub formless : NoFormOfSome (v.means x) (nesting 0 v.types.parts) shape

-- if writing a node's value fails with an error that says that a value has no form, one of its meanings has none
abbrev pub RefusesWriting : {N E : Type 0} → Values N → PagerState N E → ℕ → Error → Type 0
RefusesWriting {N} v s n e = is_writing_fault e ≡ true → (x : N) × (s.values n ≡ Some x) × IsFormless v x

abbrev pub TookWrites : {N E W : Type 0} → Values N → (W → Written) → PagerState N E → Action W → Type 0
TookWrites v f s (Action.Write i (Ok out)) = IsWrittenOf v s i.node.0 (f out)
TookWrites v f s (Action.Write i (Err e)) = RefusesWriting v s i.node.0 e
TookWrites v f s step = Unit {0}

abbrev pub ReplyWrites : {N B E W : Type 0} → Seen N B W → PagerState N E → EventReply N B W → Type 0
ReplyWrites m s (EventReply.WorkerMoved r) = IfOk r (λ reply. TookWrites m.values m.written_of s reply.action)
ReplyWrites m s reply = Unit {0}

-- a handle that pins lends the value of its node; any other lends none
abbrev pub Lends : {N E : Type 0} → PagerState N E → HandleRow → Option N → Type 0
Lends s row None = is_pinning row.mode ≡ false
Lends s row (Some x) = (is_pinning row.mode ≡ true) × (s.values row.node.0 ≡ Some x)

abbrev pub ValueCall : {N E : Type 0} → PagerState N E → HandleNumber → Result (Option N) Error → Type 0
ValueCall s h r = Looks s.core h (λ x row. Lends s row x) r

-- beside each reference whose handle pins a value, x holds that value
pub record HoldsPinned {N E : Type 0} (v : Values N) (s : PagerState N E) (x : N) : Type 0 where
  pub each : (r : ArcRef) (y : N) → ValueCall s r.handle (Ok (Some y)) → v.beside x r y

-- if the node has a key, the key reads as the tree
abbrev pub KeyFits : {N E : Type 0} → Values N → PagerState N E → ℕ → Tree → Type 0
KeyFits v s n t = (key : ℕ) → key_at s.core n ≡ OptionalDataKey.Some key → ReadsTree s.core.stored v.types key t

mutual
  -- The node stands for the tree: its value is in memory, and the value's type and meaning, followed through its
  -- references, are the tree's; or the node has a key and no value. Either way its key, if any, reads as the tree.
  pub data NodeStands {N E : Type 0} (v : Values N) (s : PagerState N E) : ℕ → Tree → Type 0 where
    here : (n : ℕ) (x : N) (own : Meaning ArcRef) (t : Tree) → s.values n ≡ Some x → v.node_type x ≡ t.type
        → v.means x own → MeaningStands v s own t.meaning → KeyFits v s n t → NodeStands v s n t
    away : (n key : ℕ) (t : Tree) → s.values n ≡ None → key_at s.core n ≡ OptionalDataKey.Some key → KeyFits v s n t
        → NodeStands v s n t

  -- A meaning whose references are handles stands for the meaning in which each is followed to what its node stands
  -- for. What is followed already stays followed.
  pub data MeaningStands {N E : Type 0} (v : Values N) (s : PagerState N E) : Meaning ArcRef → Meaning ⊥ → Type 0 where
    number-stands : (i : ℕ) → MeaningStands v s (number i) (number i)
    integer-stands : (z : ℤ) → MeaningStands v s (integer z) (integer z)
    text-stands : (t : List ℕ) → MeaningStands v s (text t) (text t)
    pattern-stands : (t : List ℕ) → MeaningStands v s (pattern t) (pattern t)
    none-stands : MeaningStands v s none none
    pair-stands : (x y : Meaning ArcRef) (a b : Meaning ⊥) → MeaningStands v s x a → MeaningStands v s y b
        → MeaningStands v s (pair x y) (pair a b)
    variant-stands : (i : ℕ) (x : Meaning ArcRef) (a : Meaning ⊥) → MeaningStands v s x a
        → MeaningStands v s (variant i x) (variant i a)
    followed-stands : (kind : ℕ) (x : Meaning ArcRef) (a : Meaning ⊥) → MeaningStands v s x a
        → MeaningStands v s (followed kind x) (followed kind a)
    reference-stands : (r : ArcRef) (a : Meaning ⊥) → NodeStands v s r.node.0 (tree (type_of r.kind.0) a)
        → MeaningStands v s (reference r) (followed r.kind.0 a)

-- a value (in memory, or given to a call, or returned by one) stands for the tree
pub record ValueStands {N E : Type 0} (v : Values N) (s : PagerState N E) (x : N) (t : Tree) : Type 0 where
  pub own : Meaning ArcRef
  pub typed : v.node_type x ≡ t.type
  pub means : v.means x own
  pub stands : MeaningStands v s own t.meaning

-- the key reads as the tree of this node, which is of this type
pub record ReadsNodeTree (types : Types) (stored : ℕ → Option Blob) (trees : ℕ → Tree) (key t n : ℕ) : Type 0 where
  pub typed : (trees n).type ≡ t
  pub reads : ReadsTree stored types key (trees n)

-- A load's frame holds the blob that is stored under the frame's key. The load has got references for the blob's first
-- keys, and each of these keys reads as the tree of its reference's node, live or gone.
pub record FrameFits (types : Types) (stored : ℕ → Option Blob) (trees : ℕ → Tree) (frame : Frame) : Type 0 where
  pub is : stored frame.key ≡ Some frame.blob
  pub few : length frame.got ≤ length frame.blob.keys
  pub got : (place key : ℕ) (r : ArcRef) → slice_get frame.got place ≡ Some r → slice_get frame.blob.keys place
      ≡ Some key → ReadsNodeTree types stored trees key (type_of r.kind.0) r.node.0

-- each frame is what the frame below it asks for, and the last one is the root's
unfoldable pub FramesFit : Types → (ℕ → Option Blob) → (ℕ → Tree) → (root_key root_type : ℕ) → List Frame → Type 0
FramesFit types stored trees root_key root_type [] = Unit {0}
FramesFit types stored trees root_key root_type (frame ∷ []) =
    FrameFits types stored trees frame × (frame.key ≡ root_key) × (frame.node_type ≡ root_type)
FramesFit types stored trees root_key root_type (frame ∷ below ∷ rest) = FrameFits types stored trees frame
    × (frame.node_type ≡ type_of frame.kind.0)
    × (next_in types below ≡ asks frame.kind frame.key)
    × FramesFit types stored trees root_key root_type (below ∷ rest)

-- the frames of a load fit the load's own key
abbrev pub ReadingFits : {N E : Type 0} → Values N → PagerState N E → (ℕ → Tree) → Reading → Type 0
ReadingFits v s trees reading = (load : OpenLoad) → s.core.loads reading.load.0 ≡ Some load
    → FramesFit v.types s.core.stored trees load.key reading.node_type reading.frames

-- The pager stands for its nodes' trees: each live node stands for its tree, which is of its type; the key of a load of
-- a cell reads as the cell's tree; and the key of an entry of the cache reads as its node's tree.
pub record PagerStandsFor {N E : Type 0} (v : Values N) (s : PagerState N E) (trees : ℕ → Tree) : Type 0 where
  pub stands : (n : ℕ) → 0 < held n s.core.rows → NodeStands v s n (trees n)
  pub typed : (n : ℕ) → 0 < held n s.core.rows → type_at s.core n ≡ Some (trees n).type
  pub loads : (l : ℕ) (load : OpenLoad) (node : NodeNumber) (t : ℕ) (h : HandleNumber) → s.core.loads l ≡ Some load
      → load.root ≡ of_cell node t h → ReadsNodeTree v.types s.core.stored trees load.key t node.0
  pub cache : (kind key n : ℕ) → s.core.cache kind key ≡ Some n
      → ReadsNodeTree v.types s.core.stored trees key (type_of kind) n

-- this is the reading of some load, of the caller's or of a worker's
pub data IsReadingOf (work : Work) (reading : Reading) : Type 0 where
  of_caller : (l : ℕ) → work.readings l ≡ Some reading → IsReadingOf work reading
  of_worker : (n place : ℕ) (walking : Walking) (r : ArcRef) (through : HandleNumber) (below : List Todo)
      → work.walkings n ≡ Some walking → walking.todo ≡ to_load r place through reading ∷ below
      → IsReadingOf work reading

-- the machine's pager stands for the trees, and the readings fit them
pub record StandsFor {N E : Type 0} (v : Values N) (s : MachineState N E) (trees : ℕ → Tree) : Type 0 where
  pub pager : PagerStandsFor v s.pager trees
  pub readings : (reading : Reading) → IsReadingOf s.work reading → ReadingFits v s.pager trees reading

-- each node with a number up to `last` keeps its tree
abbrev pub SameTrees : ℕ → (ℕ → Tree) → (ℕ → Tree) → Type 0
SameTrees last old new = (n : ℕ) → n ≤ last → new n ≡ old n

-- the children: the trees that the references lead to
abbrev pub kids_of : (ℕ → Tree) → List ArcRef → List Kid
kids_of trees rs = map (λ (r : ArcRef). kid r.kind.0 (trees r.node.0).meaning) rs
