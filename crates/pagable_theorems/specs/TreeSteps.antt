-- What a value leads to by its references; what loads need and have got; the effect of a step on trees. And invariants
-- of runs: what workers hold of the references that they have claimed; which cells have a key, if the storage is open;
-- and what tables and workers know of a page-out, in terms of trees.
use Rattle.pagable_pager_spec.specs.{
  Basics.{Among, ArcRef, Blob, HandleNumber, Identity, Kind, LoadNumber, Meaning, NodeNumber, OptionalDataKey},
  Basics.{ReadsTree, Tree, Types, WorkerNumber, above, is_loose_kind, longest_path, times, type_of},
  Events.reading_at,
  Kinds.{any_mode, find_row, fits_mode, has_key, identity_of, is_loose, is_pinning, owner_worker},
  LoadCalls.first_key,
  Loads.{ReadsNode, gone_on, need_of, needs_lazy, needs_nested, nested_frame, root_frame, with_got},
  Pager.{CallBrings, EventBrings, IsNewNode, IsReadingOf, KeyFits, MachineState, PagerState, ReadsNodeTree, SameTrees},
  Pager.world_of,
  Refusals.{IsReference, Owns},
  Rightness.AreKeysOf,
  Workers.{IsPublished, place_below},
  World.{Cell, Core, Frame, OpenLoad, Reading, Shelf, Slot, Task, Todo, Values, Walking, World, Written, digest},
  World.{is_here, key_at, of_cell, of_entry, of_item, published, row_at, to_fail, to_finish, to_item, to_load, to_pin},
  World.{to_publish, to_release, to_set, to_start, to_write, type_at},
  declared.calls.{Call.Call, Reply.Reply},
  declared.events.{Action.Action, Event.Event, EventReply.EventReply, LoadAnswer.LoadAnswer, PinStep.PinStep},
  declared.{handle_row.{HandleRow.HandleRow, Owner.Owner}, pinning.Pinning.Pinning},
}
use Rattle.pagable_value_spec.specs.{
  Canonical.{IsReadableTree, IsReadableType},
  Form.Form,
  Meaning.{followed, integer, none, number, pair, pattern, reference, text, variant},
  Merkle.{KeyOf, StoredTree, blob_of},
  Reading.deepest,
  References.references_in,
  Shape.Shape,
  Writing.kind_of_arc,
}
use Rattle.std.specs.{
  Prelude.{List, None, Ok, Option, Some, drop, false, is_some, length, true, ℕ, ℤ, [], ◌+◌, ◌<◌, ◌==◌, ◌∷◌, ◌≡◌, ◌≤◌},
  Prelude.◌⊎◌,
}

-- The first meaning leads to the second: each of its references satisfies P and is followed to its node's tree. It may
-- contain references that are followed already only if F.
pub data LeadsBy (F : Type 0) (P : ArcRef → Type 0) (trees : ℕ → Tree) : Meaning ArcRef → Meaning ⊥ → Type 0 where
  number-leads : (i : ℕ) → LeadsBy F P trees (number i) (number i)
  integer-leads : (z : ℤ) → LeadsBy F P trees (integer z) (integer z)
  text-leads : (t : List ℕ) → LeadsBy F P trees (text t) (text t)
  pattern-leads : (t : List ℕ) → LeadsBy F P trees (pattern t) (pattern t)
  none-leads : LeadsBy F P trees none none
  pair-leads : (x y : Meaning ArcRef) (a b : Meaning ⊥) → LeadsBy F P trees x a → LeadsBy F P trees y b
      → LeadsBy F P trees (pair x y) (pair a b)
  variant-leads : (i : ℕ) (x : Meaning ArcRef) (a : Meaning ⊥) → LeadsBy F P trees x a
      → LeadsBy F P trees (variant i x) (variant i a)
  followed-leads : (kind : ℕ) (x : Meaning ArcRef) (a : Meaning ⊥) → F → LeadsBy F P trees x a
      → LeadsBy F P trees (followed kind x) (followed kind a)
  reference-leads : (r : ArcRef) (a : Meaning ⊥) → P r → (trees r.node.0).meaning ≡ a
      → LeadsBy F P trees (reference r) (followed r.kind.0 a)

-- leads to the meaning, if each node is of the type of its reference's kind
abbrev pub LeadsTo : (ℕ → Tree) → Meaning ArcRef → Meaning ⊥ → Type 0
LeadsTo trees = LeadsBy (Unit {0}) (λ r. (trees r.node.0).type ≡ type_of r.kind.0) trees

-- leads to the meaning by these references only, and nothing in it is followed already
abbrev pub FollowsTo : (ℕ → Tree) → List ArcRef → Meaning ArcRef → Meaning ⊥ → Type 0
FollowsTo trees rs = LeadsBy ⊥ (λ r. Among rs r) trees

-- a value leads to the tree
pub record ValueLeads {N : Type 0} (v : Values N) (trees : ℕ → Tree) (x : N) (t : Tree) : Type 0 where
  pub own : Meaning ArcRef
  pub typed : v.node_type x ≡ t.type
  pub means : v.means x own
  pub leads : LeadsTo trees own t.meaning

-- about a value that was decoded from the frame: the frame's key reads as a tree, and the value leads to it by
-- references that the frame has got
pub record Decoded {N : Type 0} (v : Values N) (stored : ℕ → Option Blob) (trees : ℕ → Tree) (frame : Frame)
    (x : N) : Type 0 where
  pub t : Tree
  pub typed : t.type ≡ frame.node_type
  pub reads : ReadsTree stored v.types frame.key t
  pub leads : ValueLeads v trees x t
  pub got : (r : ArcRef) → Among (v.references x) r → Among frame.got r

-- the load needs a reference of this kind and key, to be loaded or not
abbrev pub Needs : Types → List Frame → Kind → ℕ → Type 0
Needs types frames kind key = (need_of types frames ≡ needs_nested kind key)
    ⊎ (need_of types frames ≡ needs_lazy kind key)

-- what was stored stays stored
abbrev pub KeepsStored : (ℕ → Option Blob) → (ℕ → Option Blob) → Type 0
KeepsStored stored stored' = (key : ℕ) (b : Blob) → stored key ≡ Some b → stored' key ≡ Some b

-- The handle and the node of a reference that a load got have been given out; and while the load owns the handle, it is
-- of that node, in a mode that fits the kind.
pub record GotStands (w : Core) (l : LoadNumber) (r : ArcRef) : Type 0 where
  pub given : r.handle.0 ≤ w.last.handle
  pub node_given : r.node.0 ≤ w.last.node
  pub is : (row : HandleRow) → row_at w r.handle ≡ Some row → row.owner ≡ Owner.Load l → (row.node ≡ r.node)
      × (fits_mode r.kind.0 row.mode ≡ true)

abbrev pub FramesHeld : Core → LoadNumber → List Frame → Type 0
FramesHeld w l frames = (frame : Frame) (r : ArcRef) → Among frames frame → Among frame.got r → GotStands w l r

-- a node leads to its tree: its key reads as the tree, and its value leads to it
pub record NodeLeads {N E : Type 0} (v : Values N) (s : PagerState N E) (trees : ℕ → Tree) (n : ℕ) : Type 0 where
  pub keyed : KeyFits v s n (trees n)
  pub valued : (x : N) → s.values n ≡ Some x → ValueLeads v trees x (trees n)

-- what a step changes that matters for trees: at most one of these
pub data Change : Type 0 where
  nothing_felt : Change
  -- a node has this key from now on
  sets_key : (n key : ℕ) → Change
  -- the cache has the node under kind and key
  knows_node : (kind key n : ℕ) → Change
  -- a new node, with the next number, this type and this key
  bears_node : (t : ℕ) (own : OptionalDataKey) → Change
  -- a new node, with the next number, the kind's type and this key of its own; the cache may have it under kind and key
  bears_known : (kind key : ℕ) (own : OptionalDataKey) → Change

abbrev pub Sets : Change → ℕ → ℕ → Type 0
Sets (sets_key m k) n key = (n ≡ m) × (key ≡ k)
Sets change n key = ⊥

abbrev pub Knows : Change → Core → ℕ → ℕ → ℕ → Type 0
Knows (knows_node k q m) w kind key n = (kind ≡ k) × (key ≡ q) × (n ≡ m)
Knows (bears_known k q own) w kind key n = (kind ≡ k) × (key ≡ q) × (n ≡ w.last.node + 1)
Knows change w kind key n = ⊥

abbrev pub Bears : Change → ℕ → OptionalDataKey → Type 0
Bears (bears_node t own) type key = (type ≡ t) × (key ≡ own)
Bears (bears_known k q own) type key = (type ≡ type_of k) × (key ≡ own)
Bears change type key = ⊥

-- a load of a cell reads the key that its cell has, and is of the cell's type
abbrev pub BeginsWell : Core → OpenLoad → Type 0
BeginsWell w load = (node : NodeNumber) (t : ℕ) (h : HandleNumber) → load.root ≡ of_cell node t h
    → (type_at w node.0 ≡ Some t) × (key_at w node.0 ≡ OptionalDataKey.Some load.key)

-- a node that existed is the same, except that it may have got a key
pub record SameNode (c : Change) (w w' : Core) (n : ℕ) : Type 0 where
  pub was : is_some (w.cells n) ≡ true
  pub typed : type_at w' n ≡ type_at w n
  pub key : (key_at w' n ≡ key_at w n) ⊎ ((key : ℕ) × Sets c n key × (key_at w' n ≡ OptionalDataKey.Some key))

-- a node that didn't exist is the next one
pub record NewNode (c : Change) (w w' : Core) (n : ℕ) : Type 0 where
  pub t : ℕ
  pub own : OptionalDataKey
  pub born : Bears c t own
  pub next : n ≡ w.last.node + 1
  pub typed : type_at w' n ≡ Some t
  pub key : key_at w' n ≡ own

-- the handle's row before: of the same node; the same row if a load owns it now; and if it was loose, it is loose now
pub record Was (rows : List HandleRow) (q : ℕ) (row : HandleRow) : Type 0 where
  pub was : HandleRow
  pub live : find_row q rows ≡ Some was
  pub at : was.node ≡ row.node
  pub mine : (l : LoadNumber) → row.owner ≡ Owner.Load l → was ≡ row
  pub loose : is_loose was.mode ≡ true → is_loose row.mode ≡ true

-- `Was` for each live handle with a number up to `last`
abbrev pub RowsGo : ℕ → List HandleRow → List HandleRow → Type 0
RowsGo last rows rows' = (q : ℕ) (row : HandleRow) → find_row q rows' ≡ Some row → q ≤ last → Was rows q row

-- the storage is closed, and nothing is stored in it
abbrev pub IsShut : Core → Type 0
IsShut w = (w.closed ≡ true) × ((q : ℕ) → w.stored q ≡ None)

-- a cell that existed, except that it may have got a key
pub record Kept (c : Change) (w : Core) (n : ℕ) (cell : Cell) : Type 0 where
  pub was : Cell
  pub live : w.cells n ≡ Some was
  pub typed : cell.node_type ≡ was.node_type
  pub key : (cell.key ≡ was.key) ⊎ ((key : ℕ) × Sets c n key × (cell.key ≡ OptionalDataKey.Some key))

-- what a step does to the core, as far as it matters for trees
pub record CoreGoes (c : Change) (w w' : Core) : Type 0 where
  pub nodes : w.last.node ≤ w'.last.node
  pub handles : w.last.handle ≤ w'.last.handle
  pub loads_last : w.last.load ≤ w'.last.load
  pub workers_last : w.last.worker ≤ w'.last.worker
  pub cells : (n : ℕ) (cell : Cell) → w'.cells n ≡ Some cell → Kept c w n cell
      ⊎ ((n ≡ w.last.node + 1) × Bears c cell.node_type cell.key)
  pub stored : (q : ℕ) (b : Blob) → w.stored q ≡ Some b → w'.stored q ≡ Some b
  pub loads : (l : ℕ) (load : OpenLoad) → w'.loads l ≡ Some load → (w.loads l ≡ Some load)
      ⊎ ((w.last.load < l) × BeginsWell w load)
  pub cache : (kind key n : ℕ) → w'.cache kind key ≡ Some n → (w.cache kind key ≡ Some n) ⊎ Knows c w kind key n
  pub rows : RowsGo w.last.handle w.rows w'.rows
  pub shut : IsShut w → IsShut w'

-- each of these references is a proper one, by a handle of the owner's
abbrev pub AreGood : Core → Owner → List ArcRef → Type 0
AreGood w owner references = (r : ArcRef) → Among references r → IsReference w owner r

-- a node that hasn't its value in memory before hasn't it afterwards either
abbrev pub StaysAway : Core → Core → ℕ → Type 0
StaysAway w w' n = is_here w n ≡ false → is_some (w'.cells n) ≡ true → is_here w' n ≡ false

-- The effect of a call on trees. A value is brought to a new node only if one is made, and to an old one only by the
-- end of a load.
pub data CallFeels {N B : Type 0} (v : Values N) (w : Core) (me : Owner) : Call N B → Reply N B → Core → Change
    → Type 0 where
  feels-nothing : {call : Call N B} {reply : Reply N B} {w' : Core}
      → ((n : ℕ) (x : N) → CallBrings w call n x → IsNewNode w n ⊎ StaysAway w w' n)
      → CallFeels v w me call reply w' nothing_felt
  feels-birth : {call : Call N B} {reply : Reply N B} {w' : Core} (x : N)
      → ((n : ℕ) (y : N) → CallBrings w call n y → (y ≡ x) × IsNewNode w n) → AreGood w me (v.references x)
      → CallFeels v w me call reply w' (bears_node (v.node_type x) OptionalDataKey.None)
  feels-away : {w' : Core} (t key : ℕ) (k : HandleNumber)
      → CallFeels v w me (Call.NewPagedOut t key) (Reply.Handle (Ok k)) w' (bears_node t (OptionalDataKey.Some key))
  feels-key : {reply : Reply N B} {w' : Core} (h : HandleNumber) (key : ℕ) (row : HandleRow) → Owns w me h is_loose row
      → CallFeels v w me (Call.SetDataKey h key) reply w' (sets_key row.node.0 key)
  feels-known : {w' : Core} (kind : Kind) (key : ℕ) (h : HandleNumber) (row : HandleRow) → Owns w me h any_mode row
      → type_at w row.node.0 ≡ Some (type_of kind.0)
      → CallFeels v w me (Call.OnArcDeserialized kind key h) (Reply.FromCache (Ok None)) w'
      (knows_node kind.0 key row.node.0)
  feels-adopted : {w' : Core} (l : LoadNumber) (kind : Kind) (key : ℕ) (x : N) (k : HandleNumber) → v.node_type x
      ≡ type_of kind.0 → AreGood w (Owner.Load l) (v.references x)
      → CallFeels v w me (Call.LoadAdopt l kind key x) (Reply.Made (Ok k)) w'
      (bears_known kind.0 key (first_key kind.0 key))
  feels-lazy : {w' : Core} (l : LoadNumber) (kind : Kind) (key : ℕ) (k : HandleNumber)
      → CallFeels v w me (Call.LoadLazy l kind key) (Reply.Handle (Ok k)) w'
      (bears_known kind.0 key (OptionalDataKey.Some key))
  feels-end : {w' : Core} (l : LoadNumber) (x : N) (k : HandleNumber) → AreGood w (Owner.Load l) (v.references x)
      → CallFeels v w me (Call.LoadEnd l x) (Reply.LoadEnded (Ok k)) w' nothing_felt

-- the row of a handle, of this node, that a load has just got
pub record GetsRow (w w' : Core) (kind : Kind) (n : ℕ) (row : HandleRow) : Type 0 where
  pub live : row_at w' row.number ≡ Some row
  pub at : row.node.0 ≡ n
  pub new : w.last.handle < row.number.0
  pub given : row.number.0 ≤ w'.last.handle
  pub fits : fits_mode kind.0 row.mode ≡ true

-- The effect of a load's step on trees.
pub data ReadingFeels {N : Type 0} (v : Values N) (w : Core) (reading : Reading) (answer : Option (LoadAnswer N))
    (frames : List Frame) (w' : Core) : Change → Type 0 where
  reads-root : (load : OpenLoad) (blob : Blob) → reading.frames ≡ [] → w.loads reading.load.0 ≡ Some load
      → w.stored load.key ≡ Some blob → answer ≡ None
      → frames ≡ root_frame load.key reading.node_type blob ∷ []
      → ReadingFeels v w reading answer frames w' nothing_felt
  reads-blob : (kind : Kind) (key : ℕ) (blob : Blob) → need_of v.types reading.frames ≡ needs_nested kind key
      → w.stored key ≡ Some blob → answer ≡ None
      → frames ≡ nested_frame kind key blob ∷ reading.frames → ReadingFeels v w reading answer frames w' nothing_felt
  gets-known : (kind : Kind) (key n : ℕ) (row : HandleRow) → Needs v.types reading.frames kind key → w.cache kind.0 key
      ≡ Some n → GetsRow w w' kind n row → answer ≡ None
      → frames ≡ with_got kind row reading.frames → ReadingFeels v w reading answer frames w' nothing_felt
  gets-lazy : (kind : Kind) (key : ℕ) (row : HandleRow) → need_of v.types reading.frames ≡ needs_lazy kind key
      → GetsRow w w' kind (w.last.node + 1) row → answer ≡ None
      → frames ≡ with_got kind row reading.frames → ReadingFeels v w reading answer frames w'
      (bears_known kind.0 key (OptionalDataKey.Some key))
  makes-known : (x : N) (reads : ReadsNode v reading x) (n : ℕ) (row : HandleRow)
      → w.cache reads.top.kind.0 reads.top.key ≡ Some n → GetsRow w w' reads.top.kind n row
      → answer ≡ None → frames ≡ with_got reads.top.kind row reads.below
      → ReadingFeels v w reading answer frames w' nothing_felt
  makes-node : (x : N) (reads : ReadsNode v reading x) (row : HandleRow)
      → GetsRow w w' reads.top.kind (w.last.node + 1) row → answer ≡ None → frames
      ≡ with_got reads.top.kind row reads.below
      → ReadingFeels v w reading answer frames w' (bears_known reads.top.kind.0 reads.top.key
      (first_key reads.top.kind.0 reads.top.key))
  reading-ends : (end : LoadAnswer N) → answer ≡ Some end → frames ≡ []
      → ReadingFeels v w reading answer frames w' nothing_felt

-- the load has just begun
abbrev pub IsFresh : Core → Reading → Type 0
IsFresh w reading = (reading.frames ≡ []) × (reading.steps ≡ 0) × (reading.load.0 ≤ w.last.load)

-- each reading afterwards was there before, or has just begun
abbrev pub KeepsReadings : World → World → Type 0
KeepsReadings u u' = (reading : Reading) → IsReadingOf u'.work reading → IsReadingOf u.work reading
    ⊎ IsFresh u'.core reading

-- each reading afterwards was there before, or is this one after its step
abbrev pub StepsReading : {N : Type 0} → World → Reading → Option (LoadAnswer N) → List Frame → World → Type 0
StepsReading u reading answer frames u' = (after : Reading) → IsReadingOf u'.work after → IsReadingOf u.work after
    ⊎ ((answer ≡ None) × (after ≡ gone_on reading frames))

-- the reading whose step the event makes: one of the machine's, or of an open load that has just begun
abbrev pub IsSteppedReading : {N B W : Type 0} → World → Event N B W → Reading → Type 0
IsSteppedReading u (Event.LoadStep l) reading = (reading_at u l ≡ Some reading)
    × (IsReadingOf u.work reading ⊎ IsFresh u.core reading)
IsSteppedReading u (Event.WorkerStep k) reading =
    (walking : Walking) × (r : ArcRef) × (place : ℕ) × (through : HandleNumber) × (below : List Todo)
    × (u.work.walkings k.0 ≡ Some walking) × (walking.todo ≡ to_load r place through reading ∷ below)
IsSteppedReading u event reading = ⊥

-- the worker sets the key by its own loose handle
pub record SetsThrough (u : World) (k : WorkerNumber) (key : ℕ) (row : HandleRow) : Type 0 where
  pub walking : Walking
  pub r : ArcRef
  pub through : HandleNumber
  pub height : ℕ
  pub below : List Todo
  pub there : u.work.walkings k.0 ≡ Some walking
  pub sets : walking.todo ≡ to_set r through key height ∷ below
  pub owns : Owns u.core (owner_worker k.0) through is_loose row

-- The effect of an event on trees. Steps other than calls and steps of loads bring no value to any node.
pub data EventFeels {N B W : Type 0} (v : Values N) (u : World) (event : Event N B W) (reply : EventReply N B W)
    (u' : World) : Change → Type 0 where
  by-call : (c : Change) (call : Call N B) (answer : Reply N B) → event ≡ Event.Call call → reply
      ≡ EventReply.CallReply answer → CallFeels v u.core Owner.Caller call answer u'.core c
      → KeepsReadings u u' → EventFeels v u event reply u' c
  by-reading : (c : Change) (reading : Reading) (answer : Option (LoadAnswer N)) (frames : List Frame)
      → IsSteppedReading u event reading
      → (answer ≡ None → (load : OpenLoad) × (u.core.loads reading.load.0 ≡ Some load))
      → ReadingFeels v u.core reading answer frames u'.core c → StepsReading u reading answer frames u'
      → EventFeels v u event reply u' c
  by-key : (k : WorkerNumber) (key : ℕ) (row : HandleRow) → event ≡ Event.WorkerStep k → SetsThrough u k key row
      → KeepsReadings u u' → EventFeels v u event reply u' (sets_key row.node.0 key)
  by-nothing : ((n : ℕ) (x : N) → EventBrings v u event n x → IsNewNode u.core n ⊎ StaysAway u.core u'.core n)
      → KeepsReadings u u' → EventFeels v u event reply u' nothing_felt

-- A handle that pins; below: each of these references, which the load owned, is the caller's now.
pub record HasPin (w : Core) (k : HandleNumber) : Type 0 where
  pub row : HandleRow
  pub live : row_at w k ≡ Some row
  pub is : is_pinning row.mode ≡ true

abbrev pub HandsOver : Core → LoadNumber → List ArcRef → Core → Type 0
HandsOver w l references w' = (r : ArcRef) → Among references r
    → (row : HandleRow) × (row_at w r.handle ≡ Some row) × (row.owner ≡ Owner.Load l)
    × (row_at w' r.handle ≡ Some (record row { owner = Owner.Caller }))

abbrev pub PinHolds : {N B W : Type 0} → Event N B W → EventReply N B W → Core → Type 0
PinHolds (Event.Call (Call.Pin h)) (EventReply.CallReply (Reply.Pin (Ok (Pinning.Pinned k)))) w' = HasPin w' k
PinHolds (Event.LoadStep l) (EventReply.LoadMoved (Ok reply)) w' =
    (k : HandleNumber) → reply.ended ≡ Some (LoadAnswer.Pinned k) → HasPin w' k
PinHolds (Event.Call (Call.LoadEnd l x)) (EventReply.CallReply (Reply.LoadEnded (Ok k))) w' = HasPin w' k
PinHolds (Event.WorkerStep n) (EventReply.WorkerMoved (Ok reply)) w' =
    (i : Identity) (k : HandleNumber) → reply.action ≡ Action.Pin i (Ok (PinStep.Pinned k)) → HasPin w' k
PinHolds event reply w' = Unit {0}

-- the key that a worker is about to set reads as the tree of its handle's node
abbrev pub KeysAreReady : {N E : Type 0} → Values N → MachineState N E → (ℕ → Tree) → Type 0
KeysAreReady v s trees = (k : WorkerNumber) (key : ℕ) (row : HandleRow) → SetsThrough (world_of s) k key row
    → ReadsTree s.pager.core.stored v.types key (trees row.node.0)

-- What a change brings fits the trees afterwards: the key that is set, the key of a new node, what the cache gets, and
-- each value that is brought into memory.
pub record ChangeFits {N E : Type 0} (v : Values N) (c : Change) (comes : ℕ → N → Type 0) (s s' : PagerState N E)
    (trees trees' : ℕ → Tree) : Type 0 where
  pub same : SameTrees s.core.last.node trees trees'
  pub sets : (n key : ℕ) → Sets c n key → ReadsTree s'.core.stored v.types key (trees n)
  pub born : (t : ℕ) (own : OptionalDataKey) → Bears c t own → (trees' (s.core.last.node + 1)).type ≡ t
  pub keyed : (t key : ℕ) → Bears c t (OptionalDataKey.Some key)
      → ReadsTree s'.core.stored v.types key (trees' (s.core.last.node + 1))
  pub knows : (kind key n : ℕ) → Knows c s.core kind key n
      → ReadsNodeTree v.types s'.core.stored trees' key (type_of kind) n
  pub comes_well : (n : ℕ) (x : N) → comes n x → s.values n ≡ None → s'.values n ≡ Some x
      → ValueLeads v trees' x (trees' n)

-- The handle serves for the reference, and both numbers have been given out: while the handle is live, it is of the
-- reference's node, and loose if the reference's kind is.
pub record StandsAt (w : Core) (r : ArcRef) (h : HandleNumber) : Type 0 where
  pub node_given : r.node.0 ≤ w.last.node
  pub given : h.0 ≤ w.last.handle
  pub is : (row : HandleRow) → row_at w h ≡ Some row → (row.node ≡ r.node)
      × (is_loose_kind r.kind.0 ≡ true → is_loose row.mode ≡ true)

-- the node's number has been given out, and the node has a key as long as it is live
pub record KeyIsSet (w : Core) (n : ℕ) : Type 0 where
  pub given : n ≤ w.last.node
  pub keyed : (cell : Cell) → w.cells n ≡ Some cell → has_key cell.key ≡ true

-- the worker has a handle of the node
pub record HasHandle (w : Core) (v n : ℕ) : Type 0 where
  pub h : HandleNumber
  pub row : HandleRow
  pub live : row_at w h ≡ Some row
  pub own : row.owner ≡ owner_worker v
  pub at : row.node.0 ≡ n

-- what the worker has for a reference that it has claimed, up to the time when its key is published
abbrev pub Holds : Core → ℕ → Todo → Type 0
Holds w v (to_pin r place) = StandsAt w r r.handle
Holds w v (to_load r place through reading) = StandsAt w r through
Holds w v (to_write r place through) = StandsAt w r through
Holds w v (to_finish o) = StandsAt w o.reference o.through
Holds w v (to_set r through key height) = StandsAt w r through
Holds w v (to_publish r key height) = is_loose_kind r.kind.0 ≡ true → KeyIsSet w r.node.0 × HasHandle w v r.node.0
Holds w v _ = Unit {0}

-- only written nodes, for which the worker has the same, and an item are waiting
abbrev pub WaitsHeld : Core → List Todo → Type 0
WaitsHeld w [] = Unit {0}
WaitsHeld w (to_finish o ∷ below) = StandsAt w o.reference o.through × WaitsHeld w below
WaitsHeld w (to_item written keys ∷ below) = WaitsHeld w below
WaitsHeld w (x ∷ below) = ⊥

-- `Holds` for what is next, `WaitsHeld` for the rest
abbrev pub AllHold : Core → ℕ → List Todo → Type 0
AllHold w v [] = Unit {0}
AllHold w v (x ∷ below) = Holds w v x × WaitsHeld w below

-- So it is for all workers; and each cell whose key was published for a loose reference has a key.
pub record KeysHeld (u : World) : Type 0 where
  pub walks : (n : ℕ) (walking : Walking) → u.work.walkings n ≡ Some walking → AllHold u.core n walking.todo
  pub slots : (t : ℕ) (i : Identity) (key height : ℕ) → IsPublished (u.work.shelves t) i key height
      → is_loose_kind i.kind.0 ≡ true → KeyIsSet u.core i.node.0

-- what is stored, the number of the last node, and the trees of the nodes
pub record Ground : Type 0 where
  pub stored : ℕ → Option Blob
  pub last : ℕ
  pub trees : ℕ → Tree

abbrev pub ground_of : {N E : Type 0} → MachineState N E → (ℕ → Tree) → Ground
ground_of s trees = record { stored = s.pager.core.stored; last = s.pager.core.last.node; trees = trees }

-- the key is the tree's; the store has the tree under it, each value as a form under its key; and the tree can be read
-- back
pub record KeyStands {N : Type 0} (v : Values N) (stored : ℕ → Option Blob) (t : Tree) (key : ℕ) : Type 0 where
  pub is_key : KeyOf v.hash v.types t key
  pub stands : StoredTree stored v.types key t
  pub can : IsReadableTree v.types t

-- What was written is a form of the node's tree, which can be read back; the nodes of its references have been given
-- out. The value names no handle twice.
pub record WroteTree (types : Types) (g : Ground) (n : ℕ) (written : Written) : Type 0 where
  pub shape : Shape
  pub own : Meaning ArcRef
  pub is : types.nodes (g.trees n).type ≡ Some shape
  pub can : IsReadableType types (g.trees n).type
  pub form : Form ArcRef kind_of_arc types.parts deepest shape own written.bytes written.references
  pub follows : FollowsTo g.trees written.references own (g.trees n).meaning
  pub given : (r : ArcRef) → Among written.references r → r.node.0 ≤ g.last
  pub once : (q : ℕ) → times (λ (r : ArcRef). r.handle.0 == q) (references_in own) ≤ 1

-- these references were written of the node, with some bytes
abbrev pub WroteOver : Types → Ground → ℕ → List ArcRef → Type 0
WroteOver types g n references = (bytes : List ℕ) × WroteTree types g n
    (record { bytes = bytes; references = references })

-- the reference's key is published, with a height that gives its parent at most this height
pub record IsLow (shelf : Shelf) (height : ℕ) (r : ArcRef) : Type 0 where
  pub key : ℕ
  pub below : ℕ
  pub known : IsPublished shelf (identity_of r) key below
  pub within : above r.kind.0 below ≤ height

abbrev pub AllLow : Shelf → ℕ → List ArcRef → Type 0
AllLow shelf height rs = (r : ArcRef) → Among rs r → IsLow shelf height r

-- one of the references gives its parent at least this height
pub record AddsSo (shelf : Shelf) (height : ℕ) (rs : List ArcRef) : Type 0 where
  pub r : ArcRef
  pub among : Among rs r
  pub key : ℕ
  pub below : ℕ
  pub known : IsPublished shelf (identity_of r) key below
  pub least : height ≤ above r.kind.0 below

-- the height is 0, or a reference gives at least it
abbrev pub IsAttained : Shelf → ℕ → List ArcRef → Type 0
IsAttained shelf height rs = (height ≡ 0) ⊎ AddsSo shelf height rs

-- The store has, under the node's tree's key, what was written with the published keys of its references. The height is
-- within the limit, and is the one that the references give.
pub record BlobStands {N : Type 0} (v : Values N) (g : Ground) (shelf : Shelf) (n : ℕ) (written : Written)
    (key height : ℕ) : Type 0 where
  pub wrote : WroteTree v.types g n written
  pub keys : List ℕ
  pub known : AreKeysOf shelf written.references keys
  pub is_stored : g.stored key ≡ Some (blob_of written.bytes keys)
  pub right : KeyStands v g.stored (g.trees n) key
  pub within : height ≤ longest_path
  pub low : AllLow shelf height written.references
  pub attained : IsAttained shelf height written.references

-- A slot is for a node whose number has been given out and whose type is the kind's. The slot's references are those of
-- a form of the node's tree; and a form with just these is stored under the key that the slot publishes.
pub record SlotFits {N : Type 0} (v : Values N) (g : Ground) (shelf : Shelf) (i : Identity) (slot : Slot) : Type 0 where
  pub given : i.node.0 ≤ g.last
  pub typed : (g.trees i.node.0).type ≡ type_of i.kind.0
  pub writes : (references : List ArcRef) → slot.references ≡ Some references → WroteOver v.types g i.node.0 references
  pub publishes : (key height : ℕ) → slot.outcome ≡ published key height → (written : Written)
      × (slot.references ≡ Some written.references) × BlobStands v g shelf i.node.0 written key height

-- keys are published keys of the first of the references, each of which gives its parent at most this height
abbrev pub KeysSoFar : Shelf → ℕ → List ArcRef → List ℕ → Type 0
KeysSoFar shelf height rs [] = Unit {0}
KeysSoFar shelf height [] (k ∷ ks) = ⊥
KeysSoFar shelf height (r ∷ rs) (k ∷ ks) = ((below : ℕ) × IsPublished shelf (identity_of r) k below
    × (above r.kind.0 below ≤ height)) × KeysSoFar shelf height rs ks

-- what waits below is waiting for this reference, as the next one after those whose keys are known; if nothing waits,
-- the reference is the task's entry
abbrev pub Expects : Task → ArcRef → List Todo → Type 0
Expects task r (to_finish o ∷ below) = (more : List ArcRef) × (drop (length o.keys) o.written.references ≡ r ∷ more)
Expects task r (to_item written keys ∷ below) = (more : List ArcRef)
    × (drop (length keys) written.references ≡ r ∷ more)
Expects (of_entry h i) r [] = identity_of r ≡ i
Expects task r below = ⊥

-- the depth of a reference below what waits for it
abbrev pub place_over : ArcRef → List Todo → ℕ
place_over r (to_finish o ∷ below) = place_below o.place r.kind.0
place_over r (to_item written keys ∷ below) = place_below 0 r.kind.0
place_over r todo = 0

-- with this height below it the reference isn't too deep
abbrev pub HasRoom : ArcRef → ℕ → List Todo → Type 0
HasRoom r height below = place_over r below + height ≤ longest_path

-- what waits: written nodes at their depths, with the keys of their first references and the height that these give;
-- and the task's item
unfoldable pub Waits : Shelf → Task → List Todo → Type 0
Waits shelf task [] = Unit {0}
Waits shelf task (to_finish o ∷ below) =
    KeysSoFar shelf o.height o.written.references o.keys × IsAttained shelf o.height o.written.references
    × (o.place ≡ place_over o.reference below) × HasRoom o.reference o.height below
    × Expects task o.reference below × Waits shelf task below
Waits shelf task (to_item written keys ∷ below) = (task ≡ of_item written)
    × KeysSoFar shelf longest_path written.references keys
Waits shelf task (x ∷ below) = ⊥

-- below the reference is what waits for it
abbrev pub Above : Shelf → Task → ArcRef → List Todo → Type 0
Above shelf task r below = Expects task r below × Waits shelf task below

-- so it is, and the reference is at this depth, which isn't too deep
abbrev pub Placed : Shelf → Task → ArcRef → ℕ → List Todo → Type 0
Placed shelf task r place below = (place ≡ place_over r below) × (place ≤ longest_path) × Above shelf task r below

-- the key is stored for what was written of the reference's node
pub record HasBlob {N : Type 0} (v : Values N) (g : Ground) (shelf : Shelf) (r : ArcRef) (key height : ℕ) : Type 0 where
  pub slot : Slot
  pub written : Written
  pub claimed : shelf.slots (identity_of r) ≡ Some slot
  pub wrote : slot.references ≡ Some written.references
  pub stands : BlobStands v g shelf r.node.0 written key height

-- what a worker has to do fits its table and the trees
abbrev pub Walks : {N : Type 0} → Values N → Ground → Shelf → Task → List Todo → Type 0
Walks v g shelf task [] = Unit {0}
Walks v g shelf task (to_start r place ∷ below) = (place ≡ place_over r below) × Above shelf task r below
Walks v g shelf task (to_pin r place ∷ below) = Placed shelf task r place below
Walks v g shelf task (to_load r place through reading ∷ below) = Placed shelf task r place below
Walks v g shelf task (to_write r place through ∷ below) = Placed shelf task r place below
Walks v g shelf task (to_finish o ∷ below) = Waits shelf task (to_finish o ∷ below)
Walks v g shelf task (to_item written keys ∷ below) = Waits shelf task (to_item written keys ∷ below)
Walks v g shelf task (to_set r through key height ∷ below) =
    HasBlob v g shelf r key height × HasRoom r height below × Above shelf task r below
Walks v g shelf task (to_publish r key height ∷ below) =
    HasBlob v g shelf r key height × HasRoom r height below × Above shelf task r below
Walks v g shelf task (to_release r key height ∷ below) =
    IsPublished shelf (identity_of r) key height × HasRoom r height below × Above shelf task r below
Walks v g shelf task (to_fail fault back ∷ below) = Unit {0}

abbrev pub SlotsFit : {N : Type 0} → Values N → Ground → Shelf → Type 0
SlotsFit v g shelf = (i : Identity) (slot : Slot) → shelf.slots i ≡ Some slot → SlotFits v g shelf i slot

-- what was written of a node that waits for its references is a form of the node's tree
abbrev pub Wrote : Types → Ground → Todo → Type 0
Wrote types g (to_finish o) = (o.reference.node.0 ≤ g.last) × WroteTree types g o.reference.node.0 o.written
Wrote types g _ = Unit {0}

-- and so it is for all that is to be done
abbrev pub AllWrote : Types → Ground → List Todo → Type 0
AllWrote types g [] = Unit {0}
AllWrote types g (x ∷ below) = Wrote types g x × AllWrote types g below

-- all slots and all workers of the machine fit the trees
pub record WorkFits {N E : Type 0} (v : Values N) (s : MachineState N E) (trees : ℕ → Tree) : Type 0 where
  pub slots : (t : ℕ) → SlotsFit v (ground_of s trees) (s.work.shelves t)
  pub walks : (n : ℕ) (walking : Walking) → s.work.walkings n ≡ Some walking
      → Walks v (ground_of s trees) (s.work.shelves walking.table) walking.task walking.todo
  pub wrote : (n : ℕ) (walking : Walking) → s.work.walkings n ≡ Some walking
      → AllWrote v.types (ground_of s trees) walking.todo

-- the key is the result of the task: of its item's bytes with the published keys of its references, none of which is
-- too deep; or of its entry
abbrev pub IsDone : {N : Type 0} → Values N → Shelf → Task → ℕ → Type 0
IsDone v shelf (of_item written) key = (keys : List ℕ) × AreKeysOf shelf written.references keys
    × (key ≡ digest v (blob_of written.bytes keys)) × AllLow shelf longest_path written.references
IsDone v shelf (of_entry h i) key = (height : ℕ) × IsPublished shelf i key height
