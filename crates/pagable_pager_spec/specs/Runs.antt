-- Chains of moments: what events do to a machine, one after another; the trees along them; and what they ask of values
-- and callers. Nothing here asks that the storage returns what was stored, loses nothing and keeps no two blobs under
-- one key: that is part of the steps' definitions.
use Rattle.pagable_pager_spec.specs.{
  Basics.{Among, Call, Event, EventReply, HandleRow, Kind, LoadAnswer, Owner, ReadsTree, Reply, Tree, type_of},
  Events.{Step, reading_at},
  Kinds.{any_mode, is_loose},
  Loads.{need_of, needs_lazy},
  Pager.{CallBrings, EventBrings, EventHolds, HoldsItsNodes, IsCellOf, IsMachineWhole, MachineState, Moves, PagerState},
  Pager.{ReplyWrites, SameTrees, StandsFor, ValueStands, world_of},
  Refusals.Owns,
  World.{Frame, IsSettled, Reading, Seen, Todo, Values, Walking, to_load, to_write},
}
use Rattle.pagable_value_spec.specs.Canonical.{IsReadableType}
use Rattle.std.specs.Prelude.{List, None, Ok, Option, Some, map, ℕ, [], ◌∷◌, ◌≡◌}

-- each value in memory has at most one meaning
abbrev pub HoldsSettled : {N E : Type 0} → Values N → PagerState N E → Type 0
HoldsSettled {N} v s = (n : ℕ) (x : N) → s.values n ≡ Some x → IsSettled v x

-- the value that a load of a key returns
abbrev pub read_by : {N : Type 0} → Option (LoadAnswer N) → Option N
read_by (Some (LoadAnswer.Read x)) = Some x
read_by answer = None

abbrev pub read_out : {N B W : Type 0} → EventReply N B W → Option N
read_out (EventReply.LoadMoved (Ok reply)) = read_by reply.ended
read_out reply = None

-- the event doesn't close the storage
abbrev pub KeepsOpen : {N B W : Type 0} → Event N B W → Type 0
KeepsOpen (Event.Call Call.Close) = ⊥
KeepsOpen event = Unit {0}

-- the key reads as some value of the type
pub record ReadsAsType {N E : Type 0} (v : Values N) (s : PagerState N E) (t key : ℕ) : Type 0 where
  pub read : Tree
  pub typed : read.type ≡ t
  pub reads : ReadsTree s.core.stored v.types key read

-- the key reads as the tree that the value stands for
pub record ReadsAsValue {N E : Type 0} (v : Values N) (s : PagerState N E) (x : N) (key : ℕ) : Type 0 where
  pub read : Tree
  pub stands : ValueStands v s x read
  pub reads : ReadsTree s.core.stored v.types key read

-- What is asked of a caller: the keys that it sets or hands in, the references that it puts into the cache and the
-- values that it makes a load's nodes agree with the store, and a value that ends a load agrees with its cell's tree.
-- It is asked only of calls that change something.
abbrev pub AsksWell : {N E B : Type 0} → Values N → PagerState N E → (ℕ → Tree) → Call N B → Reply N B → Type 0
AsksWell v s trees (Call.NewPagedOut t key) (Reply.Handle (Ok k)) = ReadsAsType v s t key
AsksWell v s trees (Call.SetDataKey h key) reply = (row : HandleRow) → Owns s.core Owner.Caller h is_loose row
    → ReadsTree s.core.stored v.types key (trees row.node.0)
AsksWell v s trees (Call.OnArcDeserialized kind key h) (Reply.FromCache (Ok None)) =
    (row : HandleRow) → Owns s.core Owner.Caller h any_mode row → ReadsTree s.core.stored v.types key (trees row.node.0)
AsksWell v s trees (Call.LoadAdopt l kind key x) (Reply.Made (Ok k)) = ReadsAsValue v s x key
AsksWell v s trees (Call.LoadLazy l kind key) (Reply.Handle (Ok k)) = ReadsAsType v s (type_of kind.0) key
AsksWell v s trees (Call.LoadEnd l x) (Reply.LoadEnded (Ok k)) =
    (n : ℕ) → IsCellOf s.core l n → ValueStands v s x (trees n)
AsksWell v s trees call reply = Unit {0}

-- What is asked of a load's step. The type of each blob that the load reads can be read back: if the type has tags,
-- they are distinct, and each tag under which a value of the type is written has a reader of its body; and its static
-- values hold no reference. And a key that the step takes without reading it, for a loose reference, reads as some value
-- of the kind's type.
pub record TakesWell {N E : Type 0} (v : Values N) (s : PagerState N E) (reading : Reading) : Type 0 where
  pub types : (frame : Frame) → Among reading.frames frame → IsReadableType v.types frame.node_type
  pub keys : (kind : Kind) (key : ℕ) → need_of v.types reading.frames ≡ needs_lazy kind key
      → ReadsAsType v s (type_of kind.0) key

-- what is asked of a worker's step: the same for its load; and what it writes is of a type that can be read back
abbrev pub TodoAsksWell : {N E : Type 0} → Values N → PagerState N E → List Todo → Type 0
TodoAsksWell v s (to_load r place through reading ∷ below) = TakesWell v s reading
TodoAsksWell v s (to_write r place through ∷ below) = IsReadableType v.types (type_of r.kind.0)
TodoAsksWell v s todo = Unit {0}

abbrev pub IsWellAsked : {N E B W : Type 0} → Values N → MachineState N E → (ℕ → Tree) → Event N B W → EventReply N B W
    → Type 0
IsWellAsked v s trees (Event.Call call) (EventReply.CallReply reply) = AsksWell v s.pager trees call reply
IsWellAsked v s trees (Event.LoadStep l) reply = (reading : Reading) → reading_at (world_of s) l ≡ Some reading
    → TakesWell v s.pager reading
IsWellAsked v s trees (Event.WorkerStep n) reply = (walking : Walking) → s.work.walkings n.0 ≡ Some walking
    → TodoAsksWell v s.pager walking.todo
IsWellAsked v s trees event reply = Unit {0}

-- all that is asked of an event, of the state before it and of the state after it
pub record IsPremised {N E B W : Type 0} (v : Values N) (s : MachineState N E) (trees : ℕ → Tree) (event : Event N B W)
    (reply : EventReply N B W) (s' : MachineState N E) : Type 0 where
  -- no value in memory, and none that a load returns, has two meanings
  pub settled : HoldsSettled v s'.pager
  pub reads_settled : (x : N) → read_out reply ≡ Some x → IsSettled v x
  pub stays_open : KeepsOpen event
  pub well : IsWellAsked v s trees event reply

pub record Moment (N E B W : Type 0) : Type 0 where
  pub event : Event N B W
  pub reply : EventReply N B W
  pub after : MachineState N E

-- One event: its step of the world, what it does to values, and the machine's invariant afterwards. Trees are no
-- part of it: that nodes keep them is a law of chains.
pub record EventDoes {N E B W : Type 0} (m : Seen N B W) (s : MachineState N E) (event : Event N B W)
    (reply : EventReply N B W) (s' : MachineState N E) : Type 0 where
  pub step : Step m (world_of s) event reply (world_of s')
  pub moves : Moves (EventBrings m.values (world_of s) event) s.pager s'.pager
  pub holds : Moves (λ n x. EventHolds m.values s.pager event x) s.pager s'.pager
  pub writes : ReplyWrites m s.pager reply
  pub whole : IsMachineWhole m.values s'

abbrev pub AreMoments : {N E B W : Type 0} → Seen N B W → MachineState N E → List (Moment N E B W) → Type 0
AreMoments m s [] = Unit {0}
AreMoments m s (x ∷ xs) = EventDoes m s x.event x.reply x.after × AreMoments m x.after xs

unfoldable pub state_after : {N E B W : Type 0} → MachineState N E → List (Moment N E B W) → MachineState N E
state_after s [] = s
state_after s (x ∷ xs) = state_after x.after xs

abbrev pub events_of : {N E B W : Type 0} → List (Moment N E B W) → List (Event N B W)
events_of xs = map (λ x. x.event) xs

abbrev pub replies_of : {N E B W : Type 0} → List (Moment N E B W) → List (EventReply N B W)
replies_of xs = map (λ x. x.reply) xs

-- a value that the call brings into memory holds its nodes' values, as they were before the call
abbrev pub BringsHeld : {N E B : Type 0} → Values N → PagerState N E → Call N B → PagerState N E → Type 0
BringsHeld {N} v s call s' = (n : ℕ) (x : N) → CallBrings s.core call n x → s'.values n ≡ Some x → HoldsItsNodes v s x

-- asked of calls only: the values that steps of loads and workers bring hold their nodes' values (`EventHolds`)
abbrev pub MomentBringsHeld : {N E B W : Type 0} → Values N → PagerState N E → Event N B W → PagerState N E → Type 0
MomentBringsHeld v s (Event.Call call) s' = BringsHeld v s call s'
MomentBringsHeld v s event s' = Unit {0}

abbrev pub MomentsBringHeld : {N E B W : Type 0} → Values N → MachineState N E → List (Moment N E B W) → Type 0
MomentsBringHeld v s [] = Unit {0}
MomentsBringHeld v s (x ∷ xs) = MomentBringsHeld v s.pager x.event x.after.pager × MomentsBringHeld v x.after xs

-- These events, with these replies, lead from the old machine to the new one.
pub record HasRun {N E B W : Type 0} (m : Seen N B W) (old : MachineState N E) (happened : List (Event N B W))
    (replied : List (EventReply N B W)) (new : MachineState N E) : Type 0 where
  pub moments : List (Moment N E B W)
  pub events_are : events_of moments ≡ happened
  pub replies_are : replies_of moments ≡ replied
  pub ends : state_after old moments ≡ new
  pub chain : AreMoments m old moments

-- a statement about one event, the machine and the trees before it, and the machine and the trees after it
abbrev pub Fact : (N E B W : Type 0) → Type 1
Fact N E B W = MachineState N E → (ℕ → Tree) → Event N B W → EventReply N B W → MachineState N E → (ℕ → Tree) → Type 0

-- Trees after an event: the machine stands for them, each node that existed keeps its tree, and P holds.
pub record TreesAfter {N E B W : Type 0} (m : Seen N B W) (P : Fact N E B W) (s : MachineState N E) (trees : ℕ → Tree)
    (event : Event N B W) (reply : EventReply N B W) (s' : MachineState N E) (trees' : ℕ → Tree) : Type 0 where
  pub keeps : SameTrees s.pager.core.last.node trees trees'
  pub stands : StandsFor m.values s' trees'
  pub so : P s trees event reply s' trees'

-- trees after each event of the chain, and P of each, as long as the premises hold of it and of all before it
abbrev pub TreesAlong : {N E B W : Type 0} → Seen N B W → Fact N E B W → MachineState N E → (ℕ → Tree)
    → List (Moment N E B W) → Type 0
TreesAlong m P s trees [] = Unit {0}
TreesAlong m P s trees (x ∷ xs) = IsPremised m.values s trees x.event x.reply x.after → (trees' : ℕ → Tree)
    × TreesAfter m P s trees x.event x.reply x.after trees' × TreesAlong m P x.after trees' xs
