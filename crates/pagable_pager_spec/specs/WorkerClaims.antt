-- What holds in addition if each load's and each worker's steps are uninterrupted; and what one cache ensures.
use Rattle.pagable_pager_spec.specs.{
  Basics.{Among, ArcRef, Beginning, Call, Error, Event, EventReply, FetchTarget, HandleNumber, HandleRow, Identity},
  Basics.{Kind, LoadAnswer, LoadNumber, Meaning, NodeNumber, Owner, Reply, Shape, Tree, Types, WorkerAnswer, above},
  Basics.{deepest_path, height, longest_path, tree, type_of},
  Kinds.fits_mode,
  LoadCalls.{Adopts, LazyCall, LoadFetchCall, from_cache},
  Pager.{IsMachineWhole, IsWhole, MachineState},
  Runs.{AreMoments, Fact, Moment, state_after},
  Workers.IsPublished,
  World.{Core, OpenLoad, Seen, Task, Values, Walking, of_cell, of_entry, of_item, row_at},
}
use Rattle.pagable_value_spec.specs.{Height.Kid, Meaning.{followed, pair, variant}, Merkle.TreeForm}
use Rattle.std.specs.Prelude.{List, Ok, Some, false, max, slice_get, true, ℕ, [], ◌<◌, ◌∷◌, ◌≡◌, ◌≢◌, ◌⊎◌}

-- whose step a moment is; the begin of a load or worker is its first
pub data Turn : Type 0 where
  of_load of_worker : ℕ → Turn
  of_nobody : Turn

abbrev pub turn_of : {N B W : Type 0} → Event N B W → EventReply N B W → Turn
turn_of (Event.LoadStep l) reply = of_load l.0
turn_of (Event.LoadStart h) (EventReply.Started (Ok (Beginning.Load l key))) = of_load l.0
turn_of (Event.Call (Call.LoadBegin h)) (EventReply.CallReply (Reply.Begun (Ok (Beginning.Load l key)))) = of_load l.0
turn_of (Event.LoadKey k t) (EventReply.Started (Ok (Beginning.Load l key))) = of_load l.0
turn_of (Event.WorkerStep v) reply = of_worker v.0
turn_of (Event.WorkerItem t written) (EventReply.WorkerMade (Ok v)) = of_worker v.0
turn_of (Event.WorkerListed t i) (EventReply.WorkerMade (Ok v)) = of_worker v.0
turn_of event reply = of_nobody

-- no load and no worker is interrupted: between two of its moments there are only its own
abbrev pub StandTogether : {N E B W : Type 0} → List (Moment N E B W) → Type 0
StandTogether {N} {E} {B} {W} moments = (i j k : ℕ) (a b c : Moment N E B W) → i < j → j < k → slice_get moments i
    ≡ Some a → slice_get moments j ≡ Some b → slice_get moments k ≡ Some c
    → turn_of a.event a.reply ≢ of_nobody → turn_of c.event c.reply ≡ turn_of a.event a.reply → turn_of b.event b.reply
    ≡ turn_of a.event a.reply

-- a reference in the meaning leads to the tree, directly or further down
pub data Reaches : Meaning ⊥ → Tree → Type 0 where
  refers : (kind : ℕ) (a : Meaning ⊥) → Reaches (followed kind a) (tree (type_of kind) a)
  refers-on : (kind : ℕ) (a : Meaning ⊥) (t : Tree) → Reaches a t → Reaches (followed kind a) t
  in-first : (a b : Meaning ⊥) (t : Tree) → Reaches a t → Reaches (pair a b) t
  in-rest : (a b : Meaning ⊥) (t : Tree) → Reaches b t → Reaches (pair a b) t
  in-part : (n : ℕ) (a : Meaning ⊥) (t : Tree) → Reaches a t → Reaches (variant n a) t

-- no bytes are a form of the tree's own value
pub record HasNoForm (types : Types) (t : Tree) : Type 0 where
  pub shape : Shape
  pub is : types.nodes t.type ≡ Some shape
  pub none_within : (some_bytes : List ℕ) (some_kids : List Kid) → ¬ TreeForm types shape t.meaning some_bytes some_kids

-- the tree, or one that it reaches, has no form
abbrev pub LeadsToNoForm : Types → Tree → Type 0
LeadsToNoForm types t = HasNoForm types t ⊎ ((below : Tree) × Reaches t.meaning below × HasNoForm types below)

-- a path of too many references leads down from the item, or from the listed cell, or from a node below
abbrev pub IsTooDeepTask : (ℕ → Tree) → Task → Type 0
IsTooDeepTask trees (of_item written) = (r : ArcRef) × Among written.references r
    × (longest_path < max (above r.kind.0 (height (trees r.node.0).meaning)) (deepest_path (trees r.node.0).meaning))
IsTooDeepTask trees (of_entry h i) = longest_path < deepest_path (trees i.node.0).meaning

-- some value that the task reaches has no form
abbrev pub IsFormlessTask : Types → (ℕ → Tree) → Task → Type 0
IsFormlessTask types trees (of_item written) = (r : ArcRef) × Among written.references r
    × LeadsToNoForm types (trees r.node.0)
IsFormlessTask types trees (of_entry h i) = LeadsToNoForm types (trees i.node.0)

-- No worker returns a key if such a path leads down, or if some value has no form.
abbrev pub KeyIsShallow : {N E B W : Type 0} → Values N → Fact N E B W
KeyIsShallow v s trees (Event.WorkerStep n) (EventReply.WorkerMoved (Ok reply)) s' trees' =
    (walking : Walking) (key : ℕ) → s.work.walkings n.0 ≡ Some walking → reply.answer ≡ Some (WorkerAnswer.Key key)
    → (¬ IsTooDeepTask trees walking.task) × (¬ IsFormlessTask v.types trees walking.task)
KeyIsShallow v s trees event reply s' trees' = Unit {0}

-- the errors with which a load may still fail once a page-out has set the cell's key
abbrev pub IsOfChance : Error → Type 0
IsOfChance Error.RegexRefused = Unit {0}
IsOfChance Error.NumbersSpent = Unit {0}
IsOfChance Error.OutOfMemory = Unit {0}
IsOfChance (Error.Storage code) = Unit {0}
IsOfChance (Error.Custom text) = Unit {0}
IsOfChance e = ⊥

-- a page-out has published the node's key on some table
pub record IsPagedOutAs {N E : Type 0} (s : MachineState N E) (n key : ℕ) : Type 0 where
  pub t : ℕ
  pub i : Identity
  pub height : ℕ
  pub of_node : i.node.0 ≡ n
  pub known : IsPublished (s.work.shelves t) i key height

-- the load is of a cell, and its key was published
abbrev pub IsLoadOfPagedOut : {N E : Type 0} → MachineState N E → OpenLoad → Type 0
IsLoadOfPagedOut s load = (node : NodeNumber) × (t : ℕ) × (h : HandleNumber) × (load.root ≡ of_cell node t h)
    × IsPagedOutAs s node.0 load.key

-- a load of a cell whose key a page-out has set fails only with such an error
abbrev pub LoadIsSound : {N E B W : Type 0} → Fact N E B W
LoadIsSound s trees (Event.LoadStep l) (EventReply.LoadMoved (Ok reply)) s' trees' =
    (load : OpenLoad) (e : Error) → s.pager.core.loads l.0 ≡ Some load → IsLoadOfPagedOut s load → reply.ended
    ≡ Some (LoadAnswer.Refused e) → IsOfChance e
LoadIsSound s trees event reply s' trees' = Unit {0}

-- a load gets a reference of this kind and key, and its node is n
pub record GetsReference (w : Core) (kind : Kind) (key n : ℕ) (w' : Core) : Type 0 where
  pub me : Owner
  pub l : LoadNumber
  pub k : HandleNumber
  pub row : HandleRow
  pub made : row_at w' k ≡ Some row
  pub at : row.node.0 ≡ n
  pub gets : LoadFetchCall w me l (FetchTarget.Nested kind key) (Ok (from_cache k)) w'
      ⊎ LazyCall w me l kind key (Ok k) w'
      ⊎ ((t : ℕ) × (references : List ArcRef) × Adopts w me l kind key t references k w')

-- the cache has no node twice, as is the case if only loads have filled it
abbrev pub IsFilledByReading : Core → Type 0
IsFilledByReading w = (kind key other_kind other_key n : ℕ) → w.cache kind key ≡ Some n → w.cache other_kind other_key
    ≡ Some n → (other_kind ≡ kind) × (other_key ≡ key)

-- the event doesn't clear the cache, doesn't put a caller's reference into it, and doesn't close the storage
abbrev pub LeavesCache : {N B W : Type 0} → Event N B W → Type 0
LeavesCache (Event.Call Call.CacheClear) = ⊥
LeavesCache (Event.Call (Call.OnArcDeserialized kind key h)) = ⊥
LeavesCache (Event.Call Call.Close) = ⊥
LeavesCache event = Unit {0}

-- some live handle of the node fits the kind
pub record IsAlive (w : Core) (kind : Kind) (n : ℕ) : Type 0 where
  pub row : HandleRow
  pub live : Among w.rows row
  pub at : row.node.0 ≡ n
  pub fits : fits_mode kind.0 row.mode ≡ true

-- after each moment of the chain
abbrev pub StaysAlive : {N E B W : Type 0} → Kind → ℕ → List (Moment N E B W) → Type 0
StaysAlive kind n [] = Unit {0}
StaysAlive kind n (x ∷ xs) = IsAlive x.after.pager.core kind n × StaysAlive kind n xs

-- Two references that loads get through one cache, which only loads have filled and whose storage is open. If they have
-- the same kind and node, they have the same key. And if they have the same kind and key, they have the same node,
-- provided that a handle of the first node in the kind's mode was alive all the time between.
pub record HaveOneIdentity {N E B W : Type 0} (kind other_kind : Kind) (key other_key n other_n : ℕ)
    (between : List (Moment N E B W)) : Type 0 where
  pub differ : other_kind ≡ kind → other_n ≡ n → other_key ≡ key
  pub same : other_kind ≡ kind → other_key ≡ key → StaysAlive kind n between → other_n ≡ n

-- The law, for any chain between two such loads.
abbrev pub OneIdentityLaw : {N B W : Type 0} → (E : Type 0) → Seen N B W → Type 0
OneIdentityLaw {N} {B} {W} E m = (w : Core) (first : MachineState N E) (between : List (Moment N E B W)) (last : Core)
    (kind other_kind : Kind) (key other_key n other_n : ℕ) → IsWhole w
    → IsFilledByReading w
    → w.closed ≡ false
    → GetsReference w kind key n first.pager.core
    → IsMachineWhole m.values first
    → AreMoments m first between
    → ((x : Moment N E B W) → Among between x → LeavesCache x.event)
    → GetsReference (state_after first between).pager.core other_kind other_key other_n last
    → HaveOneIdentity kind other_kind key other_key n other_n between
