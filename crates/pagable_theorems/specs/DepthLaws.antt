-- The laws of paths that are too long, of values without a form, and of loads that aren't interrupted.
use Rattle.pagable_pager_spec.specs.{
  Basics.{Among, ArcRef, Blob, Error, HandleNumber, Identity, LoadNumber, Tree, Types, height, longest_path},
  Events.reading_at,
  Order.{MetError, ReadsTooDeep, steps_of},
  Pager.{IsIdle, IsMachineWhole, MachineState, StandsFor, world_of},
  Runs.{AreMoments, Fact, HoldsSettled, Moment, TreesAlong, events_of, replies_of, state_after},
  WorkerClaims.{IsFormlessTask, IsLoadOfPagedOut, IsOfChance, IsTooDeepTask, LoadIsSound, StandTogether},
  Workers.{ComesBack, IsOpenSlot},
  World.{IsLawful, OpenLoad, Reading, Seen, Shelf, Slot, Todo, Values, Walking, to_load},
  declared.calls.{Call.Call, Reply.Reply},
  declared.events.{Action.Action, Claim.Claim, Event.Event, EventReply.EventReply, LoadAnswer.LoadAnswer},
  declared.{events.WorkerAnswer.WorkerAnswer, pinning.Beginning.Beginning},
}
use Rattle.pagable_value_spec.specs.{Canonical.IsReadableTree, Merkle.StoredTree}
use Rattle.std.specs.Prelude.{Err, List, Ok, Option, Some, slice_get, ℕ, ◌<◌, ◌↔◌, ◌∷◌, ◌≡◌, ◌≢◌, ◌⊎◌}

-- P holds of each event along the chain, under the premises of the headline's clause `trees` on the chain, its
-- beginning, types, values and events.
abbrev pub HoldsOf : {N E B W : Type 0} → (m : Seen N B W) → Fact N E B W → MachineState N E → List (Moment N E B W)
    → Type 0
HoldsOf m P start moments =
    (trees : ℕ → Tree) → IsMachineWhole m.values start → IsIdle start → AreMoments m start moments
    → StandsFor m.values start trees → IsLawful m.values
    → HoldsSettled m.values start.pager → TreesAlong m P start trees moments

-- so it is for every chain
abbrev pub HoldsAlong : {N B W : Type 0} → (E : Type 0) → (m : Seen N B W) → Fact N E B W → Type 0
HoldsAlong {N} {B} {W} E m P = (start : MachineState N E) (moments : List (Moment N E B W)) → HoldsOf m P start moments

-- another worker has claimed the identity, and waits for the worker n
pub record WaitsForAsker (shelf : Shelf) (n : ℕ) (i : Identity) : Type 0 where
  pub slot : Slot
  pub still : IsOpenSlot shelf i slot
  pub another : slot.worker ≢ n
  pub back : ComesBack shelf n slot.worker

-- a claim fails as too deep only if the worker's task leads down too long a path, or if another worker has the identity
-- and waits for this one
abbrev pub ClaimIsDeep : {N E B W : Type 0} → Fact N E B W
ClaimIsDeep s trees (Event.WorkerStep n) (EventReply.WorkerMoved (Ok reply)) s' trees' =
    (walking : Walking) (i : Identity) → s.work.walkings n.0 ≡ Some walking → reply.action
    ≡ Action.Claim i (Err Error.TooDeep)
    → IsTooDeepTask trees walking.task ⊎ WaitsForAsker (s.work.shelves walking.table) n.0 i
ClaimIsDeep s trees event reply s' trees' = Unit {0}

-- the errors that concern a handle: it is gone, another's, or of another mode or type
abbrev pub IsOfHandles : Error → Type 0
IsOfHandles Error.NoSuchHandle = Unit {0}
IsOfHandles Error.NotYours = Unit {0}
IsOfHandles Error.WrongMode = Unit {0}
IsOfHandles Error.WrongKind = Unit {0}
IsOfHandles e = ⊥

-- A caller's load of a cell whose key a page-out has set fails only by chance (IsOfChance), or with an error about a
-- handle (IsOfHandles).
abbrev pub LoadOfPagedOutIsFaultless : {N E B W : Type 0} → Fact N E B W
LoadOfPagedOutIsFaultless s trees (Event.LoadStep l) (EventReply.LoadMoved (Ok reply)) s' trees' =
    (load : OpenLoad) (e : Error) → s.pager.core.loads l.0 ≡ Some load → IsLoadOfPagedOut s load → reply.ended
    ≡ Some (LoadAnswer.Refused e) → IsOfChance e ⊎ IsOfHandles e
LoadOfPagedOutIsFaultless s trees event reply s' trees' = Unit {0}

-- A load of the caller or of a worker fails as too deep only if reading its key reaches a blob that is too deep, or one
-- that enters a level too many.
abbrev pub LoadIsDeep : {N E B W : Type 0} → Values N → Fact N E B W
LoadIsDeep v s trees (Event.LoadStep l) (EventReply.LoadMoved (Ok reply)) s' trees' =
    (reading : Reading) (load : OpenLoad) → reading_at (world_of s) l ≡ Some reading → s.pager.core.loads l.0
    ≡ Some load → reply.ended ≡ Some (LoadAnswer.Refused Error.TooDeep)
    → ReadsTooDeep v.types s.pager.core.stored reading.node_type load.key
LoadIsDeep v s trees (Event.WorkerStep n) (EventReply.WorkerMoved (Ok reply)) s' trees' =
    (walking : Walking) (r : ArcRef) (place : ℕ) (through : HandleNumber) (reading : Reading) (below : List Todo)
    (load : OpenLoad) (i : Identity) → s.work.walkings n.0 ≡ Some walking
    → walking.todo ≡ to_load r place through reading ∷ below → s.pager.core.loads reading.load.0 ≡ Some load
    → reply.action ≡ Action.Pin i (Err Error.TooDeep)
    → ReadsTooDeep v.types s.pager.core.stored reading.node_type load.key
LoadIsDeep v s trees event reply s' trees' = Unit {0}

-- For a key under which a readable tree is stored, reading the key goes too deep exactly if a path of too many
-- references leads down from the tree's root.
abbrev pub DepthIsHeight : Type 0
DepthIsHeight = (types : Types) (store : ℕ → Option Blob) (t : Tree) (key : ℕ) → IsReadableTree types t
    → StoredTree store types key t
    → ReadsTooDeep types store t.type key ↔ (longest_path < height t.meaning)

-- no step of the worker failed except as too deep, and no other worker had failed at an identity that it needed
abbrev pub MetDepthAlone : {W : Type 0} → List (Action W) → Type 0
MetDepthAlone {W} steps = ((step : Action W) (e : Error) → Among steps step → MetError step e → e ≡ Error.TooDeep)
    × ((i : Identity) → ¬ Among steps (Action.Claim i (Ok Claim.AlreadyFailed)))

-- A worker whose item or cell leads down too long a path, or to a value without a form, fails with TooDeep, if none of
-- its steps failed otherwise; whatever chain led there.
abbrev pub WorkerReportsDepth : {N E B W : Type 0} → Seen N B W → Fact N E B W
WorkerReportsDepth {N} {E} {B} {W} m s trees (Event.WorkerStep n) (EventReply.WorkerMoved (Ok reply)) s' trees' =
    (start : MachineState N E) (moments : List (Moment N E B W)) (walking : Walking) (answer : WorkerAnswer)
    → IsMachineWhole m.values start → IsIdle start → AreMoments m start moments
    → state_after start moments ≡ s' → s.work.walkings n.0 ≡ Some walking → reply.answer ≡ Some answer
    → MetDepthAlone (steps_of n.0 (events_of moments) (replies_of moments))
    → IsTooDeepTask trees walking.task ⊎ IsFormlessTask m.values.types trees walking.task → answer
    ≡ WorkerAnswer.Failed Error.TooDeep
WorkerReportsDepth m s trees event reply s' trees' = Unit {0}

-- the load with this number begins
abbrev pub IsBeginOf : {N B W : Type 0} → ℕ → Event N B W → EventReply N B W → Type 0
IsBeginOf n (Event.LoadStart h) (EventReply.Started (Ok (Beginning.Load l key))) = l.0 ≡ n
IsBeginOf n (Event.Call (Call.LoadBegin h)) (EventReply.CallReply (Reply.Begun (Ok (Beginning.Load l key)))) = l.0 ≡ n
IsBeginOf n (Event.LoadKey k t) (EventReply.Started (Ok (Beginning.Load l key))) = l.0 ≡ n
IsBeginOf n event reply = ⊥

-- the load has begun before this place of the chain
pub record HasBegun {N E B W : Type 0} (moments : List (Moment N E B W)) (n k : ℕ) : Type 0 where
  pub i : ℕ
  pub a : Moment N E B W
  pub before : i < k
  pub at : slice_get moments i ≡ Some a
  pub begins : IsBeginOf n a.event a.reply

-- A load of a cell whose key a page-out has set fails only by chance (IsOfChance), if each load that makes a step has
-- begun earlier in the chain, and no load and no worker is interrupted.
abbrev pub UninterruptedLoadsAreSound : {N B W : Type 0} → (E : Type 0) → Seen N B W → Type 0
UninterruptedLoadsAreSound {N} {B} {W} E m = (start : MachineState N E) (moments : List (Moment N E B W))
    → StandTogether moments
    → ((k : ℕ) (c : Moment N E B W) (l : LoadNumber) → slice_get moments k ≡ Some c → c.event ≡ Event.LoadStep l
    → HasBegun moments l.0 k) → HoldsOf m LoadIsSound start moments
