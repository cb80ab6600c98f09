-- What holds of one event in terms of trees: what pins, loads and page-outs return and leave. And what holds of
-- workers, claims and steps, without trees.
use Rattle.pagable_pager_spec.specs.{
  Basics.{Action, Among, ArcRef, Blob, Call, Claim, Event, EventReply, HandleNumber, HandleRow, Identity, LoadAnswer},
  Basics.{Owner, PinStep, Pinning, ReadsTree, Reply, Shape, Tree, WorkerAnswer, if_there, is_loose_kind, one, times},
  Events.reading_at,
  Kinds.{identity_of, is_owned_by, owner_worker},
  Order.{InOrder, IsBounded, IsWithinBound, MetError, OnceEach, Unfolds, is_claim_of, steps_of},
  Pager.{IsReadingOf, MachineState, PagerState, ValueStands, kids_of, world_of},
  Refusals.IsReference,
  Runs.{Fact, Moment, ReadsAsValue},
  Workers.{IsPublished, is_workers_load},
  World.{OpenLoad, Reading, Seen, Shelf, Slot, Task, Values, Walking, World, Written, failed, key_at, no_result},
  World.{of_entry, of_item, row_at},
}
use Rattle.pagable_value_spec.specs.{
  Canonical.IsCanonicalTree,
  Merkle.{IsCanonicalItem, KeyOf, KeyOfItem, TreeForm},
  declared.data_key.OptionalDataKey.OptionalDataKey,
}
use Rattle.std.specs.{
  Prelude.{Bool, List, Ok, Option, Some, false, is_some, true, ℕ, [], ◌&&◌, ◌*◌, ◌+◌, ◌==◌, ◌∷◌, ◌≡◌, ◌≢◌, ◌≤◌},
}

-- the handle is live, and its node has a value in memory, which stands for the node's tree
pub record GivesTree {N E : Type 0} (v : Values N) (s : PagerState N E) (trees : ℕ → Tree)
    (k : HandleNumber) : Type 0 where
  pub row : HandleRow
  pub x : N
  pub live : row_at s.core k ≡ Some row
  pub held : s.values row.node.0 ≡ Some x
  pub stands : ValueStands v s x (trees row.node.0)

-- Each pin that succeeds pins a value that stands for the tree of the handle's node. That the new handle is of the same
-- node as the old one is said by the step (`PinCall`, `EndCall`).
abbrev pub PinGives : {N E B W : Type 0} → Values N → Fact N E B W
PinGives v s trees (Event.Call (Call.Pin h)) (EventReply.CallReply (Reply.Pin (Ok (Pinning.Pinned k)))) s' trees' =
    GivesTree v s'.pager trees' k
PinGives v s trees (Event.LoadStep l) (EventReply.LoadMoved (Ok reply)) s' trees' =
    (k : HandleNumber) → reply.ended ≡ Some (LoadAnswer.Pinned k) → GivesTree v s'.pager trees' k
PinGives v s trees (Event.Call (Call.LoadEnd l x)) (EventReply.CallReply (Reply.LoadEnded (Ok k))) s' trees' =
    GivesTree v s'.pager trees' k
PinGives v s trees (Event.WorkerStep n) (EventReply.WorkerMoved (Ok reply)) s' trees' =
    (i : Identity) (k : HandleNumber) → reply.action ≡ Action.Pin i (Ok (PinStep.Pinned k))
    → GivesTree v s'.pager trees' k
PinGives v s trees event reply s' trees' = Unit {0}

-- The key reads as a tree, the value that a load of the key returns stands for it, and the caller owns its references.
pub record ReadIsRight {N E : Type 0} (v : Values N) (s : PagerState N E) (key : ℕ) (x : N) : Type 0 where
  pub stands : ReadsAsValue v s x key
  pub own : (r : ArcRef) → Among (v.references x) r → IsReference s.core Owner.Caller r

abbrev pub ReadGives : {N E B W : Type 0} → Values N → Fact N E B W
ReadGives {N} v s trees (Event.LoadStep l) (EventReply.LoadMoved (Ok reply)) s' trees' =
    (load : OpenLoad) (x : N) → s.pager.core.loads l.0 ≡ Some load → reply.ended ≡ Some (LoadAnswer.Read x)
    → ReadIsRight v s'.pager load.key x
ReadGives v s trees event reply s' trees' = Unit {0}

-- What a task meets: the references of its item, or its listed cell; and the references that were written of what it
-- meets; and nothing else.
pub data Meets (shelf : Shelf) (task : Task) : Identity → Type 0 where
  meets-of-item : (written : Written) (r : ArcRef) → task ≡ of_item written → Among written.references r
      → Meets shelf task (identity_of r)
  meets-entry : (h : HandleNumber) (i : Identity) → task ≡ of_entry h i → Meets shelf task i
  meets-below : (i : Identity) (slot : Slot) (references : List ArcRef) (r : ArcRef) → Meets shelf task i
      → shelf.slots i ≡ Some slot → slot.references ≡ Some references → Among references r
      → Meets shelf task (identity_of r)

pub record TableMeets (u : World) (t : ℕ) (i : Identity) : Type 0 where
  pub n : ℕ
  pub walking : Walking
  pub there : u.work.walkings n ≡ Some walking
  pub on_table : walking.table ≡ t
  pub meets : Meets (u.work.shelves t) walking.task i

-- a key for each reference: the one that was published for its identity
abbrev pub AreKeysOf : Shelf → List ArcRef → List ℕ → Type 0
AreKeysOf shelf [] [] = Unit {0}
AreKeysOf shelf (r ∷ rs) (k ∷ ks) = ((height : ℕ) × IsPublished shelf (identity_of r) k height) × AreKeysOf shelf rs ks
AreKeysOf shelf _ _ = ⊥

-- The identity is paged out: under its key the store has a form of the node's tree, with the published keys of the
-- references that were written of it.
pub record IsLeftPagedOut {N E : Type 0} (v : Values N) (s : PagerState N E) (shelf : Shelf) (trees : ℕ → Tree)
    (i : Identity) : Type 0 where
  pub slot : Slot
  pub references : List ArcRef
  pub blob : Blob
  pub key : ℕ
  pub height : ℕ
  pub shape : Shape
  pub claimed : shelf.slots i ≡ Some slot
  pub written_so : slot.references ≡ Some references
  pub known : IsPublished shelf i key height
  pub stored : s.core.stored key ≡ Some blob
  pub keys : AreKeysOf shelf references blob.keys
  pub has_shape : v.types.nodes (trees i.node.0).type ≡ Some shape
  pub form : TreeForm v.types shape (trees i.node.0).meaning blob.bytes (kids_of trees references)

-- the cell has a key, which reads as the cell's tree
pub record HasKeyOf {N E : Type 0} (v : Values N) (s : PagerState N E) (trees : ℕ → Tree) (n : ℕ) : Type 0 where
  pub key : ℕ
  pub set : key_at s.core n ≡ OptionalDataKey.Some key
  pub reads : ReadsTree s.core.stored v.types key (trees n)

-- what a worker leaves when it returns a key: all that it met is paged out, and each live cell that it met through a
-- loose reference has a key of its tree
pub record LeavesAll {N E : Type 0} (v : Values N) (s : PagerState N E) (shelf : Shelf) (trees : ℕ → Tree)
    (task : Task) : Type 0 where
  pub blobs : (i : Identity) → Meets shelf task i → IsLeftPagedOut v s shelf trees i
  pub cells : (i : Identity) → Meets shelf task i → is_loose_kind i.kind.0 ≡ true → is_some (s.core.cells i.node.0)
      ≡ true → HasKeyOf v s trees i.node.0

-- if a worker's step returns a key as the worker's result, P holds of worker and key
abbrev pub AnswersKey : {N E B W : Type 0} → (MachineState N E → (ℕ → Tree) → Walking → ℕ → Type 0) → Fact N E B W
AnswersKey P s trees (Event.WorkerStep n) (EventReply.WorkerMoved (Ok reply)) s' trees' =
    (walking : Walking) (key : ℕ) → s'.work.walkings n.0 ≡ Some walking → reply.answer ≡ Some (WorkerAnswer.Key key)
    → P s' trees' walking key
AnswersKey P s trees event reply s' trees' = Unit {0}

-- a worker that returns a key leaves all that it met paged out
abbrev pub AnswerLeavesAll : {N E B W : Type 0} → Values N → Fact N E B W
AnswerLeavesAll v = AnswersKey (λ s trees walking key. LeavesAll v s.pager (s.work.shelves walking.table) trees
    walking.task)

-- The key is a key of the item or of the listed cell, and its only one if item or cell is canonical.
abbrev pub IsKeyOfTask : {N : Type 0} → Values N → (ℕ → Tree) → Task → ℕ → Type 0
IsKeyOfTask v trees (of_item written) key = KeyOfItem v.hash v.types written.bytes (kids_of trees written.references)
    key
    × (IsCanonicalItem v.types written.bytes (kids_of trees written.references) → (other : ℕ)
    → KeyOfItem v.hash v.types written.bytes (kids_of trees written.references) other → other ≡ key)
IsKeyOfTask v trees (of_entry h i) key =
    KeyOf v.hash v.types (trees i.node.0) key × (IsCanonicalTree v.types (trees i.node.0) → (other : ℕ)
    → KeyOf v.hash v.types (trees i.node.0) other → other ≡ key)

abbrev pub AnswerIsKey : {N E B W : Type 0} → Values N → Fact N E B W
AnswerIsKey v = AnswersKey (λ s trees walking key. IsKeyOfTask v trees walking.task key)

-- a published key is a key of the node's tree; and if the kind is loose, the cell had a key by then
abbrev pub PublishIsKey : {N E B W : Type 0} → Values N → Fact N E B W
PublishIsKey v s trees (Event.WorkerStep n) (EventReply.WorkerMoved (Ok reply)) s' trees' =
    (i : Identity) (key height : ℕ) → reply.action ≡ Action.Publish i key height
    → KeyOf v.hash v.types (trees i.node.0) key × (is_loose_kind i.kind.0 ≡ true → (set : ℕ)
    × (key_at s.pager.core i.node.0 ≡ OptionalDataKey.Some set))
PublishIsKey v s trees event reply s' trees' = Unit {0}

-- all that holds of one event in terms of trees
pub record IsRight {N E B W : Type 0} (v : Values N) (s : MachineState N E) (trees : ℕ → Tree) (event : Event N B W)
    (reply : EventReply N B W) (s' : MachineState N E) (trees' : ℕ → Tree) : Type 0 where
  pub pins_give : PinGives v s trees event reply s' trees'
  pub reads_give : ReadGives v s trees event reply s' trees'
  pub leaves : AnswerLeavesAll v s trees event reply s' trees'
  pub publishes : PublishIsKey v s trees event reply s' trees'
  pub key : AnswerIsKey v s trees event reply s' trees'

abbrev pub is_on_table : ℕ → Option Walking → Bool
is_on_table t walking = if_there (λ (w : Walking). w.table == t) false walking

-- how often workers of the table claimed the identity, by these replies
unfoldable pub claims_made : {N B W : Type 0} → (ℕ → Option Walking) → ℕ → Identity → List (Event N B W)
    → List (EventReply N B W) → ℕ
claims_made walkings t i (Event.WorkerStep v ∷ more) (EventReply.WorkerMoved (Ok reply) ∷ rest) =
    one (is_on_table t (walkings v.0) && is_claim_of i reply.action) + claims_made walkings t i more rest
claims_made walkings t i (event ∷ more) (reply ∷ rest) = claims_made walkings t i more rest
claims_made walkings t i [] rest = 0
claims_made walkings t i (event ∷ more) [] = 0

-- no identity is claimed twice on a table, and whatever is claimed is met by a worker of the table
pub record ClaimsAreRight {N B W : Type 0} (u : World) (happened : List (Event N B W))
    (replied : List (EventReply N B W)) : Type 0 where
  pub at_most_once : (t : ℕ) (i : Identity) → claims_made u.work.walkings t i happened replied ≤ 1
  pub met : (t : ℕ) (i : Identity) → is_some ((u.work.shelves t).slots i) ≡ true → TableMeets u t i

-- another worker claimed the identity and failed
pub record FailedElsewhere (shelf : Shelf) (n : ℕ) (i : Identity) : Type 0 where
  pub slot : Slot
  pub claimed : shelf.slots i ≡ Some slot
  pub of_another : (slot.worker == n) ≡ false
  pub is_failed : slot.outcome ≡ failed

-- if the worker failed, one of its steps met the error, or one of its claims found that another worker had failed
abbrev pub IsMetFailure : {W : Type 0} → Shelf → ℕ → List (Action W) → WorkerAnswer → Type 0
IsMetFailure shelf n steps (WorkerAnswer.Key key) = Unit {0}
IsMetFailure {W} shelf n steps (WorkerAnswer.Failed e) = (step : Action W) × Among steps step × MetError step e
IsMetFailure shelf n steps WorkerAnswer.AlreadyFailed =
    (i : Identity) × Among steps (Action.Claim i (Ok Claim.AlreadyFailed)) × FailedElsewhere shelf n i

-- each of the worker's claims has a result, and the worker owns no handle and no open load
pub record HasLetGo (u : World) (n : ℕ) (shelf : Shelf) : Type 0 where
  pub results : (i : Identity) (slot : Slot) → shelf.slots i ≡ Some slot → slot.worker ≡ n → slot.outcome ≢ no_result
  pub handles : times (is_owned_by (owner_worker n)) u.core.rows ≡ 0
  pub loads : (l : ℕ) → is_workers_load n (u.core.loads l) ≡ false

-- About one worker and all its actions: they are in order, each stage at most once for an identity, and within the
-- bound; they met the cause if it failed; with its result it has let go.
pub record WorkerIsRight {W : Type 0} (f : W → Written) (u : World) (n : ℕ) (walking : Walking)
    (steps : List (Action W)) : Type 0 where
  pub order : InOrder f walking.task steps
  pub once : OnceEach steps
  pub bounded : IsBounded f walking steps
  pub met : (answer : WorkerAnswer) → walking.answer ≡ Some answer
      → IsMetFailure (u.work.shelves walking.table) n steps answer
  pub let_go : (answer : WorkerAnswer) → walking.answer ≡ Some answer → HasLetGo u n (u.work.shelves walking.table)

-- an open load whose steps the machine makes has made less than 2n + 2 steps, if reading its key takes n references
abbrev pub LoadsHaveStepsLeft : {N : Type 0} → Values N → World → Type 0
LoadsHaveStepsLeft v u = (reading : Reading) (load : OpenLoad) → IsReadingOf u.work reading
    → u.core.loads reading.load.0 ≡ Some load
    → (many longest : ℕ) → Unfolds v.types u.core.stored reading.node_type load.key many longest
    → reading.steps ≤ 2 * many + 1

-- what holds of claims, workers and open loads, without trees
pub record WorkIsRight {N E B W : Type 0} (m : Seen N B W) (s : MachineState N E) (happened : List (Event N B W))
    (replied : List (EventReply N B W)) : Type 0 where
  pub claims_right : ClaimsAreRight (world_of s) happened replied
  pub workers : (n : ℕ) (walking : Walking) → s.work.walkings n ≡ Some walking
      → WorkerIsRight m.written_of (world_of s) n walking (steps_of n happened replied)
  pub loads : LoadsHaveStepsLeft m.values (world_of s)

abbrev pub StepIsWithin : {N E B W : Type 0} → Values N → MachineState N E → Event N B W → EventReply N B W → Type 0
StepIsWithin v s (Event.LoadStep l) (EventReply.LoadMoved (Ok reply)) =
    (reading : Reading) (load : OpenLoad) → reading_at (world_of s) l ≡ Some reading → s.pager.core.loads l.0
    ≡ Some load → IsWithinBound v.types s.pager.core.stored reading.node_type load.key reply
StepIsWithin v s event reply = Unit {0}

abbrev pub StepsAreWithin : {N E B W : Type 0} → Values N → MachineState N E → List (Moment N E B W) → Type 0
StepsAreWithin v s [] = Unit {0}
StepsAreWithin v s (x ∷ xs) = StepIsWithin v s x.event x.reply × StepsAreWithin v x.after xs
