-- One task of a worker over the pager's core and its table: what the task needs, what it does, and which task
-- follows.
use Rattle.pagable_codec.specs.{
  declared.{env.Env.Ghosts as Environments, hash.KeyHash.Ghosts as Hashes, nodes.NodeSet.Ghosts as Nodes},
}
use Rattle.pagable_core.specs.declared.context.writing.SerializedData.{SerializedData}
use Rattle.pagable_load.specs.{AccessView.{Acting, as_caller}, Frames.IsLoadOf, declared.reading.Reading.Reading as Own}
use Rattle.pagable_pageout.specs.{
  Slots.written_of,
  Tasks.{NeedsNoPager, todo_of, todos},
  declared.claims.ClaimResult.ClaimResult,
  declared.tasks.{ClaimedNode.ClaimedNode, StepResult.StepResult, Task.Task, Turn.Turn, WaitingValue.WaitingValue},
}
use Rattle.pagable_pager_spec.specs.{
  Access.{MakesCall, WalkStep, WorkerRun},
  Basics.{Blob, Identity, longest_path, type_of},
  Calls.{ScheduleCall, StoreCall},
  Kinds.{identity_of, is_pinning, owner_worker},
  Pager.{HoldsItsNodes, IsFormless, IsPagerWhole, IsWrittenOf, Moves, PagerState, RefusesWriting, TodoBrings},
  Pager.TookWrites,
  Workers.{IsOpenSlot, KeySetFor, WalkDoes, WorkerEnds, WorkerState, answer_after, failing, failing_by, give_known},
  Workers.is_counted,
  World.{Alike, Core, HasForm, Open, Shelf, Slot, Todo, Values, Written, of_cell, result_map, row_at, to_pin},
  World.{to_set, to_start, type_at, was_failed},
  declared.events.{Action.Action, Claim.Claim, WorkerAnswer.WorkerAnswer},
  declared.handle_row.{HandleRow.HandleRow, Owner.Owner},
}
use Rattle.pagable_theorems.specs.TreeSteps.{StandsAt}
use Rattle.pagable_value_spec.specs.{
  Blob.key_of,
  Refusals.is_writing_fault,
  declared.{error.Error.Error, numbers.{ArcRef.ArcRef, HandleNumber.HandleNumber}},
}
use Rattle.std.specs.{
  Arc.arc_value,
  Prelude.{Bool, Err, IfErr, IfOk, List, MatchOption, None, Ok, Option, Result, Some, false, true, ℕ, [], ◌+◌, ◌∷◌},
  Prelude.{◌≡◌, ◌≤◌, ◌⊎◌},
  declared.alloc.Global.Global,
  declared.cmp.{Ord.Ghosts as Orders, PartialEq.Ghosts as Equalities, PartialOrd.Ghosts as PartialOrders},
  declared.sync.Arc.Arc,
}
pub use Rattle.pagable_load.specs.WorkerCalls.{plain}

abbrev pub worker_state : Core → Shelf → List Todo → WorkerState
worker_state core shelf todo = record { core = core; shelf = shelf; todo = todo }

-- what is to be done after a claim
abbrev pub claim_todo : ArcRef → ℕ → List Todo → Result Claim Error → List Todo
claim_todo r place below (Ok Claim.Claimed) = to_pin r place ∷ below
claim_todo r place below (Ok (Claim.Known key height)) = give_known r key height below
claim_todo r place below (Ok Claim.Waiting) = to_start r place ∷ below
claim_todo r place below (Ok Claim.AlreadyFailed) = failing was_failed (to_start r place ∷ below)
claim_todo r place below (Err e) = failing_by e (to_start r place ∷ below)

-- a step without the place in memory of what it wrote
abbrev pub plain_took : Action (Arc SerializedData Global) → Action Written
plain_took (Action.Claim i r) = Action.Claim i r
plain_took (Action.Pin i r) = Action.Pin i r
plain_took (Action.Write i out) = Action.Write i (result_map (λ a. written_of (arc_value a)) out)
plain_took (Action.Store i r) = Action.Store i r
plain_took (Action.SetKey i r) = Action.SetKey i r
plain_took (Action.Publish i key height) = Action.Publish i key height
plain_took (Action.Release i) = Action.Release i
plain_took Action.Fail = Action.Fail

-- whether the step was a claim that has to wait
abbrev pub is_waiting : {W : Type 0} → Action W → Bool
is_waiting (Action.Claim i (Ok Claim.Waiting)) = true
is_waiting step = false

-- while the reference's node lives it has the type of the reference's kind
pub record IsOfKind (w : Core) (r : ArcRef) : Type 0 where
  pub given : r.node.0 ≤ w.last.node
  pub typed : (t : ℕ) → type_at w r.node.0 ≡ Some t → t ≡ type_of r.kind.0

-- the handle pins the reference's node
pub record PinsAt (w : Core) (r : ArcRef) (k : HandleNumber) : Type 0 where
  pub row : HandleRow
  pub live : row_at w k ≡ Some row
  pub at : row.node ≡ r.node
  pub pins : is_pinning row.mode ≡ true

-- the handle pins the reference's node, and this owner has it
pub record HoldsPin (w : Core) (me : Owner) (r : ArcRef) (k : HandleNumber) : Type 0 where
  pub pins : PinsAt w r k
  pub own : pins.row.owner ≡ me

-- the load is open, and reads the reference's cell for this handle
pub record IsLoading (w : Core) (n : ℕ) (r : ArcRef) (through : HandleNumber) (own : Own) : Type 0 where
  pub is : IsLoadOf w (owner_worker n) own
  pub for_cell : own.for_cell ≡ true
  pub t : ℕ
  pub root : is.load.root ≡ of_cell r.node t through

module _ {X XN XH XK XV : Type 0} {g : Environments X XN XH XK XV} {gh : Hashes XH} {go : Orders XK}
    {gq : Equalities XK} {gp : PartialOrders XK} {gn : Nodes XN X XN XH XK XV} where
  -- what a task needs of the pager
  abbrev pub TaskFits : ℕ → Core → Task X XN XH XK XV g gh go gq gp gn → Type 0
  TaskFits n w (Task.Pin r place) = StandsAt w r r.handle × IsOfKind w r
  TaskFits n w (Task.Load r place through own) = IsOfKind w r × IsLoading w n r through own
  TaskFits n w (Task.Write r place through pin) = IsOfKind w r × HoldsPin w (owner_worker n) r pin
  TaskFits n w task = Unit {0}

  -- what a claim found is the reference's, and fits at its place
  abbrev pub ClaimFits : ArcRef → ℕ → Result (ClaimResult X XN XH XK XV g gh go gq gp gn) Error → Type 0
  ClaimFits r place (Ok ClaimResult.Claimed) = place ≤ longest_path
  ClaimFits r place (Ok (ClaimResult.Known found)) = (found.identity ≡ identity_of r)
      × (place + found.height ≤ longest_path)
  ClaimFits r place claim = Unit {0}

  -- the task after a claim: to pin what was claimed, or one that needs nothing of the pager
  abbrev pub IsTaskAfterClaim : ArcRef → ℕ → Result (ClaimResult X XN XH XK XV g gh go gq gp gn) Error
      → Task X XN XH XK XV g gh go gq gp gn → Type 0
  IsTaskAfterClaim r place (Ok ClaimResult.Claimed) task = task ≡ Task.Pin r place
  IsTaskAfterClaim r place claim task = NeedsNoPager task

  -- the pager is whole, the calls are the worker's, and the task fits
  pub record Fits {N E : Type 0} (v : Values N) (me : Owner) (n : ℕ) (task : Task X XN XH XK XV g gh go gq gp gn)
      (s : PagerState N E) : Type 0 where
    pub me_is : me ≡ owner_worker n
    pub whole : IsPagerWhole v s
    pub task_fits : TaskFits n s.core task

  -- what is to be done after a task
  abbrev pub todos_after : Turn X XN XH XK XV g gh go gq gp gn
      → List (WaitingValue X XN XH XK XV g gh go gq gp gn) → List Todo
  todos_after (Turn.Goes t) path = todo_of t ∷ todos path
  todos_after (Turn.Answers a) path = []

  abbrev pub answer_in : Turn X XN XH XK XV g gh go gq gp gn → Option WorkerAnswer
  answer_in (Turn.Goes t) = None
  answer_in (Turn.Answers a) = Some a

  abbrev pub LeavesFit : ℕ → Core → Turn X XN XH XK XV g gh go gq gp gn → Type 0
  LeavesFit n w (Turn.Goes t) = TaskFits n w t
  LeavesFit n w (Turn.Answers a) = Unit {0}

  -- a step of the worker, up to its end
  pub record Turned {N E : Type 0} (v : Values N) (n : ℕ) (shelf : Shelf) (todo : List Todo) (s : PagerState N E)
      (shelf' : Shelf) (moved : StepResult X XN XH XK XV g gh go gq gp gn) (after : List Todo)
      (t : PagerState N E) : Type 0 where
    pub does : WalkDoes (plain v) n (worker_state s.core shelf todo) (plain_took moved.action)
        (worker_state t.core shelf' after)
    pub answers : answer_after todo (plain_took moved.action) ≡ answer_in moved.turn
    pub moves : Moves (TodoBrings v s.core todo) s t
    pub holds : Moves (λ n x. HoldsItsNodes v s x) s t
    pub writes : TookWrites v (λ w. w) s (plain_took moved.action)
    pub whole : IsPagerWhole v t
    pub fits : LeavesFit n t.core moved.turn

  -- Performing a task is a step of the worker, if the task fits, and counts if such a step does.
  pub record PerformsTask {N E : Type 0} (v : Values N) (me : Owner) (n : ℕ) (shelf : Shelf)
      (task : Task X XN XH XK XV g gh go gq gp gn) (below : List Todo) (shelf' : Shelf)
      (moved : StepResult X XN XH XK XV g gh go gq gp gn) (after : List Todo) (s t : PagerState N E) : Type 0 where
    pub turns : Fits v me n task s → Turned v n shelf (todo_of task ∷ below) s shelf' moved after t
    pub counts : moved.counted ≡ is_counted (todo_of task ∷ below) (plain_took moved.action)

  -- on an answer the worker ends, else nothing is done
  pub record EndsIfAnswered {N E : Type 0} (v : Values N) (n : ℕ) (turn : Turn X XN XH XK XV g gh go gq gp gn)
      (s s' : PagerState N E) : Type 0 where
    pub closes : MatchOption (answer_in turn) (s' ≡ s) (λ a. MakesCall v (λ w'. WorkerEnds s.core n w') s s')

  abbrev pub acting_after : {E : Type 0} → Turn X XN XH XK XV g gh go gq gp gn → Acting E → Acting E
  acting_after (Turn.Goes t) a = a
  acting_after (Turn.Answers answer) a = as_caller a

  -- a step of the worker, with its end
  pub record Stepped {N E : Type 0} (v : Values N) (n : ℕ) (shelf : Shelf) (todo : List Todo) (s : PagerState N E)
      (shelf' : Shelf) (moved : StepResult X XN XH XK XV g gh go gq gp gn) (after : List Todo)
      (t : PagerState N E) : Type 0 where
    pub does : WalkStep (plain v) n todo (record { pager = s; shelf = shelf }) (plain_took moved.action) after
        (record { pager = t; shelf = shelf' })
    pub answers : answer_after todo (plain_took moved.action) ≡ answer_in moved.turn
    pub fits : LeavesFit n t.core moved.turn

  -- Performing a task is a step of the worker with its end, if the task fits, and counts if such a step does.
  pub record PerformsStep {N E : Type 0} (v : Values N) (me : Owner) (n : ℕ) (shelf : Shelf)
      (task : Task X XN XH XK XV g gh go gq gp gn) (below : List Todo) (shelf' : Shelf)
      (moved : StepResult X XN XH XK XV g gh go gq gp gn) (after : List Todo) (s t : PagerState N E) : Type 0 where
    pub steps : Fits v me n task s → Stepped v n shelf (todo_of task ∷ below) s shelf' moved after t
    pub counts : moved.counted ≡ is_counted (todo_of task ∷ below) (plain_took moved.action)

-- ---- a worker's walk from a task to its answer

-- each open slot of the table is this worker's
abbrev pub IsAlone : ℕ → Shelf → Type 0
IsAlone n shelf = (i : Identity) (slot : Slot) → IsOpenSlot shelf i slot → slot.worker ≡ n

-- some steps from what is to be done to this answer
pub record Walked {N E : Type 0} (v : Values N) (n : ℕ) (todo : List Todo) (s : PagerState N E) (shelf : Shelf)
    (answer : WorkerAnswer) (t : PagerState N E) (shelf' : Shelf) : Type 0 where
  pub steps : List (Action Written)
  pub run : WorkerRun (plain v) n todo (record { pager = s; shelf = shelf }) steps answer
      (record { pager = t; shelf = shelf' })

module _ {X XN XH XK XV : Type 0} {g : Environments X XN XH XK XV} {gh : Hashes XH} {go : Orders XK}
    {gq : Equalities XK} {gp : PartialOrders XK} {gn : Nodes XN X XN XH XK XV} where
  -- The answer is that of a run of the worker, where the task fits and the worker is alone.
  pub record RunsToAnswer {N E : Type 0} (v : Values N) (me : Owner) (n : ℕ) (shelf : Shelf)
      (task : Task X XN XH XK XV g gh go gq gp gn) (below : List Todo) (shelf' : Shelf) (answer : WorkerAnswer)
      (s t : PagerState N E) : Type 0 where
    pub runs : Fits v me n task s → IsAlone n shelf → Walked v n (todo_of task ∷ below) s shelf answer t shelf'

  -- Steps so far: what is to be done fits, the worker is still alone, and a run from there is one from the beginning.
  pub record HasWalked {N E : Type 0} (v : Values N) (me : Owner) (n : ℕ) (shelf : Shelf)
      (first : Task X XN XH XK XV g gh go gq gp gn) (below : List Todo) (now_shelf : Shelf)
      (now : Task X XN XH XK XV g gh go gq gp gn) (now_below : List Todo) (s t : PagerState N E) : Type 0 where
    pub fits : Fits v me n first s → IsAlone n shelf → Fits v me n now t
    pub alone : Fits v me n first s → IsAlone n shelf → IsAlone n now_shelf
    pub then : Fits v me n first s → IsAlone n shelf → (answer : WorkerAnswer) (u : PagerState N E) (shelf' : Shelf)
        → Walked v n (todo_of now ∷ now_below) t now_shelf answer u shelf'
        → Walked v n (todo_of first ∷ below) s shelf answer u shelf'

-- ---- what a worker writes of a node that it has pinned, and what it does at a written node

-- a form of the value, with exactly its references
pub record IsForm {N : Type 0} (v : Values N) (x : N) (written : Written) : Type 0 where
  pub form : HasForm v x written
  pub listed : written.references ≡ v.references x

-- the value's type may fail with this error; and if the error says that the value has no form, it has none
pub record WriteRefused {N : Type 0} (v : Values N) (x : N) (e : Error) : Type 0 where
  pub cause : v.write_causes (v.node_type x) e
  pub formless : is_writing_fault e ≡ true → IsFormless v x

-- the handle pins the reference's node, which is of its kind's type
pub record IsPinned {N E : Type 0} (v : Values N) (s : PagerState N E) (r : ArcRef) (pin : HandleNumber) : Type 0 where
  pub whole : IsPagerWhole v s
  pub kind : IsOfKind s.core r
  pub pins : PinsAt s.core r pin

-- what was written is a form of the pinned value, or the value isn't written for this error
pub record WritesForm {N E : Type 0} (v : Values N) (s : PagerState N E) (r : ArcRef) (pin : HandleNumber)
    (result : Result Written Error) : Type 0 where
  pub written : IsPinned v s r pin → IfOk result (λ w. IsWrittenOf v s r.node.0 w)
  pub refused : IsPinned v s r pin → IfErr result (λ e. (v.write_causes (type_of r.kind.0) e ⊎ (e ≡ Error.OutOfMemory))
      × RefusesWriting v s r.node.0 e)

-- a node that was just written
abbrev pub just_open : ArcRef → ℕ → HandleNumber → Written → Open
just_open r place through written = record {
  reference = r;
  place = place;
  through = through;
  written = written;
  keys = [];
  height = 0;
}

-- ---- what was written

-- the blob is stored, or the call fails
pub record Stores {N E : Type 0} (v : Values N) (s : PagerState N E) (blob : Blob) (r : Result ℕ Error)
    (t : PagerState N E) : Type 0 where
  pub stored : StoreCall (key_of v.hash) s.core blob r t.core
  pub moves : Moves (λ n x. ⊥) s t
  pub whole : IsPagerWhole v s → IsPagerWhole v t

-- the identity of a claimed node, none for an item
abbrev pub identity_of_node : Option ClaimedNode → Option Identity
identity_of_node None = None
identity_of_node (Some n) = Some (identity_of n.reference)

-- the key of a stored node is set next; that of an item is answered
module _ {X XN XH XK XV : Type 0} {g : Environments X XN XH XK XV} {gh : Hashes XH} {go : Orders XK}
    {gq : Equalities XK} {gp : PartialOrders XK} {gn : Nodes XN X XN XH XK XV} where
  abbrev pub FollowsStore : Option ClaimedNode → ℕ → Turn X XN XH XK XV g gh go gq gp gn → Type 0
  FollowsStore None key turn = turn ≡ Turn.Answers (WorkerAnswer.Key key)
  FollowsStore (Some n) key turn = (task : Task X XN XH XK XV g gh go gq gp gn) × (turn ≡ Turn.Goes task)
      × (todo_of task ≡ to_set n.reference n.through key n.height) × NeedsNoPager task

-- the key is set through the handle, where the reference's kind has one
pub record SetsKeyThrough {N E : Type 0} (v : Values N) (me : Owner) (r : ArcRef) (through : HandleNumber) (key : ℕ)
    (result : Result (Unit {0}) Error) (s t : PagerState N E) : Type 0 where
  pub sets : KeySetFor s.core me r through key result t.core
  pub moves : Moves (λ n x. ⊥) s t
  pub whole : IsPagerWhole v s → IsPagerWhole v t

-- putting the entry, if there is one, back on the list
pub record GoesBackOnList {N E : Type 0} (v : Values N) (me : Owner) (back : Option HandleNumber)
    (s t : PagerState N E) : Type 0 where
  pub goes : MatchOption back (Alike s.core t.core) (λ h. (r : Result (Unit {0}) Error)
      × ScheduleCall s.core me h r t.core)
  pub moves : Moves (λ n x. ⊥) s t
  pub whole : IsPagerWhole v s → IsPagerWhole v t
