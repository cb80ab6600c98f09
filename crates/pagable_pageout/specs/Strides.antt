-- Steps of a worker that are made together: each performs one task, and all but the last lead to another task.
use Rattle.pagable_codec.specs.{
  declared.{env.Env.Ghosts as Environments, hash.KeyHash.Ghosts as Hashes, nodes.NodeSet.Ghosts as Nodes},
}
use Rattle.pagable_load.specs.{WorkerCalls.SetsKeyAndReleases, declared.access.WorkerNode.WorkerNode}
use Rattle.pagable_pageout.specs.{
  Tasks.{EntryGetsResult, NeedsNoPager},
  Turns.{HasWalked, PerformsTask, RunsToAnswer, Stores},
  declared.tasks.{ClaimedNode.ClaimedNode, DoneReference.DoneReference, StepResult.StepResult, Task.Task, Turn.Turn},
}
use Rattle.pagable_pager_spec.specs.{
  Basics.{Blob, is_loose_kind},
  Pager.PagerState,
  World.{Shelf, Todo, Values},
  declared.{events.WorkerAnswer.WorkerAnswer, handle_row.Owner.Owner},
}
use Rattle.pagable_value_spec.specs.declared.{error.Error.Error, numbers.HandleNumber.HandleNumber}
use Rattle.std.specs.{
  Prelude.{Err, IfErr, IfOk, List, None, Ok, Option, Result, Some, if◌then◌else◌, ℕ, [], ◌≡◌, ◌⊎◌},
  declared.cmp.{Ord.Ghosts as Orders, PartialEq.Ghosts as Equalities, PartialOrd.Ghosts as PartialOrders},
}

-- the handle through which a written node's cell gets its key, where its reference is a loose one
abbrev pub loose_handle_of : ClaimedNode → Option HandleNumber
loose_handle_of n = if is_loose_kind n.reference.kind.0 then Some n.through else None

-- the node of a written node's reference, where the worker has handles
abbrev pub worker_node : ℕ → ClaimedNode → WorkerNode
worker_node v n = record { worker = record { 0 = v }; node = n.reference.node; loose = loose_handle_of n }

-- The blob of a written node is stored, its key set, and the worker's handles of it are released; the first of these
-- calls that fails is the last.
pub record StoresAndReleasesNode {N E : Type 0} (v : Values N) (me : Owner) (n : ℕ) (node : ClaimedNode)
    (s : PagerState N E)
    (blob : Blob) (r : Result ℕ Error) (t : PagerState N E) : Type 0 where
  pub stores : IfOk r (λ key. (mid : PagerState N E) × Stores v s blob (Ok key) mid
      × SetsKeyAndReleases v me (worker_node n node) key (Ok tt) mid t)
  pub refused : IfErr r (λ e. Stores v s blob (Err e) t
      ⊎ ((key : ℕ) × (mid : PagerState N E) × Stores v s blob (Ok key) mid
      × SetsKeyAndReleases v me (worker_node n node) key (Err e) mid t))

module _ {X XN XH XK XV : Type 0} {g : Environments X XN XH XK XV} {gh : Hashes XH} {go : Orders XK}
    {gq : Equalities XK} {gp : PartialOrders XK} {gn : Nodes XN X XN XH XK XV} where
  -- Steps from a task on, of which the last leads to this turn.
  pub record WalksTo {N E : Type 0} (v : Values N) (me : Owner) (n : ℕ) (shelf : Shelf)
      (task : Task X XN XH XK XV g gh go gq gp gn) (below : List Todo) (shelf' : Shelf)
      (turn : Turn X XN XH XK XV g gh go gq gp gn) (after : List Todo) (s t : PagerState N E) : Type 0 where
    pub now_shelf : Shelf
    pub now : Task X XN XH XK XV g gh go gq gp gn
    pub now_below : List Todo
    pub moved : StepResult X XN XH XK XV g gh go gq gp gn
    pub mid : PagerState N E
    pub walked : HasWalked v me n shelf task below now_shelf now now_below s mid
    pub last : PerformsTask v me n now_shelf now now_below shelf' moved after mid t
    pub comes : moved.turn ≡ turn

  -- The result of a node that is done is given to the first entry of the list; or its key is answered, if the list is
  -- empty.
  abbrev pub HandsOnResult : DoneReference X XN XH XK XV g gh go gq gp gn → List Todo
      → Turn X XN XH XK XV g gh go gq gp gn → List Todo
      → Type 0
  HandsOnResult d below (Turn.Goes task) after = EntryGetsResult d.reference d.found.key d.found.height below after
      × NeedsNoPager task
  HandsOnResult d below (Turn.Answers answer) after = (answer ≡ WorkerAnswer.Key d.found.key)
      × (below ≡ []) × (after ≡ [])

  -- Steps from a task on lead to another one, or to the answer of a run.
  pub record Strides {N E : Type 0} (v : Values N) (me : Owner) (n : ℕ) (shelf : Shelf)
      (task : Task X XN XH XK XV g gh go gq gp gn) (below : List Todo) (shelf' : Shelf)
      (turn : Turn X XN XH XK XV g gh go gq gp gn) (after : List Todo) (s t : PagerState N E) : Type 0 where
    pub goes : (next : Task X XN XH XK XV g gh go gq gp gn) → turn ≡ Turn.Goes next
        → HasWalked v me n shelf task below shelf' next after s t
    pub answers : (answer : WorkerAnswer) → turn ≡ Turn.Answers answer
        → RunsToAnswer v me n shelf task below shelf' answer s t
