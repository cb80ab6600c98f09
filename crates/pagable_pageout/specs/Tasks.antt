-- A worker's task at hand and its path as plain data: a list of what it has to do, the next first.
use Rattle.pagable_codec.specs.{
  declared.{env.Env.Ghosts as Environments, hash.KeyHash.Ghosts as Hashes, nodes.NodeSet.Ghosts as Nodes},
}
use Rattle.pagable_load.specs.{AccessView.values_at, Frames.reading_of, LoadEnd.to_do}
use Rattle.pagable_pageout.specs.{
  Results.IsKeyOverResults,
  Slots.{keys_of, written_of},
  declared.tasks.{ClaimedNode.ClaimedNode, PageOutError.PageOutError, Task.Task, Turn.Turn, WaitingValue.WaitingValue},
}
use Rattle.pagable_pager_spec.specs.{
  Basics.{above, longest_path},
  Workers.{give, place_below},
  World.{Fault, Todo, Written, to_fail, to_finish, to_item, to_load, to_pin, to_publish, to_release, to_set, to_start},
  World.{to_write, was_failed, was_refused},
  declared.events.WorkerAnswer.WorkerAnswer,
}
use Rattle.pagable_value_spec.specs.declared.numbers.{ArcRef.ArcRef, HandleNumber.HandleNumber}
use Rattle.std.specs.{
  Arc.arc_value,
  Prelude.{List, None, Option, Some, length, map, max, reverse, slice_get, ℕ, [], ◌*◌, ◌+◌, ◌<◌, ◌^◌, ◌∷◌, ◌≡◌, ◌≤◌},
  declared.cmp.{Ord.Ghosts as Orders, PartialEq.Ghosts as Equalities, PartialOrd.Ghosts as PartialOrders},
}

abbrev pub fault_of : PageOutError → Fault
fault_of (PageOutError.Failed e) = was_refused e
fault_of PageOutError.AlreadyFailed = was_failed

-- a walk that fails: its entry is put back if the path is empty
abbrev pub back_of : Option HandleNumber → List Todo → Option HandleNumber
back_of entry [] = entry
back_of entry (x ∷ below) = None

abbrev pub fails : Fault → Option HandleNumber → List Todo
fails fault back = to_fail fault back ∷ []

-- what waits for its references: a written node, or else the item
abbrev pub waits_as : Option ClaimedNode → Written → List ℕ → Todo
waits_as None written keys = to_item written keys
waits_as (Some n) written keys = to_finish (record {
  reference = n.reference;
  place = n.place;
  through = n.through;
  written = written;
  keys = keys;
  height = n.height;
})

-- a node with its height raised by a reference of this kind
abbrev pub raise_height : ℕ → ℕ → Option ClaimedNode → Option ClaimedNode
raise_height kind height None = None
raise_height kind height (Some n) = Some (record n { height = max n.height (above kind height) })

module _ {E EN EH EK EV : Type 0} {g : Environments E EN EH EK EV} {gh : Hashes EH} {go : Orders EK}
    {gq : Equalities EK} {gp : PartialOrders EK} {gn : Nodes EN E EN EH EK EV} where
  abbrev pub waiting_todo : WaitingValue E EN EH EK EV g gh go gq gp gn → Todo
  waiting_todo w = waits_as w.node (written_of (arc_value w.written)) (keys_of w.children.items)

  abbrev pub todo_of : Task E EN EH EK EV g gh go gq gp gn → Todo
  todo_of (Task.Start r place) = to_start r place
  todo_of (Task.Pin r place) = to_pin r place
  todo_of (Task.Load r place through reading) = to_load r place through (reading_of reading)
  todo_of (Task.Write r place through pin) = to_write r place through
  todo_of (Task.Finish w) = waiting_todo w
  todo_of (Task.SetKey d through) = to_set d.reference through d.found.key d.found.height
  todo_of (Task.Publish d) = to_publish d.reference d.found.key d.found.height
  todo_of (Task.Release d) = to_release d.reference d.found.key d.found.height
  todo_of (Task.Fail e back) = to_fail (fault_of e) back

  -- a task that needs nothing of the pager
  abbrev pub NeedsNoPager : Task E EN EH EK EV g gh go gq gp gn → Type 0
  NeedsNoPager (Task.Pin r place) = ⊥
  NeedsNoPager (Task.Load r place through reading) = ⊥
  NeedsNoPager (Task.Write r place through pin) = ⊥
  NeedsNoPager task = Unit {0}

  -- the nodes that wait on a path, the last first
  unfoldable pub todos : List (WaitingValue E EN EH EK EV g gh go gq gp gn) → List Todo
  todos ws = map waiting_todo (reverse ws)

-- The list waits for this reference: it is the next one of the first entry, a node for which the rest waits, or the
-- item at the end, and is at the place below that entry. An empty list waits for any at place 0.
unfoldable pub Awaits : List Todo → ArcRef → ℕ → Type 0
Awaits [] r place = place ≡ 0
Awaits (to_finish o ∷ below) r place =
    (slice_get o.written.references (length o.keys) ≡ Some r) × (place ≡ place_below o.place r.kind.0)
    × (o.place + o.height ≤ longest_path) × Awaits below o.reference o.place
Awaits (to_item written keys ∷ below) r place = (slice_get written.references (length keys) ≡ Some r)
    × (place ≡ place_below 0 r.kind.0) × (below ≡ [])
Awaits (_ ∷ below) r place = ⊥

-- The list waits for a reference, and its place and this height are at most the longest path.
abbrev pub AwaitsWithHeight : List Todo → ArcRef → ℕ → Type 0
AwaitsWithHeight below r height = (place : ℕ) × Awaits below r place × (place + height ≤ longest_path)

-- Each entry is what the list below it waits for, and what is to be finished has all references done.
abbrev pub EachIsAwaited : List Todo → Type 0
EachIsAwaited [] = Unit {0}
EachIsAwaited (to_start r place ∷ below) = Awaits below r place
EachIsAwaited (to_pin r place ∷ below) = Awaits below r place × (place ≤ longest_path)
EachIsAwaited (to_load r place through reading ∷ below) = Awaits below r place × (place ≤ longest_path)
EachIsAwaited (to_write r place through ∷ below) = Awaits below r place × (place ≤ longest_path)
EachIsAwaited (to_finish o ∷ below) = (length o.keys ≡ length o.written.references) × Awaits below o.reference o.place
    × (o.place + o.height ≤ longest_path)
EachIsAwaited (to_item written keys ∷ below) = (length keys ≡ length written.references) × (below ≡ [])
EachIsAwaited (to_set r through key height ∷ below) = AwaitsWithHeight below r height
EachIsAwaited (to_publish r key height ∷ below) = AwaitsWithHeight below r height
EachIsAwaited (to_release r key height ∷ below) = AwaitsWithHeight below r height
EachIsAwaited (to_fail fault back ∷ below) = below ≡ []

-- the reference is the next one of the waiting node, whose height with it fits
pub record TakesNext (node : Option ClaimedNode) (written : Written) (keys : List ℕ) (r : ArcRef)
    (height : ℕ) : Type 0 where
  pub next : slice_get written.references (length keys) ≡ Some r
  pub near : (n : ClaimedNode) → node ≡ Some n → n.place + max n.height (above r.kind.0 height) ≤ longest_path

abbrev pub IfKeyOf : WorkerAnswer → (ℕ → Type 0) → Type 0
IfKeyOf (WorkerAnswer.Key key) P = P key
IfKeyOf (WorkerAnswer.Failed e) P = Unit {0}
IfKeyOf WorkerAnswer.AlreadyFailed P = Unit {0}

-- The list ends with this item; or the walk fails.
abbrev pub EndsWithItem : Written → List Todo → Type 0
EndsWithItem w [] = ⊥
EndsWithItem w (to_fail fault back ∷ below) = Unit {0}
EndsWithItem w (to_item written keys ∷ below) = (written ≡ w) × (below ≡ [])
EndsWithItem w (to_start r place ∷ below) = EndsWithItem w below
EndsWithItem w (to_pin r place ∷ below) = EndsWithItem w below
EndsWithItem w (to_load r place through reading ∷ below) = EndsWithItem w below
EndsWithItem w (to_write r place through ∷ below) = EndsWithItem w below
EndsWithItem w (to_finish o ∷ below) = EndsWithItem w below
EndsWithItem w (to_set r through key height ∷ below) = EndsWithItem w below
EndsWithItem w (to_publish r key height ∷ below) = EndsWithItem w below
EndsWithItem w (to_release r key height ∷ below) = EndsWithItem w below

-- the first entry of the list gets the result of its next reference
pub record EntryGetsResult (r : ArcRef) (key height : ℕ) (old new : List Todo) : Type 0 where
  pub x : Todo
  pub rest : List Todo
  pub was : old ≡ x ∷ rest
  pub is : new ≡ give r key height (x ∷ rest)

-- ---- why a walk ends, whatever its steps find: each step up to the next claim leaves less to do

-- how much there is at most before a load has begun
abbrev pub most_work_left : ℕ
most_work_left = to_do [] + 11

abbrev pub rank : Todo → ℕ
rank (to_start r place) = 2
rank (to_pin r place) = most_work_left
rank (to_load r place through reading) = to_do reading.frames + 10
rank (to_write r place through) = 9
rank (to_finish o) = 6
rank (to_item written keys) = 6
rank (to_set r through key height) = 5
rank (to_publish r key height) = 4
rank (to_release r key height) = 3
rank (to_fail fault back) = 1

-- what there is to do up to the next claim
abbrev pub work_left : List Todo → ℕ
work_left [] = 0
work_left (x ∷ below) = rank x + 6 * length below

-- more than what there is to do up to the next claim over a path in memory
abbrev pub claim_weight : ℕ
claim_weight = most_work_left + 6 * 2 ^ 64 + 1

-- a claim leads to what is bounded, and any other step leaves less to do
abbrev pub Leads : List Todo → List Todo → Type 0
Leads (to_start r place ∷ below) after = work_left after ≤ most_work_left + 6 * length below
Leads todo after = work_left after < work_left todo

module _ {X XN XH XK XV : Type 0} {g : Environments X XN XH XK XV} {gh : Hashes XH} {go : Orders XK}
    {gq : Equalities XK} {gp : PartialOrders XK} {gn : Nodes XN X XN XH XK XV} where
  abbrev pub IfGoes : Turn X XN XH XK XV g gh go gq gp gn → Type 0 → Type 0
  IfGoes (Turn.Goes t) P = P
  IfGoes (Turn.Answers a) P = Unit {0}

  abbrev pub LowersWorkLeft : List Todo → Turn X XN XH XK XV g gh go gq gp gn → List Todo → Type 0
  LowersWorkLeft todo turn after = IfGoes turn (Leads todo after)

  -- if the answer is a key, P holds of it
  abbrev pub IfKey : Turn X XN XH XK XV g gh go gq gp gn → (ℕ → Type 0) → Type 0
  IfKey (Turn.Answers a) P = IfKeyOf a P
  IfKey (Turn.Goes t) P = Unit {0}

  -- The list still ends with the item; and a key that is answered is that of the item over its references' results.
  pub record KeepsItemOrGivesItsKey (todo : List Todo) (turn : Turn X XN XH XK XV g gh go gq gp gn)
      (after : List Todo) : Type 0 where
    pub stays : (w : Written) → EndsWithItem w todo → IfGoes turn (EndsWithItem w after)
    pub over : (w : Written) → EndsWithItem w todo → IfKey turn
        (λ key. ∥ IsKeyOverResults gh.digest (values_at gn g gh) w key ∥₁)

  -- each entry is what the list below it waits for, and less is left to do; after a claim, a bounded amount
  pub record LeavesLess (todo : List Todo) (turn : Turn X XN XH XK XV g gh go gq gp gn)
      (after : List Todo) : Type 0 where
    pub way : EachIsAwaited after
    pub leads : LowersWorkLeft todo turn after
