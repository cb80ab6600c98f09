-- A chain of moments with two levels. A value is a leaf (type 1, no bytes) or a parent (type 0), which is a loose
-- reference to a leaf. Both are inserted, an item that refers to the parent is paged out, the parent is evicted with
-- its child and loaded again, and the child's key is read.
use Rattle.pagable_pager_spec.specs.{
  Basics.{ArcRef, Blob, HandleNumber, LoadNumber, NodeNumber, OptionalDataKey, Tree, Types, if_there, is_in, updated},
  Calls.{is_named_by, moved, next_node, with_handle, with_key, with_mode, with_node},
  Cascade.{fallen, nobody},
  Events.{no_shelf, with_worker},
  Kinds.{identity_of, owner_value, owner_worker, pins},
  LoadCalls.{adopted, is_owned_in, with_load, with_pin, without_load},
  Loads.{gone_on, root_frame},
  Pager.{HoldsItsValues, IsIdle, IsMachineWhole, MachineState, StandsFor},
  Runs.{AreMoments, HoldsSettled, IsPremised, Moment, MomentsBringHeld},
  Theorem.Headline,
  Workers.{answer_after, first_todo, fresh, give, is_workers, is_workers_at, open_node, with_changed_slot},
  Workers.{with_outcome, with_slot, with_wait, without_worker},
  World.{Core, IsLawful, Reading, Seen, Shelf, Todo, Values, Walking, Work, Written, digest, no_result, of_cell},
  World.{of_item, of_key, published, to_finish, to_item, to_pin, to_publish, to_release, to_set, to_start, to_write},
  declared.calls.{Call.Call, Reply.Reply},
  declared.events.{Action.Action, Claim.Claim, Event.Event, EventReply.EventReply, LoadAnswer.LoadAnswer},
  declared.{events.{PinStep.PinStep, WorkerAnswer.WorkerAnswer}, handle_row.Owner.Owner, mode.Mode.Mode},
  declared.pinning.Beginning.Beginning,
}
use Rattle.pagable_theorems.specs.SmallWorlds.{empty, no_work, outer}
use Rattle.pagable_value_spec.specs.{Meaning.{none, reference}, Merkle.blob_of}
use Rattle.std.specs.{
  Prelude.{Bool, List, None, Ok, Option, Some, if◌then◌else◌, length, not, suc, zero, ℕ, [], ◌&&◌, ◌++◌, ◌+◌, ◌==◌},
  Prelude.{◌∷◌, ◌≡◌},
}
use Rattle.pagable_value_spec.specs.Shape as shapes

-- None is a leaf, and Some a parent with its reference
abbrev pub Sample : Type 0
Sample = Option ArcRef

abbrev pub sample_types : Types
sample_types = record {
  nodes = λ n. if n == 0 then Some (shapes.reference 4) else Some shapes.nothing;
  parts = λ n. shapes.nothing;
}

-- the hash is the number of bytes, which is different for the three blobs
abbrev pub sample : Values Sample
sample = record {
  node_type = if_there (λ r. 0) 1;
  references = if_there (λ r. r ∷ []) [];
  means = λ x own. own ≡ if_there reference none x;
  beside = λ x r y. Unit {0};
  read_causes = λ t e. ⊥;
  write_causes = λ t e. ⊥;
  types = sample_types;
  hash = λ bytes. length bytes ∷ [];
}

abbrev pub sample_seen : Seen Sample Blob Written
sample_seen = record { values = sample; blob_of = λ b. b; written_of = λ w. w }

abbrev pub load_number : ℕ → LoadNumber
load_number n = record { 0 = n }

abbrev pub handle : ℕ → HandleNumber
handle n = record { 0 = n }

abbrev pub node : ℕ → NodeNumber
node n = record { 0 = n }

-- a reference to a leaf at this node by this handle
abbrev pub to_leaf : ℕ → ℕ → ArcRef
to_leaf n h = record { kind = record { 0 = 4 }; node = node n; handle = handle h }

-- what is written of a value; below: of the item, which refers to the parent. The blobs have the keys 8, 24 and 25.
abbrev pub sample_written : Sample → Written
sample_written x = record { bytes = []; references = sample.references x }

abbrev pub item : Written
item = record { bytes = 0 ∷ []; references = record { kind = record { 0 = 1 }; node = node 2; handle = handle 2 } ∷ [] }

abbrev pub born : Core → Sample → Core
born w x = with_handle (with_node w (sample.node_type x) OptionalDataKey.None (sample.references x))
    (next_node w) Mode.LoosePinned Owner.Caller

abbrev pub new_core : Core
new_core = empty (λ key. None) (record { handles = 9; entries = 0 })

abbrev pub child_born : Core
child_born = born new_core None

abbrev pub both_born : Core
both_born = born child_born (Some (to_leaf 1 1))

-- the value at a node, from a list that begins at the node 0; below: all values at first, and after the load of the
-- parent
abbrev pub value_at : List (Option Sample) → ℕ → Option Sample
value_at [] n = None
value_at (x ∷ xs) zero = x
value_at (x ∷ xs) (suc n) = value_at xs n

abbrev pub two_values : List (Option Sample)
two_values = None ∷ Some None ∷ Some (Some (to_leaf 1 1)) ∷ []

abbrev pub last_values : List (Option Sample)
last_values = None ∷ None ∷ Some (Some (to_leaf 3 8)) ∷ []

-- ---- the page-out: each step of the worker 1

-- the pager, the table and the worker: its list, its steps and its result
pub record Working : Type 0 where
  pub core : Core
  pub shelf : Shelf
  pub todo : List Todo
  pub steps : ℕ
  pub answer : Option WorkerAnswer

abbrev pub begun : Working
begun = record {
  core = with_worker both_born;
  shelf = no_shelf;
  todo = first_todo (of_item item);
  steps = 0;
  answer = None;
}

-- the worker's clone of a loose handle
abbrev pub cloned : Core → NodeNumber → Core
cloned w n = with_handle w n Mode.LoosePinned (owner_worker 1)

abbrev pub with_blob : Core → Blob → Core
with_blob w blob = record w { stored = λ q. if q == digest sample blob then Some blob else w.stored q }

-- the value of a node, or a leaf if it has none
abbrev pub value_of : NodeNumber → Sample
value_of n = if_there (λ x. x) None (value_at two_values n.0)

-- the action of a step; and pager, table and list after it
abbrev pub next_step : Core → Shelf → List Todo → Action Written × Core × Shelf × List Todo
next_step w s (to_start r place ∷ below) =
    let claimed = with_slot (with_wait s 1 None) (identity_of r)
    (Some (record { worker = 1; references = None; outcome = no_result })) in
    (Action.Claim (identity_of r) (Ok Claim.Claimed), w, claimed, to_pin r place ∷ below)
next_step w s (to_pin r place ∷ below) =
    let through = handle (w.last.handle + 1) in let pinned =
    with_handle (with_mode (cloned w r.node) through Mode.LoosePinned) r.node Mode.Pinned (owner_worker 1) in (
      Action.Pin (identity_of r) (Ok (PinStep.Pinned (handle (w.last.handle + 1 + 1)))),
      pinned,
      s,
      to_write r place through ∷ below,
    )
next_step w s (to_write r place through ∷ below) =
    let written = sample_written (value_of r.node) in (
      Action.Write (identity_of r) (Ok written),
      w,
      with_changed_slot s (identity_of r)
          (λ slot. record slot { references = Some written.references }),
      open_node r place through written below,
    )
next_step w s (to_finish o ∷ below) =
    let blob = blob_of o.written.bytes o.keys in let key = digest sample blob in (
      Action.Store (Some (identity_of o.reference)) (Ok key),
      with_blob w blob,
      s,
      to_set o.reference o.through key o.height ∷ below,
    )
next_step w s (to_set r through key height ∷ below) = (
  Action.SetKey (identity_of r) (Ok tt),
  fallen (with_key w r.node key) nobody [],
  s,
  to_publish r key height ∷ below,
)
next_step w s (to_publish r key height ∷ below) = (
  Action.Publish (identity_of r) key height,
  w,
  with_changed_slot s (identity_of r)
      (with_outcome (published key height)),
  to_release r key height ∷ below,
)
next_step w s (to_release r key height ∷ below) = (
  Action.Release (identity_of r),
  fallen w (is_workers_at w 1 r.node.0) [],
  s,
  give r key height below,
)
next_step w s (to_item written keys ∷ below) = let blob =
    blob_of written.bytes keys in (Action.Store None (Ok (digest sample blob)), with_blob w blob, s, [])
next_step w s todo = (Action.Fail, w, s, [])

-- a worker ends with its result
abbrev pub ended : Option WorkerAnswer → Core → Core
ended answer w = if_there (λ (a : WorkerAnswer). fallen (without_worker w 1) (is_workers w 1) []) w answer

abbrev pub next : Working → Working
next x =
    let (action, core, shelf, todo) = next_step x.core x.shelf x.todo in let answer = answer_after x.todo action in
    record { core = ended answer core; shelf = shelf; todo = todo; steps = x.steps + 1; answer = answer }

-- n steps later
unfoldable pub walked : ℕ → Working → Working
walked zero x = x
walked (suc n) x = walked n (next x)

abbrev pub answered : Working
answered = walked 15 begun

-- ---- the eviction and the loads

-- the caller unpins the parent, whose value is dropped with the child
abbrev pub evicted : Core
evicted = fallen (with_mode answered.core (handle 2) Mode.LooseUnpinned) outer []

-- the caller's load of the parent owns a handle of the parent, and gets a handle of a new cell for the child
abbrev pub loading : Core
loading = with_load (with_handle evicted (node 2) Mode.LooseUnpinned (Owner.Load (load_number 1))) 24
    (of_cell (node 2) 0 (handle 2)) Owner.Caller

abbrev pub child_got : Core
child_got = adopted loading (load_number 1) (record { 0 = 4 }) 8 (OptionalDataKey.Some 8) []

-- what the load with this number owns and doesn't hand over
abbrev pub left_over : Core → ℕ → (ℕ → Bool) → ℕ → Bool
left_over w l handed q = is_owned_in w (Owner.Load (load_number l)) q && not (handed q)

-- the load ends with a pin by the caller's handle; the value gets its reference, and the load's own handle is released
abbrev pub loaded : Core
loaded =
    let w = child_got in let named = is_named_by (to_leaf 3 8 ∷ []) in
    fallen (with_pin (record (without_load w (load_number 1)) { rows = moved named (owner_value 2) w.rows }) (handle 2)
    (node 2) Owner.Caller) (left_over w 1 named) []

-- the caller's load of the child's key, which hands over no handle
abbrev pub key_loading : Core
key_loading = with_load loaded 8 of_key Owner.Caller

abbrev pub handed : Core → Core
handed w = record (without_load w (load_number 2)) { rows = moved (is_in []) Owner.Caller w.rows }

abbrev pub read_back : Core
read_back = let w = key_loading in fallen (handed w) (left_over w 2 (is_in [])) []

abbrev pub parent_fetched : Reading
parent_fetched = gone_on (fresh (load_number 1) 0) (root_frame 24 0 (blob_of [] (8 ∷ [])) ∷ [])

abbrev pub parent_read : Reading
parent_read = gone_on parent_fetched (record (root_frame 24 0 (blob_of [] (8 ∷ []))) { got = to_leaf 3 8 ∷ [] } ∷ [])

abbrev pub child_fetched : Reading
child_fetched = gone_on (fresh (load_number 2) 1) (root_frame 8 1 (blob_of [] []) ∷ [])

-- the machine's readings; below: its one table, its one worker and its reading, if they exist
abbrev pub reads : Option Reading → ℕ → Option Reading
reads reading l = if_there (λ (r : Reading). updated r.load.0 (Some r) (λ q. None) l) None reading

abbrev pub work_of : Shelf → Option Walking → Option Reading → Work
work_of shelf walking reading = record {
  shelves = updated 1 shelf (λ t. no_shelf);
  last_table = 1;
  readings = reads reading;
  walkings = updated 1 walking (λ v. None);
}

abbrev pub machine : Core → List (Option Sample) → Work → MachineState Sample (Unit {0})
machine core values work = record {
  pager = record {
    core = core;
    counts = λ n. pins n core.rows;
    values = value_at values;
    environment = tt;
  };
  work = work;
}

abbrev pub new_one : MachineState Sample (Unit {0})
new_one = machine new_core [] no_work

abbrev pub walking : Working → Walking
walking x = record { table = 1; task = of_item item; todo = x.todo; steps = x.steps; answer = x.answer }

abbrev pub at_work : Working → MachineState Sample (Unit {0})
at_work x = machine x.core two_values (work_of x.shelf (Some (walking x)) None)

abbrev pub Happening : Type 0
Happening = Moment Sample (Unit {0}) Blob Written

abbrev pub moment : Event Sample Blob Written → EventReply Sample Blob Written → MachineState Sample (Unit {0})
    → Happening
moment event reply after = record { event = event; reply = reply; after = after }

abbrev pub births : List Happening
births = moment Event.TableNew (EventReply.TableMade (Ok (record { 0 = 1 })))
    (machine new_core [] (work_of no_shelf None None))
    ∷ moment (Event.Call (Call.NewLoose None)) (EventReply.CallReply (Reply.Made (Ok (handle 1))))
    (machine child_born (None ∷ Some None ∷ []) (work_of no_shelf None None))
    ∷ moment (Event.Call (Call.NewLoose (Some (to_leaf 1 1)))) (EventReply.CallReply (Reply.Made (Ok (handle 2))))
    (machine both_born two_values (work_of no_shelf None None))
    ∷ moment (Event.WorkerItem (record { 0 = 1 }) item) (EventReply.WorkerMade (Ok (record { 0 = 1 }))) (at_work begun)
    ∷ []

-- n steps of the worker
unfoldable pub page_out : ℕ → Working → List Happening
page_out zero x = []
page_out (suc n) x =
    let y = next x in
    moment (Event.WorkerStep (record { 0 = 1 }))
    (EventReply.WorkerMoved (Ok (record {
      action = (next_step x.core x.shelf x.todo).0;
      answer = y.answer;
      steps = y.steps;
    }))) (at_work y) ∷ page_out n y

-- the machine after the worker has ended; below: a load's step
abbrev pub afterwards : Core → List (Option Sample) → Option Reading → MachineState Sample (Unit {0})
afterwards core values reading = machine core values (work_of answered.shelf (Some (walking answered)) reading)

abbrev pub read_step : ℕ → Option (LoadAnswer Sample) → ℕ → MachineState Sample (Unit {0}) → Happening
read_step l ended steps after = moment (Event.LoadStep (load_number l))
    (EventReply.LoadMoved (Ok (record { ended = ended; steps = steps }))) after

-- the eviction, the load of the parent and the load of the child's key
abbrev pub loads : List Happening
loads = moment (Event.Call (Call.Unpin (handle 2))) (EventReply.CallReply (Reply.Done (Ok tt)))
    (afterwards evicted [] None)
    ∷ moment (Event.LoadStart (handle 2)) (EventReply.Started (Ok (Beginning.Load (load_number 1) 24)))
    (afterwards loading [] None)
    ∷ read_step 1 None 1 (afterwards loading [] (Some parent_fetched))
    ∷ read_step 1 None 2 (afterwards child_got [] (Some parent_read))
    ∷ read_step 1 (Some (LoadAnswer.Pinned (handle 9))) 3 (afterwards loaded last_values None)
    ∷ moment (Event.LoadKey 8 1) (EventReply.Started (Ok (Beginning.Load (load_number 2) 8)))
    (afterwards key_loading last_values (Some (fresh (load_number 2) 1)))
    ∷ read_step 2 None 1 (afterwards key_loading last_values (Some child_fetched))
    ∷ read_step 2 (Some (LoadAnswer.Read None)) 2 (afterwards read_back last_values None)
    ∷ []

-- at the end: a count of the pins of the parent
abbrev pub counts : ℕ → List Happening
counts n = moment (Event.Call (Call.Count (handle 2))) (EventReply.CallReply (Reply.Count (Ok n)))
    (afterwards read_back last_values None) ∷ []

abbrev pub moments : ℕ → List Happening
moments n = births ++ (page_out 15 begun ++ (loads ++ counts n))

-- ---- the headline is satisfied, with all that it asks

-- what is asked of each moment, for any trees
abbrev pub ArePremised : MachineState Sample (Unit {0}) → List Happening → Type 0
ArePremised s [] = Unit {0}
ArePremised s (x ∷ xs) = ((trees : ℕ → Tree) → IsPremised sample s trees x.event x.reply x.after)
    × ArePremised x.after xs

-- The headline holds of the chain, and all that it asks of values, of the chain's beginning (a new machine, for any
-- trees) and of its moments is met. With any other count at its end it would be no chain.
pub record TwoLevelsMeetTheHeadline : Type 0 where
  pub lawful : IsLawful sample
  pub whole : IsMachineWhole sample new_one
  pub idle : IsIdle new_one
  pub stands : (trees : ℕ → Tree) → StandsFor sample new_one trees
  pub settled : HoldsSettled sample new_one.pager
  pub premised : ArePremised new_one (moments 2)
  pub brings : MomentsBringHeld sample new_one (moments 2)
  pub holds : HoldsItsValues sample new_one.pager
  pub headline : Headline sample_seen new_one (moments 2)
  pub no_other : (n : ℕ) → AreMoments sample_seen new_one (moments n) → n ≡ 2
