-- A page-out worker's steps. A worker has a list of what it has to do. Each step does what is at the front of the list,
-- and is specified by its effect on the pager, on the table and on the list.
use Rattle.pagable_pager_spec.specs.{
  Basics.{Action, ArcRef, Beginning, Claim, Error, HandleNumber, HandleRow, Identity, LoadAnswer, LoadNumber, Owner},
  Basics.{PinStep, Pinning, WorkerAnswer, above, if_there, is_eager, is_loose_kind, longest_path, type_of, updated},
  Calls.{CloneCall, PinCall, ScheduleCall, SetKeyCall, StoreCall},
  Cascade.FallsAnyhow,
  Kinds.{find_row, identity_of, is_at, is_loose, is_owned_by, is_owner, owner_worker},
  LoadCalls.BeginCall,
  Loads.{ReadingDoes, gone_on},
  Refusals.row_fault,
  World.{Alike, Core, Fault, Frame, OpenLoad, Outcome, Reading, SameShelf, Seen, Shelf, Slot, Task, Todo, Values},
  World.{Written, answer_of_fault, digest, failed, is_identity, no_result, of_entry, of_item, published, result_map},
  World.{row_at, to_fail, to_finish, to_item, to_load, to_pin, to_publish, to_release, to_set, to_start, to_write},
  World.{was_failed, was_refused},
}
use Rattle.pagable_value_spec.specs.Merkle.{blob_of}
use Rattle.std.specs.{
  Prelude.{Bool, Err, IfErr, IfOk, List, None, Ok, Option, Result, Some, drop, false, if◌then◌else◌, length, max},
  Prelude.{nat_eq, true, ℕ, [], ◌&&◌, ◌++◌, ◌+◌, ◌<◌, ◌||◌, ◌∷◌, ◌≡◌, ◌≤◌, ◌⊎◌},
}

-- the depth of a child on the path: one more than its parent's, or 0 for a loose reference, which begins a new path
abbrev pub place_below : ℕ → ℕ → ℕ
place_below place kind = if is_eager kind then place + 1 else 0

-- the first of the references that are left is to be claimed
abbrev pub next_start : ℕ → List ArcRef → List Todo
next_start place [] = []
next_start place (r ∷ rs) = to_start r (place_below place r.kind.0) ∷ []

-- the claim of the next reference of the list's front, if one is left, is put before it
abbrev pub advance : List Todo → List Todo
advance (to_finish o ∷ below) = next_start o.place (drop (length o.keys) o.written.references) ++ to_finish o ∷ below
advance (to_item written keys ∷ below) = next_start 0 (drop (length keys) written.references) ++ to_item written keys
    ∷ below
advance todo = todo

-- key and height of a reference are given to its parent, which waits for them at the front
abbrev pub give : ArcRef → ℕ → ℕ → List Todo → List Todo
give r key height (to_finish o ∷ below) = advance (to_finish
    (record o { keys = o.keys ++ key ∷ []; height = max o.height (above r.kind.0 height) }) ∷ below)
give r key height (to_item written keys ∷ below) = advance (to_item written (keys ++ key ∷ []) ∷ below)
give r key height todo = todo

-- the same for a reference that was paged out already; for a listed cell no parent waits, and its handle is to be
-- released
abbrev pub give_known : ArcRef → ℕ → ℕ → List Todo → List Todo
give_known r key height [] = to_release r key height ∷ []
give_known r key height (x ∷ below) = give r key height (x ∷ below)

-- the references of a written node are to be walked
abbrev pub open_node : ArcRef → ℕ → HandleNumber → Written → List Todo → List Todo
open_node r place through written below = advance (to_finish
    (record { reference = r; place = place; through = through; written = written; keys = []; height = 0 }) ∷ below)

-- what a worker has to do at first
abbrev pub first_todo : Task → List Todo
first_todo (of_item written) = advance (to_item written [] ∷ [])
first_todo (of_entry h i) = to_start (record { kind = i.kind; node = i.node; handle = h }) 0 ∷ []

-- the list entry of a worker that hasn't pinned its cell yet; the entry is listed again if the walk fails
abbrev pub entry_left : List Todo → Option HandleNumber
entry_left (to_start r place ∷ []) = Some r.handle
entry_left (to_pin r place ∷ []) = Some r.handle
entry_left (to_load r place through reading ∷ []) = Some r.handle
entry_left todo = None

-- the walk fails: all else that it had to do is forgotten
abbrev pub failing : Fault → List Todo → List Todo
failing fault todo = to_fail fault (entry_left todo) ∷ []

abbrev pub failing_by : Error → List Todo → List Todo
failing_by e todo = failing (was_refused e) todo

-- where a worker works: the pager's state, the worker's table, and what it has to do
pub record WorkerState : Type 0 where
  pub core : Core
  pub shelf : Shelf
  pub todo : List Todo

abbrev pub with_slot : Shelf → Identity → Option Slot → Shelf
with_slot shelf i slot = record shelf { slots = λ j. if is_identity i j then slot else shelf.slots j }

abbrev pub with_wait : Shelf → ℕ → Option Identity → Shelf
with_wait shelf v i = record shelf { waits = updated v i shelf.waits }

-- a step that leaves the pager alone: the table and the list afterwards
pub record Turns (s : WorkerState) (shelf : Shelf) (todo : List Todo) (s' : WorkerState) : Type 0 where
  pub pager_stays : Alike s.core s'.core
  pub table_is : SameShelf shelf s'.shelf
  pub list_is : s'.todo ≡ todo

-- a step that leaves the table alone and may change the pager: the list afterwards
pub record GoesTo (s : WorkerState) (todo : List Todo) (s' : WorkerState) : Type 0 where
  pub table_stays : SameShelf s.shelf s'.shelf
  pub list_is : s'.todo ≡ todo

-- why a reference can't be claimed, checked before its depth and slot; its handle may have any owner
abbrev pub claim_fault : Core → ArcRef → Option Error
claim_fault w r = if_there (row_fault w r None) (Some Error.NoSuchHandle) (row_at w r.handle)

-- the identity is claimed, `slot` is its slot, and it has no result yet
pub record IsOpenSlot (s : Shelf) (i : Identity) (slot : Slot) : Type 0 where
  pub claimed : s.slots i ≡ Some slot
  pub no_result_yet : slot.outcome ≡ no_result

-- whether there is no result yet
abbrev pub is_open_outcome : Outcome → Bool
is_open_outcome no_result = true
is_open_outcome _ = false

abbrev pub is_open_slot : Option Slot → Bool
is_open_slot slot = if_there (λ (s : Slot). is_open_outcome s.outcome) false slot

-- the worker u is v, or waits for v, directly or through others
pub data ComesBack (s : Shelf) (v : ℕ) : ℕ → Type 0 where
  is-asker : (u : ℕ) → u ≡ v → ComesBack s v u
  waits-back : (u : ℕ) (i : Identity) (slot : Slot) → s.waits u ≡ Some i → IsOpenSlot s i slot
      → ComesBack s v slot.worker → ComesBack s v u

-- the worker u, or one for which it waits, directly or through others, works or may go on; and none of them is v
pub data ComesToEnd (s : Shelf) (v : ℕ) : ℕ → Type 0 where
  works : (u : ℕ) → nat_eq u v ≡ false → s.waits u ≡ None → ComesToEnd s v u
  may-go-on : (u : ℕ) (i : Identity) → nat_eq u v ≡ false → s.waits u ≡ Some i → is_open_slot (s.slots i) ≡ false
      → ComesToEnd s v u
  waits-on : (u : ℕ) (i : Identity) (slot : Slot) → nat_eq u v ≡ false → s.waits u ≡ Some i → IsOpenSlot s i slot
      → ComesToEnd s v slot.worker → ComesToEnd s v u

-- the table has this key and height for the identity
pub record IsPublished (s : Shelf) (i : Identity) (key height : ℕ) : Type 0 where
  pub slot : Slot
  pub claimed : s.slots i ≡ Some slot
  pub known : slot.outcome ≡ published key height

-- A claim is too deep: at its own depth; with the published height added; or since the identity's worker is this one,
-- or waits for it, directly or through others.
abbrev pub IsTooDeep : Shelf → ℕ → Identity → ℕ → Type 0
IsTooDeep s v i place = (longest_path < place) ⊎ ((key height : ℕ) × IsPublished s i key height
    × (longest_path < place + height)) ⊎ ((slot : Slot) × IsOpenSlot s i slot × ComesBack s v slot.worker)

-- What a claim finds, and what is to be done then. A claim that needn't wait ends the note that the worker waits.
abbrev pub Finds : ℕ → WorkerState → ArcRef → ℕ → List Todo → Claim → WorkerState → Type 0
Finds v s r place below Claim.Claimed s' = (place ≤ longest_path)
    × (s.shelf.slots (identity_of r) ≡ None)
    × Turns s (with_slot (with_wait s.shelf v None) (identity_of r)
    (Some (record { worker = v; references = None; outcome = no_result }))) (to_pin r place ∷ below) s'
Finds v s r place below (Claim.Known key height) s' =
    (place + height ≤ longest_path) × IsPublished s.shelf (identity_of r) key height
    × Turns s (with_wait s.shelf v None) (give_known r key height below) s'
Finds v s r place below Claim.Waiting s' =
    (place ≤ longest_path) × ((slot : Slot) × IsOpenSlot s.shelf (identity_of r) slot
    × ComesToEnd s.shelf v slot.worker) × Turns s (with_wait s.shelf v (Some (identity_of r))) s.todo s'
Finds v s r place below Claim.AlreadyFailed s' = (place ≤ longest_path)
    × ((slot : Slot) × (s.shelf.slots (identity_of r) ≡ Some slot) × (slot.outcome ≡ failed))
    × Turns s (with_wait s.shelf v None) (failing was_failed s.todo) s'

pub record ClaimStep (v : ℕ) (s : WorkerState) (r : ArcRef) (place : ℕ) (below : List Todo)
    (result : Result Claim Error)
    (s' : WorkerState) : Type 0 where
  pub finds : IfOk result (λ c. (claim_fault s.core r ≡ None) × Finds v s r place below c s')
  pub refused : IfErr result (λ e. ((claim_fault s.core r ≡ Some e)
      ⊎ ((claim_fault s.core r ≡ None) × (e ≡ Error.TooDeep) × IsTooDeep s.shelf v (identity_of r) place)
      ⊎ (e ≡ Error.NumbersSpent) ⊎ (e ≡ Error.OutOfMemory))
      × Turns s (with_wait s.shelf v None) (failing_by e s.todo) s')

pub record RowIs (w : Core) (h : HandleNumber) (loose : Bool) : Type 0 where
  pub row : HandleRow
  pub live : row_at w h ≡ Some row
  pub sort : is_loose row.mode ≡ loose

-- The reference's handle is cloned. A clone of a Pinned or Shared handle pins; a clone of a loose one is pinned.
abbrev pub PinsAtOnce : Core → Owner → ArcRef → HandleNumber → HandleNumber → Core → Type 0
PinsAtOnce w me r through k w' = (RowIs w r.handle false × (through ≡ k) × CloneCall w me r.handle (Ok k) w')
    ⊎ (RowIs w r.handle true × ((mid : Core) × CloneCall w me r.handle (Ok through) mid
    × PinCall mid me through (Ok (Pinning.Pinned k)) w'))

-- the value isn't in memory: a load begins by the clone
abbrev pub PinsByLoad : Core → Owner → ArcRef → HandleNumber → LoadNumber → Core → Type 0
PinsByLoad w me r through l w' = RowIs w r.handle true
    × ((mid : Core) × (key : ℕ) × CloneCall w me r.handle (Ok through) mid
    × BeginCall mid me through (Ok (Beginning.Load l key)) w')

-- the clone fails; or the pin by a loose clone, or the begin of its load
abbrev pub PinRefused : Core → Owner → ArcRef → Error → Core → Type 0
PinRefused w me r e w' = CloneCall w me r.handle (Err e) w'
    ⊎ (RowIs w r.handle true × ((mid : Core) × (through : HandleNumber) × CloneCall w me r.handle (Ok through) mid
    × (PinCall mid me through (Err e) w' ⊎ BeginCall mid me through (Err e) w')))

-- the reading of a load that has just begun
abbrev pub fresh : LoadNumber → ℕ → Reading
fresh l t = record { load = l; node_type = t; frames = []; steps = 0 }

abbrev pub PinsFirst : ℕ → WorkerState → ArcRef → ℕ → List Todo → PinStep → WorkerState → Type 0
PinsFirst v s r place below (PinStep.Pinned k) s' = (through : HandleNumber)
    × PinsAtOnce s.core (owner_worker v) r through k s'.core × GoesTo s (to_write r place through ∷ below) s'
PinsFirst v s r place below (PinStep.LoadBegun l) s' =
    (through : HandleNumber) × PinsByLoad s.core (owner_worker v) r through l s'.core
    × GoesTo s (to_load r place through (fresh l (type_of r.kind.0)) ∷ below) s'
PinsFirst v s r place below PinStep.LoadStepMade s' = ⊥

-- the claimed node is pinned, or a load of it begins
pub record PinsClaimed (v : ℕ) (s : WorkerState) (r : ArcRef) (place : ℕ) (below : List Todo)
    (result : Result PinStep Error)
    (s' : WorkerState) : Type 0 where
  pub pins : IfOk result (λ p. PinsFirst v s r place below p s')
  pub refused : IfErr result (λ e. PinRefused s.core (owner_worker v) r e s'.core × GoesTo s (failing_by e s.todo) s')

abbrev pub LoadsOn : {N : Type 0} → Values N → ℕ → WorkerState → ArcRef → ℕ → HandleNumber → Reading → List Todo
    → PinStep
    → WorkerState → Type 0
LoadsOn m v s r place through reading below (PinStep.Pinned k) s' =
    ReadingDoes m s.core (owner_worker v) reading (Some (LoadAnswer.Pinned k)) [] s'.core
    × GoesTo s (to_write r place through ∷ below) s'
LoadsOn m v s r place through reading below (PinStep.LoadBegun l) s' = ⊥
LoadsOn m v s r place through reading below PinStep.LoadStepMade s' =
    (frames : List Frame) × ReadingDoes m s.core (owner_worker v) reading None frames s'.core
    × GoesTo s (to_load r place through (gone_on reading frames) ∷ below) s'

-- the worker's load makes a step, which may end it with the pin
pub record PinsLoaded {N : Type 0} (m : Values N) (v : ℕ) (s : WorkerState) (r : ArcRef) (place : ℕ)
    (through : HandleNumber)
    (reading : Reading) (below : List Todo) (result : Result PinStep Error) (s' : WorkerState) : Type 0 where
  pub goes : IfOk result (λ p. LoadsOn m v s r place through reading below p s')
  pub refused : IfErr result (λ e. ReadingDoes m s.core (owner_worker v) reading (Some (LoadAnswer.Refused e))
      [] s'.core × GoesTo s (failing_by e s.todo) s')

-- the slot of the identity with f applied, if it is claimed
abbrev pub with_changed_slot : Shelf → Identity → (Slot → Slot) → Shelf
with_changed_slot shelf i f = with_slot shelf i (if_there (λ slot. Some (f slot)) None (shelf.slots i))

-- the value is written, and its references are noted in the slot
pub record Writes {N : Type 0} (m : Values N) (s : WorkerState) (r : ArcRef) (place : ℕ) (through : HandleNumber)
    (below : List Todo) (result : Result Written Error) (s' : WorkerState) : Type 0 where
  pub writes : IfOk result (λ written. Turns s (with_changed_slot s.shelf (identity_of r)
      (λ slot. record slot { references = Some written.references })) (open_node r place through written below) s')
  pub refused : IfErr result (λ e. (m.write_causes (type_of r.kind.0) e ⊎ (e ≡ Error.OutOfMemory))
      × Turns s s.shelf (failing_by e s.todo) s')

-- the blob is stored: what was written, with the keys of its references, which are all known
pub record StoresBlob {N : Type 0} (m : Values N) (s : WorkerState) (written : Written) (keys : List ℕ)
    (next : ℕ → List Todo)
    (result : Result ℕ Error) (s' : WorkerState) : Type 0 where
  pub all : length keys ≡ length written.references
  pub stored : StoreCall (digest m) s.core (blob_of written.bytes keys) result s'.core
  pub goes : IfOk result (λ key. GoesTo s (next key) s')
  pub refused : IfErr result (λ e. GoesTo s (failing_by e s.todo) s')

-- If the reference's kind is loose, its cell gets the key, by the worker's handle. For any other kind no key is set,
-- even if the reference's handle is gone by now.
pub record KeySetFor (w : Core) (me : Owner) (r : ArcRef) (through : HandleNumber) (key : ℕ)
    (result : Result (Unit {0}) Error) (w' : Core) : Type 0 where
  pub does : ((is_loose_kind r.kind.0 ≡ true) × SetKeyCall w me through key result w')
      ⊎ ((is_loose_kind r.kind.0 ≡ false) × (result ≡ Ok tt) × Alike w w')

-- the key of the stored blob is set, if the reference's kind is loose
pub record SetsKey (v : ℕ) (s : WorkerState) (r : ArcRef) (through : HandleNumber) (key height : ℕ) (below : List Todo)
    (result : Result (Unit {0}) Error) (s' : WorkerState) : Type 0 where
  pub sets : KeySetFor s.core (owner_worker v) r through key result s'.core
  pub goes : IfOk result (λ u. GoesTo s (to_publish r key height ∷ below) s')
  pub refused : IfErr result (λ e. GoesTo s (failing_by e s.todo) s')

-- the slot with this outcome, unless it has a result already
abbrev pub with_outcome : Outcome → Slot → Slot
with_outcome outcome slot = if is_open_outcome slot.outcome then record slot { outcome = outcome } else slot

abbrev pub is_workers_at : Core → ℕ → ℕ → ℕ → Bool
is_workers_at w v n q = if_there (λ row. is_owned_by (owner_worker v) row && is_at n row) false (find_row q w.rows)

abbrev pub is_workers_load : ℕ → Option OpenLoad → Bool
is_workers_load v load = if_there (λ (l : OpenLoad). is_owner (owner_worker v) l.owner) false load

abbrev pub is_load_of : Core → ℕ → Owner → Bool
is_load_of w v (Owner.Load l) = is_workers_load v (w.loads l.0)
is_load_of w v owner = false

-- whether the worker or one of its loads owns the handle
abbrev pub is_workers : Core → ℕ → ℕ → Bool
is_workers w v q = if_there (λ (row : HandleRow). is_owner (owner_worker v) row.owner || is_load_of w v row.owner) false
    (find_row q w.rows)

-- the worker isn't at work any more, and its loads are closed
abbrev pub without_worker : Core → ℕ → Core
without_worker w v = record w {
  workers = updated v false w.workers;
  loads = λ l. if is_workers_load v (w.loads l) then None else w.loads l;
}

-- the worker has its result: what it still owns is released
abbrev pub WorkerEnds : Core → ℕ → Core → Type 0
WorkerEnds w v w' = FallsAnyhow w (without_worker w v) (is_workers w v) w'

-- the worker's claims that have no result become failed
abbrev pub with_failed : Shelf → ℕ → Shelf
with_failed shelf v = record shelf {
  slots = λ i. if_there
      (λ (slot : Slot). Some (if nat_eq slot.worker v then with_outcome failed slot else slot)) None (shelf.slots i);
}

-- an entry that the worker never pinned is scheduled again; whether that succeeds doesn't matter
abbrev pub GivesBack : Core → ℕ → Option HandleNumber → Core → Type 0
GivesBack w v None w' = Alike w w'
GivesBack w v (Some h) w' = (r : Result (Unit {0}) Error) × ScheduleCall w (owner_worker v) h r w'

-- the front of the list is done; `below` is the rest of the list
abbrev pub WorkDoes : {N B W : Type 0} → Seen N B W → ℕ → WorkerState → List Todo → Action W → WorkerState → Type 0
WorkDoes m v s (to_start r place ∷ below) (Action.Claim i c) s' = (i ≡ identity_of r) × ClaimStep v s r place below c s'
WorkDoes m v s (to_pin r place ∷ below) (Action.Pin i p) s' = (i ≡ identity_of r) × PinsClaimed v s r place below p s'
WorkDoes m v s (to_load r place through reading ∷ below) (Action.Pin i p) s' =
    (i ≡ identity_of r) × PinsLoaded m.values v s r place through reading below p s'
WorkDoes m v s (to_write r place through ∷ below) (Action.Write i out) s' =
    (i ≡ identity_of r) × Writes m.values s r place through below (result_map m.written_of out) s'
WorkDoes m v s (to_finish o ∷ below) (Action.Store i key) s' =
    (i ≡ Some (identity_of o.reference)) × StoresBlob m.values s o.written o.keys
    (λ k. to_set o.reference o.through k o.height ∷ below) key s'
WorkDoes m v s (to_item written keys ∷ below) (Action.Store i key) s' =
    (i ≡ None) × StoresBlob m.values s written keys (λ k. []) key s'
WorkDoes m v s (to_set r through key height ∷ below) (Action.SetKey i u) s' =
    (i ≡ identity_of r) × SetsKey v s r through key height below u s'
WorkDoes m v s (to_publish r key height ∷ below) (Action.Publish i k h) s' =
    (i ≡ identity_of r) × (k ≡ key) × (h ≡ height) × Turns s
    (with_changed_slot s.shelf (identity_of r) (with_outcome (published key height)))
    (to_release r key height ∷ below) s'
WorkDoes m v s (to_release r key height ∷ below) (Action.Release i) s' =
    (i ≡ identity_of r) × FallsAnyhow s.core s.core (is_workers_at s.core v r.node.0) s'.core
    × GoesTo s (give r key height below) s'
WorkDoes m v s (to_fail fault back ∷ below) Action.Fail s' =
    GivesBack s.core v back s'.core × SameShelf (with_failed s.shelf v) s'.shelf × (s'.todo ≡ [])
WorkDoes m v s todo step s' = ⊥

-- One step of the worker v, on the pager, the worker's table and its list. It changes nothing else.
pub record WalkDoes {N B W : Type 0} (m : Seen N B W) (v : ℕ) (s : WorkerState) (step : Action W)
    (s' : WorkerState) : Type 0 where
  pub does : WorkDoes m v s s.todo step s'

-- a worker has its result after it stored its item's blob, or released its listed cell, or failed
abbrev pub answer_after : {W : Type 0} → List Todo → Action W → Option WorkerAnswer
answer_after (to_item written keys ∷ below) (Action.Store i (Ok key)) = Some (WorkerAnswer.Key key)
answer_after (to_release r key height ∷ []) step = Some (WorkerAnswer.Key key)
answer_after (to_fail fault back ∷ below) step = Some (answer_of_fault fault)
answer_after todo step = None

abbrev pub is_counted_claim : Result Claim Error → Bool
is_counted_claim (Ok Claim.Waiting) = false
is_counted_claim r = true

-- every step counts, except a claim that has to wait and the steps of a load
abbrev pub is_counted : {W : Type 0} → List Todo → Action W → Bool
is_counted (to_load r place through reading ∷ below) step = false
is_counted todo (Action.Claim i r) = is_counted_claim r
is_counted todo step = true
