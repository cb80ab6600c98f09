-- What a worker's calls of an access do, in terms of the specification.
use Rattle.pagable_load.specs.{
  PinStart.Shares,
  declared.access.{PinnedOrLoading.PinnedOrLoading, TakenValue.TakenValue, WorkerNode.WorkerNode},
}
use Rattle.pagable_pager_spec.specs.{
  Access.{EntryHas, EntryRun, MakesCall, WorkerStarts},
  Calls.{CloneCall, ReleaseCall, SetKeyCall, StoreCall, TakeCall},
  Cascade.FallsAnyhow,
  Events.{IsEntry, with_entry_taken},
  Kinds.{HasKinds, HasNoKinds, loose_kind},
  LoadCalls.BeginCall,
  Pager.{IsPagerWhole, PagerState},
  Refusals.WorkerFault,
  Workers.{PinRefused, PinsAtOnce, RowIs, is_workers_at},
  World.{Alike, Core, Seen, Values, Written},
  declared.{events.WorkerAnswer.WorkerAnswer, handle_row.{HandleRow.HandleRow, Owner.Owner}},
  declared.pinning.Beginning.Beginning,
}
use Rattle.pagable_value_spec.specs.{
  Blob.{Blob, key_of},
  declared.{data_key.OptionalDataKey.OptionalDataKey, error.Error.Error},
  declared.numbers.{ArcRef.ArcRef, HandleNumber.HandleNumber, LoadNumber.LoadNumber, WorkerNumber.WorkerNumber},
}
use Rattle.std.specs.{
  Arc.arc_value,
  Prelude.{Bool, Err, IfErr, IfOk, None, Ok, OnOk, Option, Result, Some, false, length, true, ℕ, ◌+◌, ◌≡◌, ◌≤◌, ◌⊎◌},
}

-- the error of a result, if it is one
abbrev pub fault_in : {X : Type 0} → Result X Error → Option Error
fault_in (Ok x) = None
fault_in (Err e) = Some e

-- the clone's value isn't in memory, its key is `key`, and a load of it begins
abbrev pub BeginsAt : Core → Owner → ArcRef → HandleNumber → LoadNumber → ℕ → Core → Type 0
BeginsAt w me r through l key w' = RowIs w r.handle true
    × ((mid : Core) × CloneCall w me r.handle (Ok through) mid
    × BeginCall mid me through (Ok (Beginning.Load l key)) w')

abbrev pub Takes : Core → Owner → ArcRef → PinnedOrLoading → Core → Type 0
Takes w me r (PinnedOrLoading.Held through k) w' = PinsAtOnce w me r through k w'
Takes w me r (PinnedOrLoading.Begun through l key) w' = BeginsAt w me r through l key w'

-- the handle of a claimed reference is cloned and pinned for the worker, or a load of its cell begins
pub record TakesReference (w : Core) (me : Owner) (r : ArcRef) (result : Result PinnedOrLoading Error)
    (w' : Core) : Type 0 where
  pub takes : IfOk result (λ t. Takes w me r t w')
  pub refused : IfErr result (λ e. PinRefused w me r e w')

-- what was taken, without its value
abbrev pub taken_of : {N : Type 0} → TakenValue N → PinnedOrLoading
taken_of (TakenValue.Held through pin value) = PinnedOrLoading.Held through pin
taken_of (TakenValue.Begun through l key) = PinnedOrLoading.Begun through l key

-- the value of the pinned node is shared, or sharing it fails
abbrev pub SharesTaken : {N E : Type 0} → PagerState N E → TakenValue N → Type 0
SharesTaken s (TakenValue.Held through pin value) = Shares arc_value s pin value
SharesTaken s (TakenValue.Begun through l key) = Unit {0}

-- the key is set by the handle, if there is one
abbrev pub SetsKeyIfLoose : {N E : Type 0} → Values N → Owner → Option HandleNumber → ℕ → Result (Unit {0}) Error
    → PagerState N E → PagerState N E → Type 0
SetsKeyIfLoose v me None key r s t = (r ≡ Ok tt) × (t ≡ s)
SetsKeyIfLoose v me (Some h) key r s t = MakesCall v (λ w'. SetKeyCall s.core me h key r w') s t

-- The key of a worker's node is set, if it gets one, and then the worker's handles of the node are released. If setting
-- the key fails, nothing more happens.
pub record SetsKeyAndReleases {N E : Type 0} (v : Values N) (me : Owner) (at : WorkerNode) (key : ℕ)
    (r : Result (Unit {0}) Error) (s t : PagerState N E) : Type 0 where
  pub closes : OnOk r ((mid : PagerState N E) × SetsKeyIfLoose v me at.loose key (Ok tt) s mid
      × MakesCall v (λ w'. FallsAnyhow mid.core mid.core (is_workers_at mid.core at.worker.0 at.node.0) w') mid t)
  pub refused : IfErr r (λ e. SetsKeyIfLoose v me at.loose key (Err e) s t)

-- The blob of a worker's node is stored, and the node is closed with its key. The first error ends it.
pub record StoresNode {N E : Type 0} (v : Values N) (me : Owner) (at : WorkerNode) (blob : Blob) (r : Result ℕ Error)
    (s t : PagerState N E) : Type 0 where
  pub stores : IfOk r (λ key. (mid : PagerState N E) × MakesCall v
      (λ w'. StoreCall (key_of v.hash) s.core blob (Ok key) w') s mid × SetsKeyAndReleases v me at key (Ok tt) mid t)
  pub refused : IfErr r (λ e. MakesCall v (λ w'. StoreCall (key_of v.hash) s.core blob (Err e) w') s t
      ⊎ ((key : ℕ) × (mid : PagerState N E) × MakesCall v (λ w'. StoreCall (key_of v.hash) s.core blob (Ok key) w') s
      mid
      × SetsKeyAndReleases v me at key (Err e) mid t))

-- the entry at this place moves to a new worker, as a loose reference to its cell
pub record StartsEntry {N E : Type 0} (v : Values N) (s : PagerState N E) (place : ℕ) (n : WorkerNumber) (r : ArcRef)
    (t : PagerState N E) : Type 0 where
  pub h : HandleNumber
  pub row : HandleRow
  pub type : ℕ
  pub entry : IsEntry s.core place h row type
  pub kinds : HasKinds type
  pub is : r ≡ record { kind = record { 0 = loose_kind type }; node = row.node; handle = h }
  pub starts : WorkerStarts v (with_entry_taken s.core place h n) s n.0 t

-- an entry whose cell has a key is taken from the list, and released
pub record ReleasesEntry {N E : Type 0} (v : Values N) (s : PagerState N E) (me : Owner) (place : ℕ)
    (t : PagerState N E) : Type 0 where
  pub h : HandleNumber
  pub key : ℕ
  pub has : EntryHas s.core place h (OptionalDataKey.Some key)
  pub mid : PagerState N E
  pub takes : MakesCall v (λ w'. TakeCall s.core me place (Some h) w') s mid
  pub refused : Result (Unit {0}) Error
  pub releases : MakesCall v (λ w'. ReleaseCall mid.core me h refused w') mid t

-- whether the cell of the entry at a place had a key, so that the entry was released; past the list's end, none
abbrev pub ReleasesIfKeyed : {N E : Type 0} → Values N → PagerState N E → Owner → ℕ → Option Bool
    → PagerState N E → Type 0
ReleasesIfKeyed v s me place None t = (length s.core.list ≤ place) × Alike s.core t.core
ReleasesIfKeyed v s me place (Some false) t = ((h : HandleNumber)
    × EntryHas s.core place h OptionalDataKey.None) × (t ≡ s)
ReleasesIfKeyed v s me place (Some true) t = ReleasesEntry v s me place t

abbrev pub EntryFault : Core → ℕ → Error → Type 0
EntryFault w place e = ((e ≡ Error.NoSuchHandle) × (length w.list ≤ place))
    ⊎ ((e ≡ Error.WrongKind) × ((h : HandleNumber) × (row : HandleRow) × (type : ℕ) × IsEntry w place h row type
    × HasNoKinds type))
    ⊎ WorkerFault w e

-- no worker begins for the entry, and nothing changes
pub record RefusesEntry {N E : Type 0} (v : Values N) (s : PagerState N E) (place : ℕ) (e : Error)
    (t : PagerState N E) : Type 0 where
  pub why : EntryFault s.core place e
  pub stays : MakesCall v (λ w'. Alike s.core w') s t

-- plain blobs, and what is written, as they are
abbrev pub plain : {N : Type 0} → Values N → Seen N Blob Written
plain v = record { values = v; blob_of = λ b. b; written_of = λ w. w }

-- If the pager is whole, the entry at a place is one whose cell has no key, and it is paged out by a worker's steps, on
-- a table of its own.
pub record PagesLeaf {N E : Type 0} (v : Values N) (s : PagerState N E) (place : ℕ) (answer : WorkerAnswer)
    (t : PagerState N E) : Type 0 where
  pub h : HandleNumber
  pub has : EntryHas s.core place h OptionalDataKey.None
  pub pages : IsPagerWhole v s → EntryRun (plain v) s place answer t

-- the entries below `left` down to `rest` are paged out so, one after the other, from the last of them
pub data HasPagedLeaves {N E : Type 0} (v : Values N) (left : ℕ) (s : PagerState N E) : ℕ → PagerState N E → Type 0 where
  no-leaf : HasPagedLeaves v left s left s
  one-more-leaf : (place key : ℕ) (mid t : PagerState N E) → HasPagedLeaves v left s (place + 1) mid
      → PagesLeaf v mid place (WorkerAnswer.Key key) t → HasPagedLeaves v left s place t

-- the same with the answer of a call: how many entries are left, or the error of the first that failed
abbrev pub PagesLeaves : {N E : Type 0} → Values N → PagerState N E → ℕ → Result ℕ Error → PagerState N E → Type 0
PagesLeaves v s left (Ok rest) t = HasPagedLeaves v left s rest t
PagesLeaves {N} {E} v s left (Err e) t = (place : ℕ) × (mid : PagerState N E) × HasPagedLeaves v left s (place + 1) mid
    × PagesLeaf v mid place (WorkerAnswer.Failed e) t
