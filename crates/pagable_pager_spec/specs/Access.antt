-- Whole operations on a pager and a table: a pin, a read, a page-out of an item and of the list. Each is a run of the
-- steps of one load or of one worker, up to its end.
use Rattle.pagable_pager_spec.specs.{
  Basics.{Action, Beginning, Error, HandleNumber, HandleRow, Identity, LoadAnswer, LoadNumber, Mode, OptionalDataKey},
  Basics.{Owner, Pinning, Tree, WorkerAnswer},
  Calls.{PinCall, ReleaseCall, TakeCall, UnpinCall},
  Events.{Ends, IsEntry, entry_task, no_shelf, reading_of_load, with_entry_taken, with_worker},
  Kinds.{HasKinds, HasNoKinds},
  LoadCalls.{BeginCall, BeginKeyCall},
  Loads.{ReadingDoes, gone_on},
  Pager.{HoldsItsNodes, HoldsPinned, IsPagerWhole, Moves, PagerStandsFor, PagerState, ReadingBrings, SameTrees},
  Pager.{TodoBrings, TookWrites, ValueStands},
  Refusals.WorkerFault,
  Rightness.ReadIsRight,
  Runs.{HoldsSettled, TakesWell},
  Workers.{WalkDoes, WorkerState, answer_after, first_todo, fresh, is_open_slot},
  World.{Alike, Core, Frame, IsLawful, IsSettled, Reading, SameShelf, Seen, Shelf, Slot, Todo, Values, Written, key_at},
  World.{of_item, row_at},
}
use Rattle.std.specs.{
  Prelude.{Err, IfErr, IfOk, List, None, Ok, Option, Result, Some, false, slice_get, ℕ, [], ◌+◌, ◌∷◌, ◌≡◌, ◌⊎◌},
}

pub record AccessState (N E : Type 0) : Type 0 where
  pub pager : PagerState N E
  pub shelf : Shelf

abbrev pub if_both_known : {S : Type 0} → Option S → Option S → (S → S → Type 0) → Type 0
if_both_known s None R = Unit {0}
if_both_known None (Some t) R = ⊥
if_both_known (Some s) (Some t) R = R s t

-- R holds between the two states, provided that both are known; and if the second is known, so is the first
pub record IfBothKnown {S : Type 0} (s t : Option S) (R : S → S → Type 0) : Type 0 where
  pub holds : if_both_known s t R

-- A call of the pager: what it does to the pager's core. It brings no value into memory.
pub record MakesCall {N E : Type 0} (v : Values N) (does : Core → Type 0) (s s' : PagerState N E) : Type 0 where
  pub step : does s'.core
  pub moves : Moves (λ n x. ⊥) s s'
  pub whole : IsPagerWhole v s'

-- P holds of the value that a load read, if the load ended with one
abbrev pub IfReads : {N : Type 0} → Option (LoadAnswer N) → (N → Type 0) → Type 0
IfReads (Some (LoadAnswer.Read x)) P = P x
IfReads answer P = Unit {0}

pub record ReadingStep {N E : Type 0} (v : Values N) (me : Owner) (reading : Reading) (s : PagerState N E)
    (answer : Option (LoadAnswer N)) (frames : List Frame) (s' : PagerState N E) : Type 0 where
  pub does : ReadingDoes v s.core me reading answer frames s'.core
  pub moves : Moves (ReadingBrings v s.core reading) s s'
  -- a value that is brought into memory holds its nodes' values; a value that is returned holds what its references'
  -- handles pin
  pub holds : IsPagerWhole v s → Moves (λ n x. HoldsItsNodes v s x) s s'
  pub answers : IfReads answer (HoldsPinned v s')
  pub whole : IsPagerWhole v s'

-- a worker's step: `todo` is the worker's list before the step, `next` its list after it
pub record WalkStep {N E B W : Type 0} (m : Seen N B W) (n : ℕ) (todo : List Todo) (s : AccessState N E)
    (step : Action W) (next : List Todo) (s' : AccessState N E) : Type 0 where
  pub after : WorkerState
  pub does : WalkDoes m n (record { core = s.pager.core; shelf = s.shelf; todo = todo }) step after
  pub goes_on : next ≡ after.todo
  pub shelf_is : SameShelf after.shelf s'.shelf
  pub ends : Ends (answer_after todo step) n after.core s'.pager.core
  pub moves : Moves (TodoBrings m.values s.pager.core todo) s.pager s'.pager
  pub holds : Moves (λ n x. HoldsItsNodes m.values s.pager x) s.pager s'.pager
  pub writes : TookWrites m.values m.written_of s.pager step
  pub whole : IsPagerWhole m.values s'.pager

-- the steps of a load up to its end, which is `answer`
pub data LoadRun {N E : Type 0} (v : Values N) (me : Owner) : Reading → PagerState N E → LoadAnswer N → PagerState N E
    → Type 0 where
  load-ends : (reading : Reading) (answer : LoadAnswer N) (s s' : PagerState N E)
      → ReadingStep v me reading s (Some answer) [] s' → LoadRun v me reading s answer s'
  load-goes-on : (reading : Reading) (frames : List Frame) (answer : LoadAnswer N) (s mid s' : PagerState N E)
      → ReadingStep v me reading s None frames mid → LoadRun v me (gone_on reading frames) mid answer s'
      → LoadRun v me reading s answer s'

-- the steps of a worker up to its result, which is `answer`
pub data WorkerRun {N E B W : Type 0} (m : Seen N B W) (n : ℕ) : List Todo → AccessState N E → List (Action W)
    → WorkerAnswer → AccessState N E → Type 0 where
  worker-ends : (todo next : List Todo) (step : Action W) (answer : WorkerAnswer) (s s' : AccessState N E)
      → WalkStep m n todo s step next s' → answer_after todo step ≡ Some answer
      → WorkerRun m n todo s (step ∷ []) answer s'
  worker-goes-on : (todo next : List Todo) (step : Action W) (steps : List (Action W)) (answer : WorkerAnswer)
      (s mid s' : AccessState N E) → WalkStep m n todo s step next mid → answer_after todo step ≡ None
      → WorkerRun m n next mid steps answer s'
      → WorkerRun m n todo s (step ∷ steps) answer s'

-- What is asked of each step of a load's run: no value in memory changes later, the types of the load's blobs can be
-- read back, and each key that the load takes without reading it reads as some value.
unfoldable pub LoadAsksWell : {N E : Type 0} {v : Values N} {me : Owner} {reading : Reading} {s s' : PagerState N E}
    {answer : LoadAnswer N} → LoadRun v me reading s answer s' → Type 0
LoadAsksWell {v = v} (load-ends reading answer s s' step) = HoldsSettled v s' × TakesWell v s reading
LoadAsksWell {v = v} (load-goes-on reading frames answer s mid s' step more) =
    HoldsSettled v mid × TakesWell v s reading × LoadAsksWell more

-- a load of the handle's cell begins, and `reading` is its progress
pub record LoadStarts {N E : Type 0} (v : Values N) (s : PagerState N E) (h : HandleNumber) (reading : Reading)
    (s' : PagerState N E) : Type 0 where
  pub key : ℕ
  pub begins : MakesCall v (λ w'. BeginCall s.core Owner.Caller h (Ok (Beginning.Load reading.load key)) w') s s'
  pub is : reading_of_load reading.load (s'.core.loads reading.load.0) ≡ Some reading

-- a pin: at once, or by a load up to its end
pub data PinRun {N E : Type 0} (v : Values N) (s : PagerState N E) (h : HandleNumber) : Result HandleNumber Error
    → PagerState N E → Type 0 where
  pins-at-once : (k : HandleNumber) (s' : PagerState N E)
      → MakesCall v (λ w'. PinCall s.core Owner.Caller h (Ok (Pinning.Pinned k)) w') s s' → PinRun v s h (Ok k) s'
  pin-is-refused : (e : Error) (s' : PagerState N E) → MakesCall v (λ w'. PinCall s.core Owner.Caller h (Err e) w') s s'
      → PinRun v s h (Err e) s'
  load-is-refused : (e : Error) (s' : PagerState N E) → MakesCall v (λ w'. BeginCall s.core Owner.Caller h (Err e) w') s
      s'
      → PinRun v s h (Err e) s'
  load-pins : (k : HandleNumber) (reading : Reading) (mid s' : PagerState N E) → LoadStarts v s h reading mid
      → LoadRun v Owner.Caller reading mid (LoadAnswer.Pinned k) s' → PinRun v s h (Ok k) s'
  load-fails : (e : Error) (reading : Reading) (mid s' : PagerState N E) → LoadStarts v s h reading mid
      → LoadRun v Owner.Caller reading mid (LoadAnswer.Refused e) s' → PinRun v s h (Err e) s'

-- x is the value of the handle's node
pub record IsValueOf {N E : Type 0} (s : PagerState N E) (k : HandleNumber) (x : N) : Type 0 where
  pub row : HandleRow
  pub live : row_at s.core k ≡ Some row
  pub held : s.values row.node.0 ≡ Some x

-- The handle was unpinned before the pin, and is unpinned again; or it was pinned, and stays so.
abbrev pub IsUnpinnedBack : {N E : Type 0} → Values N → Core → HandleNumber → PagerState N E → PagerState N E → Type 0
IsUnpinnedBack v before h s s' =
    ((row : HandleRow) × (told : Result (Unit {0}) Error) × (row_at before h ≡ Some row)
    × (row.mode ≡ Mode.LooseUnpinned) × MakesCall v (λ w'. UnpinCall s.core Owner.Caller h told w') s s')
    ⊎ ((row : HandleRow) × (row_at before h ≡ Some row) × (row.mode ≡ Mode.LoosePinned)
    × MakesCall v (λ w'. Alike s.core w') s s')

-- a pin that is undone since there was no memory to share its value
pub record PinTakenBack {N E : Type 0} (v : Values N) (s : PagerState N E) (h : HandleNumber)
    (s' : PagerState N E) : Type 0 where
  pub k : HandleNumber
  pub mid : PagerState N E
  pub low : PagerState N E
  pub told : Result (Unit {0}) Error
  pub pins : PinRun v s h (Ok k) mid
  pub unpins : IsUnpinnedBack v s.core h mid low
  pub releases : MakesCall v (λ w'. ReleaseCall low.core Owner.Caller k told w') low s'

-- What a pin returns, and what it leaves: a handle with its node's value, or an error.
pub record PinsOver {N E : Type 0} (v : Values N) (s : PagerState N E) (h : HandleNumber)
    (r : Result (HandleNumber × N) Error) (s' : PagerState N E) : Type 0 where
  pub pins : IfOk r (λ a. PinRun v s h (Ok a.0) s' × IsValueOf s' a.0 a.1)
  pub refused : IfErr r (λ e. PinRun v s h (Err e) s' ⊎ ((e ≡ Error.OutOfMemory) × PinTakenBack v s h s'))

abbrev pub KeyStarts : {N E : Type 0} → Values N → PagerState N E → ℕ → LoadNumber → PagerState N E → Type 0
KeyStarts v s key l s' = MakesCall v (λ w'. BeginKeyCall s.core Owner.Caller key (Ok (Beginning.Load l key)) w') s s'

pub data ReadRun {N E : Type 0} (v : Values N) (s : PagerState N E) (key t : ℕ) : Result N Error → PagerState N E
    → Type 0 where
  reading-is-refused : (e : Error) (s' : PagerState N E)
      → MakesCall v (λ w'. BeginKeyCall s.core Owner.Caller key (Err e) w') s s' → ReadRun v s key t (Err e) s'
  load-reads : (x : N) (l : LoadNumber) (mid s' : PagerState N E) → KeyStarts v s key l mid
      → LoadRun v Owner.Caller (fresh l t) mid (LoadAnswer.Read x) s' → ReadRun v s key t (Ok x) s'
  reading-fails : (e : Error) (l : LoadNumber) (mid s' : PagerState N E) → KeyStarts v s key l mid
      → LoadRun v Owner.Caller (fresh l t) mid (LoadAnswer.Refused e) s' → ReadRun v s key t (Err e) s'

-- What a read of a key as a value of a type returns, and what it leaves.
pub record ReadsOver {N E : Type 0} (v : Values N) (s : PagerState N E) (key t : ℕ) (r : Result N Error)
    (s' : PagerState N E) : Type 0 where
  pub run : ReadRun v s key t r s'

-- each claim on the table has a result, so that no worker waits for one
abbrev pub AllHaveResults : Shelf → Type 0
AllHaveResults shelf = (i : Identity) (slot : Slot) → shelf.slots i ≡ Some slot → is_open_slot (Some slot) ≡ false

-- a worker begins, under the next number; `core` is the pager's state without it
pub record WorkerStarts {N E : Type 0} (v : Values N) (core : Core) (s : PagerState N E) (n : ℕ)
    (s' : PagerState N E) : Type 0 where
  pub next : n ≡ s.core.last.worker + 1
  pub begins : MakesCall v (λ w'. Alike (with_worker core) w') s s'

pub data ItemRun {N E B W : Type 0} (m : Seen N B W) (s : AccessState N E) (item : Written) : WorkerAnswer
    → AccessState N E → Type 0 where
  no-worker : (e : Error) (s' : AccessState N E) → WorkerFault s.pager.core e ⊎ (e ≡ Error.OutOfMemory)
      → MakesCall m.values (λ w'. Alike s.pager.core w') s.pager s'.pager → SameShelf s.shelf s'.shelf
      → ItemRun m s item (WorkerAnswer.Failed e) s'
  item-is-walked : (n : ℕ) (steps : List (Action W)) (answer : WorkerAnswer) (mid : PagerState N E)
      (s' : AccessState N E) → WorkerStarts m.values s.pager.core s.pager n mid
      → WorkerRun m n (first_todo (of_item item)) (record { pager = mid; shelf = s.shelf }) steps answer s'
      → ItemRun m s item answer s'

-- What a page-out of an item on a table returns, and what it leaves.
pub record PagesOutItemOver {N E B W : Type 0} (m : Seen N B W) (s : AccessState N E) (item : Written)
    (answer : WorkerAnswer) (s' : AccessState N E) : Type 0 where
  pub run : ItemRun m s item answer s'
  pub all_have_results : AllHaveResults s'.shelf

-- the list has the handle h at this place, and h's cell has this key, or none
pub record EntryHas (w : Core) (place : ℕ) (h : HandleNumber) (key : OptionalDataKey) : Type 0 where
  pub row : HandleRow
  pub listed : slice_get w.list place ≡ Some h
  pub live : row_at w h ≡ Some row
  pub keyed : key_at w row.node.0 ≡ key

-- a list entry is paged out on a table of its own, which is dropped afterwards
pub data EntryRun {N E B W : Type 0} (m : Seen N B W) (s : PagerState N E) (place : ℕ) : WorkerAnswer → PagerState N E
    → Type 0 where
  entry-is-refused : (h : HandleNumber) (row : HandleRow) (t : ℕ) (s' : PagerState N E) → IsEntry s.core place h row t
      → HasNoKinds t → MakesCall m.values (λ w'. Alike s.core w') s s'
      → EntryRun m s place (WorkerAnswer.Failed Error.WrongKind) s'
  no-entry-worker : (e : Error) (s' : PagerState N E) → WorkerFault s.core e
      → MakesCall m.values (λ w'. Alike s.core w') s s' → EntryRun m s place (WorkerAnswer.Failed e) s'
  entry-is-walked : (h : HandleNumber) (row : HandleRow) (t n : ℕ) (steps : List (Action W)) (answer : WorkerAnswer)
      (mid : PagerState N E) (s' : AccessState N E) → IsEntry s.core place h row t → HasKinds t
      → WorkerStarts m.values (with_entry_taken s.core place h (record { 0 = n })) s n mid
      → WorkerRun m n (first_todo (entry_task h row t)) (record { pager = mid; shelf = no_shelf }) steps answer s'
      → EntryRun m s place answer s'.pager

-- A page-out of the list's first i entries, from the last of them to the first. An entry whose cell has a key is taken
-- and released; any other is paged out. The first failure ends it.
pub data ListRun {N E B W : Type 0} (m : Seen N B W) : ℕ → PagerState N E → Result (Unit {0}) WorkerAnswer
    → PagerState N E → Type 0 where
  no-more : (s : PagerState N E) → ListRun m 0 s (Ok tt) s
  skips : (i place key : ℕ) (h : HandleNumber) (told : Result (Unit {0}) Error)
      (answer : Result (Unit {0}) WorkerAnswer) (s mid low s' : PagerState N E) → i ≡ place + 1
      → EntryHas s.core place h (OptionalDataKey.Some key)
      → MakesCall m.values (λ w'. TakeCall s.core Owner.Caller place (Some h) w') s mid
      → MakesCall m.values (λ w'. ReleaseCall mid.core Owner.Caller h told w') mid low → ListRun m place low answer s'
      → ListRun m i s answer s'
  pages : (i place key : ℕ) (h : HandleNumber) (answer : Result (Unit {0}) WorkerAnswer) (s mid s' : PagerState N E) → i
      ≡ place + 1 → EntryHas s.core place h OptionalDataKey.None → EntryRun m s place (WorkerAnswer.Key key) mid
      → ListRun m place mid answer s' → ListRun m i s answer s'
  fails : (i place : ℕ) (h : HandleNumber) (e : Error) (s s' : PagerState N E) → i ≡ place + 1
      → EntryHas s.core place h OptionalDataKey.None → EntryRun m s place (WorkerAnswer.Failed e) s'
      → ListRun m i s (Err (WorkerAnswer.Failed e)) s'

-- with lawful types and settled values, whatever trees the pager stood for, it stands for some trees now, which are
-- the same for old nodes, and P holds of both
abbrev pub LeadsToTrees : {N E : Type 0} → Values N → PagerState N E → PagerState N E
    → ((ℕ → Tree) → (ℕ → Tree) → Type 0) → Type 0
LeadsToTrees v s s' P = IsLawful v → HoldsSettled v s → (trees : ℕ → Tree) → PagerStandsFor v s trees → (trees' : ℕ
    → Tree) × SameTrees s.core.last.node trees trees' × PagerStandsFor v s' trees' × P trees trees'

-- The law of loads that end with a pin: the value of the pinned node stands for the node's tree.
abbrev pub PinLaw : {N : Type 0} → (E : Type 0) → Values N → Type 0
PinLaw {N} E v = (s mid s' : PagerState N E) (h k : HandleNumber) (reading : Reading) (x : N) (row : HandleRow)
    (run : LoadRun v Owner.Caller reading mid (LoadAnswer.Pinned k) s')
    → IsPagerWhole v s → LoadStarts v s h reading mid → LoadAsksWell run → row_at s'.core k ≡ Some row
    → s'.values row.node.0 ≡ Some x → LeadsToTrees v s s' (λ trees trees'. ValueStands v s' x (trees' row.node.0))

-- The law of loads that read a key: the value that they return stands for the tree that the key reads as.
abbrev pub ReadLaw : {N : Type 0} → (E : Type 0) → Values N → Type 0
ReadLaw {N} E v = (s mid s' : PagerState N E) (key t : ℕ) (l : LoadNumber) (x : N)
    (run : LoadRun v Owner.Caller (fresh l t) mid (LoadAnswer.Read x) s')
    → IsPagerWhole v s → KeyStarts v s key l mid → LoadAsksWell run → IsSettled v x
    → LeadsToTrees v s s' (λ trees trees'. ReadIsRight v s' key x)
