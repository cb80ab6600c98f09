-- The begin of a pin, and how a pin is undone.
use Rattle.pagable_load.specs.declared.access.{EndedLoad.EndedLoad, PinStart.PinStart, StartedPin.StartedPin}
use Rattle.pagable_pager_spec.specs.{
  Access.{IsValueOf, MakesCall, PinRun},
  Basics.if_there,
  Calls.{PinCall, ReleaseCall, UnpinCall},
  Events.reading_of_load,
  Kinds.is_unpinned,
  LoadCalls.BeginCall,
  Pager.{PagerState, ValueCall},
  Refusals.live_fault,
  Workers.fresh,
  World.{Core, Values, row_at},
  declared.{handle_row.{HandleRow.HandleRow, Owner.Owner}, pinning.{Beginning.Beginning, Pinning.Pinning}},
}
use Rattle.pagable_theorems.specs.TreeSteps.{HasPin}
use Rattle.pagable_value_spec.specs.declared.{error.Error.Error, numbers.HandleNumber.HandleNumber}
use Rattle.std.specs.{
  Arc.arc_value,
  Global.Global,
  Option.option_map,
  Prelude.{Bool, Err, IfErr, IfOk, Ok, Option, Result, Some, false, true, ◌≡◌, ◌⊎◌},
  declared.sync.Arc.Arc,
}

-- whether the handle is live, loose and unpinned
abbrev pub is_unpinned_at : Core → HandleNumber → Bool
is_unpinned_at w h = if_there (λ (row : HandleRow). is_unpinned row.mode) false (row_at w h)

-- a pin, and whether the handle was unpinned before; or a load of its cell, which is of this type
abbrev pub Starts : Core → Owner → HandleNumber → PinStart → Core → Type 0
Starts w me h (PinStart.Pinned k was_unpinned) w' = PinCall w me h (Ok (Pinning.Pinned k)) w'
    × (was_unpinned ≡ is_unpinned_at w h)
Starts w me h (PinStart.Load l key t) w' = BeginCall w me h (Ok (Beginning.Load l key)) w' × (is_unpinned_at w h ≡ true)
    × (reading_of_load l (w'.loads l.0) ≡ Some (fresh l t))

pub record StartsPin (w : Core) (me : Owner) (h : HandleNumber) (r : Result PinStart Error) (w' : Core) : Type 0 where
  pub starts : IfOk r (λ p. Starts w me h p w')
  pub refused : IfErr r (λ e. PinCall w me h (Err e) w' ⊎ BeginCall w me h (Err e) w')

-- The value of a handle's node, if the handle pins it. Memory may run out.
pub record Shares {N E X : Type 0} (see : X → N) (s : PagerState N E) (h : HandleNumber)
    (r : Result (Option X) Error) : Type 0 where
  pub given : IfOk r (λ found. ValueCall s h (Ok (option_map see found)))
  pub refused : IfErr r (λ e. (live_fault (row_at s.core h) ≡ Some e) ⊎ (e ≡ Error.OutOfMemory))

-- how the pin began, as numbers only
abbrev pub started_as : {N : Type 0} → StartedPin N → PinStart
started_as (StartedPin.Pinned k was_unpinned shared) = PinStart.Pinned k was_unpinned
started_as (StartedPin.Load l key t) = PinStart.Load l key t

-- the value of the pinned node is shared, or sharing it fails
abbrev pub SharesStarted : {N E : Type 0} → PagerState N E → StartedPin N → Type 0
SharesStarted s (StartedPin.Pinned k was_unpinned shared) = Shares arc_value s k shared
SharesStarted s (StartedPin.Load l key t) = Unit {0}

-- how the load of a cell ended, with the value and not its share
abbrev pub ended_of : {N : Type 0} → Result EndedLoad (Error × Option (Arc N Global)) → Result HandleNumber (Error × Option N)
ended_of (Ok ended) = Ok ended.handle
ended_of (Err e) = Err (e.0, option_map arc_value e.1)

-- The value that a new pin shares. If the handle pins, the call fails only with OutOfMemory.
pub record SharesPinned {N E X : Type 0} (see : X → N) (s : PagerState N E) (k : HandleNumber)
    (r : Result X Error) : Type 0 where
  pub given : IfOk r (λ x. IsValueOf s k (see x))
  pub refused : IfErr r (λ e. HasPin s.core k → e ≡ Error.OutOfMemory)

-- a pin with its load, and whether the handle was unpinned before
pub record PinsWithLoad {N E : Type 0} (v : Values N) (s : PagerState N E) (h : HandleNumber)
    (r : Result (HandleNumber × Bool) Error) (s' : PagerState N E) : Type 0 where
  pub pinned : IfOk r (λ a. PinRun v s h (Ok a.0) s' × (a.1 ≡ is_unpinned_at s.core h))
  pub refused : IfErr r (λ e. PinRun v s h (Err e) s')

-- the loose handle is unpinned, if it was unpinned before; below: and the new handle is released
abbrev pub Unpins : {N E : Type 0} → Values N → Bool → HandleNumber → PagerState N E → PagerState N E → Type 0
Unpins v true h s low = (told : Result (Unit {0}) Error)
    × MakesCall v (λ w'. UnpinCall s.core Owner.Caller h told w') s low
Unpins v false h s low = low ≡ s

pub record TakesBack {N E : Type 0} (v : Values N) (was_unpinned : Bool) (h k : HandleNumber)
    (s s' : PagerState N E) : Type 0 where
  pub low : PagerState N E
  pub unpins : Unpins v was_unpinned h s low
  pub told : Result (Unit {0}) Error
  pub releases : MakesCall v (λ w'. ReleaseCall low.core Owner.Caller k told w') low s'
