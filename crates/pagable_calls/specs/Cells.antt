-- Calls on one cell that consist of a few calls of the pager.
use Rattle.either.specs.declared.Either.{Either}
use Rattle.pagable_pager.specs.View.{
  AddsNoValue,
  Calls,
  ChangesOnlyTables,
  PagerView,
  Storages,
  pager_core,
  pager_state,
}
use Rattle.pagable_pager_spec.specs.{
  Access.PinsOver,
  Basics.{Error, HandleNumber, Kind},
  Calls.{Asked, CloneCall, InsertCall, InsertPagedOutCall, RecallCall, ReleaseCall, UnpinCall},
  Pager.{IsNewNode, Moves, ValueCall},
  World.{Core, Values},
  declared.{handle_row.Owner.Owner, mode.Mode.Mode},
}
use Rattle.pagable_value_spec.specs.Stored.{RefusesFetch}
use Rattle.std.specs.Prelude.{Bool, Err, IfErr, IfOk, None, Ok, Option, Result, Some, is_some, ℕ, ◌≡◌}

-- the storage was asked whether it has a blob under the key
pub record AsksWhetherStored (w : Core) (key : ℕ) (r : Result Bool Error) (w' : Core) : Type 0 where
  pub asked : Asked w w'
  pub told : IfOk r (λ b. is_some (w.stored key) ≡ b)
  pub refused : IfErr r (RefusesFetch key (w.stored key) w.failures w'.failures)

module _ {N S E H K V : Type 0} (tells : Storages S E N H K V) where
  -- a new cell of the value, with a loose handle that pins; or the value is returned
  pub record IsBorn (v : Values N) (old : PagerView N S E) (x : N) (r : Result HandleNumber (Error × N))
      (new : PagerView N S E) : Type 0 where
    pub step : InsertCall (pager_core tells old) Owner.Caller x (v.node_type x) (v.references x) Mode.LoosePinned r
        (pager_core tells new)
    pub moves : Moves (λ n y. (y ≡ x) × IsNewNode (pager_core tells old) n) (pager_state tells old)
        (pager_state tells new)
    pub storage : new.storage ≡ old.storage

  abbrev pub Unpins : PagerView N S E → HandleNumber → Result (Unit {0}) Error → PagerView N S E → Type 0
  Unpins old h told new = Calls AddsNoValue tells old (λ w w'. UnpinCall w Owner.Caller h told w') new

  abbrev pub Releases : PagerView N S E → HandleNumber → Result (Unit {0}) Error → PagerView N S E → Type 0
  Releases old h told new = Calls AddsNoValue tells old (λ w w'. ReleaseCall w Owner.Caller h told w') new

  abbrev pub Recalls : PagerView N S E → Kind → ℕ → Result (Option HandleNumber) Error → PagerView N S E → Type 0
  Recalls old kind key r new = Calls ChangesOnlyTables tells old (λ w w'. RecallCall w Owner.Caller kind key r w') new

  abbrev pub Pins : (E → Values N) → PagerView N S E → HandleNumber → Result (HandleNumber × N) Error → PagerView N S E
      → Type 0
  Pins says old h r new = PinsOver (says old.environment) (pager_state tells old) h r (pager_state tells new)

  -- A new cell that nothing pins. If the value is inserted and its cell couldn't be listed, the handle is returned with
  -- the error.
  pub data InsertsCell (v : Values N) (old : PagerView N S E) (x : N) : Result HandleNumber
      (Error × Either N HandleNumber) → PagerView N S E → Type 0 where
    birth-is-refused : (refused : Error × N) (new : PagerView N S E) → IsBorn v old x (Err refused) new
        → InsertsCell v old x (Err (refused.0, Either.Left refused.1)) new
    cell-waits : (h : HandleNumber) (mid new : PagerView N S E) → IsBorn v old x (Ok h) mid → Unpins mid h (Ok tt) new
        → InsertsCell v old x (Ok h) new
    cell-is-unlisted : (h : HandleNumber) (e : Error) (mid new : PagerView N S E) → IsBorn v old x (Ok h) mid
        → Unpins mid h (Err e) new
        → InsertsCell v old x (Err (e, Either.Right h)) new

  -- a handle of the cell that is cached under the kind of this number, or of a new one
  pub data OpensCell (old : PagerView N S E) (number t key : ℕ) : Result HandleNumber Error → PagerView N S E
      → Type 0 where
    cache-refuses : (kind : Kind) (e : Error) (new : PagerView N S E) → kind.0 ≡ number
        → Recalls old kind key (Err e) new
        → OpensCell old number t key (Err e) new
    cache-gives : (kind : Kind) (h : HandleNumber) (new : PagerView N S E) → kind.0 ≡ number
        → Recalls old kind key (Ok (Some h)) new
        → OpensCell old number t key (Ok h) new
    cell-is-new : (kind : Kind) (r : Result HandleNumber Error) (mid new : PagerView N S E) → kind.0 ≡ number
        → Recalls old kind key (Ok None) mid
        → Calls ChangesOnlyTables tells mid (λ w w'. InsertPagedOutCall w Owner.Caller t key r w') new
        → OpensCell old number t key r new

  -- a clone of the handle is pinned, and released
  pub data Follows (says : E → Values N) (old : PagerView N S E) (h : HandleNumber) : Result (HandleNumber × N) Error
      → PagerView N S E → Type 0 where
    clone-is-refused : (e : Error) (new : PagerView N S E)
        → Calls ChangesOnlyTables tells old (λ w w'. CloneCall w Owner.Caller h (Err e) w') new
        → Follows says old h (Err e) new
    clone-is-pinned : (c : HandleNumber) (told : Result (Unit {0}) Error) (r : Result (HandleNumber × N) Error)
        (mid low new : PagerView N S E)
        → Calls ChangesOnlyTables tells old (λ w w'. CloneCall w Owner.Caller h (Ok c) w') mid → Pins says mid c r low
        → Releases low c told new
        → Follows says old h r new

  -- a pin that a look needed is undone: the handle is unpinned, and the Pinned one released
  pub record LetsGo (old : PagerView N S E) (h k : HandleNumber) (told : Result (Unit {0}) Error)
      (new : PagerView N S E) : Type 0 where
    pub mid : PagerView N S E
    pub unpinned : Result (Unit {0}) Error
    pub unpins : Unpins old h unpinned mid
    pub releases : Releases mid k told new

  -- the value is shown while a pin holds it
  pub data LooksByPin (says : E → Values N) (old : PagerView N S E) (h : HandleNumber) {Y : Type 0}
      (Shows : N → Y → Type 0) : Result Y Error
      → PagerView N S E → Type 0 where
    pin-is-refused : (e : Error) (new : PagerView N S E) → Pins says old h (Err e) new
        → LooksByPin says old h Shows (Err e) new
    shows : (x : N) (y : Y) (k : HandleNumber) (mid new : PagerView N S E) → Pins says old h (Ok (k, x)) mid → Shows x y
        → LetsGo mid h k (Ok tt) new
        → LooksByPin says old h Shows (Ok y) new
    cell-stays-unlisted : (x : N) (y : Y) (k : HandleNumber) (e : Error) (mid new : PagerView N S E)
        → Pins says old h (Ok (k, x)) mid → Shows x y
        → LetsGo mid h k (Err e) new
        → LooksByPin says old h Shows (Err e) new

  -- A handle that pins its node lends the value; another one is pinned during the look.
  pub data Looks (says : E → Values N) (old : PagerView N S E) (h : HandleNumber) {Y : Type 0}
      (Shows : N → Y → Type 0) : Result Y Error → PagerView N S E
      → Type 0 where
    no-handle : (e : Error) → ValueCall (pager_state tells old) h (Err e) → Looks says old h Shows (Err e) old
    lends : (x : N) (y : Y) → ValueCall (pager_state tells old) h (Ok (Some x)) → Shows x y
        → Looks says old h Shows (Ok y) old
    by-pin : (r : Result Y Error) (new : PagerView N S E) → ValueCall (pager_state tells old) h (Ok None)
        → LooksByPin says old h Shows r new
        → Looks says old h Shows r new
