-- Typed calls, by the calls of the pager that they consist of and the values that they take and give.
use Rattle.either.specs.declared.Either.{Either}
use Rattle.pagable_calls.specs.{
  Cells.{Follows, InsertsCell, OpensCell, Releases},
  PageOuts.Clones,
  TypedReferences.{Refers, RefusesReference},
}
use Rattle.pagable_pager.specs.View.{PagerView, Storages, pager_core}
use Rattle.pagable_pager_spec.specs.{Basics.{ArcRef, Error, HandleNumber}, World.Values}
use Rattle.pagable_traits.specs.{
  References.{loose_kind, loose_reference},
  declared.{arc.HoldingArc.HoldingArc, pagable_arc.PagableArc.PagableArc},
}
use Rattle.pagable_typed.specs.{GivenBack.GivesBack, declared.uninserted.Uninserted.Uninserted}
use Rattle.std.specs.{Arc.arc_value, Prelude.{Err, None, Ok, Option, Result, Some, ℕ, ◌≡◌, ◌⊎◌}}

-- no value of the type can be taken out of the node: it holds none, or memory is lacking
abbrev pub LacksValue : {N T : Type 0} → (N → Option T) → N → Error → Type 0
LacksValue held x e = (e ≡ Error.OutOfMemory) ⊎ ((e ≡ Error.WrongKind) × (held x ≡ None))

-- no number is left, or memory runs out
abbrev pub IsOfGrowth : Error → Type 0
IsOfGrowth Error.NumbersSpent = Unit {0}
IsOfGrowth Error.OutOfMemory = Unit {0}
IsOfGrowth e = ⊥

-- the result without what a refusal gives back
abbrev pub without_back : {X B : Type 0} → Result X (Error × B) → Result X Error
without_back (Ok x) = Ok x
without_back (Err refused) = Err refused.0

module _ {N S E H K V : Type 0} (tells : Storages S E N H K V) where
  -- the loose reference names the handle with its node, which is of the type with this number
  abbrev pub RefersTo : {T : Type 0} → PagerView N S E → HandleNumber → ℕ → PagableArc T → Type 0
  RefersTo p h t a = Refers (pager_core tells p) h t (loose_kind t) (loose_reference t a)

  -- A cell of a node that holds the value y is inserted, and nothing pins it; t is the number of the value's type.
  pub data InsertsValue {T : Type 0} (held : N → Option T) (t : ℕ) (v : Values N) (old : PagerView N S E) (y : T) :
      Result (PagableArc T) (Error × Uninserted T N) → PagerView N S E → Type 0 where
    value-has-no-room : (e : Error) (z : T) → e ≡ Error.OutOfMemory → z ≡ y
        → InsertsValue held t v old y (Err (e, Uninserted.Value z)) old
    value-is-inserted : (x : N) (h : HandleNumber) (a : PagableArc T) (new : PagerView N S E) → held x ≡ Some y
        → InsertsCell tells v old x (Ok h) new → RefersTo new h t a
        → InsertsValue held t v old y (Ok a) new
    insert-is-refused : (x : N) (refused : Error × Either N HandleNumber) (back : Uninserted T N)
        (new : PagerView N S E) → held x ≡ Some y → InsertsCell tells v old x (Err refused) new
        → GivesBack back refused.1
        → InsertsValue held t v old y (Err (refused.0, back)) new
    node-is-of-another-type : (x : N) (h : HandleNumber) (e : Error) (new : PagerView N S E) → held x ≡ Some y
        → InsertsCell tells v old x (Ok h) new → RefusesReference (pager_core tells new) h t e
        → InsertsValue held t v old y (Err (e, Uninserted.Handle h)) new

  -- a loose reference to the cell of a key: the cached one, or a new one
  pub data OpensValue {T : Type 0} (t : ℕ) (old : PagerView N S E) (key : ℕ) : Result (PagableArc T) Error
      → PagerView N S E → Type 0 where
    cell-is-refused : (e : Error) (new : PagerView N S E) → OpensCell tells old (loose_kind t) t key (Err e) new
        → OpensValue t old key (Err e) new
    cell-is-open : (h : HandleNumber) (a : PagableArc T) (new : PagerView N S E)
        → OpensCell tells old (loose_kind t) t key (Ok h) new → RefersTo new h t a
        → OpensValue t old key (Ok a) new
    cell-is-of-another-type : (h : HandleNumber) (e : Error) (told : Result (Unit {0}) Error)
        (mid new : PagerView N S E) → OpensCell tells old (loose_kind t) t key (Ok h) mid
        → RefusesReference (pager_core tells mid) h t e → Releases tells mid h told new
        → OpensValue t old key (Err e) new

  -- A reference of the same kind to the same node, by a clone of the handle; `named` is how a reference is seen. One of
  -- another kind isn't made, and the clone is released.
  pub data MakesReference {R : Type 0} (named : R → ArcRef) (old : PagerView N S E) (r : ArcRef) : Result R Error
      → PagerView N S E → Type 0 where
    clone-is-refused : (e : Error) (new : PagerView N S E) → Clones tells old r.handle (Err e) new
        → MakesReference named old r (Err e) new
    reference-is-made : (a : R) (c : HandleNumber) (new : PagerView N S E) → Clones tells old r.handle (Ok c) new
        → named a ≡ record r { handle = c }
        → MakesReference named old r (Ok a) new
    kind-is-another : (c : HandleNumber) (told : Result (Unit {0}) Error) (mid new : PagerView N S E)
        → Clones tells old r.handle (Ok c) mid → Releases tells mid c told new
        → MakesReference named old r (Err Error.WrongKind) new

  -- The cell of the reference's handle is pinned by a clone, and the value is the one that its node holds; or the new
  -- pin is released.
  pub data PinsValue {T : Type 0} {sort : ℕ} (held : N → Option T) (says : E → Values N) (old : PagerView N S E)
      (r : ArcRef) : Result (HoldingArc T sort) Error → PagerView N S E → Type 0 where
    pin-is-refused : (e : Error) (new : PagerView N S E) → Follows tells says old r.handle (Err e) new
        → PinsValue held says old r (Err e) new
    value-is-pinned : (x : N) (k : HandleNumber) (p : HoldingArc T sort) (new : PagerView N S E)
        → Follows tells says old r.handle (Ok (k, x)) new → p.handle ≡ k → p.node ≡ r.node
        → held x ≡ Some (arc_value p.value)
        → PinsValue held says old r (Ok p) new
    value-is-lacking : (x : N) (k : HandleNumber) (e : Error) (told : Result (Unit {0}) Error)
        (mid new : PagerView N S E) → Follows tells says old r.handle (Ok (k, x)) mid → LacksValue held x e
        → Releases tells mid k told new
        → PinsValue held says old r (Err e) new

  -- the value is shown while a pin of its own holds it
  pub data LooksAtValue {T : Type 0} (held : N → Option T) (says : E → Values N) (old : PagerView N S E)
      (r : ArcRef) {Y : Type 0} (Shows : T → Y → Type 0) : Result Y Error → PagerView N S E → Type 0 where
    look-is-refused : {sort : ℕ} (e : Error) (new : PagerView N S E)
        → PinsValue {sort = sort} held says old r (Err e) new
        → LooksAtValue held says old r Shows (Err e) new
    value-is-shown : {sort : ℕ} (p : HoldingArc T sort) (k : HandleNumber) (y : Y) (mid new : PagerView N S E)
        → PinsValue held says old r (Ok p) mid → Shows (arc_value p.value) y → k ≡ p.handle
        → Releases tells mid k (Ok tt) new
        → LooksAtValue held says old r Shows (Ok y) new
    cell-is-not-listed : {sort : ℕ} (p : HoldingArc T sort) (k : HandleNumber) (y : Y) (e : Error)
        (mid new : PagerView N S E) → PinsValue held says old r (Ok p) mid → Shows (arc_value p.value) y → k ≡ p.handle
        → Releases tells mid k (Err e) new
        → LooksAtValue held says old r Shows (Err e) new
