-- The look-ups in a list of references that were got, and the values that a load lends to a blob's reader.
use Rattle.pagable_pager_spec.specs.{
  Basics.if_there,
  Loads.answer_of,
  Pager.{PagerState, ValueCall},
  Refusals.live_fault,
  World.row_at,
}
use Rattle.pagable_value_spec.specs.{
  Height.is_eager,
  Refusals.may_refuse_reference,
  declared.{error.Error.Error, numbers.ArcRef.ArcRef},
}
use Rattle.std.specs.{
  Option.option_map,
  Prelude.{Bool, Err, IfNone, IfSome, IsSome, List, None, Ok, Option, Result, Some, false, if◌then◌else◌, length},
  Prelude.{option_and_then, slice_get, true, ℕ, ◌<◌, ◌==◌, ◌≡◌, ◌≤◌, ◌⊎◌},
}

abbrev pub answer_at : List ArcRef → ℕ → ℕ → ℕ → Result ArcRef Error
answer_at got place key kind = answer_of (slice_get got place) kind

-- the value at a place of the list, which may be shorter than the list of references
abbrev pub lent_at : {A N : Type 0} → (A → N) → List (Option A) → ℕ → Option N
lent_at see lent place = option_map see (option_and_then (λ o. o) (slice_get lent place))

-- the value at this place, if the reference is the one there
abbrev pub lent_by : {A N : Type 0} → (A → N) → List ArcRef → List (Option A) → ℕ → ArcRef → Option N
lent_by see got lent place r = if if_there (λ (found : ArcRef). found.handle.0 == r.handle.0) false
    (slice_get got place) then lent_at see lent place else None

-- the reference that was got at this place with the value there, if both exist
abbrev pub lent_there : {A N : Type 0} → (A → N) → List ArcRef → List (Option A) → ℕ → Option (ArcRef × N)
lent_there see got lent place = option_and_then (λ r. option_map (λ x. (r, x)) (lent_at see lent place))
    (slice_get got place)

-- The value that the reference's handle pins, if the reference is loaded with its holder; none if it isn't, or if the
-- handle pins none or is gone.
pub record Lends {N E : Type 0} (s : PagerState N E) (r : ArcRef) (found : Option N) : Type 0 where
  pub value : IfSome found (λ x. (is_eager r.kind.0 ≡ true) × ValueCall s r.handle (Ok (Some x)))
  pub none : IfNone found ((is_eager r.kind.0 ≡ false) ⊎ ValueCall s r.handle (Ok None)
      ⊎ IsSome (live_fault (row_at s.core r.handle)))

-- none of the first `count` references is loaded with its holder
abbrev pub AreLoose : ℕ → List ArcRef → Type 0
AreLoose count got = (place : ℕ) (r : ArcRef) → place < count → slice_get got place ≡ Some r → is_eager r.kind.0 ≡ false

-- each reference lends its own value, by its place, and nothing else is lent
pub record LendsEach {A N E : Type 0} (see : A → N) (s : PagerState N E) (got : List ArcRef)
    (lent : List (Option A)) : Type 0 where
  pub each : (place : ℕ) (r : ArcRef) → slice_get got place ≡ Some r → Lends s r (lent_at see lent place)
  pub few : length lent ≤ length got

choice : (b : Bool) (r : ArcRef) (e : Error) → (if b then Ok r else Err Error.WrongKind) ≡ Err e
    → may_refuse_reference e ≡ true
choice true r e is = cc
choice false r e is = let same : e ≡ Error.WrongKind = cc in cc

pub may_refuse : (found : Option ArcRef) (kind : ℕ) (e : Error) → answer_of found kind ≡ Err e → may_refuse_reference e
    ≡ true
may_refuse None kind e is = let same : e ≡ Error.Storage kind = cc in cc
may_refuse (Some r) kind e is = choice (r.kind.0 == kind) r e is

abbrev pub stand_in : ℕ → ArcRef
stand_in kind = record { kind = record { 0 = kind }; node = record { 0 = 0 }; handle = record { 0 = 0 } }

-- the first `count` references are stand-ins
abbrev pub AreStandIns : ℕ → List ArcRef → Type 0
AreStandIns count got = (place : ℕ) (r : ArcRef) → place < count → slice_get got place ≡ Some r → r.handle.0 ≡ 0

-- what was got at a place; when references are noted, a stand-in for what wasn't got
abbrev pub found_or : Bool → Option ArcRef → ℕ → Option ArcRef
found_or false found kind = found
found_or true (Some r) kind = Some r
found_or true None kind = Some (stand_in kind)
