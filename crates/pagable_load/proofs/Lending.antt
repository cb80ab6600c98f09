-- What the references that a load got lend, one after the other, and what a new pin shares.
use Rattle.pagable_load.proofs.LoadSteps.{tells_map}
use Rattle.pagable_load.specs.{
  AccessView.IfKnown,
  PinStart.{Shares, SharesPinned},
  ResolvedReferences.{AreLoose, AreStandIns, Lends, LendsEach, lent_at, stand_in},
}
use Rattle.pagable_pager_spec.specs.{Pager.{PagerState, ValueCall}, Refusals.live_fault, World.row_at}
use Rattle.pagable_value_spec.specs.declared.{error.Error.Error, numbers.{ArcRef.ArcRef, HandleNumber.HandleNumber}}
use Rattle.std.proofs.{
  Common.{Err, List, None, Ok, Option, Result, Some, ap, arith, inl, inr, length, refl, rules, slice_get, subst, suc, sym, zero, ℕ, [], ◌++◌, ◌+◌, ◌-◌, ◌<◌},
  Common.{◌∷◌, ◌≡◌, ◌≢◌, ◌≤◌, ◌⊎◌},
  lemmas.{Bool.Decides.nat_tests, Grind.common_steps, List.length-append, Option.{slice_get_past, slice_get_within}},
}
use Rattle.std.specs.{Option.option_map, Prelude.{IfOk, IsSome}}

-- ---- what the references that were got lend, one after the other

module _ {A N E : Type 0} (see : A → N) (s : PagerState N E) where
  -- a share is refused, and not since memory is wanting
  pub not_shared : (r : ArcRef) (e : Error) → Shares see s r.handle (Err e) → e ≢ Error.OutOfMemory → Lends s r None
  not_shared r e h other = first_of (grind (arith, common_steps, nat_tests), search (rules))

-- what a new pin shares, and why it may not
module _ {A N E : Type 0} (see : A → N) (s : PagerState N E) (k : HandleNumber) where
  pub shares-value : (y : A) → Shares see s k (Ok (Some y)) → SharesPinned see s k (Ok y)
  shares-value y h = grind (arith, nat_tests, common_steps)

  pub shares-nothing : (e : Error) → Shares see s k (Ok None) → SharesPinned see s k (Err e)
  shares-nothing e h = grind (arith, nat_tests, common_steps)

  pub shares-not : (e : Error) → Shares see s k (Err e) → SharesPinned see s k (Err e)
  shares-not e h = grind (arith, nat_tests, common_steps)

pub ruleset pinning = (nat_tests, tells_map, shares-value, shares-nothing, shares-not)

-- what stands at a place once one more came
pushed_at : {X : Type 0} (xs : List X) (y : X) (k : ℕ) → k < length xs + 1
    → ((k < length xs) × (slice_get (xs ++ y ∷ []) k ≡ slice_get xs k)) ⊎ ((k ≡ length xs) × (slice_get (xs ++ y ∷ []) k ≡ Some y))
pushed_at [] y zero less = inr (refl, refl)
pushed_at [] y (suc k) less = absurd (omega (arith, less))
pushed_at (x ∷ xs) y zero less = inl (omega arith, refl)
pushed_at (x ∷ xs) y (suc k) less = elim (pushed_at xs y k (omega (arith, less)))
    [ inl (l, is) ↦ inl (omega (arith, l), is) | inr (l, is) ↦ inr (ap suc l, is) ]

-- what stands at a place of two lists, one behind the other
joined_at : {X : Type 0} (xs ys : List X) (k : ℕ) (x : X) → slice_get (xs ++ ys) k ≡ Some x → (slice_get xs k ≡ Some x)
    ⊎ ((slice_get ys (k - length xs) ≡ Some x) × (length xs ≤ k))
joined_at [] ys k x at = inr (let e : k - 0 ≡ k = omega arith in rw e at, omega arith)
joined_at (y ∷ xs) ys zero x at = inl at
joined_at (y ∷ xs) ys (suc k) x at = elim (joined_at xs ys k x at) [
  | inl here ↦ inl here
  | inr (there, past) ↦ inr (let e : suc k - suc (length xs) ≡ k - length xs = omega arith in rw e there, omega (arith, past))
]

-- of the handle of what stands for references nothing is lent
unlent_like : {N E : Type 0} (s : PagerState N E) (r : ArcRef) → r.handle.0 ≡ 0 → Lends s (stand_in 0) None → Lends s r None
unlent_like s r is nobody =
    let same : r.handle ≡ (stand_in 0).handle = ap (λ n. let h : HandleNumber = record { 0 = n } in h) is in
    record {
      value = tt;
      none = elim nobody.none [
        | inl eager ↦ absurd (cc)
        | inr other ↦ inr (subst (λ h. ValueCall s h (Ok None) ⊎ IsSome (live_fault (row_at s.core h))) (sym same) other)
      ];
    }

module _ {A N E : Type 0} (see : A → N) (s : PagerState N E) (got : List ArcRef) where
  -- those before this place lend theirs
  abbrev pub LentTo : ℕ → List (Option A) → Type 0
  LentTo i lent = (place : ℕ) (r : ArcRef) → place < i → slice_get got place ≡ Some r → Lends s r (lent_at see lent place)

  -- none is read together with its value
  pub none_lent : AreLoose (length got) got → LendsEach see s got []
  none_lent later = grind (arith, nat_tests, slice_get_within, slice_get)

  pub more_lent : (i : ℕ) (r : ArcRef) (lent : List (Option A)) (o : Option A) → length lent ≡ i → slice_get got i ≡ Some r → LentTo i lent
      → Lends s r (option_map see o) → LentTo (i + 1) (lent ++ o ∷ [])
  more_lent i r lent o same here to lends = grind (arith, nat_tests, pushed_at)

  -- all of them do
  pub all_lent : (i : ℕ) (lent : List (Option A)) → length got ≤ i → length lent ≤ length got → LentTo i lent → LendsEach see s got lent
  all_lent i lent past few to = grind (arith, nat_tests, slice_get_within)

  -- what stands for references that weren't got lends nothing
  pub more_unlent : (more : List ArcRef) (lent : List (Option A)) → LendsEach see s got lent → Lends s (stand_in 0) None → AreStandIns (length more) more
      → LendsEach see s (got ++ more) lent
  more_unlent more lent lends nobody stand = record { each = each; few = omega (arith, lends.few, length-append got more) }
    where
      each : (place : ℕ) (r : ArcRef) → slice_get (got ++ more) place ≡ Some r → Lends s r (lent_at see lent place)
      each place r at = elim (joined_at got more place r at) [
        | inl here ↦ lends.each place r here
        | inr (there, past) ↦ let none : slice_get lent place ≡ None = slice_get_past lent place (omega (arith, lends.few, past)) in
            let within = slice_get_within more (place - length got) r there in
            let unlent = unlent_like s r (stand (place - length got) r within there) nobody in
            rw none unlent
      ]

-- a row of what was got and of what stands for more
pub lends_row : {A N E : Type 0} (see : A → N) (s : PagerState N E) (got noted row : List ArcRef) (lent lent' : List (Option A)) → row ≡ got ++ noted → lent'
    ≡ lent → LendsEach see s got lent
    → (found : Option A) → found ≡ None → (r : ArcRef) → r ≡ stand_in 0 → Lends s r (option_map see found) → AreStandIns (length noted) noted
    → LendsEach see s row lent'
lends_row see s got noted row lent lent' is same lends found none r at nobody stand =
    let nothing = subst (λ x. Lends s x None) at (subst (λ f. Lends s r (option_map see f)) none nobody) in
    rw (is, same) (more_unlent see s got noted lent lends nothing stand)

-- what is said of an answer is so of what was answered
pub lent_so : {S X : Type 0} (P : S → X → Type 0) {o : Option S} (r : Result X Error) (x : X) → r ≡ Ok x → IfKnown o (λ s. IfOk r (λ y. P s y))
    → IfKnown o (λ s. P s x)
lent_so P {o} r x is h = subst (λ q. IfKnown o (λ s. IfOk q (λ y. P s y))) is h

pub ruleset sharing = (nat_tests, tells_map, not_shared)
