-- What a decoded value holds beside its references is what their handles pin, since nothing else was lent.
use Rattle.pagable_load.proofs.LoadSteps.{tells_all, tells_map}
use Rattle.pagable_load.specs.{AccessView.IfKnown, ResolvedReferences.{Lends, LendsEach, lent_at, lent_by, lent_there}}
use Rattle.pagable_pager_spec.specs.{Pager.{HoldsPinned, PagerState, ValueCall}, World.Values}
use Rattle.pagable_value_spec.specs.{
  Cursor.{HoldsLentValues, InputState, IsOnlyLent},
  declared.{error.Error.Error, numbers.{ArcRef.ArcRef, HandleNumber.HandleNumber}},
}
use Rattle.std.proofs.{Common.{Err, List, None, Ok, Option, Result, Some, ap, arith, slice_get, subst, sym, ℕ, ◌∙◌, ◌≡◌}, lemmas.Bool.Decides.nat_tests}
use Rattle.std.specs.{Option.option_map, Prelude.{IfOk, option_and_then}}

parts : {X Y : Type 0} (o : Option X) (p : Option Y) (q : X × Y) → option_and_then {U = X × Y} (λ a. option_map (λ b. (a, b)) p) o ≡ Some q → (o ≡ Some q.0)
    × (p ≡ Some q.1)
parts {X} {Y} (Some a) (Some b) q e = (ap (λ (c : Option (X × Y)). option_map (λ d. d.0) c) e, ap (λ (c : Option (X × Y)). option_map (λ d. d.1) c) e)
parts (Some a) None q e = absurd cc
parts None p q e = absurd cc

-- what is lent by a reference stands at its place
module _ {A N : Type 0} (see : A → N) (got : List ArcRef) (lent : List (Option A)) (place : ℕ) (r : ArcRef) (y : N)
    (lends : lent_by see got lent place r ≡ Some y) where
  pub lent_is : slice_get got place ≡ Some r → lent_there see got lent place ≡ Some (r, y)
  lent_is found = grind (arith, nat_tests)

  pub none_is : slice_get got place ≡ None → lent_there see got lent place ≡ Some (r, y)
  none_is none = grind (arith, nat_tests)

module _ {A N E : Type 0} (see : A → N) (got : List ArcRef) (lent : List (Option A)) (st : InputState N) (stands : st.lent ≡ lent_there see got lent) where
  one-value : (s : PagerState N E) (h : HandleNumber) (y z : N) → ValueCall s h (Ok (Some y)) → ValueCall s h (Ok (Some z)) → z ≡ y
  one-value s h y z c d =
      let p = c.found in
      let q = d.found in
      grind (arith, nat_tests)

  pinned-of : (s : PagerState N E) (r : ArcRef) (o : Option N) (z : N) → o ≡ Some z → Lends s r o → ValueCall s r.handle (Ok (Some z))
  pinned-of s r (Some x) z is l = let same : x ≡ z = cc in subst (λ w. ValueCall s r.handle (Ok (Some w))) same l.value.1
  pinned-of s r None z is l = absurd cc

  only : (s : PagerState N E) → LendsEach see s got lent → (r : ArcRef) (y : N) → ValueCall s r.handle (Ok (Some y)) → IsOnlyLent st r y
  only s lends r y value place z at =
      let there = parts (slice_get got place) (lent_at see lent place) (r, z) (ap (λ f. f place) (sym stands) ∙ at) in
      one-value s r.handle y z value (pinned-of s r (lent_at see lent place) z there.1 (lends.each place r there.0))

  pub read_holds : (v : Values N) (told : Option (PagerState N E)) (r : Result N Error) → IfKnown told (λ s. LendsEach see s got lent)
      → IfOk r (HoldsLentValues st v.beside) → IfKnown told (λ s. IfOk r (HoldsPinned v s))
  read_holds v told (Ok x) lends holds = tells_map (λ s each. record { each = λ r y value. holds.each r y (only s each r y value) }) lends
  read_holds v told (Err e) lends holds = tells_all (λ s. tt)
