-- When the rows of loads take note of more handles, nothing else changes, so the core is the same.
use Rattle.pagable_tables.proofs.{
  HandleTable.le_or_lt,
  OwnedByLoad.none-passes,
  SameViews.owner-same,
  Words.{Bool, Core, HandleRow, IndexMap, List, LoadNumber, LoadRow, None, NumberTable, Option, OwnLaterHandles, Owner, Place, Some, Tables, ap, arith, basics},
  Words.{cases_Bool, cases_eq, core_alone, core_of, false, get_or, inl, inr, is_owned_by, is_owned_in, is_owner, length, live, load_at, load_in, option_map},
  Words.{owner_worker, passes_in, refl, subst, sym, true, ℕ, ◌+◌, ◌<◌, ◌∙◌, ◌≡◌, ◌≤◌},
}
use Rattle.pagable_tables.specs.Core.{AreNoted, AreRaised, Does, DoesAndDropsValues, IsOwnedAbove, Notes, Raised, StorageView}

pub raised-same : (o : Option LoadRow) → Raised o o
raised-same None = tt
raised-same (Some row) = (refl, omega arith)

pub raised-then : (a b c : Option LoadRow) → Raised a b → Raised b c → Raised a c
raised-then a b c one two = grind basics

-- what stands there stood there before
pub raised-from : (o o' : Option LoadRow) (row : LoadRow) → Raised o o' → o' ≡ Some row → (old : LoadRow) × (o ≡ Some old)
    × (row ≡ record old { last = row.last }) × (old.last ≤ row.last)
raised-from None None row r is = absurd (cc)
raised-from None (Some new) row r is = absurd r
raised-from (Some old) None row r is = absurd r
raised-from (Some old) (Some new) row r is = let same : new ≡ row = cc in
    (old, refl, rw same at r.0, rw same at r.1)

raised-load : (o o' : Option LoadRow) → Raised o o' → option_map load_in o' ≡ option_map load_in o
raised-load None None r = refl
raised-load None (Some new) r = absurd r
raised-load (Some old) None r = absurd r
raised-load (Some old) (Some new) r = ap (λ x. Some (load_in x)) r.0

module _ (t t' : Tables) (same : t' ≡ record t { loads = t'.loads; noted = t'.noted }) (raised : AreRaised t.loads t'.loads) (storage : StorageView) where
  pub core-same : core_of t' storage ≡ core_of t storage
  core-same = ap (λ u. core_of u storage) same ∙ (λ i. record
      (core_of t storage) { loads = λ l. raised-load _ _ (raised l) i })

-- what the rows tell of places, once more is told
module _ {S : Type 0} (old new : IndexMap ℕ LoadRow S) (places : List Place) (number : ℕ) (raised : AreRaised old new) where
  pub told-on : (i : ℕ) → AreNoted old places number i → ((l : LoadNumber) (row : LoadRow) (d : Place) → load_at new l.0 ≡ Some row
      → (get_or places i d).row.owner ≡ Owner.Load l
      → (get_or places i d).row.number.0 ≤ row.last) → AreNoted new places number (i + 1)
  told-on i told here l row k d at less above own =
      let (was, is, same, more) = raised-from _ _ row (raised l.0) at in
      let before = λ (lt : k < i). told l was k d is lt above own in
      grind (basics, cases_eq k i, here l row d at)

-- the last handle that a load owns above a number is told by its row
noted-last : (places : List Place) (l : LoadNumber) (row : LoadRow) (q number : ℕ)
    → ((k : ℕ) (d : Place) → k < length places → number < (get_or places k d).row.number.0
    → (get_or places k d).row.owner ≡ Owner.Load l → (get_or places k d).row.number.0 ≤ row.last) → number < q
    → passes_in (is_owned_by (Owner.Load l)) (live places) q ≡ true → q ≤ row.last
noted-last places l row q number told above own = elim (le_or_lt q _) [
  | inl le ↦ le
  | inr lt ↦ absurd (let none : passes_in (is_owned_by (Owner.Load l)) (live places) q
      ≡ false = none-passes (is_owned_by (Owner.Load l)) q _ (λ k d within is lives.
      let x : HandleRow = (get_or places k d).row in
      elim (cases_Bool (is_owned_by (Owner.Load l) x)) [
        | inl mine ↦ absurd (omega (arith, told k d within (omega arith) (owner-same (Owner.Load l) x.owner mine)))
        | inr other ↦ other
      ]) in cc)
]

pub noted-later : (t t' : Tables) → t' ≡ record t { loads = t'.loads; noted = t'.noted } → AreRaised t.loads t'.loads → t'.noted ≡ t.ref_counts.last_handle
    → AreNoted t'.loads t.ref_counts.handles.places.items t.noted (length t.ref_counts.handles.places.items) → OwnLaterHandles t → OwnLaterHandles t'
noted-later t t' same raised noted told later =
    let from = λ (l : ℕ) (load : LoadRow) (at : load_at t'.loads l ≡ Some load). raised-from _ _ _ (raised l) at in
    let after : OwnLaterHandles (record t { loads = t'.loads; noted = t'.noted }) = record {
      given = λ l load at. let (old, was, is, more) = from l load at in omega (arith, ap (λ x. x.since) is, later.given l old was);
      since = λ l load q at own. let (old, was, is, more) = from l load at in let since = ap (λ x. x.since) is in
          omega (arith, later.since l old q was own);
      begun = later.begun;
      reach = later.reach;
      loads = λ v l load at mine.
          let (old, was, is, more) = from l load at in
          omega (arith, ap (λ x. x.since) is, later.loads v l old was (sym (ap (λ x. is_owner (owner_worker v) x.owner) is) ∙ mine));
      noted = omega arith;
      until = λ l load q at own le.
          let (old, was, is, more) = from l load at in
          elim (le_or_lt q _) [
            | inl low ↦ (omega (arith, later.until l old q was own low))
            | inr high ↦ noted-last _ (record { 0 = l }) load q _
                (λ k d within above owner. told (record { 0 = l }) load k d at within above owner) high own
          ];
    } in
    subst OwnLaterHandles (sym same) after

-- the same handles are owned
pub above-noted : {t t1 : Tables} (l : LoadNumber) (since : ℕ) → Notes t t1 → IsOwnedAbove t l since → IsOwnedAbove t1 l since
above-noted l since n above q own = above q (sym (ap (λ u. is_owned_in (core_alone u) (Owner.Load l) q) n.same) ∙ own)

-- what is done to the tables that tell more is done to those that tell less
pub noted-does : {t t1 t2 : Tables} {step : Core → Core → Type 0} → Notes t t1 → Does t1 step t2 → Does t step t2
noted-does {t} {t1} {t2} {step} n d = record {
  does = λ storage. rw (core-same t t1 n.same n.rows storage) at (d.does storage);
  whole = d.whole;
  later = λ later. d.later n.later;
}

pub noted-release_at : {X : Type 0} {lists : Bool} {t t1 t2 : Tables} {values values' : NumberTable X} {step : Core → Core → Type 0} → Notes t t1
    → DoesAndDropsValues lists t1 values step t2 values' → DoesAndDropsValues lists t values step t2 values'
noted-release_at {lists = lists} {t} {t1} {t2} {values} {values'} {step} n d = record {
  does = λ storage open_still. rw (core-same t t1 n.same n.rows storage) at (d.does storage open_still);
  whole = d.whole;
  later = λ later. d.later n.later;
  drops = rw (ap (λ u. u.ref_counts) n.same) at d.drops;
}
