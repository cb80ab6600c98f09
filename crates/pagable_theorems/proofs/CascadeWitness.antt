-- The least closed set of handles exists; which handles are released with a value of two levels; and what unpinning a single cell does.
use Rattle.pagable_pager_spec.specs.{
  Calls.{row_of, with_mode},
  Cascade.{Falls, IsClosed, IsLeast, IsWithin, is_outside, loses_value, nobody, owned_outside},
  Kinds.{is_at, is_pin},
}
use Rattle.pagable_theorems.proofs.{
  Trees.{at-most-sum, counted, one-small, one-true, same-number, sum-le, sum-plus, sum-zero},
  Words.{Among, Blob, Bool, HandleRow, Last, List, Mode, Ok, Option, Owner, and_parts, ap, arith, basics, cases_lt, false, false_from_ne_true, find_row, held},
  Words.{inl, inr, is_owned_by, is_owner, is_pinning, length, not, one, owner_value, pins, refl, suc, sum_by-cons, sym, true, zero, ℕ, [], ◌&&◌, ◌+◌, ◌<◌},
  Words.{◌==◌, ◌||◌, ◌∙◌, ◌∷◌, ◌≡◌, ◌≤◌},
}
use Rattle.pagable_theorems.specs.SmallWorlds.{OwnsNothing, ReleaseLaws, first, first_node, lone, lone_listed, lone_unlisted, two_rows}
use Rattle.std.proofs.{Common.sum_by, lemmas.List.Sums.length-filter}
use Rattle.std.specs.Prelude.{nat_lt}

-- 1 for a handle outside the set; one that the node's value owns; and one of the one set and not of the other
abbrev outside : (ℕ → Bool) → HandleRow → ℕ
outside s h = one (is_outside s h)

abbrev owned_out : (ℕ → Bool) → ℕ → HandleRow → ℕ
owned_out s n h = one (is_owned_by (owner_value n) h && is_outside s h)

abbrev only_in : (ℕ → Bool) → (ℕ → Bool) → HandleRow → ℕ
only_in s t h = one (s h.number.0 && not (t h.number.0))

-- whether the owner is a value that goes
abbrev owner_goes : (ℕ → Bool) → Owner → Bool
owner_goes lost (Owner.Value m) = lost m.0
owner_goes lost _ = false

-- 1 for a handle with the number q that such a value owns
abbrev follows : (ℕ → Bool) → ℕ → HandleRow → ℕ
follows lost q h = one (h.number.0 == q && owner_goes lost h.owner)

owned-by : (lost : ℕ → Bool) (n : ℕ) (o : Owner) → is_owner (owner_value n) o ≡ true → lost n ≡ true → owner_goes lost o ≡ true
owned-by lost n x2 is goes = grind basics

owner-of : (lost : ℕ → Bool) (o : Owner) → owner_goes lost o ≡ true → (n : ℕ) × (is_owner (owner_value n) o ≡ true) × (lost n ≡ true)
owner-of lost x1 goes = grind basics

module _ (rows : List HandleRow) (keyed : ℕ → Bool) (entries : List HandleRow) where
  abbrev lost : (ℕ → Bool) → ℕ → Bool
  lost s n = loses_value rows keyed entries s n

  -- the set, and what follows from it
  abbrev more : (ℕ → Bool) → ℕ → Bool
  more s q = s q || nat_lt 0 (sum_by (follows (lost s) q) rows)

  -- a handle that a value owns that goes is in the greater set
  comes : (s : ℕ → Bool) (h : HandleRow) (n : ℕ) → Among rows h → is_owner (owner_value n) h.owner ≡ true → lost s n ≡ true → more s h.number.0 ≡ true
  comes s h n among is goes = grind (basics, owned-by (lost s) n h.owner is goes, at-most-sum (follows (lost s) h.number.0) rows h among)

  -- where no more follows, the set is closed
  closed-if : (s : ℕ → Bool) → sum_by (outside s) rows ≤ sum_by (outside (more s)) rows → IsClosed rows keyed entries s
  closed-if s same n goes =
      let a = sum-le (λ h. owned_out s n h + outside (more s) h) (outside s) rows (λ h among. grind (basics, comes)) in
      let b = sum-plus (owned_out s n) (outside (more s)) rows in omega arith

  -- what is in the one set is in the other
  pub inside : (s t : ℕ → Bool) (h : HandleRow) → IsWithin rows s t → Among rows h → s h.number.0 ≡ true → t h.number.0 ≡ true
  inside s t h within among is = grind (basics, at-most-sum (only_in s t) rows h among)

  -- a value that goes with fewer handles goes with more
  pub wider : (s t : ℕ → Bool) (n : ℕ) → IsWithin rows s t → lost s n ≡ true → lost t n ≡ true
  wider s t n within goes =
      let pins = sum-le (λ h. one (is_pin n h && is_outside t h)) (λ h. one (is_pin n h && is_outside s h)) rows
      (λ h among. grind (basics, at-most-sum (only_in s t) rows h among)) in
      let handles = sum-le (λ h. one (is_at n h && is_outside t h)) (λ h. one (is_at n h && is_outside s h)) rows
      (λ h among. grind (basics, at-most-sum (only_in s t) rows h among)) in
      grind basics

  -- what isn't given, and is owned by no value that goes, doesn't fall
  module _ (given gone stay : ℕ → Bool) (least : IsLeast rows keyed entries given gone)
      (free : (h : HandleRow) → Among rows h → given h.number.0 ≡ true → stay h.number.0 ≡ false)
      (apart : (n : ℕ) (h : HandleRow) → Among rows h → is_owner (owner_value n) h.owner ≡ true → lost gone n ≡ true → stay h.number.0 ≡ false) where
    abbrev but : ℕ → Bool
    but q = gone q && not (stay q)

    pub outlast : (h : HandleRow) → Among rows h → stay h.number.0 ≡ true → gone h.number.0 ≡ false
    outlast h among is =
        let holds = sum-zero (only_in given but) rows
        (λ h among. grind (basics, inside given gone h least.holds among, free h among)) in
        let closed : IsClosed rows keyed entries but = λ n goes.
        let lost_too = wider but gone n (sum-zero (only_in but gone) rows (λ h among. grind basics)) goes in
        sum-zero (owned_out but n) rows (λ h among.
        let f : is_owner (owner_value n) h.owner ≡ true → stay h.number.0 ≡ false = λ e. apart n h among e lost_too in
        grind (basics, f, at-most-sum (owned_out gone n) rows h among)) in
        false_from_ne_true (gone h.number.0) (λ e. grind (basics, inside gone but h (least.least but holds closed) among e))

  -- what follows is in each closed set
  stays : (s t : ℕ → Bool) → IsWithin rows s t → IsClosed rows keyed entries t → IsWithin rows (more s) t
  stays s t within closed =
      let of-value : (h x : HandleRow) → Among rows x → x.number.0 ≡ h.number.0 → (n : ℕ) × (is_owner (owner_value n) x.owner ≡ true) × (lost s n ≡ true)
      → t h.number.0 ≡ true =
      λ h x among number (n, is, goes).
      let none : sum_by (owned_out t n) rows ≡ 0 = closed n (wider s t n within goes) in
      let at : owned_out t n x ≤ sum_by (owned_out t n) rows = at-most-sum (owned_out t n) rows x among in
      let it : t x.number.0 ≡ true = grind basics in sym (ap t number) ∙ it in
      let owned : (h : HandleRow) → Among rows h → 0 < sum_by (follows (lost s) h.number.0) rows → t h.number.0 ≡ true = λ h among some.
      grind (basics, one-true, of-value, same-number, owner-of, counted (follows (lost s) h.number.0) rows some) in
      sum-zero (only_in (more s) t) rows (λ h among. grind (basics, inside s t h within among, owned h among))

  -- a set that is in each closed one is the least once it is closed itself; until then it grows
  grows : (given : ℕ → Bool) (k : ℕ) (s : ℕ → Bool) → sum_by (outside s) rows ≤ k → IsWithin rows given s
      → ((t : ℕ → Bool) → IsWithin rows given t → IsClosed rows keyed entries t → IsWithin rows s t)
      → (s : ℕ → Bool) × IsLeast rows keyed entries given s
  grows given zero s few holds least = (s, record { holds = holds; closed = closed-if s (omega arith); least = least })
  grows given (suc k) s few holds least = elim (cases_lt (sum_by (outside (more s)) rows) (sum_by (outside s) rows)) [
    | inl fewer ↦ grows given k (more s) (omega arith)
        (sum-zero (only_in given (more s)) rows (λ h among. grind (basics, at-most-sum (only_in given s) rows h among)))
        (λ t h c. stays s t (least t h c) c)
    | inr enough ↦ (s, record { holds = holds; closed = closed-if s (omega arith); least = least })
  ]

  pub within-self : (given : ℕ → Bool) → IsWithin rows given given
  within-self given = sum-zero (only_in given given) rows (λ h among. grind basics)

  least_is_one : (given s t : ℕ → Bool) (h : HandleRow) → IsLeast rows keyed entries given s → IsLeast rows keyed entries given t → Among rows h
      → s h.number.0 ≡ t h.number.0
  least_is_one given s t h a b among = grind (
    basics,
    inside s t h (a.least t b.holds b.closed) among,
    inside t s h (b.least s a.holds a.closed) among,
  )

-- so the given handles are the least set, and no more fall
given-least : (rows : List HandleRow) (keyed : ℕ → Bool) (entries : List HandleRow) (given : ℕ → Bool) → OwnsNothing rows
    → IsLeast rows keyed entries given given
given-least rows keyed entries given nothing =
    let closed : IsClosed rows keyed entries given = λ n goes. let none : sum_by (λ h. one (is_owner (owner_value n) h.owner)) rows ≡ 0 =
    nothing n in grind (basics, and_parts, sum-le) in
    search (within-self rows keyed entries given, closed)

pub and-false : (b : Bool) → one (b && false) ≡ 0
and-false x0 = grind basics

-- ---- small worlds, and all laws of what falls

fell : (stored : ℕ → Option Blob) → Falls (lone stored) (with_mode (lone stored) first Mode.LooseUnpinned) nobody (Ok tt) (lone_listed stored)
fell stored = record {
  gone = nobody;
  entries = row_of 2 first_node Mode.LooseUnpinned Owner.List ∷ [];
  set = given-least _ _ _ nobody (omega arith);
  new = (refl, refl, refl, tt);
  only = λ n some. ((grind (basics, first)), (grind basics));
  each = λ n must. inl (grind basics);
  tells = record { all = λ n must. grind basics; not_all = tt };
  within = omega arith;
  leaves = grind basics;
}

pub fall_laws : ReleaseLaws
unfolding find_row
fall_laws = record {
  least_set_is_there = λ rows keyed entries given. grows rows keyed entries given (sum_by (outside given) rows) given (omega arith)
      (within-self rows keyed entries given) (λ t holds closed. holds);
  least_set_is_one = least_is_one;
  given_fall_alone = λ rows keyed entries given s h nothing least among. least_is_one rows keyed entries given s given h least
      (given-least rows keyed entries given nothing) among;
  pins_are_a_filter = λ n rows. sym (length-filter (λ (h : HandleRow). h.node.0 == n && is_pinning h.mode) rows);
  two_levels_fall = record {
    holds = refl;
    closed = grind (basics, and-false);
    least = λ t holds closed. let f : owned_outside two_rows t 1 ≡ 0 = closed 1 (grind basics) in omega arith;
  };
  not_less = λ least. absurd (omega (arith, least.closed 1 refl));
  lone_is_listed = λ stored. record {
    does = inr (
      row_of 1 first_node Mode.LoosePinned Owner.Caller,
      record { live = refl; own = refl; as_asked = refl },
      inr (refl, fell stored),
    );
  };
  not_unlisted = λ stored call. elim call.does [
    | inl refused ↦ absurd (cc)
    | inr (row, own, inl (is, told, alike)) ↦ let pins_are : pins 1 (lone_unlisted stored).rows ≡ pins 1 (lone stored).rows =
        ap (pins 1) alike.rows in absurd (omega arith)
    | inr (row, own, inr (is, falls)) ↦
        let last : 1 ≡ 1 + length falls.entries = ap (λ (l : Last). l.handle) falls.leaves.last in
        let few : held 1 falls.entries ≤ length falls.entries = grind (basics, sum_by-cons, one-small) in
        absurd (omega arith)
  ];
}
