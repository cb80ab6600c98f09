-- The live rows after a place changes, and how a binary search finds one.
use Rattle.pagable_tables.proofs.{
  Counting.{left-none, ones},
  Words.{All-push, All-set, AllPairs, AreSound, HandleRow, Handles, IsBefore, IsNext, List, None, Place, Some, alive, all_pairs_push, ap, arith, basics},
  Words.{cases_eq, changed, false, filter, find_row, get_or, get_or-set_at, get_or-set_other, get_or_default, get_or_from_slice_get, if◌then◌else◌, is_handle},
  Words.{is_live_place, left_rows, length, length-append, length-set, live, one, or_else, refl, set, slice_get, slice_get-get_or, slice_get_within, subst, suc},
  Words.{sum_by, sum_by-cons, sum_by-le-sum_by, sum_by-set, sym, take, times, true, zero, ℕ, [], ◌++◌, ◌+◌, ◌<◌, ◌==◌, ◌∙◌, ◌∷◌, ◌≡◌, ◌≤◌, ◌⊎◌},
}
use Rattle.pagable_tables.specs.HandleTable.{AreCounted}
use Rattle.std.proofs.lemmas.List.{get_or-take, length-take-le}
use Rattle.std.specs.Prelude.{Err, IsOk, Ok, Result, is_ok}

-- ---- the live rows after a place changes, and how halving finds one

pub live-filter : (ss : List Place) → live (filter is_live_place ss) ≡ live ss
live-filter [] = refl
live-filter (s ∷ ss) = grind (basics, live-filter ss)

pub length-live-filter : (ss : List Place) → length (filter is_live_place ss) ≡ length (live ss)
length-live-filter [] = refl
length-live-filter (s ∷ ss) = grind (basics, length-live-filter ss)

pub length-live-le : (ss : List Place) → length (live ss) ≤ length ss
length-live-le [] = omega arith
length-live-le (s ∷ ss) = grind (basics, length-live-le ss)

pub take-dead : (ss : List Place) (n : ℕ) (d : Place) → n < length ss → (get_or ss n d).is_live ≡ false → live (take (suc n) ss) ≡ live (take n ss)
take-dead [] n d within dead = absurd (omega arith)
take-dead (s ∷ ss) zero d within dead = grind basics
take-dead (s ∷ ss) (suc n) d within dead = grind (basics, take-dead ss n d (omega arith) dead)

pub pairs-take : (n : ℕ) (ss : List Place) → n ≤ length ss → AllPairs IsBefore ss → AllPairs IsBefore (take n ss)
pairs-take n ss within ordered i j d less lt = grind (basics, cases_eq, length-take-le, get_or-take)

-- what a place weighs
abbrev pub weigh : (HandleRow → ℕ) → Place → ℕ
weigh f s = if s.is_live then f s.row else 0

pub sum-live : (f : HandleRow → ℕ) (ss : List Place) → sum_by f (live ss) ≡ sum_by (weigh f) ss
sum-live f [] = refl
sum-live f (s ∷ ss) = grind (basics, sum-live f ss, sum_by-cons (weigh f) s ss, sum_by-cons f s.row (live ss))

pub live-append : (xs ys : List Place) → live (xs ++ ys) ≡ live xs ++ live ys
live-append [] ys = refl
live-append (s ∷ xs) ys = grind (basics, live-append xs ys)

-- where each place of the number is dead, no live row has it
pub none-live : (q : ℕ) (ss : List Place) → ((k : ℕ) (d : Place) → k < length ss → (get_or ss k d).row.number.0 ≡ q → (get_or ss k d).is_live ≡ false)
    → find_row q (live ss) ≡ None
unfolding find_row
none-live q [] h = refl
none-live q (s ∷ ss) h = let a = h 0 s (omega arith) in grind (basics, none-live q ss (λ k d lt e. h (suc k) d (omega arith) e))

pub none-found : (q : ℕ) (rows : List HandleRow) → find_row q rows ≡ None → sum_by (λ h. one (is_handle q h)) rows ≡ 0
unfolding find_row
none-found q [] e = refl
none-found q (h ∷ hs) e = grind (basics, none-found q hs)

pub found-append : (q : ℕ) (rows more : List HandleRow) → find_row q (rows ++ more) ≡ or_else (find_row q rows) (find_row q more)
unfolding find_row
found-append q [] more = refl
found-append q (x ∷ xs) more = grind (basics, found-append q xs more)

-- what is done to the rows of one number, where the rows before and after have others
changed-none : (q : ℕ) (f : HandleRow → HandleRow) (xs : List HandleRow) → times (is_handle q) xs ≡ 0 → changed (is_handle q) f xs ≡ xs
changed-none q f [] none = refl
changed-none q f (x ∷ xs) none = grind (basics, changed-none q f xs, sum_by-cons (λ h. one (is_handle q h)) x xs)

-- A live place has the one row of its number: it is left out where the place is killed, changed where what is done to rows of the number is done to it, and found.
pub at-place : (ss : List Place) (i : ℕ) (row : HandleRow) → AllPairs IsBefore ss → slice_get ss i ≡ Some (alive row)
    → (live (set ss i (record { row = row; is_live = false })) ≡ left_rows (λ n. n == row.number.0) (live ss))
    × ((f : HandleRow → HandleRow) → live (set ss i (alive (f row))) ≡ changed (is_handle row.number.0) f (live ss))
    × (find_row row.number.0 (live ss) ≡ Some row)
unfolding find_row
at-place [] i row ordered at = absurd (cc)
at-place (s ∷ ss) zero row ordered at =
    let same : s ≡ alive row = cc in
    let number = ap (λ (p : Place). p.row.number.0) same in
    let none : times (is_handle row.number.0) (live ss) ≡ 0 =
    none-found row.number.0 (live ss) (none-live row.number.0 ss (λ k d lt e. let o = ordered 0 (suc k) d (omega arith) (omega arith) in absurd (omega arith)))
    in
    (grind (basics, left-none row.number.0 (live ss) none), λ f. grind (basics, changed-none), grind basics)
at-place (s ∷ ss) (suc i) row ordered at =
    let (kill, change, find) = at-place ss i row (λ j k d less lt. ordered (suc j) (suc k) d (omega arith) (omega arith)) at in
    let lt = slice_get_within ss i (alive row) at in
    let less = ordered 0 (suc i) (alive row) (omega arith) (omega arith) in (
      grind (basics, get_or_from_slice_get),
      λ f. grind (basics, get_or_from_slice_get, change f),
      grind (basics, get_or_from_slice_get),
    )

pub changed-known : (ss : List Place) (i : ℕ) (row : HandleRow) → AllPairs IsBefore ss → slice_get ss i ≡ Some (alive row) → (f : HandleRow → HandleRow)
    → changed (is_handle row.number.0) (λ _. f row) (live ss) ≡ changed (is_handle row.number.0) f (live ss)
changed-known ss i row ordered at f = let p = at-place ss i row ordered at in sym (p.1 (λ _. f row)) ∙ p.1 f

pub sum-live-set : (f : HandleRow → ℕ) (ss : List Place) (i : ℕ) (row : HandleRow) (new : Place) → slice_get ss i ≡ Some (alive row)
    → sum_by f (live (set ss i new)) + f row ≡ sum_by f (live ss) + weigh f new
sum-live-set f ss i row new at =
    grind (
      arith,
      get_or_from_slice_get ss i (alive row) (alive row) at,
      sum_by-set (weigh f) ss i new (alive row) (slice_get_within ss i (alive row) at),
      sum-live f,
    )

pub row-le-live : (f : HandleRow → ℕ) (ss : List Place) (i : ℕ) (row : HandleRow) → slice_get ss i ≡ Some (alive row) → f row ≤ sum_by f (live ss)
row-le-live f ss i row at = omega (arith, sum-live-set f ss i row (record { row = row; is_live = false }) at)

pub length-live-set : (ss : List Place) (i : ℕ) (row : HandleRow) (new : Place) → slice_get ss i ≡ Some (alive row) → length (live (set ss i new)) + 1
    ≡ length (live ss) + one new.is_live
length-live-set ss i row new at = omega (arith, sum-live-set (λ _. 1) ss i row new at, ones (live ss), ones (live (set ss i new)))

-- from a place on all numbers are greater, where that at the place is
pub above-from : (ss : List Place) (i number k : ℕ) (d e : Place) → AllPairs IsBefore ss → number < (get_or ss i e).row.number.0 → i ≤ k → k < length ss
    → number < (get_or ss k d).row.number.0
above-from ss i number k d e ordered at low within =
    let next = ordered i k d in
    grind (basics, cases_eq i k, ap (λ x. x.row.number.0) (get_or_default ss i e d (omega arith)))

pub row-got : (ss : List Place) (i : ℕ) (p : Place) (q : ℕ) → AllPairs IsBefore ss → slice_get ss i ≡ Some p → p.is_live ≡ true → p.row.number.0 ≡ q
    → find_row q (live ss) ≡ Some p.row
row-got ss i p q ordered at is number = subst (λ n. find_row n (live ss) ≡ Some p.row) number
    (at-place ss i _ ordered (at ∙ ap (λ b. Some (record { row = p.row; is_live = b })) is)).2

pub next-set : (q : ℕ) (ss : List Place) (i : ℕ) (row : HandleRow) (new : Place) → slice_get ss i ≡ Some (alive row) → new.row.number.0 ≡ row.number.0
    → IsNext q ss → IsNext q (set ss i new)
next-set q ss i row new at same next =
    All-set (λ s. s.row.number.0 < q) ss i new (grind (
      arith,
      slice_get_within ss i (alive row) at,
      get_or_from_slice_get ss i (alive row) new at,
      next i new,
    )) next

sum-without : (q : ℕ) (rows : List HandleRow) → sum_by (λ h. one (is_handle q h)) (left_rows (λ n. n == q) rows) ≡ 0
sum-without q [] = refl
sum-without q (h ∷ hs) = grind (basics, sum-without q hs)

-- a number is used once, so what weighs only at the number weighs at its row alone
pub only-row : (f : HandleRow → ℕ) (ss : List Place) (i : ℕ) (row : HandleRow) → AllPairs IsBefore ss → slice_get ss i ≡ Some (alive row)
    → ((h : HandleRow) → f h ≤ one (is_handle row.number.0 h)) → sum_by f (live ss) ≡ f row
only-row f ss i row ordered at less = grind (
  basics,
  sum_by-le-sum_by,
  ap (sum_by f) (at-place ss i row ordered at).0,
  sum-without row.number.0 (live ss),
  sum-live-set,
)

pub le_or_lt : (a b : ℕ) → (a ≤ b) ⊎ (b < a)
le_or_lt a b = grind arith

-- places are in order and counted after one of them changes
pub sound-set : (old new : Handles) (i : ℕ) (row : HandleRow) (p : Place) → AreSound old → slice_get old.places.items i ≡ Some (alive row) → p.row.number.0
    ≡ row.number.0
    → new.places.items ≡ set old.places.items i p → new.dead + one p.is_live ≡ old.dead + 1 → AreCounted new
sound-set old new i row p sound at same is dead = grind (
  basics,
  cases_eq,
  get_or-set_at,
  slice_get_within,
  get_or_from_slice_get,
  get_or-set_other,
  length-set,
  sound.ordered,
  length-live-set,
)

-- and no more of them are dead than before, where it stays live
pub sound-kept : (old new : Handles) (i : ℕ) (row : HandleRow) (p : Place) → AreSound old → slice_get old.places.items i ≡ Some (alive row) → p.row.number.0
    ≡ row.number.0
    → new.places.items ≡ set old.places.items i p → p.is_live ≡ true → new.dead ≡ old.dead → AreSound new
sound-kept old new i row p sound at same is lives dead =
    let s = sound-set old new i row p sound at same is (omega (arith, ap one lives)) in
    let few : new.dead ≤ length (live new.places.items) =
    omega (arith, ap one lives, length-live-set old.places.items i row p at, ap (λ ps. length (live ps)) is) in
    record { ordered = s.ordered; counted = s.counted; few = few }

pub ordered-push : (ss : List Place) (row : HandleRow) → AllPairs IsBefore ss → IsNext row.number.0 ss → AllPairs IsBefore (ss ++ alive row ∷ [])
ordered-push ss row ordered next = all_pairs_push IsBefore ss (alive row) ordered next

pub next-push : (ss : List Place) (row : HandleRow) → IsNext row.number.0 ss → IsNext (row.number.0 + 1) (ss ++ alive row ∷ [])
next-push ss row next = All-push (λ s. s.row.number.0 < row.number.0 + 1) ss (alive row) (λ k d lt. omega (arith, next k d lt)) (omega arith)

pub sound-push : (old new : Handles) (row : HandleRow) → AreSound old → IsNext row.number.0 old.places.items → new.places.items ≡ old.places.items ++ alive row
    ∷ [] → new.dead ≡ old.dead → AreSound new
sound-push old new row sound next is dead =
    let rows : length (live new.places.items) ≡ length (live old.places.items) + 1 =
    ap (λ ps. length (live ps)) is ∙ ap length (live-append old.places.items (alive row ∷ [])) ∙ length-append (live old.places.items) (row ∷ []) in
    let places = ap length is ∙ length-append old.places.items (alive row ∷ []) in
    record {
      ordered = rw is (ordered-push _ row sound.ordered next);
      counted = omega arith;
      few = omega arith;
    }

-- what is so where a call succeeds, where it did
pub ok-then : {T E X : Type 0} {x z : X} (y : X) (r : Result T E) → IsOk r → z ≡ (if is_ok r then x else y) → z ≡ x
ok-then y (Ok t) is e = e
ok-then y (Err f) is e = absurd cc

pub ruleset ends = (basics, length-live-le, length-take-le, pairs-take)

pub ruleset looks = (basics, cases_eq, le_or_lt, none-live, row-got, slice_get-get_or)

pub ruleset places = (basics, sum-live-set)

pub ruleset pushes = (basics, ordered-push, next-push, live-append, length-append)
