-- Elements of lists, counted, and rows by their numbers.
use Rattle.pagable_pager_spec.specs.{Basics.{Among, HandleRow}, Kinds.{find_row, is_handle}, Pager.IsHandleBefore}
use Rattle.std.proofs.{
  Common.{Bool, List, Some, arith, false, filter, if◌then◌else◌, inl, inr, map, refl, subst, suc, sum_by, true, zero, ℕ, [], ◌<◌, ◌∷◌, ◌≡◌, ◌≤◌},
  lemmas.{Bool.{Decides.nat_tests, cases_eq}, List.{Elements.{All-filter, filter_passes}, Sums.{get_or-le-sum_by, sum_by-cons}}},
  lemmas.Option.{get_or_from_slice_get, slice_get-get_or, slice_get_within},
}
use Rattle.std.specs.List.{AllPairs}

pub among-one : {X : Type 0} (x y : X) → Among (x ∷ []) y → y ≡ x
among-one x y x2 = grind (arith, nat_tests)

-- the element of a changed list was one before
pub among-map : {X : Type 0} (f : X → X) (xs : List X) (x : X) → Among (map f xs) x → (y : X) × Among xs y × (x ≡ f y)
among-map f (y ∷ ys) x (suc i, is) = let r = among-map f ys x (i, is) in (r.0, (suc r.1.0, r.1.1), r.2)
among-map f x1 x x3 = grind (arith, nat_tests)

-- what is left was there, and passes the test
pub among-left : {X : Type 0} (test : X → Bool) (xs : List X) (x : X) → Among (filter test xs) x → Among xs x × (test x ≡ true)
among-left test xs x (i, is) =
    let lt = slice_get_within (filter test xs) i x is in
    let there = All-filter test (λ y. Among xs y) xs (λ k d less. (k, slice_get-get_or xs k d less)) i x lt in
    subst (λ y. Among xs y × (test y ≡ true)) (get_or_from_slice_get (filter test xs) i x x is) (there, filter_passes test xs i x lt)

-- each element is part of the sum
pub at-most-sum : {X : Type 0} (f : X → ℕ) (xs : List X) (x : X) → Among xs x → f x ≤ sum_by f xs
at-most-sum f xs x (i, is) = subst (λ y. f y ≤ sum_by f xs) (get_or_from_slice_get xs i x x is) (get_or-le-sum_by f xs i x (slice_get_within xs i x is))

-- a sum above zero has an element that counts
pub counted : {X : Type 0} (f : X → ℕ) (xs : List X) → 0 < sum_by f xs → (x : X) × Among xs x × (0 < f x)
counted f [] some = absurd (omega arith)
counted f (x ∷ xs) some = elim (cases_eq (f x) 0) [
  | inl none ↦ let c = sum_by-cons f x xs in let r = counted f xs (omega arith) in (r.0, (suc r.1.0, r.1.1), r.2)
  | inr more ↦ (x, (zero, refl), omega arith)
]

-- nothing at each element, so in sum
pub sum-none : {X : Type 0} (f : X → ℕ) (xs : List X) → ((x : X) → Among xs x → f x ≡ 0) → sum_by f xs ≡ 0
sum-none f xs none = grind (arith, nat_tests, counted)

pub found-among : (q : ℕ) (rows : List HandleRow) (row : HandleRow) → find_row q rows ≡ Some row → Among rows row × (row.number.0 ≡ q)
unfolding find_row
found-among q [] row found = absurd (cc)
found-among q (h ∷ hs) row found = at (found-among q hs row) (is_handle q h) refl found
  where
    at : (find_row q hs ≡ Some row → Among hs row × (row.number.0 ≡ q)) → (b : Bool) → is_handle q h ≡ b → (if b then Some h else find_row q hs) ≡ Some row
        → Among (h ∷ hs) row × (row.number.0 ≡ q)
    at rest true is found = grind (arith, nat_tests)
    at rest false is found = let r = rest found in ((suc r.0.0, r.0.1), r.1)

-- one row has a number
pub once : (rows : List HandleRow) → AllPairs IsHandleBefore rows → (a b : HandleRow) → Among rows a → Among rows b → a.number.0 ≡ b.number.0 → a ≡ b
once rows ordered a b (i, at) (j, there) same =
    let p = ordered i j a in
    let q = ordered j i a in
    grind (
      arith,
      nat_tests,
      get_or_from_slice_get rows i a a at,
      get_or_from_slice_get rows j b a there,
      slice_get_within rows i a at,
      slice_get_within rows j b there,
      cases_eq i j,
    )
