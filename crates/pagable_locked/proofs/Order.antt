-- The items of each worker, and the results in the order of all items.
use Rattle.pagable_locked.specs.Answers.{AnswersEach, items_of}
use Rattle.std.proofs.{
  Common.{Bool, List, ap, arith, drop, false, get_or, if◌then◌else◌, length, refl, set, subst, suc, sym, take, true, zero, ℕ, [], ◌%◌, ◌++◌, ◌+◌, ◌<◌, ◌==◌},
  Common.{◌∙◌, ◌∷◌, ◌≡◌},
  lemmas.{Bool.Decides.nat_tests, List.{drop_more, get_or-set_other, get_or-set_same, length-take-le, take_more}, Nat.mod_below},
}

module _ {X K : Type 0} (P : X → K → Type 0) where
  module _ (n w : ℕ) where
    -- one item more at the end
    pub worker-hit : (i : ℕ) (xs : List X) (x : X) → ((i + length xs) % n == w) ≡ true → items_of n w i (xs ++ x ∷ []) ≡ items_of n w i xs ++ x ∷ []
    worker-hit i [] x h = grind (arith, nat_tests)
    worker-hit i (y ∷ ys) x h = let m = worker-hit (i + 1) ys x (ap (λ k. k % n == w) (omega arith) ∙ h) in grind (arith, nat_tests, m)

    pub worker-miss : (i : ℕ) (xs : List X) (x : X) → ((i + length xs) % n == w) ≡ false → items_of n w i (xs ++ x ∷ []) ≡ items_of n w i xs
    worker-miss i [] x h = grind (arith, nat_tests)
    worker-miss i (y ∷ ys) x h = let m = worker-miss (i + 1) ys x (ap (λ k. k % n == w) (omega arith) ∙ h) in grind (arith, nat_tests, m)

  pub keyed-more : (xs : List X) (rs : List K) (x : X) (r : K) → AnswersEach P xs rs → P x r → AnswersEach P (xs ++ x ∷ []) (rs ++ r ∷ [])
  keyed-more [] [] x r h k = (k, tt)
  keyed-more [] (s ∷ ss) x r h k = absurd h
  keyed-more (y ∷ ys) [] x r h k = absurd h
  keyed-more (y ∷ ys) (s ∷ ss) x r h k = (h.0, keyed-more ys ss x r h.1 k)

  pub some-item : (items : List X) (i : ℕ) → i < length items → X
  some-item [] i lt = absurd (omega arith)
  some-item (x ∷ xs) i lt = x

  module _ (n w : ℕ) (items : List X) (i : ℕ) (lt : i < length items) where
    pub step-hit : (x d : X) (keys : List K) (r : K) → (i % n == w) ≡ true → x ≡ get_or items i d → AnswersEach P (items_of n w 0 (take i items)) keys → P x r
        → AnswersEach P (items_of n w 0 (take (i + 1) items)) (keys ++ r ∷ [])
    step-hit x d keys r hit is h k =
        let more = worker-hit n w 0 (take i items) x (ap (λ k. k % n == w) (omega (arith, length-take-le i items (omega (arith, lt)))) ∙ hit) in
        subst (λ xs. AnswersEach P (items_of n w 0 xs) (keys ++ r ∷ [])) (sym (take_more items i d lt ∙ ap (λ z. take i items ++ z ∷ []) (sym is)))
        (subst (λ ys. AnswersEach P ys (keys ++ r ∷ [])) (sym more) (keyed-more (items_of n w 0 (take i items)) keys x r h k))

    pub step-miss : (keys : List K) → (i % n == w) ≡ false → AnswersEach P (items_of n w 0 (take i items)) keys
        → AnswersEach P (items_of n w 0 (take (i + 1) items)) keys
    step-miss keys miss h =
        let d = some-item items i lt in
        let more = worker-miss n w 0 (take i items) (get_or items i d) (ap (λ k. k % n == w) (omega (arith, length-take-le i items (omega (arith, lt))))
        ∙ miss) in
        subst (λ xs. AnswersEach P (items_of n w 0 xs) keys) (sym (take_more items i d lt)) (subst (λ ys. AnswersEach P ys keys) (sym more) h)

    -- what falls to each worker from here on: the first of it is this item's, if it is its turn
    pub next-hit : (d : X) → (i % n == w) ≡ true → items_of n w i (drop i items) ≡ get_or items i d ∷ items_of n w (i + 1) (drop (i + 1) items)
    next-hit d hit = ap (items_of n w i) (drop_more items i d lt) ∙ ap (λ b. if b then get_or items i d
        ∷ items_of n w (i + 1) (drop (i + 1) items) else items_of n w (i + 1) (drop (i + 1) items)) hit

    pub next-miss : (d : X) → (i % n == w) ≡ false → items_of n w i (drop i items) ≡ items_of n w (i + 1) (drop (i + 1) items)
    next-miss d miss = ap (items_of n w i) (drop_more items i d lt) ∙ ap
        (λ b. if b then get_or items i d ∷ items_of n w (i + 1) (drop (i + 1) items) else items_of n w (i + 1) (drop (i + 1) items)) miss

  -- an answer is taken from the list of the worker whose turn it is
  module _ {Q : Type 0} (see : Q → List K) (n : ℕ) (items : List X) (i : ℕ) (lt : i < length items) (lists : List Q) where
    turn-is : (i % n == i % n) ≡ true
    turn-is = grind (arith, nat_tests)

    is-turn : (w : ℕ) → (i % n == w) ≡ true → w ≡ i % n
    is-turn w e = grind (arith, nat_tests)

    no-turn : (w : ℕ) → (i % n == w) ≡ false → w ≡ i % n → ⊥
    no-turn w e same = grind (arith, nat_tests)

    pub popped : (q : Q) (k : K) (d : Q) → see (get_or lists (i % n) d) ≡ k ∷ see q
        → AnswersEach P (items_of n (i % n) i (drop i items)) (see (get_or lists (i % n) d))
        → P (get_or items i (some-item items i lt)) k × AnswersEach P (items_of n (i % n) (i + 1) (drop (i + 1) items)) (see q)
    popped q k d is h =
        subst (λ xs. AnswersEach P xs (k ∷ see q)) (next-hit n (i % n) items i lt (some-item items i lt) turn-is)
        (subst (AnswersEach P (items_of n (i % n) i (drop i items))) is h)

    module _ (q : Q) (k : K) (d : Q) (within : i % n < length lists) (is : see (get_or lists (i % n) d) ≡ k ∷ see q)
        (each : (w : ℕ) (d : Q) → w < n → AnswersEach P (items_of n w i (drop i items)) (see (get_or lists w d))) (some : 0 < n) where
      rest-by : (w : ℕ) (e : Q) → w < n → (b : Bool) → (i % n == w) ≡ b → AnswersEach P (items_of n w (i + 1) (drop (i + 1) items))
          (see (get_or (set lists (i % n) q) w e))
      rest-by w e lw true turn =
          let same = is-turn w turn in
          subst (λ u. AnswersEach P (items_of n u (i + 1) (drop (i + 1) items)) (see (get_or (set lists (i % n) q) u e))) (sym same)
          (subst (λ x. AnswersEach P (items_of n (i % n) (i + 1) (drop (i + 1) items)) (see x)) (sym (get_or-set_same lists (i % n) q e within))
          (popped q k d is (each (i % n) d (mod_below i n some))).1)
      rest-by w e lw false turn =
          subst (λ x. AnswersEach P (items_of n w (i + 1) (drop (i + 1) items)) (see x)) (sym (get_or-set_other lists (i % n) w q e (no-turn w turn)))
          (subst (λ xs. AnswersEach P xs (see (get_or lists w e))) (next-miss n w items i lt (some-item items i lt) turn) (each w e lw))

      pub rest-keyed : (w : ℕ) (e : Q) → w < n → AnswersEach P (items_of n w (i + 1) (drop (i + 1) items)) (see (get_or (set lists (i % n) q) w e))
      rest-keyed w e lw = rest-by w e lw (i % n == w) refl

      pub more-keyed : (keys : List K) → AnswersEach P (take i items) keys → AnswersEach P (take (i + 1) items) (keys ++ k ∷ [])
      more-keyed keys h =
          let x = some-item items i lt in
          subst (λ xs. AnswersEach P xs (keys ++ k ∷ [])) (sym (take_more items i x lt))
          (keyed-more (take i items) keys (get_or items i x) k h (popped q k d is (each (i % n) d (mod_below i n some))).0)

    -- no list is empty when its worker's turn comes
    pub not-empty : (d : Q) → see (get_or lists (i % n) d) ≡ [] → ((w : ℕ) (d : Q) → w < n
        → AnswersEach P (items_of n w i (drop i items)) (see (get_or lists w d))) → 0 < n → ⊥
    not-empty d is each some =
        subst (λ xs. AnswersEach P xs []) (next-hit n (i % n) items i lt (some-item items i lt) turn-is)
        (subst (AnswersEach P (items_of n (i % n) i (drop i items))) is (each (i % n) d (mod_below i n some)))

-- one more end of a worker was taken
pub drop-next : {X : Type 0} (xs : List X) (k : ℕ) (x : X) (rest : List X) → drop k xs ≡ x ∷ rest → (rest ≡ drop (k + 1) xs) × (k < length xs)
    × ((d : X) → get_or xs k d ≡ x)
drop-next [] zero x rest h = absurd (cc)
drop-next [] (suc k) x rest h = absurd (cc)
drop-next (y ∷ ys) zero x rest h = (cc, omega arith, λ d. cc)
drop-next (y ∷ ys) (suc k) x rest h = let m = drop-next ys k x rest h in let e : suc (k + 1) ≡ suc k + 1 =
    omega arith in (m.0 ∙ ap (λ j. drop j (y ∷ ys)) e, omega (arith, m.1), m.2)

-- one entry more at the end
module _ {Q : Type 0} where
  snoc-at : (P : ℕ → Q → Type 0) (xs : List Q) (x : Q) → ((i : ℕ) (d : Q) → i < length xs → P i (get_or xs i d)) → P (length xs) x → (i : ℕ) (d : Q)
      → i < length (xs ++ x ∷ []) → P i (get_or (xs ++ x ∷ []) i d)
  snoc-at P [] x h k zero d lt = k
  snoc-at P [] x h k (suc i) d lt = absurd (omega (arith, lt))
  snoc-at P (y ∷ ys) x h k zero d lt = h zero d (omega arith)
  snoc-at P (y ∷ ys) x h k (suc i) d lt = snoc-at (λ j. P (suc j)) ys x (λ j e l. h (suc j) e (omega (arith, l))) k i d (omega (arith, lt))

  pub snoc-each : (P : ℕ → Q → Type 0) (xs ys : List Q) (x : Q) (n m : ℕ) → ys ≡ xs ++ x ∷ [] → n ≡ length xs → m ≡ length ys
      → ((i : ℕ) (d : Q) → i < n → P i (get_or xs i d)) → P n x → (i : ℕ) (d : Q) → i < m → P i (get_or ys i d)
  snoc-each P xs ys x n m is count more h k i d lt =
      subst (λ zs. P i (get_or zs i d)) (sym is) (snoc-at P xs x (λ j e l. h j e (omega (arith, l, count))) (subst (λ j. P j x) count k) i d
      (let e = ap length is in omega (arith, lt, more, e)))
