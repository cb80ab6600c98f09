-- Lists that hold the same items in another order.
-- Entries that are put in order of their keys: those with different keys may come in any order.
-- Maps in no order: what putting in, writing and reading their entries gives, in whatever order they stand.
use Rattle.pagable_traits.proofs.{
  Items.{Wraps, sequence-same},
  Maps.{Alike, EntriesMean, EntryMeans, IsSameOf, alike-more, alike-none, differ, entries-mean, entries-of-pairs, entries-written, entry-more},
  Maps.{forms-of-entries, pairs-of-entries, reads-entries, same-entries},
  Words.{AllAfter, Apart, ArcRef, Bool, Collected, Context, Differ, Entries, Entry, Error, FormAt, FormsAt, GivesSome, IsDistinct, IsPermutation, IsTotalOrder},
  Words.{List, Meaning, Means, MeansPair, Nesting, None, Option, Ordering, PutInTurn, Rest, Result, Shape, Some, ap, arith, both, counted, entry, false},
  Words.{get_or, insert_entry, is_eq, is_some, keys_of, kind_of_arc, length, length-map, length_form, longest, lookup, map, match_ordering, more-entries},
  Words.{of_entries, ordered, ordering_reverse, put_all, put_sorted, read, read_with, refl, same_key, set_value, subst, suc, sym, true, zero, ℕ, []},
  Words.{◌++◌, ◌<◌, ◌∙◌, ◌∷◌, ◌≡◌, ◌≤◌},
}
use Rattle.pagable_value_spec.specs.{
  CarriedTypes.of_hash_map,
  Form.hash-map-form,
  Hashed.{MeansHashMap, PutsAnywhere},
  Keys.{code, code_order},
  Meaning.plain,
  Shape.hash_map,
}
use Rattle.std.proofs.{Common.{MatchOption, set, swap}, lemmas.{List.{Edits.swap_is, Sorted.IsPermutation-keeps}, Map.Text.is_eq-slice_cmp}}
use Rattle.std.specs.Cmp.{Lexicographic.on_texts, alike_right}

-- one order is reached from the other by turning neighbours
pub data Reordered {X : Type 0} : List X → List X → Type 0 where
  no-items : Reordered [] []
  same-front : (x : X) (xs ys : List X) → Reordered xs ys → Reordered (x ∷ xs) (x ∷ ys)
  two-turned : (x y : X) (xs : List X) → Reordered (x ∷ y ∷ xs) (y ∷ x ∷ xs)
  and-then : (xs ys zs : List X) → Reordered xs ys → Reordered ys zs → Reordered xs zs

pub reordered-same : {X : Type 0} (xs : List X) → Reordered xs xs
reordered-same [] = no-items
reordered-same (x ∷ xs) = same-front x xs xs (reordered-same xs)

pub reordered-back : {X : Type 0} {xs ys : List X} → Reordered xs ys → Reordered ys xs
reordered-back no-items = no-items
reordered-back (same-front x xs ys h) = same-front x ys xs (reordered-back h)
reordered-back (two-turned x y xs) = two-turned y x xs
reordered-back (and-then xs ys zs h k) = and-then zs ys xs (reordered-back k) (reordered-back h)

pub reordered-length : {X : Type 0} {xs ys : List X} → Reordered xs ys → length xs ≡ length ys
reordered-length (same-front x xs ys h) = ap (λ (n : ℕ). suc n) (reordered-length h)
reordered-length (and-then xs ys zs h k) = reordered-length h ∙ reordered-length k
reordered-length _ = refl

-- ---- from the exchanges that std speaks of

-- the front changes places with a later item
front-set : {X : Type 0} (d y : X) (ys : List X) (k : ℕ) → k < length ys → Reordered (y ∷ ys) (get_or ys k d ∷ set ys k y)
front-set d y [] k lt = absurd (omega arith)
front-set d y (z ∷ zs) zero lt = two-turned y z zs
front-set d y (z ∷ zs) (suc k) lt =
    let x = get_or zs k d in
    and-then _ (z ∷ y ∷ zs) _ (two-turned y z zs) (and-then _ (z ∷ x ∷ set zs k y) _ (same-front z _ _ (front-set d y zs k (omega arith)))
    (two-turned z x (set zs k y)))

two-set : {X : Type 0} (d : X) (xs : List X) (i j : ℕ) → i < length xs → j < length xs → Reordered xs (set (set xs i (get_or xs j d)) j (get_or xs i d))
two-set d [] i j p q = absurd (omega arith)
two-set d (y ∷ ys) zero zero p q = reordered-same (y ∷ ys)
two-set d (y ∷ ys) zero (suc j) p q = front-set d y ys j (omega arith)
two-set d (y ∷ ys) (suc i) zero p q = front-set d y ys i (omega arith)
two-set d (y ∷ ys) (suc i) (suc j) p q = same-front y ys _ (two-set d ys i j (omega arith) (omega arith))

two-swapped : {X : Type 0} (xs : List X) (i j : ℕ) → i < length xs → j < length xs → Reordered xs (swap xs i j)
two-swapped [] i j p q = absurd (omega arith)
two-swapped (d ∷ ys) i j p q = rw (← swap_is (d ∷ ys) i j d p q) (two-set d (d ∷ ys) i j p q)

pub reordered : {X : Type 0} (xs ys : List X) → IsPermutation xs ys → Reordered xs ys
reordered xs ys = IsPermutation-keeps xs (λ zs. Reordered xs zs) (reordered-same xs) (λ l i j p q h. and-then xs l (swap l i j) h (two-swapped l i j p q)) ys

-- ---- what holds of each two items

pub after-reordered : {X : Type 0} (R : X → X → Type 0) (x : X) {xs ys : List X} → Reordered xs ys → AllAfter R x xs → AllAfter R x ys
unfolding AllAfter
after-reordered R x no-items h = tt
after-reordered R x (same-front y xs ys k) h = (h.0, after-reordered R x k h.1)
after-reordered R x (two-turned y z xs) h = (h.1.0, (h.0, h.1.1))
after-reordered R x (and-then xs ys zs k l) h = after-reordered R x l (after-reordered R x k h)

pub apart-reordered : {X : Type 0} (R : X → X → Type 0) → ((x y : X) → R x y → R y x) → {xs ys : List X} → Reordered xs ys → Apart R xs → Apart R ys
unfolding Apart AllAfter
apart-reordered R flips no-items h = tt
apart-reordered R flips (same-front x xs ys k) h = (after-reordered R x k h.0, apart-reordered R flips k h.1)
apart-reordered R flips (two-turned x y xs) h = ((flips _ _ h.0.0, h.1.0), (h.0.1, h.1.1))
apart-reordered R flips (and-then xs ys zs k l) h = apart-reordered R flips l (apart-reordered R flips k h)

equal-by : (o : Ordering) → is_eq o ≡ true → o ≡ Ordering.Equal
equal-by o e = grind arith

unequal-back : (o p : Ordering) → p ≡ ordering_reverse o → is_eq o ≡ false → is_eq p ≡ false
unequal-back o p e h = grind arith

above : {K : Type 0} (cmp : K → K → Ordering) → IsTotalOrder cmp → (a b : K) → cmp a b ≡ Ordering.Less → cmp b a ≡ Ordering.Greater
above cmp total a b lt = total.antisymm b a ∙ ap ordering_reverse lt

below : {K : Type 0} (cmp : K → K → Ordering) → IsTotalOrder cmp → (a b : K) → cmp a b ≡ Ordering.Greater → cmp b a ≡ Ordering.Less
below cmp total a b gt = total.antisymm b a ∙ ap ordering_reverse gt

-- where a test tells keys apart as the order does
module _ {K V : Type 0} (cmp : K → K → Ordering) (total : IsTotalOrder cmp) (same_as : K → K → Bool) (ties : (a b : K) → is_eq (cmp a b) ≡ same_as a b) where
  -- one more entry in its place
  abbrev pub put_key : List (K × V) → K × V → List (K × V)
  put_key es e = insert_entry cmp es e.0 e.1

  -- the keys are not the same
  abbrev pub OtherKey : K × V → K × V → Type 0
  OtherKey d e = same_as d.0 e.0 ≡ false

  abbrev pub in_order : List (K × V) → List (K × V)
  in_order es = put_all put_key [] es

  pub other-back : (d e : K × V) → OtherKey d e → OtherKey e d
  other-back d e h = sym (ties e.0 d.0) ∙ unequal-back (cmp d.0 e.0) (cmp e.0 d.0) (total.antisymm e.0 d.0) (ties d.0 e.0 ∙ h)

  -- ---- two entries with different keys

  turn-less : (acc : List (K × V)) (a b : K × V) → cmp a.0 b.0 ≡ Ordering.Less → put_key (put_key acc a) b ≡ put_key (put_key acc b) a
  turn-less [] a b lt = rw (lt, above cmp total a.0 b.0 lt) refl
  turn-less (y ∷ ys) a b lt = grind (arith, above, below, turn-less ys a b lt)

  turn : (acc : List (K × V)) (a b : K × V) → OtherKey a b → put_key (put_key acc a) b ≡ put_key (put_key acc b) a
  turn acc a b other = let apart : is_eq (cmp a.0 b.0) ≡ false = ties a.0 b.0 ∙ other in grind (arith, turn-less, below, apart)

  -- an entry may as well come after others
  pub put-late : (acc : List (K × V)) (e : K × V) (es : List (K × V)) → AllAfter OtherKey e es → put_all put_key (put_key acc e) es
      ≡ put_key (put_all put_key acc es) e
  unfolding put_all AllAfter
  put-late acc e [] other = refl
  put-late acc e (x ∷ xs) other = ap (λ (zs : List (K × V)). put_all put_key zs xs) (sym (turn acc x e other.0)) ∙ put-late (put_key acc x) e xs other.1

  pub any-order : {xs ys : List (K × V)} → Reordered xs ys → (acc : List (K × V)) → Apart OtherKey xs → put_all put_key acc xs ≡ put_all put_key acc ys
  unfolding put_all Apart AllAfter
  any-order no-items acc h = refl
  any-order (same-front x xs ys k) acc h = any-order k (put_key acc x) h.1
  any-order (two-turned x y xs) acc h = ap (λ (zs : List (K × V)). put_all put_key zs xs) (sym (turn acc y x h.0.0))
  any-order (and-then xs ys zs k l) acc h = any-order k acc h ∙ any-order l acc (apart-reordered OtherKey other-back k h)

  put-reordered : (es : List (K × V)) (e : K × V) → AllAfter OtherKey e es → Reordered (e ∷ es) (put_key es e)
  unfolding AllAfter
  put-reordered [] e other = reordered-same (e ∷ [])
  put-reordered (y ∷ ys) e other = by_case (put-reordered ys e other.1) (cmp e.0 y.0) refl
    where
      by_case : Reordered (e ∷ ys) (put_key ys e) → (o : Ordering) → cmp e.0 y.0 ≡ o
          → Reordered (e ∷ y ∷ ys) (match_ordering o ((e.0, e.1) ∷ y ∷ ys) ((y.0, e.1) ∷ ys) (y ∷ put_key ys e))
      by_case later Ordering.Less f = reordered-same (e ∷ y ∷ ys)
      by_case later Ordering.Equal f = let t : is_eq (cmp e.0 y.0) ≡ true = ap is_eq f in let u : is_eq (cmp e.0 y.0) ≡ false =
          ties e.0 y.0 ∙ other-back y e other.0 in cc
      by_case later Ordering.Greater f = and-then _ (y ∷ e ∷ ys) _ (two-turned e y ys) (same-front y _ _ later)

  -- entries with different keys are all there once they are put in order
  pub in-order-reordered : (es : List (K × V)) → Apart OtherKey es → Reordered es (in_order es)
  unfolding put_all Apart
  in-order-reordered [] h = no-items
  in-order-reordered (e ∷ es) h =
      let rest = in-order-reordered es h.1 in
      let moved : Reordered (e ∷ es) (put_key (in_order es) e) = and-then _ (e ∷ in_order es) _ (same-front e _ _ rest)
      (put-reordered (in_order es) e (after-reordered OtherKey e rest h.0)) in
      rw (put-late [] e es h.0) moved

  -- ---- a value that is replaced

  put-again : (acc : List (K × V)) (a : K × V) (k : K) (v : V) → cmp k a.0 ≡ Ordering.Equal → put_key (put_key acc a) (k, v) ≡ put_key acc (a.0, v)
  put-again [] a k v same = rw same refl
  put-again (y ∷ ys) a k v same = grind (arith, put-again ys a k v same)

  same-after : (k : K) (v : V) (y : K × V) → cmp k y.0 ≡ Ordering.Equal → (xs : List (K × V)) → AllAfter OtherKey y xs → AllAfter OtherKey (k, v) xs
  unfolding AllAfter
  same-after k v y same [] h = tt
  same-after k v y same (x ∷ xs) h = (sym (ties x.0 k) ∙ ap is_eq (alike_right total k y.0 x.0 same) ∙ ties x.0 y.0 ∙ h.0, same-after k v y same xs h.1)

  -- a replaced value is one that is put in later
  pub put-value : (test : K → Bool) (k : K) (v : V) → ((q : K) → is_eq (cmp k q) ≡ test q) → (acc es : List (K × V)) → Apart OtherKey es
      → is_some (lookup test es) ≡ true → put_all put_key acc (set_value test es v) ≡ put_key (put_all put_key acc es) (k, v)
  unfolding put_all Apart
  put-value test k v agrees acc [] apart found = cc
  put-value test k v agrees acc (y ∷ ys) apart found = by_case (put-value test k v agrees (put_key acc y) ys apart.1) (test y.0) refl
    where
      by_case : (is_some (lookup test ys) ≡ true → put_all put_key (put_key acc y) (set_value test ys v) ≡ put_key (put_all put_key (put_key acc y) ys) (k, v))
          → (b : Bool) → test y.0 ≡ b → put_all put_key acc (set_value test (y ∷ ys) v) ≡ put_key (put_all put_key acc (y ∷ ys)) (k, v)
      by_case rest true e =
          let same : cmp k y.0 ≡ Ordering.Equal = equal-by (cmp k y.0) (agrees y.0 ∙ e) in
          rw e (ap (λ (zs : List (K × V)). put_all put_key zs ys) (sym (put-again acc y k v same))
          ∙ put-late (put_key acc y) (k, v) ys (same-after k v y same ys apart.0))
      by_case rest false e = let later : is_some (lookup test ys) ≡ true = rw e at found in rw e (rest later)

-- the order in which a hash map's entries are put in its meaning, and that it tells the keys apart
abbrev of_keys : Meaning ArcRef → Meaning ArcRef → Ordering
of_keys = ordered code_order

total : IsTotalOrder of_keys
total = on_texts (λ (m : Meaning ArcRef). code (plain m))

ties-alike : (a b : Meaning ArcRef) → is_eq (of_keys a b) ≡ same_key a b
ties-alike a b = is_eq-slice_cmp (code (plain a)) (code (plain b))

-- ---- entries in another order mean the same, and their forms are those of the others in another order

alike-reordered : {X Y : Type 0} (P : X → Y → Type 0) {xs zs : List X} → Reordered xs zs → {ys : List Y} → Alike P xs ys → (ws : List Y) × Alike P zs ws
    × Reordered ys ws
alike-reordered P no-items alike-none = ([], alike-none, no-items)
alike-reordered P (same-front x xs zs k) (alike-more x2 y xs2 ys h t) = let r =
    alike-reordered P k t in (y ∷ r.0, alike-more x y zs r.0 h r.1, same-front y _ _ r.2)
alike-reordered P (two-turned x z xs) (alike-more x2 y xs2 ys h (alike-more z2 w xs3 ws g t)) =
    (w ∷ y ∷ ws, alike-more z w _ _ g (alike-more x y xs ws h t), two-turned y w ws)
alike-reordered P (and-then xs vs zs k l) h = let r = alike-reordered P k h in let s = alike-reordered P l r.1 in (s.0, s.1, and-then _ _ _ r.2 s.2)

entries-reordered : {parts : ℕ → Shape} {left : ℕ} {s t : Shape} {ds es : List (Entry ArcRef)} {b : List ℕ} {k : List ArcRef} → Reordered ds es
    → Entries ArcRef kind_of_arc parts left s t ds b k → (c : List ℕ) × (j : List ArcRef) × Entries ArcRef kind_of_arc parts left s t es c j
entries-reordered {b = b} {k = k} no-items f = (b, k, f)
entries-reordered (same-front x xs ys h) (more-entries d s t m n es b1 b2 c j1 j2 l f g rest) = let r =
    entries-reordered h rest in (_, _, more-entries d s t m n ys b1 b2 r.0 j1 j2 r.1 f g r.2)
entries-reordered (two-turned x y xs) (more-entries d s t m n es b1 b2 c j1 j2 l f g (more-entries d2 s2 t2 p q fs b3 b4 c2 j3 j4 l2 h i rest)) =
    (_, _, more-entries d s t p q _ b3 b4 _ j3 j4 _ h i (more-entries d s t m n fs b1 b2 c2 j1 j2 l2 f g rest))
entries-reordered (and-then xs ys zs h k) f = let r = entries-reordered h f in entries-reordered k r.2

-- a form of a map has a form of each entry, whatever their order
hash-map-parts : (n : Nesting) {s t : Shape} {m : Meaning ArcRef} {b : List ℕ} {k : List ArcRef} (es : List (Entry ArcRef)) → Differ es
    → FormAt n (hash_map s t) m b k → m ≡ of_hash_map es
    → (length es ≤ longest) × ((c : List ℕ) × (j : List ArcRef) × FormsAt n (both s t) (map entry es) c j)
hash-map-parts n es differs (hash-map-form l s t ds b k le apart f) e =
    let same : put_all (put_sorted code_order) [] ds ≡ put_all (put_sorted code_order) [] es = same-entries _ _ (sequence-same _ _ e) in
    let there = in-order-reordered of_keys total same_key ties-alike ds apart in
    let back = reordered-back (in-order-reordered of_keys total same_key ties-alike es differs) in
    let moved : Reordered ds es = and-then _ _ _ (rw same at there) back in
    let g = entries-reordered moved f in
    (rw (← reordered-length moved) le, (g.0, g.1, forms-of-entries g.2))

none-apart : (e : Entry ArcRef) (es : List (Entry ArcRef)) → is_some (lookup (same_key e.0) es) ≡ false
    → AllAfter (λ (d f : Entry ArcRef). same_key d.0 f.0 ≡ false) e es
unfolding AllAfter
none-apart e [] h = tt
none-apart e (f ∷ es) h = let back = other-back of_keys total same_key ties-alike e f in grind (arith, back, none-apart e es)

-- entries whose meaning, put in order, is this
record InOrder {K V : Type 0} (M : Means K) (N : Means V) (now : List (K × V)) (es : List (Entry ArcRef)) : Type 0 where
  fs : List (Entry ArcRef)
  mean : EntriesMean M N now fs
  is : put_all (put_sorted code_order) [] fs ≡ es

module _ {K V : Type 0} {M : Means K} (N : Means V) {eq : K → K → Bool} (like : IsSameOf M eq) where
  pub hash_maps_mean_alike : (xs ys : List (K × V)) (m : Meaning ArcRef) → IsDistinct eq (keys_of xs) → IsPermutation xs ys → MeansHashMap M N xs m
      → MeansHashMap M N ys m
  hash_maps_mean_alike xs ys m distinct moved means =
      let es = entries-of-pairs M N means.each in
      let r = alike-reordered (EntryMeans M N) (reordered xs ys moved) es.2 in
      record {
        es = r.0;
        each = pairs-of-entries M N r.1;
        is = means.is ∙ ap of_hash_map (same-entries means.es es.0 es.1)
            ∙ ap of_entries (any-order of_keys total same_key ties-alike r.2 [] (differ N like es.2 distinct));
      }

  -- ---- writing

  pub wraps_hash_map : {xs : List (K × V)} {n : Nesting} {s t : Shape} → IsDistinct eq (keys_of xs)
      → Wraps (MeansPair M N) xs (MeansHashMap M N xs) n (hash_map s t) (both s t)
  wraps_hash_map {xs} {n} {s} {t} distinct = record {
    joins = λ ms b k each le f.
        let w = entries-written M N each f in
        let form : FormAt n (hash_map s t) (of_hash_map w.es) (length_form (length ms) ++ b) k =
        rw w.long (hash-map-form _ s t w.es b k (rw (← w.long) le) (differ N like w.mean distinct) w.form) in
        (of_hash_map w.es, record { es = w.es; each = rw w.is at each; is = refl }, form);
    splits = λ ms each.
        let es = entries-of-pairs M N each in (
          of_hash_map es.0,
          record { es = es.0; each = rw es.1 at each; is = refl },
          λ b k f.
              let p = hash-map-parts n es.0 (differ N like es.2 distinct) f refl in
              let same : length ms ≡ length es.0 = ap (λ (xs : List (Meaning ArcRef)). length xs) es.1 ∙ length-map es.0 entry in
              (rw same p.0, (p.1.0, p.1.1, let Q : List (Meaning ArcRef) → Type 0 = λ xs. FormsAt n (both s t) xs p.1.0 p.1.1 in subst Q (sym es.1) p.1.2)),
        );
  }

  -- ---- putting in

  set-means : (x : K × V) (e : Entry ArcRef) → M x.0 e.0 → N x.1 e.1 → {xs : List (K × V)} {es : List (Entry ArcRef)} → EntriesMean M N xs es
      → EntriesMean M N (set_value (eq x.0) xs x.1) (set_value (same_key e.0) es e.1)
  set-means x e first second alike-none = alike-none
  set-means x e first second (alike-more y f xs es g t) = grind (arith, entry-more M N, set-means x e first second t)

  found-alike : (x : K) (e : Meaning ArcRef) → M x e → {xs : List (K × V)} {es : List (Entry ArcRef)} → EntriesMean M N xs es
      → is_some (lookup (same_key e) es) ≡ is_some (lookup (eq x) xs)
  found-alike x e first alike-none = refl
  found-alike x e first (alike-more y f xs es g t) = grind (arith, found-alike x e first t)

  -- one more entry is put in wherever it stands
  one-more : (xs ys : List (K × V)) (es : List (Entry ArcRef)) (x : K × V) (e : Entry ArcRef) → IsDistinct eq (keys_of xs) → EntriesMean M N xs es
      → M x.0 e.0 → N x.1 e.1 → PutsAnywhere eq xs x ys → InOrder M N ys (put_sorted code_order (put_all (put_sorted code_order) [] es) e)
  unfolding Apart put_all
  one-more xs ys es x e distinct mean first second puts = by_case (lookup (eq x.0) xs) refl puts.1
    where
      by_case : (o : Option V) → lookup (eq x.0) xs ≡ o → MatchOption o (IsPermutation (x ∷ xs) ys) (λ _. ys ≡ set_value (eq x.0) xs x.1)
          → InOrder M N ys (put_sorted code_order (put_all (put_sorted code_order) [] es) e)
      by_case None p moved =
          let r = alike-reordered (EntryMeans M N) (reordered (x ∷ xs) ys moved) (entry-more M N x e xs es first second mean) in
          let none : is_some (lookup (same_key e.0) es) ≡ false = found-alike x.0 e.0 first mean ∙ ap is_some p in
          let apart : Differ (e ∷ es) = (none-apart e es none, differ N like mean distinct) in
          record {
            fs = r.0;
            mean = r.1;
            is = sym (any-order of_keys total same_key ties-alike r.2 [] apart)
                ∙ put-late of_keys total same_key ties-alike [] e es apart.0;
          }
      by_case (Some v) p set =
          let found : is_some (lookup (same_key e.0) es) ≡ true = found-alike x.0 e.0 first mean ∙ ap is_some p in
          record {
            fs = set_value (same_key e.0) es e.1;
            mean = rw set (set-means x e first second mean);
            is = put-value of_keys total same_key ties-alike (same_key e.0) e.0 e.1 (λ q. ties-alike e.0 q) [] es (differ N like mean distinct) found;
          }

  -- and so are all
  all-more : (acc now : List (K × V)) (ds : List (Entry ArcRef)) {xs : List (K × V)} {es : List (Entry ArcRef)} → IsDistinct eq (keys_of acc)
      → EntriesMean M N acc ds → EntriesMean M N xs es → PutInTurn (λ old x new. PutsAnywhere eq old x new) acc xs now
      → InOrder M N now (put_all (put_sorted code_order) (put_all (put_sorted code_order) [] ds) es)
  unfolding PutInTurn put_all
  all-more acc now ds distinct mean alike-none same = record { fs = ds; mean = rw same mean; is = refl }
  all-more acc now ds distinct mean (alike-more x e xs es h t) turn =
      let one = one-more acc turn.0 ds x e distinct mean h.0 h.1 turn.1 in
      rw (← one.is) (all-more turn.0 now one.fs turn.1.0 one.mean t turn.2)

  -- ---- reading

  hash-map-put : (now : List (K × V)) (es : List (Entry ArcRef)) → Collected (MeansPair M N) (λ old x new. PutsAnywhere eq old x new) now (map entry es)
      → MeansHashMap M N now (of_hash_map es)
  unfolding IsDistinct put_all
  hash-map-put now es c =
      let put = all-more [] now [] tt alike-none (entries-mean M N es c.each) c.is in
      record { es = put.fs; each = pairs-of-entries M N put.mean; is = ap of_entries (sym put.is) }

  pub reads_hash_map : {X A : Type 0} (own : Error → Type 0) (r : Result X Error) (held : X → List (K × V)) (context : Context A ArcRef) (s t : Shape)
      (rest last : Rest A)
      → GivesSome own (λ x. Collected (MeansPair M N) (λ old y new. PutsAnywhere eq old y new) (held x)) last r (counted (read context (both s t)) rest)
      → GivesSome own (λ x. MeansHashMap M N (held x)) last r (read context (hash_map s t) rest)
  unfolding read read_with
  reads_hash_map own r held context s t rest last h = reads-entries own _ _ of_hash_map (λ x es p. hash-map-put (held x) es p) r context s t rest last h
