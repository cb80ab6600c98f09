-- Sums over the elements of a list, and what they count. And meanings that differ only in what stands for their references: the bytes of a form of the one are
-- a form of the other. So the entries of a hash map may stand in any order; and chains join.
use Rattle.pagable_pager_spec.specs.Order.{Follows}
use Rattle.pagable_theorems.proofs.{
  Words.{Action, Among, AreMoments, Blob, Bool, Entries, Entry, Form, Forms, List, MachineState, Meaning, Moment, None, Option, ReadsTree, Seen, Shape, Tree},
  Words.{Types, WalkDoes, WorkerState, ap, arith, basics, code, cond, false, followed, inl, inr, length, map, none, one, pair, put_all, reference},
  Words.{reference-form, references_in, refl, rename, rules, run-form, state_after, subst, suc, sum_by-cons, sym, tree, true, type_of, variant, zero, ℕ, ℤ, []},
  Words.{◌++◌, ◌+◌, ◌<◌, ◌==◌, ◌∙◌, ◌∷◌, ◌≡◌, ◌≤◌, ◌⊎◌},
}
use Rattle.pagable_theorems.specs.{FormLaws.HashMapHasAnyOrder, SmallWorlds.ChainsJoin}
use Rattle.pagable_value_spec.specs.{
  BasicValues.{length_form, longest},
  Canonical.{EachType, HasNoReference},
  CarriedTypes.{of_entries, of_hash_map},
  Codes.one-meaning,
  Form.{array-form, both-form, case-form, duration-form, err-form, flag-form, hash-map-form, json-array-form, json-flag-form, json-null-form, json-number-form},
  Form.{json-object-form, json-text-form, letter-form, list-form, more-entries, more-forms, nested-form, no-entries, no-forms, none-form, nothing-form},
  Form.{ok-form, pattern-form, placed-map-form, placed-set-form, signed-form, some-form, sorted-map-form, sorted-set-form, static-form, tagged-form, text-form},
  Form.unsigned-form,
  Keys.{AllAfter, Apart, Ascends, Differ, KeyOrder, code_order, last_value, ordered, put_sorted, same_key, text_order},
  Meaning.{integer, lifted, number, pattern, plain, sequence, text},
  Trees.{IsFollowed, KeyRef, ReadsAs, integer-followed, none-followed, number-followed, pair-followed, pattern-followed, reference-followed, text-followed},
  Trees.variant-followed,
}
use Rattle.std.proofs.{Common.sum_by, Math.Dec.T, lemmas.Map.{Lookups.exact_bytes, Text.is_eq-slice_cmp}}
use Rattle.std.specs.{
  Cmp.Lexicographic.on_texts,
  FinMap.Entries.{find, find-put, is_sorted, is_sorted-put, put, same_entries},
  List.AllByRecursion as Each,
  Option.option_or,
  Ordering.{eq_by_cmp, match_ordering},
  declared.cmp.Ordering.Ordering,
}
use Rattle.pagable_value_spec.specs.Meaning as meanings
pub use Rattle.pagable_pager_spec.proofs.Elements.{at-most-sum, counted, sum-none as sum-zero}
pub use Rattle.std.proofs.lemmas.{Bool.eqb-true as same-number, Option.same_Some as same_some}

pub self-number : (a : ℕ) → (a == a) ≡ true
self-number a = grind basics

pub one-true : (b : Bool) → 0 < one b → b ≡ true
one-true x0 p = grind basics

pub one-small : (b : Bool) → one b ≤ 1
one-small x0 = grind basics

pub sum-le : {X : Type 0} (f g : X → ℕ) (xs : List X) → ((x : X) → Among xs x → f x ≤ g x) → sum_by f xs ≤ sum_by g xs
sum-le f g [] h = omega arith
sum-le f g (x ∷ xs) h = grind (basics, sum_by-cons, sum-le f g xs (λ y among. h y (suc among.0, among.1)))

pub sum-plus : {X : Type 0} (f g : X → ℕ) (xs : List X) → sum_by (λ x. f x + g x) xs ≡ sum_by f xs + sum_by g xs
sum-plus f g [] = refl
sum-plus f g (x ∷ xs) = search (rules, sum_by-cons, sum-plus f g xs)

pub tree_is : {x y : ℕ} {a b : Meaning ⊥} → x ≡ y → a ≡ b → tree x a ≡ tree y b
tree_is e1 e2 = rw (e1, e2) refl

-- P of all types is so of each type in a tree
each-type : {P : ℕ → Type 0} → ((t : ℕ) → P t) → (m : Meaning ⊥) → EachType P m
unfolding EachType
each-type all (pair a b) = (each-type all a, each-type all b)
each-type all (variant n a) = each-type all a
each-type all (followed kind a) = (all (type_of kind), each-type all a)
each-type all x1 = grind basics

-- where a key stands for one meaning by both P and Q, one meaning leads to one tree
module _ {P Q : ℕ → ℕ → Meaning KeyRef → Type 0} (C : ℕ → Type 0) (same : (t key : ℕ) (m n : Meaning KeyRef) → C t → P t key m → Q t key n → m ≡ n) where
  pub one-followed : {m n : Meaning KeyRef} {a b : Meaning ⊥} → EachType C a → IsFollowed P m a → IsFollowed Q n b → m ≡ n → a ≡ b
  unfolding EachType
  one-followed c (pair-followed x y a b h g) (pair-followed x2 y2 a2 b2 h2 g2) e = rw (one-followed c.0 h h2 cc, one-followed c.1 g g2 cc) refl
  one-followed c (variant-followed x m a h) (variant-followed y n b h2) e = let is : x ≡ y = cc in rw (is, one-followed c h h2 cc) refl
  one-followed c (reference-followed r x a p h) (reference-followed r2 x2 a2 p2 h2) e =
      let is : r ≡ r2 = cc in
      let p3 = let R : KeyRef → Type 0 = λ q. Q (type_of q.kind) q.key x2 in subst R (sym is) p2 in
      rw (is, one-followed c.1 h h2 (same _ _ _ _ c.0 p p3)) refl
  one-followed c h (number-followed y) e = cc
  one-followed c h g e = cc

-- what P says of each reference, Q says
module _ {P Q : ℕ → ℕ → Meaning KeyRef → Type 0} (C : ℕ → Type 0) (on : (t key : ℕ) (m : Meaning KeyRef) → C t → P t key m → Q t key m) where
  pub followed-on : {m : Meaning KeyRef} {a : Meaning ⊥} → EachType C a → IsFollowed P m a → IsFollowed Q m a
  unfolding EachType
  followed-on c (pair-followed x y a b h g) = pair-followed x y a b (followed-on c.0 h) (followed-on c.1 g)
  followed-on c (variant-followed n x a h) = variant-followed n x a (followed-on c h)
  followed-on c (reference-followed r x a p h) = reference-followed r x a (on (type_of r.kind) r.key x c.0 p) (followed-on c.1 h)
  followed-on c h = search (number-followed, integer-followed, text-followed, pattern-followed, none-followed)

pub followed-all : {P Q : ℕ → ℕ → Meaning KeyRef → Type 0} → ((t key : ℕ) (m : Meaning KeyRef) → P t key m → Q t key m) → {m : Meaning KeyRef} {a : Meaning ⊥}
    → IsFollowed P m a → IsFollowed Q m a
followed-all on {a = a} h = followed-on (λ t. Unit {0}) (λ t key m all p. on t key m p) (each-type (λ t. tt) a) h

module _ {store : ℕ → Option Blob} {types : Types} where
  same-reading : {type key : ℕ} {m n : Meaning KeyRef} → ReadsAs store types type key m → ReadsAs store types type key n → m ≡ n
  same-reading {type} {key} {m} {n} h g = grind basics

  same-followed : {m n : Meaning KeyRef} {a b : Meaning ⊥} → IsFollowed (ReadsAs store types) m a → IsFollowed (ReadsAs store types) n b → m ≡ n → a ≡ b
  same-followed {a = a} h g e = one-followed (λ t. Unit {0}) (λ t key m n u p q. same-reading p q) (each-type (λ t. tt) a) h g e

pub one_tree : (store : ℕ → Option Blob) (types : Types) (key : ℕ) (t u : Tree) → t.type ≡ u.type → ReadsTree store types key t → ReadsTree store types key u
    → t ≡ u
one_tree store types key t u e h g = search (rules, same-followed, same-reading)

-- the same meaning but for its references, which are as R says; references that are followed already stand in it only if F
pub data Along {A B : Type 0} (F : Type 0) (R : A → B → Type 0) : Meaning A → Meaning B → Type 0 where
  number-along : (n : ℕ) → Along F R (number n) (number n)
  integer-along : (z : ℤ) → Along F R (integer z) (integer z)
  text-along : (t : List ℕ) → Along F R (text t) (text t)
  pattern-along : (t : List ℕ) → Along F R (pattern t) (pattern t)
  none-along : Along F R none none
  pair-along : (x y : Meaning A) (a b : Meaning B) → Along F R x a → Along F R y b → Along F R (pair x y) (pair a b)
  variant-along : (n : ℕ) (x : Meaning A) (a : Meaning B) → Along F R x a → Along F R (variant n x) (variant n a)
  reference-along : (a : A) (b : B) → R a b → Along F R (reference a) (reference b)
  followed-along : (kind : ℕ) (x : Meaning A) (a : Meaning B) → F → Along F R x a → Along F R (followed kind x) (followed kind a)

-- as many, and R of each two
pub data AllTwo {X Y : Type 0} (R : X → Y → Type 0) : List X → List Y → Type 0 where
  no-two : AllTwo R [] []
  more-two : (x : X) (y : Y) (xs : List X) (ys : List Y) → R x y → AllTwo R xs ys → AllTwo R (x ∷ xs) (y ∷ ys)

length-two : {X Y : Type 0} {R : X → Y → Type 0} {xs : List X} {ys : List Y} → AllTwo R xs ys → length xs ≡ length ys
length-two no-two = refl
length-two (more-two x y xs ys r h) = omega (arith, length-two h)

append-two : {X Y : Type 0} {R : X → Y → Type 0} {xs us : List X} {ys vs : List Y} → AllTwo R xs ys → AllTwo R us vs → AllTwo R (xs ++ us) (ys ++ vs)
append-two no-two g = g
append-two (more-two x y xs ys r h) g = more-two x y _ _ r (append-two h g)

pub each-two : {X Y : Type 0} {R : X → Y → Type 0} {xs : List X} {ys : List Y} → AllTwo R xs ys → (x : X) → Among xs x → (y : Y) × R x y
each-two no-two x (i, e) = absurd (cc)
each-two {R = R} (more-two a b xs ys h g) x (zero, e) = let same : a ≡ x = cc in (b, subst (λ z. R z b) same h)
each-two (more-two a b xs ys h g) x (suc i, e) = each-two g x (i, e)

pub swap-two : {X Y : Type 0} {R : X → Y → Type 0} {xs : List X} {ys : List Y} → AllTwo R xs ys → AllTwo (λ y x. R x y) ys xs
swap-two no-two = no-two
swap-two (more-two x y xs ys r h) = more-two y x ys xs r (swap-two h)

-- references of meanings that are along, one by one
pub refs-two : {A B : Type 0} {R : A → B → Type 0} {m : Meaning A} {n : Meaning B} → Along ⊥ R m n → AllTwo R (references_in m) (references_in n)
unfolding references_in
refs-two (pair-along x y a b h g) = append-two (refs-two h) (refs-two g)
refs-two (variant-along n x a h) = refs-two h
refs-two (reference-along a b r) = more-two a b [] [] r no-two
refs-two (followed-along kind x a n h) = absurd n
refs-two _ = no-two

-- a relation of items goes over to those that they are along with
apart-two : {X Y : Type 0} {V : X → Y → Type 0} (R : X → X → Type 0) (S : Y → Y → Type 0) → ((x x2 : X) (y y2 : Y) → V x y → V x2 y2 → R x x2 → S y y2)
    → {xs : List X} {ys : List Y}
    → AllTwo V xs ys → Apart R xs → Apart S ys
unfolding Apart AllAfter
apart-two R S k no-two a = tt
apart-two {X} {Y} {V} R S k (more-two x y xs ys v h) a = (each h a.0, apart-two R S k h a.1)
  where
    each : {us : List X} {vs : List Y} → AllTwo V us vs → AllAfter R x us → AllAfter S y vs
    each no-two b = tt
    each (more-two u w us vs p g) b = (k u x w y p v b.0, each g b.1)

-- entries whose keys and values are along
pub record EntryAlong {A B : Type 0} (F : Type 0) (R : A → B → Type 0) (e : Entry A) (f : Entry B) : Type 0 where
  pub key : Along F R e.0 f.0
  pub value : Along F R e.1 f.1

-- what a list is along with, of which the meaning is made
pub record Made {X Y B : Type 0} (V : X → Y → Type 0) (make : List Y → Meaning B) (xs : List X) (n : Meaning B) : Type 0 where
  pub items : List Y
  pub each : AllTwo V xs items
  pub whole : n ≡ make items

abbrev pub apart : {A : Type 0} → Entry A → Entry A → Type 0
apart e f = same_key e.0 f.0 ≡ false

-- it differs from all of these
abbrev Differs : {A : Type 0} → List (Entry A) → Entry A → Type 0
Differs acc x = Each (apart x) acc

-- what differs from all that is there, and from what is put in, differs from all that is there then
after_put : {A : Type 0} (x e : Entry A) (acc : List (Entry A)) → Differs acc x → apart x e → Differs (put_sorted code_order acc e) x
after_put x e [] h d = (d, tt)
after_put {A} x e (f ∷ acc) h d = grind (basics, ordered, after_put x e acc h.1 d)

those_put : {A : Type 0} (e : Entry A) (acc es : List (Entry A)) → Each (Differs acc) es → AllAfter apart e es → Each (Differs (put_sorted code_order acc e)) es
unfolding AllAfter
those_put e acc [] h d = tt
those_put e acc (x ∷ es) h d = (after_put x e acc h.0 d.0, those_put e acc es h.1 d.1)

none_there : {A : Type 0} (es : List (Entry A)) → Each (Differs []) es
none_there [] = tt
none_there (e ∷ es) = (tt, none_there es)

-- entries that fs is along with, when one was put into them
record Unput {A B : Type 0} (F : Type 0) (R : A → B → Type 0) (acc : List (Entry A)) (e : Entry A) (fs : List (Entry B)) : Type 0 where
  before : List (Entry B)
  entry : Entry B
  each : AllTwo (EntryAlong F R) acc before
  one : EntryAlong F R e entry
  put : put_sorted code_order before entry ≡ fs

-- references that k goes along with, over which G is so
pub record To {A B : Type 0} (R : A → B → Type 0) (k : List A) (G : List B → Type 0) : Type 0 where
  pub refs : List B
  pub each : AllTwo R k refs
  pub form : G refs

to_nothing : {A B : Type 0} {R : A → B → Type 0} {G : List B → Type 0} → G [] → To R [] G
to_nothing f = record { refs = []; each = no-two; form = f }

then_to : {A B : Type 0} {R : A → B → Type 0} {k : List A} {G H : List B → Type 0} → To R k G → ((refs : List B) → G refs → H refs) → To R k H
then_to p f = record { refs = p.refs; each = p.each; form = f p.refs p.form }

two_to : {A B : Type 0} {R : A → B → Type 0} {k l : List A} {G H K : List B → Type 0} → To R k G → To R l H
    → ((refs more : List B) → G refs → H more → K (refs ++ more)) → To R (k ++ l) K
two_to p q f = record { refs = p.refs ++ q.refs; each = append-two p.each q.each; form = f p.refs q.refs p.form q.form }

pub one-two : {X Y : Type 0} {V : X → Y → Type 0} (x : X) (y : Y) → V x y → AllTwo V (x ∷ []) (y ∷ [])
one-two x y v = more-two x y [] [] v no-two

-- what is put into lists that go along goes along, where it does in front of what goes along behind
module _ {X Y : Type 0} {V : X → Y → Type 0} (put : List X → X → List X) (put2 : List Y → Y → List Y)
    (first : (x : X) (y : Y) → V x y → AllTwo V (put [] x) (put2 [] y))
    (later : (x u : X) (y w : Y) (acc : List X) (acc2 : List Y) → V x y → V u w → AllTwo V acc acc2 → AllTwo V (put acc x) (put2 acc2 y)
    → AllTwo V (put (u ∷ acc) x) (put2 (w ∷ acc2) y)) where
  put-two : (x : X) (y : Y) → V x y → {acc : List X} {acc2 : List Y} → AllTwo V acc acc2 → AllTwo V (put acc x) (put2 acc2 y)
  put-two x y v no-two = first x y v
  put-two x y v (more-two u w acc acc2 g h) = later x u y w acc acc2 v g h (put-two x y v h)

  pub put_all-two : {xs : List X} {ys : List Y} {acc : List X} {acc2 : List Y} → AllTwo V xs ys → AllTwo V acc acc2
      → AllTwo V (put_all put acc xs) (put_all put2 acc2 ys)
  unfolding put_all
  put_all-two no-two h = h
  put_all-two (more-two x y xs ys v g) h = put_all-two g (put-two x y v h)

module _ {A B : Type 0} {F : Type 0} {R : A → B → Type 0} where
  pub plain-along : {m : Meaning A} {n : Meaning B} → Along F R m n → plain m ≡ plain n
  unfolding plain
  plain-along (pair-along x y a b h g) = rw (plain-along h, plain-along g) refl
  plain-along (variant-along n x a h) = rw (plain-along h) refl
  plain-along (followed-along kind x a f h) = rw (plain-along h) refl
  plain-along _ = refl

  pub lifted-along : (m : Meaning ⊥) → F ⊎ HasNoReference m → Along F R (lifted m) (lifted m)
  unfolding rename HasNoReference
  lifted-along (pair a b) h = pair-along _ _ _ _ (lifted-along a (grind basics)) (lifted-along b (grind basics))
  lifted-along (variant n a) h = variant-along _ _ _ (lifted-along a h)
  lifted-along (reference a) h = absurd a
  lifted-along (followed kind a) (inl f) = followed-along _ _ _ f (lifted-along a (inl f))
  lifted-along (followed kind a) (inr h) = absurd h
  lifted-along m h = search (number-along, integer-along, text-along, pattern-along, none-along)

  pub sequence-two : {ms : List (Meaning A)} {ns : List (Meaning B)} → AllTwo (Along F R) ms ns → Along F R (sequence ms) (sequence ns)
  sequence-two no-two = none-along
  sequence-two (more-two m n ms ns h g) = pair-along _ _ _ _ h (sequence-two g)

  pub entries-two : {es : List (Entry A)} {fs : List (Entry B)} → AllTwo (EntryAlong F R) es fs → Along F R (of_entries es) (of_entries fs)
  entries-two no-two = none-along
  entries-two (more-two e f es fs h g) = pair-along _ _ _ _ (pair-along _ _ _ _ h.key h.value) (entries-two g)

  pub sorted-two : (order : KeyOrder) {es : List (Entry A)} {fs : List (Entry B)} → AllTwo (EntryAlong F R) es fs
      → Along F R (of_entries (put_all (put_sorted order) [] es)) (of_entries (put_all (put_sorted order) [] fs))
  sorted-two order h = entries-two (put_all-two _ _ one-two (λ x u y w acc acc2 v g k l. search (rules, more-two, plain-along)) h no-two)

  pub flag-same : (b : Bool) → Along F R (meanings.flag b) (meanings.flag b)
  flag-same x0 = grind (basics, variant-along, none-along)

  sequence-along : (ms : List (Meaning A)) {n : Meaning B} → Along F R (sequence ms) n → Made (Along F R) sequence ms n
  sequence-along [] none-along = record { items = []; each = no-two; whole = refl }
  sequence-along (m ∷ ms) (pair-along x y a b h g) =
      let rest = sequence-along ms g in
      record { items = a ∷ rest.items; each = more-two m a ms rest.items h rest.each; whole = ap (λ (z : Meaning B). pair a z) rest.whole }

  entries-along : (es : List (Entry A)) {n : Meaning B} → Along F R (of_entries es) n → Made (EntryAlong F R) of_entries es n
  entries-along [] none-along = record { items = []; each = no-two; whole = refl }
  entries-along (e ∷ es) (pair-along x y a b (pair-along u v c d h k) g) =
      let rest = entries-along es g in
      record {
        items = (c, d) ∷ rest.items;
        each = more-two e (c, d) es rest.items (record { key = h; value = k }) rest.each;
        whole = ap (λ (z : Meaning B). pair (pair c d) z) rest.whole;
      }

  -- ---- a hash map's entries, put in order

  same_order : {e x : Entry A} {f y : Entry B} {o : Ordering} → EntryAlong F R e f → EntryAlong F R x y → ordered code_order e.0 x.0 ≡ o
      → ordered code_order f.0 y.0 ≡ o
  same_order r s q = rw (← plain-along r.key, ← plain-along s.key) q

  unput : (acc : List (Entry A)) (e : Entry A) {fs : List (Entry B)} → Differs acc e → AllTwo (EntryAlong F R) (put_sorted code_order acc e) fs
      → Unput F R acc e fs
  unput [] e h (more-two x f xs ys r no-two) = record { before = []; entry = f; each = no-two; one = r; put = refl }
  unput (x ∷ acc) e h a = at (λ gs g. unput acc e {fs = gs} h.1 g) (ordered code_order e.0 x.0) refl a
    where
      at : ((gs : List (Entry B)) → AllTwo (EntryAlong F R) (put_sorted code_order acc e) gs → Unput F R acc e gs) → (o : Ordering) → ordered code_order e.0 x.0
          ≡ o
          → {fs : List (Entry B)} → AllTwo (EntryAlong F R) (match_ordering o (e ∷ x ∷ acc) ((x.0, e.1) ∷ acc) (x ∷ put_sorted code_order acc e)) fs
          → Unput F R (x ∷ acc) e fs
      at back Ordering.Less q (more-two u f us vs r (more-two w y ws ys s g)) =
          record { before = y ∷ ys; entry = f; each = more-two x y acc ys s g; one = r; put = rw (same_order r s q) refl }
      at back Ordering.Equal q b = absurd ((cc (is_eq-slice_cmp (code (plain e.0)) (code (plain x.0)))))
      at back Ordering.Greater q (more-two u y us ys s g) =
          let r = back ys g in
          record {
            before = y ∷ r.before;
            entry = r.entry;
            each = more-two x y acc r.before s r.each;
            one = r.one;
            put = rw (same_order r.one s q) (ap (λ (z : List (Entry B)). y ∷ z) r.put);
          }

  -- and when several were put in, one after another
  unput_all : (es acc : List (Entry A)) {fs : List (Entry B)} → Each (Differs acc) es → Apart apart es
      → AllTwo (EntryAlong F R) (put_all (put_sorted code_order) acc es) fs
      → (before entries : List (Entry B)) × AllTwo (EntryAlong F R) acc before × AllTwo (EntryAlong F R) es entries
      × (put_all (put_sorted code_order) before entries ≡ fs)
  unfolding Apart put_all
  unput_all [] acc {fs} h d a = (fs, [], a, no-two, refl)
  unput_all (e ∷ es) acc h d a =
      let rest = unput_all es (put_sorted code_order acc e) (those_put e acc es h.1 d.0) d.1 a in
      let one = unput acc e h.0 rest.2 in
      let put = ap (λ (z : List (Entry B)). put_all (put_sorted code_order) z rest.1) one.put ∙ rest.4 in
      (one.before, one.entry ∷ rest.1, one.each, more-two e one.entry es rest.1 one.one rest.3, put)

  hash_map-along : (es : List (Entry A)) {n : Meaning B} → Differ es → Along F R (of_hash_map es) n → Made (EntryAlong F R) of_hash_map es n
  hash_map-along es d a =
      let sorted = entries-along _ a in let back = unput_all es [] (none_there es) d sorted.each in
      record { items = back.1; each = back.3; whole = sorted.whole ∙ ap of_entries (sym (grind basics)) }

  -- what is said of plain keys or items goes over
  ascend-two : (order : KeyOrder) {es : List (Entry A)} {fs : List (Entry B)} → AllTwo (EntryAlong F R) es fs → Ascends order es → Ascends order fs
  ascend-two order h a = apart-two _ _ (λ x x2 y y2 v w r. rw (← plain-along v.key, ← plain-along w.key) r) h a

  differ-two : {es : List (Entry A)} {fs : List (Entry B)} → AllTwo (EntryAlong F R) es fs → Differ es → Differ fs
  differ-two h a = apart-two _ _ (λ x x2 y y2 v w r. rw (← plain-along v.key, ← plain-along w.key) r) h a

  flag-along : (b : Bool) {n : Meaning B} → Along F R (meanings.flag b) n → n ≡ meanings.flag b
  flag-along x0 x1 = grind basics

  lifted-same : (m : Meaning ⊥) {n : Meaning B} → Along F R (lifted m) n → n ≡ lifted m
  unfolding rename
  lifted-same (pair a b) (pair-along x y c d h g) = rw (lifted-same a h, lifted-same b g) refl
  lifted-same (variant n a) (variant-along k x c h) = rw (lifted-same a h) refl
  lifted-same (reference a) h = absurd a
  lifted-same (followed kind a) (followed-along k x c f h) = rw (lifted-same a h) refl
  lifted-same (number n) (number-along x) = refl
  lifted-same (integer z) (integer-along x) = refl
  lifted-same (text t) (text-along x) = refl
  lifted-same (pattern t) (pattern-along x) = refl
  lifted-same none none-along = refl

-- what is written with its count goes along, in front of which this stands
with_count : {A B X Y : Type 0} {R : A → B → Type 0} {V : X → Y → Type 0} {make : List Y → Meaning B} {xs : List X} {n : Meaning B} {H : List B → Type 0}
    {k : List A} {kind_of : B → ℕ}
    {parts : ℕ → Shape} {left : ℕ} {s : Shape} (front : List ℕ) (wrap : Meaning B → Meaning B) (b : List ℕ) (q : Made V make xs n) → length xs ≤ longest
    → To R k H
    → ((refs : List B) → length q.items ≤ longest → H refs → Form B kind_of parts left s (wrap (make q.items)) (front ++ (length_form (length q.items) ++ b))
    refs)
    → To R k (λ refs. Form B kind_of parts left s (wrap n) (front ++ (length_form (length xs) ++ b)) refs)
with_count front wrap b q le p f = let long = length-two q.each in rw (q.whole, long) (then_to p (λ refs h. f refs (rw long at le) h))

module _ {A B : Type 0} {F : Type 0} {R : A → B → Type 0} {kind_of : A → ℕ} {kind_of2 : B → ℕ} {parts : ℕ → Shape}
    (kinds : (a : A) (b : B) → R a b → kind_of2 b ≡ kind_of a) where
  mutual
    pub form-along : {left : ℕ} {s : Shape} {m : Meaning A} {n : Meaning B} {b : List ℕ} {k : List A} → Form A kind_of parts left s m b k → Along F R m n
        → To R k (λ refs. Form B kind_of2 parts left s n b refs)
    form-along (flag-form left b) a = rw (flag-along b a) (to_nothing (flag-form left b))
    form-along (some-form left s m b k h) (variant-along n x y a) = then_to (form-along h a) (λ refs f. some-form left s y b refs f)
    form-along (err-form left s t m b k h) (variant-along n x y a) = then_to (form-along h a) (λ refs f. err-form left s t y b refs f)
    form-along (ok-form left s t m b k h) (variant-along n x y a) = then_to (form-along h a) (λ refs f. ok-form left s t y b refs f)
    form-along (list-form left s ms b k le h) a = let q = sequence-along ms a in
        with_count [] (λ m. m) b q le (forms-along h q.each) (λ refs l f. list-form left s q.items b refs l f)
    form-along (run-form left s ms b k le h) a = let q = sequence-along ms a in
        rw q.whole (then_to (forms-along h q.each) (λ refs f. run-form left s q.items b refs (rw (length-two q.each) at le) f))
    form-along (array-form left n s ms b k e h) a =
        let q = sequence-along ms a in rw q.whole (then_to (forms-along h q.each)
        (λ refs f. array-form left n s q.items b refs (sym (length-two q.each) ∙ e) f))
    form-along (both-form left s t m n b c k l h g) (pair-along x y u v a d) =
        two_to (form-along h a) (form-along g d) (λ refs more f e. both-form left s t u v b c refs more f e)
    form-along (sorted-map-form left o s t es b k le up h) a =
        let q = entries-along es a in with_count [] (λ m. m) b q le (entries_form-along h q.each)
        (λ refs l f. sorted-map-form left o s t q.items b refs l (ascend-two o q.each up) f)
    form-along (placed-map-form left s t es b k le up h) a =
        let q = entries-along es a in with_count [] (λ m. m) b q le (entries_form-along h q.each)
        (λ refs l f. placed-map-form left s t q.items b refs l (differ-two q.each up) f)
    form-along (hash-map-form left s t es b k le up h) a =
        let q = hash_map-along es up a in with_count [] (λ m. m) b q le (entries_form-along h q.each)
        (λ refs l f. hash-map-form left s t q.items b refs l (differ-two q.each up) f)
    form-along (sorted-set-form left o s ms b k le up h) a =
        let q = sequence-along ms a in with_count [] (λ m. m) b q le (forms-along h q.each) (λ refs l f. sorted-set-form left o s q.items b refs l
        (apart-two {V = Along F R} _ _ (λ x x2 y y2 v w r. rw (← plain-along v, ← plain-along w) r) q.each up) f)
    form-along (placed-set-form left s ms b k le up h) a =
        let q = sequence-along ms a in with_count [] (λ m. m) b q le (forms-along h q.each) (λ refs l f. placed-set-form left s q.items b refs l
        (apart-two {V = Along F R} _ _ (λ x x2 y y2 v w r. rw (← plain-along v, ← plain-along w) r) q.each up) f)
    form-along (static-form left registry i m lt e) a = rw (lifted-same m a) (to_nothing (static-form left registry i m lt e))
    form-along (tagged-form left written known body tag m b k u le h) (pair-along x y c d (text-along t) a) =
        then_to (form-along h a) (λ refs f. tagged-form left written known body tag d b refs u le f)
    form-along (case-form left w known part n m b k lt is h) (variant-along i x y a) =
        then_to (form-along h a) (λ refs f. case-form left w known part n y b refs lt is f)
    form-along (reference-form left kind x e) (reference-along x2 y r) =
        record { refs = y ∷ []; each = more-two x y [] [] r no-two; form = reference-form left kind y (kinds x y r ∙ e) }
    form-along (nested-form left less n m b k e h) a = then_to (form-along h a) (λ refs f. nested-form left less n _ b refs e f)
    form-along (json-flag-form left b) (variant-along n x y a) = rw (flag-along b a) (to_nothing (json-flag-form left b))
    form-along (json-array-form left less ms b k e le h) (variant-along n x y a) =
        let q = sequence-along ms a in with_count (4 ∷ []) (λ m. variant 4 m) b q le (forms-along h q.each)
        (λ refs l f. json-array-form left less q.items b refs e l f)
    form-along (json-object-form left less es b k e le up h) (variant-along n x y a) =
        let q = entries-along es a in
        with_count (5 ∷ []) (λ m. variant 5 m) b q le (entries_form-along h q.each)
        (λ refs l f. json-object-form left less q.items b refs e l (ascend-two text_order q.each up) f)
    form-along (duration-form left seconds nanos h l) (pair-along x y a b (number-along i) (number-along j)) = to_nothing (duration-form left seconds nanos h l)
    form-along (none-form left s) (variant-along n x a none-along) = to_nothing (none-form left s)
    form-along (json-null-form left) (variant-along n x a none-along) = to_nothing (json-null-form left)
    form-along (json-number-form left z h) (variant-along n x y (integer-along i)) = to_nothing (json-number-form left z h)
    form-along (json-text-form left t u h) (variant-along n x y (text-along i)) = to_nothing (json-text-form left t u h)
    form-along (nothing-form left) none-along = to_nothing (nothing-form left)
    form-along (unsigned-form left w n h) (number-along x) = to_nothing (unsigned-form left w n h)
    form-along (signed-form left w z h) (integer-along x) = to_nothing (signed-form left w z h)
    form-along (text-form left t u h) (text-along x) = to_nothing (text-form left t u h)
    form-along (letter-form left c u) (number-along x) = to_nothing (letter-form left c u)
    form-along (pattern-form left t u h) (pattern-along x) = to_nothing (pattern-form left t u h)

    forms-along : {left : ℕ} {s : Shape} {ms : List (Meaning A)} {ns : List (Meaning B)} {b : List ℕ} {k : List A} → Forms A kind_of parts left s ms b k
        → AllTwo (Along F R) ms ns
        → To R k (λ refs. Forms B kind_of2 parts left s ns b refs)
    forms-along (no-forms left s) no-two = record { refs = []; each = no-two; form = no-forms left s }
    forms-along (more-forms left s m ms b c k l h g) (more-two x y xs ys a d) =
        two_to (form-along h a) (forms-along g d) (λ refs more f e. more-forms left s y ys b c refs more f e)

    entries_form-along : {left : ℕ} {s t : Shape} {es : List (Entry A)} {fs : List (Entry B)} {b : List ℕ} {k : List A}
        → Entries A kind_of parts left s t es b k
        → AllTwo (EntryAlong F R) es fs → To R k (λ refs. Entries B kind_of2 parts left s t fs b refs)
    entries_form-along (no-entries left s t) no-two = record { refs = []; each = no-two; form = no-entries left s t }
    entries_form-along (more-entries left s t m n es b c d j k l h g f) (more-two x y xs ys a i) =
        let p = form-along h a.key in let q = form-along g a.value in let r = entries_form-along f i in
        record {
          refs = p.refs ++ (q.refs ++ r.refs);
          each = append-two p.each (append-two q.each r.each);
          form = more-entries left s t y.0 y.1 ys b c d p.refs q.refs r.refs p.form q.form r.form;
        }

plain_lifted : (A : Type 0) (m : Meaning ⊥) → plain (let x : Meaning A = lifted m in x) ≡ m
unfolding plain rename
plain_lifted A (pair a b) = rw (plain_lifted A a, plain_lifted A b) refl
plain_lifted A (variant n a) = rw (plain_lifted A a) refl
plain_lifted A (reference a) = absurd a
plain_lifted A (followed kind a) = rw (plain_lifted A a) refl
plain_lifted _ _ = refl

module _ {X : Type 0} where
  abbrev put_in : List (Meaning ⊥ × X) → Meaning ⊥ × X → List (Meaning ⊥ × X)
  put_in acc e = put code_order e.0 e.1 acc

  all_sorted : (acc es : List (Meaning ⊥ × X)) → T (is_sorted code_order acc) → T (is_sorted code_order (put_all put_in acc es))
  unfolding put_all
  all_sorted acc [] h = h
  all_sorted acc (e ∷ es) h = all_sorted (put code_order e.0 e.1 acc) es (is_sorted-put code_order (on_texts code) e.0 e.1 acc h)

  all_found : (q : Meaning ⊥) (acc es : List (Meaning ⊥ × X)) → find code_order q (put_all put_in acc es) ≡ option_or (last_value q es) (find code_order q acc)
  unfolding put_all last_value
  all_found q acc [] = refl
  all_found q acc (e ∷ es) =
      grind (
        basics,
        put,
        code_order,
        option_or,
        last_value,
        find-put,
        on_texts code,
        find,
        eq_by_cmp,
        cond,
        is_eq-slice_cmp,
        code,
        all_found q (put code_order e.0 e.1 acc) es,
      )

all_along : {X U : Type 0} (u : X → U) (put_x : List X → X → List X) (put_u : List U → U → List U)
    → ((acc : List X) (x : X) → put_u (map u acc) (u x) ≡ map u (put_x acc x))
    → (acc xs : List X) → put_all put_u (map u acc) (map u xs) ≡ map u (put_all put_x acc xs)
unfolding put_all
all_along u put_x put_u h acc [] = refl
all_along {X} {U} u put_x put_u h acc (x ∷ xs) = ap (λ (z : List U). put_all put_u z (map u xs)) (h acc x) ∙ all_along u put_x put_u h (put_x acc x) xs

module _ {A : Type 0} where
  abbrev lift_key : Meaning ⊥ × Meaning A → Entry A
  lift_key e = (lifted e.0, e.1)

  put_along : (acc : List (Meaning ⊥ × Meaning A)) (e : Meaning ⊥ × Meaning A) → put_sorted code_order (map lift_key acc) (lift_key e)
      ≡ map lift_key (put_in acc e)
  put_along [] e = refl
  put_along (x ∷ acc) e = rw (plain_lifted A e.0, plain_lifted A x.0, put_along acc e) (grind basics)

pub any_order : {A : Type 0} → HashMapHasAnyOrder A
any_order {A} es fs h =
    let puts = all_along lift_key put_in (put_sorted code_order) put_along [] in
    let same = same_entries code_order (on_texts code) (λ a b e. one-meaning a b (exact_bytes (code a) (code b) e)) _ _ (all_sorted [] es tt)
    (all_sorted [] fs tt)
    (λ q. all_found q [] es ∙ ap (λ (o : Option (Meaning A)). option_or o None) (h q) ∙ sym (all_found q [] fs)) in
    ap of_entries (puts es ∙ ap (map lift_key) same ∙ sym (puts fs))

joins : {N E B W : Type 0} (m : Seen N B W) (s : MachineState N E) (xs ys : List (Moment N E B W)) → AreMoments m s xs → AreMoments m (state_after s xs) ys
    → AreMoments m s (xs ++ ys)
unfolding state_after
joins m s [] ys first second = second
joins m s (x ∷ xs) ys (does, first) second = (does, joins m x.after xs ys first second)

ends : {N E B W : Type 0} (s : MachineState N E) (xs ys : List (Moment N E B W)) → state_after s (xs ++ ys) ≡ state_after (state_after s xs) ys
unfolding state_after
ends s [] ys = refl
ends s (x ∷ xs) ys = ends x.after xs ys

pub chains_join : {N B W : Type 0} (E : Type 0) (m : Seen N B W) → ChainsJoin E m
chains_join E m = record { joins = joins m; ends = ends }

-- whatever a worker does is a step of the automaton of its order
pub steps_follow : {N B W : Type 0} (m : Seen N B W) (v : ℕ) (s s' : WorkerState) (step : Action W) → WalkDoes m v s step s'
    → Follows m.written_of s.todo step s'.todo
steps_follow m v s s' step does = grind (basics, does.does)
