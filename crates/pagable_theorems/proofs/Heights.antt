-- Reading a key under which a tree is stored, each value as a form, takes the tree's references and no others. So it goes too deep exactly if the tree is too
-- high.
use Rattle.pagable_pager_spec.specs.{
  Basics.longest_path as limit,
  Loads.{Next, answers_from, asks, is_faulty, next_by, next_of, read_with, reads},
  Order.{LeadsDown, after_kinds, goes-down, is-there, some_of},
}
use Rattle.pagable_theorems.proofs.{
  Decoding.{Lookup, at-place, kinds_of, looked, looked-more, looked-none},
  FormsOfTrees.references-among,
  Merkle.longest_path,
  Naturality.{keeps_forms, renamed},
  RoundTrip.{all-looked, form-again, not-looked},
  Trees.{Along, each-two, form-along, integer-along, none-along, number-along, pair-along, pattern-along, reference-along, same-number, same_some, text-along},
  Trees.variant-along,
  Words.{Among, ArcRef, Blob, Err, Error, IsReadableType, List, Meaning, Ok, Option, Result, Some, Types, above, ap, append-nil, arith, basics, cases_Bool},
  Words.{false, inl, inr, is_eager, length, map, read, refl, rename, rest, slice_get, subst, suc, sym, tree, true, type_of, zero, ℕ, [], ◌++◌, ◌+◌, ◌==◌, ◌∙◌},
  Words.{◌∷◌, ◌≡◌, ◌≤◌},
}
use Rattle.pagable_theorems.specs.{DepthLaws.DepthIsHeight, FormLaws.at}
use Rattle.pagable_value_spec.specs.{
  Canonical.{EachType, IsReadableTree},
  Cursor.{Answer, answer_at, handles_at},
  Height.{HasPath, Kid, height, tree_of_kid},
  Merkle.{StoredAs, StoredTree, blob_of, key_of_ref, kind_of_ref, unfolded},
  ReadSteps.◌>>=◌,
  Reading.{Rest, deepest},
  Trees.{IsFollowed, KeyRef, pair-followed, reference-followed, variant-followed},
  Writing.kind_of_arc,
}
use Rattle.std.proofs.lemmas.{List.length-map}

-- ---- what a blob asks for that is a form of a stored value: its references one after another

abbrev LookupOf : List ArcRef → List ArcRef → List KeyRef → Result (List Answer) Error → Type 0
LookupOf front back refs c = Lookup front back (map key_of_ref refs) (map kind_of_ref refs) c

looked-another : (front : List ArcRef) (g : ArcRef) (back : List ArcRef) (d : KeyRef) (refs : List KeyRef) → (g.kind.0 == d.kind) ≡ false
    → LookupOf front (g ∷ back) (d ∷ refs) (Err Error.WrongKind)
unfolding answers_from
looked-another front g back d refs e = not-looked _ _ _ _ _ (grind (basics, at-place front g back))

-- whatever was got: all that the form has, or one of another kind, or the first of them
data Ends (got : List ArcRef) (refs : List KeyRef) : Result (List Answer) Error → Type 0 where
  all-there : (left : List Answer) → Ends got refs (Ok left)
  of-another : Ends got refs (Err Error.WrongKind)
  one-left : (done left : List KeyRef) (q : KeyRef) → refs ≡ done ++ q ∷ left → kinds_of got ≡ map kind_of_ref done → Ends got refs (Err (Error.Storage q.kind))

one-more : (got : List ArcRef) (g : ArcRef) (refs : List KeyRef) (d : KeyRef) (c : Result (List Answer) Error) → g.kind.0 ≡ d.kind → Ends got refs c
    → Ends (g ∷ got) (d ∷ refs) c
one-more got g refs d c same (all-there left) = all-there left
one-more got g refs d c same of-another = of-another
one-more got g refs d c same (one-left done left q is kinds) = one-left (d ∷ done) left q (ap (λ (rs : List KeyRef). d ∷ rs) is) (rw (same, kinds) refl)

looks : (front back : List ArcRef) (refs : List KeyRef) → (c : Result (List Answer) Error) × LookupOf front back refs c × Ends back refs c
unfolding answers_from
looks front back [] = (Ok [], all-looked [], all-there [])
looks front [] (d ∷ refs) = (_, looked-none front d.kind d.key _ _, one-left [] refs d refl refl)
looks front (g ∷ back) (d ∷ refs) = elim (cases_Bool (g.kind.0 == d.kind)) [
  | inl e ↦
      let same = same-number g.kind.0 d.kind e in
      let (c, tail, ends) = looks (front ++ g ∷ []) back refs in
      (c, looked-more front g back d.kind d.key _ _ c same tail, one-more back g refs d c same ends)
  | inr e ↦ (Err Error.WrongKind, looked-another front g back d refs e, of-another)
]

-- it is read, or one of its references is asked for, or one of another kind was got
data NextOf (refs : List KeyRef) (next : Next) : Type 0 where
  is-read : (own : Meaning ArcRef) → next ≡ reads own → NextOf refs next
  is-asked : (q : KeyRef) → Among refs q → next ≡ asks (record { 0 = q.kind }) q.key → NextOf refs next
  was-another : next ≡ is_faulty Error.WrongKind → NextOf refs next

key-there : (done left : List KeyRef) (q : KeyRef) → slice_get (map key_of_ref (done ++ q ∷ left)) (length done) ≡ Some q.key
key-there [] left q = refl
key-there (d ∷ done) left q = key-there done left q

ref-there : (done left : List KeyRef) (q : KeyRef) → Among (done ++ q ∷ left) q
ref-there [] left q = (zero, refl)
ref-there (d ∷ done) left q = let a = ref-there done left q in (suc a.0, a.1)

bound-ok : {X Y : Type 0} (r : Result X Error) (f : X → Y) (y : Y) → (r >>= λ x. Ok (f x)) ≡ Ok y → (x : X) × (r ≡ Ok x)
bound-ok (Ok x) f y is = (x, refl)
bound-ok (Err e) f y is = absurd (cc)

bound-err : {X Y : Type 0} (r : Result X Error) (f : X → Y) (e : Error) → (r >>= λ x. Ok (f x)) ≡ Err e → r ≡ Err e
bound-err (Ok x) f e is = absurd (cc)
bound-err (Err g) f e is = cc

kinds-some : (refs : List KeyRef) → kinds_of (some_of (map kind_of_ref refs)) ≡ map kind_of_ref refs
kinds-some [] = refl
kinds-some (r ∷ refs) = ap (λ (ks : List ℕ). r.kind ∷ ks) (kinds-some refs)

abbrev kinds_in : Meaning ArcRef × Rest Answer → Meaning ℕ × Rest Answer
kinds_in x = (rename kind_of_arc x.0, x.1)

module _ (types : Types) {store : ℕ → Option Blob} {t key : ℕ} {own : Meaning KeyRef} (h : StoredAs store types t key own) (can : IsReadableType types t) where
  abbrev blob : Blob
  blob = blob_of h.bytes (map key_of_ref h.refs)

  abbrev input : List ArcRef → Rest Answer
  input got = rest h.bytes (answers_from got 0 blob.keys)

  abbrev outcome : List ArcRef → Result (Meaning ArcRef × Rest Answer) Error
  outcome got = read (handles_at 0 types.parts) h.shape (input got)

  abbrev own_kinds : List Answer → Meaning ℕ × Rest Answer
  own_kinds left = (rename kind_of_ref own, rest [] left)

  -- what is read, by what is looked up
  read-so : (got : List ArcRef) (c : Result (List Answer) Error) → LookupOf [] got h.refs c
      → (outcome got >>= λ x. Ok (kinds_in x)) ≡ (c >>= λ y. Ok (own_kinds y))
  unfolding read
  read-so got c looked =
      let form = keeps_forms kind_of_ref kind_of_ref (λ k. k) types.parts deepest h.shape own h.bytes h.refs (λ a. refl) h.form in
      let all = rw append-nil at (form-again [] form looked (can h.shape h.is)) in
      sym (renamed kind_of_arc answer_at 0 types.parts h.shape (input got)) ∙ all

  next-so : (got : List ArcRef) (r : Result (Meaning ArcRef × Rest Answer) Error) → outcome got ≡ r
      → next_of types t blob got ≡ next_by (slice_get blob.keys (length got)) r
  next-so got r is = let by-shape : read_with types t blob got ≡ outcome got = rw h.is refl in ap (λ x. next_by (slice_get blob.keys (length got)) x)
      (by-shape ∙ is)

  asked-so : (got : List ArcRef) (done left : List KeyRef) (q : KeyRef) → h.refs ≡ done ++ q ∷ left → kinds_of got ≡ map kind_of_ref done
      → outcome got ≡ Err (Error.Storage q.kind)
      → next_of types t blob got ≡ asks (record { 0 = q.kind }) q.key
  asked-so got done left q split kinds is =
      let kind = λ (r : ArcRef). r.kind.0 in
      let gotten : length got ≡ length done = sym (length-map got kind) ∙ ap length kinds ∙ length-map done kind_of_ref in
      let there : slice_get blob.keys (length got) ≡ Some q.key = ap (slice_get blob.keys) gotten ∙ ap (λ (rs : List KeyRef). slice_get (map key_of_ref rs)
      (length done)) split ∙ key-there done left q in
      next-so got _ is ∙ ap (λ o. next_by o (Err (Error.Storage q.kind))) there

  by-ends : (got : List ArcRef) (c : Result (List Answer) Error) → Ends got h.refs c
      → (outcome got >>= λ x. Ok (kinds_in x)) ≡ (c >>= λ y. Ok (own_kinds y)) → NextOf h.refs (next_of types t blob got)
  by-ends got c (all-there left) is = let (x, e) = bound-ok (outcome got) kinds_in _ is in is-read x.0 (next-so got (Ok x) e)
  by-ends got c of-another is = was-another (next-so got _ (bound-err (outcome got) kinds_in _ is))
  by-ends got c (one-left done left q split kinds) is =
      is-asked q (subst (λ (rs : List KeyRef). Among rs q) (sym split) (ref-there done left q)) (asked-so got done left q split kinds (bound-err
      (outcome got) kinds_in _ is))

  -- what comes next, whatever was got
  next-is : (got : List ArcRef) → NextOf h.refs (next_of types t blob got)
  next-is got = let (c, looked, ends) = looks [] got h.refs in by-ends got c ends (read-so got c looked)

  -- where those of a front were got, the one after them
  next-asked : (done left : List KeyRef) (q : KeyRef) → h.refs ≡ done ++ q ∷ left
      → after_kinds types t blob (map kind_of_ref done) ≡ asks (record { 0 = q.kind }) q.key
  next-asked done left q split =
      let got = some_of (map kind_of_ref done) in
      let stops = subst (λ (rs : List KeyRef). LookupOf [] got rs (Err (Error.Storage q.kind))) (sym split)
      (looked kind_of_ref [] got done q left (map key_of_ref (done ++ q ∷ left)) (kinds-some done) (length-map (done ++ q ∷ left) key_of_ref)) in
      asked-so got done left q split (kinds-some done) (bound-err (outcome got) kinds_in _ (read-so got _ stops))

-- ---- what a stored tree's references lead to

-- the reference's key stands for a tree that is stored, and that is part of a meaning
record Below (store : ℕ → Option Blob) (types : Types) (whole : Meaning ⊥) (r : KeyRef) (k : Kid) : Type 0 where
  kind : k.kind ≡ r.kind
  stored : StoredTree store types r.key (tree_of_kid k)
  can : IsReadableTree types (tree_of_kid k)
  low : above k.kind (height k.meaning) ≤ height whole

-- the first reference of a path, among those of a form
record First (store : ℕ → Option Blob) (types : Types) (rs : List KeyRef) (n : ℕ) : Type 0 where
  r : KeyRef
  among : Among rs r
  eager : is_eager r.kind ≡ true
  m : Meaning ⊥
  path : HasPath n m
  stored : StoredTree store types r.key (tree (type_of r.kind) m)
  can : IsReadableTree types (tree (type_of r.kind) m)

split-at : (rs : List KeyRef) (r : KeyRef) → Among rs r → (done left : List KeyRef) × (rs ≡ done ++ r ∷ left)
split-at (x ∷ rs) r (zero, is) = let same : x ≡ r = cc in ([], rs, rw same refl)
split-at (x ∷ rs) r (suc i, is) = let (done, left, split) = split-at rs r (i, is) in (x ∷ done, left, rw split refl)
split-at [] r (i, is) = absurd (cc)

module _ {store : ℕ → Option Blob} {types : Types} where
  below-along : (whole : Meaning ⊥) {x : Meaning KeyRef} {a : Meaning ⊥} → IsFollowed (StoredAs store types) x a → EachType (IsReadableType types) a
      → height a ≤ height whole
      → Along ⊥ (Below store types whole) x (unfolded a)
  unfolding unfolded EachType height
  below-along whole (pair-followed x y a b f g) can le = pair-along _ _ _ _ (below-along whole f can.0 (omega arith)) (below-along whole g can.1 (omega arith))
  below-along whole (variant-followed n x a f) can le = variant-along _ _ _ (below-along whole f can le)
  below-along whole (reference-followed r x a o f) can le = reference-along _ _
      (record { kind = refl; stored = record { own = x; stands = o; follows = f }; can = can; low = le })
  below-along whole x0 can le = grind (basics, number-along, integer-along, text-along, pattern-along, none-along)

  below-of : {t key : ℕ} {a : Meaning ⊥} (s : StoredTree store types key (tree t a)) → IsReadableTree types (tree t a) → (r : KeyRef)
      → Among s.stands.refs r → (k : Kid) × Below store types a r k
  below-of {a = a} s can r among = each-two (form-along (λ r k o. o.kind) s.stands.form (below-along a s.follows can.1 (omega arith))).each r among

  -- a path of the reading is one of the tree
  comes-down : {t key n u last : ℕ} → LeadsDown types store t key n u last → (a : Meaning ⊥) → StoredTree store types key (tree t a)
      → IsReadableTree types (tree t a)
      → (b : Meaning ⊥) × StoredTree store types last (tree u b) × IsReadableTree types (tree u b) × (n + height b ≤ height a)
  comes-down (is-there t key) a s can = (a, s, can, omega arith)
  comes-down (goes-down t key child n longer u last blob kinds kind e at next eager more) a s can =
      let same : blob ≡ blob_of s.stands.bytes (map key_of_ref s.stands.refs) = same_some _ _ (sym at ∙ s.stands.stored) in
      elim (next-is types s.stands can.0 (some_of kinds)) [
        | is-read own is ↦ absurd (cc (sym is ∙ subst (λ (b : Blob). after_kinds types t b kinds ≡ asks kind child) same next))
        | was-another is ↦ absurd (cc (sym is ∙ subst (λ (b : Blob). after_kinds types t b kinds ≡ asks kind child) same next))
        | is-asked q among is ↦
            let kinds_are : q.kind ≡ kind.0 = cc in
            let keys_are : q.key ≡ child = cc in
            let (k, below) = below-of s can q among in
            let of_kind : k.kind ≡ kind.0 = below.kind ∙ kinds_are in
            let stored =
            subst (λ c. StoredTree store types c (tree (type_of kind.0) k.meaning)) keys_are (subst (λ c. StoredTree store types q.key (tree
            (type_of c) k.meaning)) of_kind below.stored) in
            let (b, there, read, few) = comes-down more k.meaning stored (subst (λ c. IsReadableTree types (tree (type_of c) k.meaning)) of_kind below.can) in
            let top : height k.meaning + 1 ≤ height a = (grind (basics, below.low)) in
            (b, there, read, omega arith)
      ]

  -- ---- and a path of the tree is one of the reading

  first-of : (rs : List KeyRef) (n : ℕ) {x y : Meaning KeyRef} {a : Meaning ⊥} → IsFollowed (StoredAs store types) x a → EachType (IsReadableType types) a
      → HasPath (suc n) a
      → Along ⊥ (λ r c. Among rs r) x y → First store types rs n
  unfolding HasPath EachType
  first-of rs n (pair-followed x y a b f g) can (inl path) (pair-along x2 y2 c d k l) = first-of rs n f can.0 path k
  first-of rs n (pair-followed x y a b f g) can (inr path) (pair-along x2 y2 c d k l) = first-of rs n g can.1 path l
  first-of rs n (variant-followed i x a f) can path (variant-along j x2 c k) = first-of rs n f can path k
  first-of rs n (reference-followed r x a o f) can path (reference-along r2 c among) =
      record { r = r; among = among; eager = path.0; m = a; path = path.1; stored = record { own = x; stands = o; follows = f }; can = can }
  first-of rs n f can path along = grind basics

  goes-deep : (n : ℕ) (t key : ℕ) (a : Meaning ⊥) → HasPath n a → StoredTree store types key (tree t a) → IsReadableTree types (tree t a)
      → (u last : ℕ) × LeadsDown types store t key n u last × ((blob : Blob) × (store last ≡ Some blob))
  goes-deep zero t key a path s can = (t, key, is-there t key, (_, s.stands.stored))
  goes-deep (suc n) t key a path s can =
      let f = first-of s.stands.refs n s.follows can.1 path (references-among (can.0 s.stands.shape s.stands.is) s.stands.form).1 in
      let (done, left, split) = split-at s.stands.refs f.r f.among in
      let next = next-asked types s.stands can.0 done left f.r split in
      let (u, last, down, there) = goes-deep n (type_of f.r.kind) f.r.key f.m f.path f.stored f.can in (
        u,
        last,
        goes-down t key f.r.key n (suc n) u last _ (map kind_of_ref done) (record { 0 = f.r.kind })
            (omega arith) s.stands.stored next f.eager down,
        there,
      )

pub depth_is_height : DepthIsHeight
depth_is_height types store t key can s = (
  λ d.
      let (b, there, read, few) = comes-down d.down t.meaning s can in
      elim d.deep [
        | inl long ↦ omega arith
        | inr (kinds, faulty) ↦
            let same : d.blob ≡ blob_of there.stands.bytes (map key_of_ref there.stands.refs) = same_some _ _ (sym d.is ∙ there.stands.stored) in
            let is = subst (λ (x : Blob). after_kinds types d.last_type x kinds ≡ is_faulty Error.TooDeep) same faulty in
            absurd (elim (next-is types there.stands read.0 (some_of kinds)) [
              | is-read own e ↦ (cc (sym e ∙ is))
              | is-asked q among e ↦ (cc (sym e ∙ is))
              | was-another e ↦ (cc (sym e ∙ is))
            ])
      ],
  λ high.
      let (u, last, down, (blob, there)) = goes-deep (suc limit) t.type key t.meaning ((longest_path t.meaning (suc limit)).1 (omega arith)) s can in
      record { n = suc limit; last_type = u; last = last; blob = blob; down = down; is = there; deep = inl (omega arith) },
)
