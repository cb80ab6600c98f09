-- One key holds one tree, and one tree of canonical types has one key: a stored tree has the key under which it is stored, and different trees have different
-- keys.
use Rattle.pagable_theorems.proofs.{
  RoundTrip.{Looked, all-looked, alone, form-again, here, lower, one-form, one-looked, part_of},
  Trees.{AllTwo, Along, EntryAlong, entries-two, flag-same, followed-on, form-along, integer-along, lifted-along, more-two, no-two, none-along, number-along},
  Trees.{one-followed, one_tree, pair-along, pattern-along, reference-along, same_some, sequence-two, sorted-two, text-along, tree_is, variant-along},
  Words.{Blob, Entries, Entry, Form, Forms, LiesIn, List, Meaning, Ok, Option, ReadsTree, Shape, Throughout, Tree, Types, ap, append-nil, arith, basics},
  Words.{blob_of, followed, inl, is_eager, length, length-append, map, pair, read, reference-form, refl, rest, rules, run-form, subst, suc, sym, tree, true},
  Words.{type_of, variant, zero, ℕ, [], ◌*◌, ◌++◌, ◌<◌, ◌∙◌, ◌∷◌, ◌≡◌, ◌≤◌},
}
use Rattle.pagable_theorems.specs.FormLaws.{IsOneItemKey, TreeLaws}
use Rattle.pagable_value_spec.specs.{
  Blob.{IsBlob, preimage},
  Canonical.{EachType, IsCanonicalTree, IsCanonicalType, IsClosed, IsReadableTree, IsReadableType},
  Codes.{cut, one-meaning},
  Form.{array-form, both-form, case-form, err-form, hash-map-form, json-array-form, json-object-form, list-form, more-entries, more-forms, nested-form},
  Form.{no-entries, no-forms, ok-form, placed-map-form, placed-set-form, some-form, sorted-map-form, sorted-set-form, static-form, tagged-form},
  Height.{HasPath, Kid, height, kind_of_kid, tree_of_kid},
  Keys.code_order,
  Merkle.{HasOwnKeys, KeyOf, KeysOf, SharesNoKey, StoredAs, StoredTree, TreeForm, key-of, key_of_ref, kind_of_ref, more-keys, no-keys, unfolded},
  Trees.{IsFollowed, KeyRef, ReadsAs, key_ref, pair-followed, reference-followed, variant-followed},
}
use Rattle.std.proofs.{Common.{◌%◌, ◌/◌, ◌^◌}, Math.Nat.{div-div-eq-div-mul, pow-suc}}
use Rattle.std.specs.{Int.{byte_at, bytes_low_first, to_le_bytes, w128, w64}, List.{AllByRecursion as Each, flat_map}, Prelude.◌↔◌}

-- ---- a tree of a closed set of types reaches types of the set alone

each_split : {X : Type 0} (P : X → Type 0) (xs ys : List X) → Each P (xs ++ ys) → Each P xs × Each P ys
each_split P [] ys h = (tt, h)
each_split P (x ∷ xs) ys h = let s = each_split P xs ys h.1 in ((h.0, s.0), s.1)

-- all that the shape refers to is in the set
abbrev Inside : (ℕ → Type 0) → (ℕ → Shape) → Shape → Type 0
Inside nodes parts s = Throughout (LiesIn nodes (λ n. Unit {0})) parts s

module _ {A : Type 0} {kind_of : A → ℕ} {parts : ℕ → Shape} (nodes : ℕ → Type 0) (P Q : A → Type 0) (both : (a : A) → nodes (type_of (kind_of a)) → P a → Q a)
  where
    mutual
      unfolding LiesIn

      -- Q of each reference in the meaning
      form-refs : {left : ℕ} {s : Shape} {m : Meaning A} {b : List ℕ} {k : List A} → Form A kind_of parts left s m b k → Inside nodes parts s → Each P k
          → Along (Unit {0}) (λ a c. Q a) m m
      form-refs (some-form left s m b k f) t h = variant-along _ _ _ (form-refs f (lower nodes (λ n d l. l) t) h)
      form-refs (err-form left s s2 m b k f) t h = variant-along _ _ _ (form-refs f (lower nodes (λ n d l. l.1) t) h)
      form-refs (ok-form left s s2 m b k f) t h = variant-along _ _ _ (form-refs f (lower nodes (λ n d l. l.0) t) h)
      form-refs (list-form left s ms b k l f) t h = sequence-two (forms-refs f (lower nodes (λ n d l. l) t) h)
      form-refs (run-form left s ms b k l f) t h = sequence-two (forms-refs f (lower nodes (λ n d l. l) t) h)
      form-refs (array-form left n s ms b k e f) t h = sequence-two (forms-refs f (lower nodes (λ n d l. l) t) h)
      form-refs (both-form left s s2 m n b c k l f g) t h =
          let p = each_split P k l h in pair-along _ _ _ _ (form-refs f (lower nodes (λ n d l. l.0) t) p.0) (form-refs g (lower nodes (λ n d l. l.1) t) p.1)
      form-refs (sorted-map-form left o s s2 es b k l up f) t h = entries-two
          (entries_form-refs f (lower nodes (λ n d l. l.0) t) (lower nodes (λ n d l. l.1) t) h)
      form-refs (placed-map-form left s s2 es b k l up f) t h = entries-two
          (entries_form-refs f (lower nodes (λ n d l. l.0) t) (lower nodes (λ n d l. l.1) t) h)
      form-refs (hash-map-form left s s2 es b k l up f) t h = sorted-two code_order
          (entries_form-refs f (lower nodes (λ n d l. l.0) t) (lower nodes (λ n d l. l.1) t) h)
      form-refs (sorted-set-form left o s ms b k l up f) t h = sequence-two (forms-refs f (lower nodes (λ n d l. l) t) h)
      form-refs (placed-set-form left s ms b k l up f) t h = sequence-two (forms-refs f (lower nodes (λ n d l. l) t) h)
      form-refs (static-form left registry i m l e) t h = lifted-along m (inl tt)
      form-refs (tagged-form left written known body tag m b k u l f) t h =
          pair-along _ _ _ _ (text-along tag) (form-refs f (lower nodes (λ n d l. l.0 tag) t) h)
      form-refs (case-form left w known part n m b k l is f) t h = variant-along _ _ _ (form-refs f (lower nodes (λ nodes d l. l n is) t) h)
      form-refs (reference-form left kind a e) t h = reference-along a a (both a (let here_is = here t in rw e here_is) h.0)
      form-refs (nested-form left less n m b k e f) t h = form-refs f (part_of t) h
      form-refs (json-array-form left less ms b k e l f) t h = variant-along _ _ _ (sequence-two (forms-refs f (alone (λ n d. tt) tt) h))
      form-refs (json-object-form left less es b k e l up f) t h = variant-along _ _ _
          (entries-two (entries_form-refs f (alone (λ n d. tt) tt) (alone (λ n d. tt) tt) h))
      form-refs _ t h = search (variant-along, pair-along, flag-same, number-along, integer-along, text-along, pattern-along, none-along)

      forms-refs : {left : ℕ} {s : Shape} {ms : List (Meaning A)} {b : List ℕ} {k : List A} → Forms A kind_of parts left s ms b k → Inside nodes parts s
          → Each P k
          → AllTwo (Along (Unit {0}) (λ a c. Q a)) ms ms
      forms-refs (no-forms left s) t h = no-two
      forms-refs (more-forms left s m ms b c k l f g) t h = let p = each_split P k l h in more-two m m ms ms (form-refs f t p.0) (forms-refs g t p.1)

      entries_form-refs : {left : ℕ} {s s2 : Shape} {es : List (Entry A)} {b : List ℕ} {k : List A} → Entries A kind_of parts left s s2 es b k
          → Inside nodes parts s
          → Inside nodes parts s2 → Each P k → AllTwo (EntryAlong (Unit {0}) (λ a c. Q a)) es es
      entries_form-refs (no-entries left s s2) t u h = no-two
      entries_form-refs (more-entries left s s2 m n es b c d j k l f g e) t u h =
          let p = each_split P j (k ++ l) h in let q = each_split P k l p.1 in
          more-two (m, n) (m, n) es es (record { key = form-refs f t p.0; value = form-refs g u q.0 }) (entries_form-refs e t u q.1)

-- what is so of the types of the set is so of each type that a tree of one of them reaches
module _ (hash : List ℕ → List ℕ) (types : Types) (nodes M : ℕ → Type 0) (closed : IsClosed types nodes) (all : (n : ℕ) → nodes n → M n) where
  types_of : (m : Meaning ⊥) {n : Meaning Kid} → Along (Unit {0}) (λ k l. M (type_of k.kind) × EachType M k.meaning) (unfolded m) n → EachType M m
  unfolding EachType unfolded
  types_of (pair a b) (pair-along x y c d h g) = (types_of a h, types_of b g)
  types_of (variant i a) (variant-along j x c h) = types_of a h
  types_of (followed kind a) (reference-along k l found) = found
  types_of x0 h = grind basics

  mutual
    stays : {t : Tree} {key : ℕ} → KeyOf hash types t key → nodes t.type → EachType M t.meaning
    stays (key-of t s bytes kids keys is f h) inside = types_of t.meaning (form-refs nodes (λ (k : Kid). nodes (type_of k.kind) → EachType M k.meaning)
        (λ (k : Kid). M (type_of k.kind) × EachType M k.meaning) (λ k n g. (all (type_of k.kind) n, g n)) f (closed t.type s inside is) (all_stay h))

    all_stay : {kids : List Kid} {keys : List ℕ} → KeysOf hash types kids keys → Each (λ (k : Kid). nodes (type_of k.kind) → EachType M k.meaning) kids
    all_stay no-keys = tt
    all_stay (more-keys k kids key keys h g) = (λ n. stays h n, all_stay g)

-- ---- different blobs have different preimages

shifted : (j x : ℕ) → x / 256 ^ suc j ≡ x / 256 ^ j / 256
shifted j x = ap (λ (p : ℕ). x / p) (pow-suc 256 j) ∙ sym (div-div-eq-div-mul x (256 ^ j) 256)

same-from : (k j m n : ℕ) → m / 256 ^ j < 256 ^ k → n / 256 ^ j < 256 ^ k → bytes_low_first j k m ≡ bytes_low_first j k n → m / 256 ^ j ≡ n / 256 ^ j
same-from zero j m n h g e = omega arith
same-from (suc k) j m n h g e =
    let heads : byte_at j m ≡ byte_at j n = cc in
    let first : m / 256 ^ j % 256 ≡ n / 256 ^ j % 256 = sym (grind basics) ∙ heads ∙ (grind basics) in
    let few : m / 256 ^ suc j < 256 ^ k = omega (arith, pow-suc 256 k, shifted j m) in
    omega (arith, first, same-from k (suc j) m n few (omega (arith, pow-suc 256 k, shifted j n)) cc, shifted j m, shifted j n)

same-bytes : (k m n : ℕ) → m < 256 ^ k → n < 256 ^ k → bytes_low_first 0 k m ≡ bytes_low_first 0 k n → m ≡ n
same-bytes k m n h g e = omega (arith, same-from k 0 m n (omega arith) (omega arith) e)

keys-length : (ks : List ℕ) → length (flat_map (to_le_bytes w128) ks) ≡ 16 * length ks
keys-length [] = refl
keys-length (k ∷ ks) = omega (arith, length-append (to_le_bytes w128 k) (flat_map (to_le_bytes w128) ks), keys-length ks)

same-key-lists : (ks ls : List ℕ) → Each (λ k. k < 2 ^ 128) ks → Each (λ k. k < 2 ^ 128) ls → flat_map (to_le_bytes w128) ks ≡ flat_map (to_le_bytes w128) ls
    → ks ≡ ls
same-key-lists [] [] h g e = refl
same-key-lists (k ∷ ks) (l ∷ ls) h g e =
    let parts = cut (to_le_bytes w128 k) (to_le_bytes w128 l) _ _ refl e in
    rw (same-bytes 16 k l (omega arith) (omega arith) parts.0, same-key-lists ks ls h.1 g.1 parts.1) refl
same-key-lists x0 x1 h g e = grind (basics, keys-length)

one_preimage : (a b : Blob) → IsBlob a → IsBlob b → preimage a ≡ preimage b → a ≡ b
unfolding preimage
one_preimage a b h g e =
    let counts = cut (to_le_bytes w64 (length a.keys)) (to_le_bytes w64 (length b.keys)) _ _ refl e in
    let count : length a.keys ≡ length b.keys = same-bytes 8 _ _ (omega arith) (omega arith) counts.0 in
    let long = ap length counts.1 in let size : length a.bytes ≡ length b.bytes = omega (
      arith,
      long,
      count,
      length-append a.bytes (flat_map (to_le_bytes w128) a.keys),
      length-append b.bytes (flat_map (to_le_bytes w128) b.keys),
      keys-length a.keys,
      keys-length b.keys,
    ) in
    let rest = cut a.bytes b.bytes _ _ size counts.1 in grind (basics, same-key-lists a.keys b.keys h.1 g.1 rest.1)

-- ---- the height of a tree is the length of its longest path

pub longest_path : (m : Meaning ⊥) (n : ℕ) → HasPath n m ↔ (n ≤ height m)
unfolding HasPath height
longest_path (pair a b) n = let p = longest_path a n in let q = longest_path b n in
    (λ h. grind (basics, p.0, q.0), λ h. grind (basics, p.1, q.1))
longest_path (variant x a) n = longest_path a n
longest_path (followed kind a) (suc n) =
    let p = longest_path a n in (
      λ (eager, h). grind (basics, p.0 h),
      λ h. let e : ((is_eager kind) ≡ true) × (n ≤ (height a)) = grind basics in
          (e.0, p.1 e.1),
    )
longest_path x0 x1 = (λ h. grind basics, λ h. grind basics)

-- a kid of canonical types, and one of its kind
abbrev CanonicalKid : Types → Kid → Kid → Type 0
CanonicalKid types x y = (kind_of_kid y ≡ kind_of_kid x) × IsCanonicalTree types (tree_of_kid x)

module _ (types : Types) where
  canonical-along : (m : Meaning ⊥) → EachType (IsCanonicalType types) m → Along ⊥ (CanonicalKid types) (unfolded m) (unfolded m)
  unfolding EachType unfolded
  canonical-along (pair a b) h = pair-along _ _ _ _ (canonical-along a h.0) (canonical-along b h.1)
  canonical-along (variant n a) h = variant-along _ _ _ (canonical-along a h)
  canonical-along (followed kind a) h = reference-along _ _ (refl, h)
  canonical-along x0 h = grind (basics, number-along, integer-along, text-along, pattern-along, none-along)

  -- the references in a form of a tree's value are of canonical types where the tree's are
  canonical-kids : (s : Shape) (m : Meaning ⊥) (bytes : List ℕ) (kids : List Kid) → EachType (IsCanonicalType types) m → TreeForm types s m bytes kids
      → (others : List Kid) × AllTwo (CanonicalKid types) kids others
  canonical-kids s m bytes kids h f = let p = form-along {R = CanonicalKid types} (λ x y k. k.0) f (canonical-along m h) in (p.refs, p.each)

module _ {hash : List ℕ → List ℕ} {types : Types} where
  mutual
    same-key : {t u : Tree} {k l : ℕ} → KeyOf hash types t k → KeyOf hash types u l → IsCanonicalTree types t → t ≡ u → k ≡ l
    same-key (key-of t s b kids keys is f h) (key-of u s2 c kids2 keys2 is2 g h2) can e =
        let shapes : s ≡ s2 = same_some _ _ (sym is ∙ ap (λ (x : Tree). types.nodes x.type) e ∙ is2) in
        let g2 = let P : Shape → Tree → Type 0 = λ z x. TreeForm types z x.meaning c kids2 in
        subst (λ (x : Tree). P s x) (sym e) (subst (λ (z : Shape). P z u) (sym shapes) g) in
        let forms = one-form f g2 (can.0 s is) refl in
        rw (forms.0, same-keys h h2 (canonical-kids types s t.meaning b kids can.1 f).1 forms.1) refl

    same-keys : {kids kids2 others : List Kid} {keys keys2 : List ℕ} → KeysOf hash types kids keys → KeysOf hash types kids2 keys2
        → AllTwo (CanonicalKid types) kids others
        → kids ≡ kids2 → keys ≡ keys2
    same-keys no-keys no-keys can e = refl
    same-keys (more-keys x xs k ks h g) (more-keys x2 xs2 k2 ks2 h2 g2) (more-two y z ys zs c cs) e =
        let heads : x ≡ x2 = cc in let tails : xs ≡ xs2 = cc in
        rw (same-key h h2 c.1 (ap tree_of_kid heads), same-keys g g2 cs tails) refl
    same-keys x0 x1 can e = cc

pub one_key : (hash : List ℕ → List ℕ) (types : Types) (t : Tree) (k l : ℕ) → IsCanonicalTree types t → KeyOf hash types t k → KeyOf hash types t l → k ≡ l
one_key hash types t k l can h g = same-key h g can refl

pub one_item_key : IsOneItemKey
one_item_key = record { one = λ hash types bytes kids k l item h g. search (rules, canonical-kids, same-keys) }

looked-keys : (refs : List KeyRef) → Looked (λ kind key. Ok (key_ref kind key)) kind_of_ref (map key_of_ref refs) refs (Ok [])
looked-keys [] = all-looked []
looked-keys (r ∷ refs) = one-looked r.key (map key_of_ref refs) r refs (Ok []) refl (looked-keys refs)

-- what is stored as a form reads as its meaning
pub stored-reads : (store : ℕ → Option Blob) (types : Types) (type key : ℕ) (m : Meaning KeyRef) → IsReadableType types type → StoredAs store types type key m
    → ReadsAs store types type key m
unfolding read
stored-reads store types type key m can h =
    let whole = rw append-nil at (form-again [] h.form (looked-keys h.refs) (can h.shape h.is)) in
    record { blob = blob_of h.bytes (map key_of_ref h.refs); stored = h.stored; rest = rest [] []; reads = rw h.is whole }

pub tree_readable : (store : ℕ → Option Blob) (types : Types) (t : Tree) (key : ℕ) → IsReadableTree types t → StoredTree store types key t
    → ReadsTree store types key t
tree_readable store types t key can h = grind (basics, stored-reads, followed-on)

-- a kid of the reference's kind, whose key the reference has
record KeyedKid (hash : List ℕ → List ℕ) (types : Types) (r : KeyRef) (k : Kid) : Type 0 where
  kind : k.kind ≡ r.kind
  key : KeyOf hash types (tree_of_kid k) r.key

module _ {hash : List ℕ → List ℕ} {types : Types} where
  keyed : {refs : List KeyRef} {kids : List Kid} → AllTwo (KeyedKid hash types) refs kids → KeysOf hash types kids (map key_of_ref refs)
  keyed no-two = no-keys
  keyed (more-two r k refs kids h g) = more-keys k kids r.key (map key_of_ref refs) h.key (keyed g)

  module _ {store : ℕ → Option Blob} (own_keys : HasOwnKeys hash store) where
    node-key : (type key : ℕ) (x : Meaning KeyRef) (a : Meaning ⊥) → StoredAs store types type key x → Along ⊥ (KeyedKid hash types) x (unfolded a)
        → KeyOf hash types (tree type a) key
    node-key type key x a h g =
        let p = form-along (λ r k o. o.kind) h.form g in
        let k = key-of (tree type a) h.shape h.bytes p.refs (map key_of_ref h.refs) h.is p.form (keyed p.each) in
        let P : ℕ → Type 0 = λ n. KeyOf hash types (tree type a) n in subst P (sym (own_keys key _ h.stored)) k

    keys-along : {x : Meaning KeyRef} {a : Meaning ⊥} → IsFollowed (StoredAs store types) x a → Along ⊥ (KeyedKid hash types) x (unfolded a)
    unfolding unfolded
    keys-along (pair-followed x y a b f g) = pair-along _ _ _ _ (keys-along f) (keys-along g)
    keys-along (variant-followed n x a f) = variant-along _ _ _ (keys-along f)
    keys-along (reference-followed r x a o f) = reference-along _ _ (record { kind = refl; key = node-key (type_of r.kind) r.key x a o (keys-along f) })
    keys-along x0 = grind (basics, number-along, integer-along, text-along, pattern-along, none-along)

stored_key : (hash : List ℕ → List ℕ) (store : ℕ → Option Blob) (types : Types) (t : Tree) (key : ℕ) → HasOwnKeys hash store → StoredTree store types key t
    → KeyOf hash types t key
stored_key hash store types t key own_keys h = node-key own_keys t.type key h.own t.meaning h.stands (keys-along own_keys h.follows)

-- ---- keys tell trees apart

module _ {store other : ℕ → Option Blob} {types : Types} (shares : SharesNoKey store other) where
  same-stored : {type key : ℕ} {m n : Meaning KeyRef} → IsReadableType types type → StoredAs store types type key m → StoredAs other types type key n → m ≡ n
  same-stored {type} {key} {m} {n} can h g =
      let first = stored-reads store types type key m can h in let second = stored-reads other types type key n can g in
      grind basics

pub tree_laws : TreeLaws
tree_laws = record {
  has_one_preimage = one_preimage;
  is_one_tree = one_tree;
  is_one_key = one_key;
  is_stored_key = stored_key;
  is_tree_readable = tree_readable;
  is_key_of_one_tree = λ hash store other types t u k l first second shares type can readable h g. (
    λ e.
        let stands = let P : ℕ → ℕ → Type 0 = λ n key. StoredAs other types n key g.own in
        subst (λ (n : ℕ). P n k) (sym type) (subst (λ (key : ℕ). P u.type key) (sym e) g.stands) in
        tree_is type (one-followed (IsReadableType types) (λ t key m n can p q. same-stored shares can p q) readable.1 h.follows g.follows
        (same-stored shares readable.0 h.stands stands)),
    λ e.
        let two = let P : Tree → Type 0 = λ x. KeyOf hash types x l in subst P (sym e) (stored_key hash other types u l second g) in
        one_key hash types t k l can (stored_key hash store types t k first h) two,
  );
  is_longest_path = longest_path;
  stays_inside = λ hash types nodes t key closed inside h. stays hash types (λ n. nodes n ≡ true) (λ n. nodes n ≡ true) closed (λ n i. i) h inside;
  is_canonical_inside = λ hash types nodes t key closed all inside h. (
    all t.type inside,
    stays hash types (λ n. nodes n ≡ true) (IsCanonicalType types) closed all h inside,
  );
  is_one_meaning = one-meaning;
}
