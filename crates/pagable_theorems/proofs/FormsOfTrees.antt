-- A form of a node's value is a form of the node's tree: its references are followed to their nodes' trees, and with their keys it is stored under the tree's
-- own key.
use Rattle.pagable_pager_spec.specs.{
  Pager.{IsWrittenOf, MeaningStands, NodeStands, away, followed-stands, here, kids_of, number-stands, pair-stands, reference-stands, variant-stands},
  Rightness.AreKeysOf,
  Theorem.OneTreeLaw,
  World.{Outcome, digest, published, type_at},
}
use Rattle.pagable_theorems.proofs.{
  Decoding.{among-left, among-right, given-too},
  Naturality.{both-looked-up, each, keeps_forms, one_cause, read_par},
  RoundTrip.{looks-itself, read_again},
  Trees.{AllTwo, Along, followed-along, more-two, no-two, one_tree, pair-along, reference-along, same-number, same_some, sum-le, sum-zero, tree_is, variant-along},
  Words.{Among, ArcRef, Bool, Core, FollowsTo, Form, HandleRow, HandlesAreWhole, HoldsSettled, Identity, IsLawful, IsPagerWhole, IsPublished, IsReadable},
  Words.{IsReadableType, List, Meaning, Ok, Option, Owner, PagerStandsFor, PagerState, Shape, Shelf, Slot, Some, Throughout, Tree, Types, Values, Written, ap},
  Words.{append-nil, arith, basics, blob_of, held, identity_of, if_there, inr, integer-leads, is_handle, is_owned_by, is_some, le_trans, map, one, owner_value},
  Words.{reference, references_in, refl, rename, rest, slice_get, slice_get_within, subst, suc, sum_by-cons, sym, times, tree, true, type_of, zero, ℕ, []},
  Words.{◌&&◌, ◌++◌, ◌<◌, ◌==◌, ◌∙◌, ◌∷◌, ◌≡◌, ◌≤◌},
}
use Rattle.pagable_theorems.specs.{
  TreeSteps.{Ground, KeyStands, LeadsBy, WroteTree, followed-leads, none-leads, number-leads, pair-leads, pattern-leads, reference-leads, text-leads},
  TreeSteps.variant-leads,
}
use Rattle.pagable_value_spec.specs.{
  Canonical.{EachType, IsReadableTree},
  Height.{Kid, kid, kind_of_kid},
  Merkle.{KeyOf, KeysOf, StoredAs, TreeForm, key-of, key_of_ref, kind_of_ref, more-keys, no-keys, unfolded},
  Reading.deepest,
  Trees.{IsFollowed, KeyRef, integer-followed, key_ref, none-followed, number-followed, pair-followed, pattern-followed, reference-followed, text-followed},
  Trees.variant-followed,
  Writing.kind_of_arc,
}
use Rattle.std.proofs.lemmas.Option.{get_or_from_slice_get}
use Rattle.std.specs.Prelude.{nat_lt}

-- ---- the references in a form's meaning are those of the form, and none is followed

module _ {A : Type 0} where
  each-among : (P : A → Type 0) (k : List A) → ((a : A) → Among k a → P a) → AllTwo (λ a b. P a) k k
  each-among P [] h = no-two
  each-among P (a ∷ k) h = more-two a a k k (h a (0, refl)) (each-among P k (λ b among. h b (suc among.0, among.1)))

  pub references-among : {kind_of : A → ℕ} {parts : ℕ → Shape} {s : Shape} {m : Meaning A} {b : List ℕ} {k : List A} → Throughout IsReadable parts s
      → Form A kind_of parts deepest s m b k → (n : Meaning A) × Along ⊥ (λ a c. Among k a) m n
  references-among {kind_of} {parts} {s} {m} {b} {k} can f =
      let whole = read_again parts s can 0 (λ kind a. Ok a) kind_of m b [] k k [] (looks-itself (λ a. refl) k) f in
      let par = read_par {E = one_cause} {F = ⊥} {T = AllTwo (λ a c. Among k a)} {R = λ a c. Among k a} (λ kind a. Ok a) (λ kind a. Ok a)
      (each _ _ (λ kind a c s. both-looked-up a c s)) 0 s (inr can) in
      let (n, left, is, along) = given-too (par.out (rest b k) (rest b k) (record { bytes = refl; refs = each-among (λ a. Among k a) k (λ a among. among) }))
      (rw (append-nil, append-nil) at whole) in
      (n, along)

-- ---- a node stands for one tree of its type

module _ {N E : Type 0} {v : Values N} {s : PagerState N E} (settled : HoldsSettled v s) where
  mutual
    pub one-node : {n : ℕ} {t u : Tree} → NodeStands v s n t → NodeStands v s n u → t.type ≡ u.type → t.meaning ≡ u.meaning
    one-node (here n x own t held typed means stands fits) (here n2 y own2 u held2 typed2 means2 stands2 fits2) e =
        let same : y ≡ x = same_some _ _ (sym held2 ∙ held) in
        one-meaning stands stands2 (sym (settled n x held own own2 means (subst (λ z. v.means z own2) same means2)))
    one-node (away n key t none_there keyed fits) (away n2 key2 u none2 keyed2 fits2) e =
        ap (λ (z : Tree). z.meaning) (one_tree s.core.stored v.types key t u e (fits key keyed) (fits2 key keyed))
    one-node (here n x own t held typed means stands fits) (away n2 key2 u none2 keyed2 fits2) e = absurd (cc)
    one-node (away n key t none_there keyed fits) (here n2 y own2 u held2 typed2 means2 stands2 fits2) e = absurd (cc)

    one-meaning : {x y : Meaning ArcRef} {a b : Meaning ⊥} → MeaningStands v s x a → MeaningStands v s y b → x ≡ y → a ≡ b
    one-meaning (pair-stands x y a b h g) (pair-stands x2 y2 a2 b2 h2 g2) e = rw (one-meaning h h2 cc, one-meaning g g2 cc) refl
    one-meaning (variant-stands i x a h) (variant-stands j y b h2) e = let same : i ≡ j = cc in rw (same, one-meaning h h2 cc) refl
    one-meaning (followed-stands i x a h) (followed-stands j y b h2) e = let same : i ≡ j = cc in rw (same, one-meaning h h2 cc) refl
    one-meaning (reference-stands r a h) (reference-stands r2 b h2) e = let same : r2 ≡ r = cc in rw (same, one-node h (rw same at h2) refl) refl
    one-meaning h (number-stands j) e = cc
    one-meaning h g e = cc

pub one_tree_law : {N : Type 0} (E : Type 0) (v : Values N) → OneTreeLaw E v
one_tree_law E v s trees others n settled stands other live =
    let typed = same_some _ _ (sym (other.typed n live) ∙ stands.typed n live) in
    tree_is typed (one-node settled (other.stands n live) (stands.stands n live) typed)

module _ {w : Core} (whole : HandlesAreWhole w) (n : ℕ) where
  pub held-of : is_some (w.cells n) ≡ true → 0 < held n w.rows
  held-of is = grind basics

  pub cell-of : 0 < held n w.rows → is_some (w.cells n) ≡ true
  cell-of some = let f : nat_lt 0 (held n w.rows) ≡ true = grind basics in whole.live n ∙ f

  pub given-of : {t : ℕ} → type_at w n ≡ Some t → (0 < held n w.rows) × (n ≤ w.last.node)
  given-of {t} is = let there : is_some (w.cells n) ≡ true = grind arith in (held-of there, (whole.nodes_numbered n there).1)

rows-once : (q : ℕ) (rows : List HandleRow) → ((i j : ℕ) (a b : HandleRow) → i < j → slice_get rows i ≡ Some a → slice_get rows j ≡ Some b
    → a.number.0 < b.number.0) → times (is_handle q) rows ≤ 1
rows-once q [] apart = omega arith
rows-once q (h ∷ hs) apart =
    let rest = rows-once q hs (λ i j a b lt x y. apart (suc i) (suc j) a b (omega arith) x y) in
    let sum = sum_by-cons (λ (x : HandleRow). one (is_handle q x)) h hs in
    let off : h.number.0 ≡ q → times (is_handle q) hs ≡ 0 = λ same. sum-zero (λ x. one (is_handle q x)) hs
    (λ x (i, there). let lt = apart 0 (suc i) h x (omega arith) refl there in grind (basics, same-number)) in
    grind (basics, one, same-number)

pub one-less : (a b : Bool) → one (a && b) ≤ one a
one-less x0 x1 = grind basics

pub owned-once : {w : Core} → HandlesAreWhole w → (o : Owner) (q : ℕ) → times (λ h. is_handle q h && is_owned_by o h) w.rows ≤ 1
owned-once {w} whole o q =
    le_trans (sum-le (λ h. one (is_handle q h && is_owned_by o h)) (λ h. one (is_handle q h)) w.rows (λ h among. one-less (is_handle q h) (is_owned_by o h)))
    (rows-once q w.rows (λ i j a b lt at there.
    rw (get_or_from_slice_get w.rows i a a at, get_or_from_slice_get w.rows j b a there) at (whole.ordered i j a lt (slice_get_within w.rows j b there))))

-- what is so of each of both lists is so of each of the one, and of the other
pub halves : {X : Type 0} {P : X → Type 0} (xs ys : List X) → ((x : X) → Among (xs ++ ys) x → P x) → ((x : X) → Among xs x → P x) × ((x : X) → Among ys x → P x)
halves xs ys h = (λ x among. h x (among-left xs ys among.0 x among.1), λ x among. h x (among-right xs ys among.0 x among.1))

-- it leads there with other trees, the same at the nodes that are referred to
pub leads-on : {F : Type 0} {P Q : ArcRef → Type 0} {trees trees' : ℕ → Tree} {x : Meaning ArcRef} {a : Meaning ⊥} → LeadsBy F P trees x a
    → ((r : ArcRef) → Among (references_in x) r → P r → Q r × (trees' r.node.0 ≡ trees r.node.0)) → LeadsBy F Q trees' x a
unfolding references_in
leads-on (pair-leads x y a b f g) h = let p = halves (references_in x) (references_in y) h in pair-leads x y a b (leads-on f p.0) (leads-on g p.1)
leads-on (variant-leads i x a f) h = variant-leads i x a (leads-on f h)
leads-on (followed-leads kind x a n f) h = followed-leads kind x a n (leads-on f h)
leads-on (reference-leads r a p meant) h = let q = h r (zero, refl) p in reference-leads r a q.0 (ap (λ (t : Tree). t.meaning) q.1 ∙ meant)
leads-on l h = search (number-leads, integer-leads, text-leads, pattern-leads, none-leads)

-- what it stands for it leads to, where what the node of each reference stands for is the node's tree
pub stands-leads : {N E : Type 0} {v : Values N} {s : PagerState N E} {trees : ℕ → Tree} {F : Type 0} {P : ArcRef → Type 0} {R : ArcRef → ArcRef → Type 0}
    {x n : Meaning ArcRef} {a : Meaning ⊥}
    → MeaningStands v s x a → Along F R x n
    → ((r : ArcRef) → Among (references_in x) r → (c : ArcRef) → R r c → (b : Meaning ⊥) → NodeStands v s r.node.0 (tree (type_of r.kind.0) b) → P r
    × ((trees r.node.0).meaning ≡ b))
    → LeadsBy F P trees x a
unfolding references_in
stands-leads (pair-stands x y a b f g) (pair-along x2 y2 a2 b2 k l) h = let p =
    halves (references_in x) (references_in y) h in pair-leads x y a b (stands-leads f k p.0) (stands-leads g l p.1)
stands-leads (variant-stands i x a f) (variant-along j x2 a2 k) h = variant-leads i x a (stands-leads f k h)
stands-leads (followed-stands i x a f) (followed-along j x2 a2 n k) h = followed-leads i x a n (stands-leads f k h)
stands-leads (reference-stands r a node) (reference-along r2 c same) h = let is = h r (zero, refl) c same a node in reference-leads r a is.0 is.1
stands-leads f k h = search (number-leads, integer-leads, text-leads, pattern-leads, none-leads)

module _ {N E : Type 0} {v : Values N} {s : PagerState N E} {trees : ℕ → Tree} (represents : PagerStandsFor v s trees) (whole : IsPagerWhole v s)
    (settled : HoldsSettled v s)
    (lawful : IsLawful v) where
  refers : (n : ℕ) (x : N) (r : ArcRef) → s.values n ≡ Some x → Among (v.references x) r
      → (r.node.0 ≤ s.core.last.node) × ((b : Meaning ⊥) → NodeStands v s r.node.0 (tree (type_of r.kind.0) b) → (trees r.node.0).meaning ≡ b)
  refers n x r there among =
      let is = whole.references n x r there among in
      let given = given-of whole.whole.handles r.node.0 is.typed in
      (given.1, λ b stands. one-node settled (represents.stands r.node.0 given.0) stands (same_some _ _ (sym (represents.typed r.node.0 given.0) ∙ is.typed)))

  wrote-of : (n : ℕ) (written : Written) (t : Tree) → IsReadableType v.types (trees n).type → t ≡ trees n → NodeStands v s n t → IsWrittenOf v s n written
      → WroteTree v.types (record { stored = s.core.stored; last = s.core.last.node; trees = trees }) n written
  wrote-of n written t readable is (here n2 x own t2 there typed means stands fits) w =
      let same : w.x ≡ x = same_some _ _ (sym w.held ∙ there) in
      let own_is : own ≡ w.form.own = settled n w.x w.held w.form.own own w.form.means (subst (λ z. v.means z own) (sym same) means) in
      let meant : MeaningStands v s w.form.own (trees n).meaning = subst (λ (z : Tree). MeaningStands v s w.form.own z.meaning) is
      (subst (λ m. MeaningStands v s m t.meaning) own_is stands) in
      let shape_is : v.types.nodes (trees n).type ≡ Some w.form.shape = rw (← is, ← typed, ← same) w.form.is in
      let of-value : (r : ArcRef) → Among written.references r → Among (v.references w.x) r =
      λ r among. subst (λ (rs : List ArcRef). Among rs r) w.listed among in
      let alone = references-among (readable w.form.shape shape_is) w.form.form in
      let follows : FollowsTo trees written.references w.form.own (trees n).meaning =
      stands-leads meant alone.1 (λ r own c among b stands. (among, (refers n w.x r w.held (of-value r among)).1 b stands)) in
      let given : (r : ArcRef) → Among written.references r → r.node.0 ≤ s.core.last.node = λ r among. (refers n w.x r w.held (of-value r among)).0 in
      let once : (q : ℕ) → times (λ (r : ArcRef). r.handle.0 == q) (references_in w.form.own) ≤ 1 =
      λ q. omega (
        arith,
        lawful.refers w.x w.form.own w.form.means (λ r. r.handle.0 == q),
        whole.owns_references n w.x q w.held,
        owned-once whole.whole.handles (owner_value n) q,
      ) in
      search (shape_is, readable, w.form.form, follows, given, once)
  wrote-of n written t readable is (away n2 key t2 none_there keyed fits) w = absurd (cc)

  pub wrote : (n : ℕ) (written : Written) → IsReadableType v.types (trees n).type → IsWrittenOf v s n written
      → WroteTree v.types (record { stored = s.core.stored; last = s.core.last.node; trees = trees }) n written
  wrote n written readable w = grind (arith, held-of, wrote-of)

-- the key that is known of an identity, and the reference by its key
abbrev key_of_outcome : Outcome → ℕ
key_of_outcome (published key height) = key
key_of_outcome _ = 0

abbrev keyed_by : Shelf → ArcRef → KeyRef
keyed_by shelf r = key_ref r.kind.0 (if_there (λ (slot : Slot). key_of_outcome slot.outcome) 0 (shelf.slots (identity_of r)))

module _ (shelf : Shelf) where
  known-key : (r : ArcRef) (k h : ℕ) → IsPublished shelf (identity_of r) k h → (keyed_by shelf r).key ≡ k
  known-key r k h p = ap (λ (slot : Option Slot). if_there (λ (slot : Slot). key_of_outcome slot.outcome) 0 slot) p.claimed ∙ ap key_of_outcome p.known

  keys-are : (rs : List ArcRef) (keys : List ℕ) → AreKeysOf shelf rs keys → keys ≡ map key_of_ref (map (keyed_by shelf) rs)
  keys-are (r ∷ rs) (k ∷ ks) ((h, p), known) = rw (known-key r k h p, ← keys-are rs ks known) refl
  keys-are x0 x1 x2 = grind basics

  -- of each reference a key is known
  pub known-of : (rs : List ArcRef) (keys : List ℕ) → AreKeysOf shelf rs keys → (r : ArcRef) (among : Among rs r)
      → (k : ℕ) × ((h : ℕ) × IsPublished shelf (identity_of r) k h) × (slice_get keys among.0 ≡ Some k)
  known-of (x ∷ rs) (k ∷ ks) (p, known) r (suc i, e) = known-of rs ks known r (i, e)
  known-of x0 x1 x2 r x4 = grind basics

-- a known key stands for the tree of its node, which is of its kind's type
pub record IdentityStands {N : Type 0} (v : Values N) (g : Ground) (i : Identity) (key : ℕ) : Type 0 where
  pub typed : (g.trees i.node.0).type ≡ type_of i.kind.0
  pub right : KeyStands v g.stored (g.trees i.node.0) key

module _ {N : Type 0} {v : Values N} {g : Ground} {shelf : Shelf} (right : (i : Identity) (k h : ℕ) → IsPublished shelf i k h → IdentityStands v g i k) where
  -- the keys that are known of references are those of what they lead to
  pub keys-of : (rs : List ArcRef) (keys : List ℕ) → AreKeysOf shelf rs keys → KeysOf v.hash v.types (kids_of g.trees rs) keys
  keys-of (r ∷ rs) (k ∷ ks) ((h, p), known) = more-keys _ _ k ks (let is = right (identity_of r) k h p in rw (← is.typed) is.right.is_key) (keys-of rs ks known)
  keys-of x0 x1 known = grind (basics, no-keys)

  follows-keys : (rs : List ArcRef) (keys : List ℕ) → AreKeysOf shelf rs keys → {x : Meaning ArcRef} {a : Meaning ⊥} → FollowsTo g.trees rs x a
      → IsFollowed (StoredAs g.stored v.types) (rename (keyed_by shelf) x) a
  unfolding rename
  follows-keys rs keys known (pair-leads x y a b h k) = pair-followed _ _ a b (follows-keys rs keys known h) (follows-keys rs keys known k)
  follows-keys rs keys known (variant-leads i x a h) = variant-followed i _ a (follows-keys rs keys known h)
  follows-keys rs keys known (reference-leads r a among is) =
      let p = known-of shelf rs keys known r among in
      let stands = right (identity_of r) p.0 p.1.0 p.1.1 in
      reference-followed (keyed_by shelf r) stands.right.stands.own a (rw (known-key shelf r p.0 p.1.0 p.1.1, ← stands.typed) stands.right.stands.stands)
      (rw is at stands.right.stands.follows)
  follows-keys rs keys known (followed-leads kind x a none h) = absurd none
  follows-keys rs keys known h = search (number-followed, integer-followed, text-followed, pattern-followed, none-followed)

renamed-kids : (trees : ℕ → Tree) (rs : List ArcRef) {x : Meaning ArcRef} {a : Meaning ⊥} → FollowsTo trees rs x a
    → rename (λ (r : ArcRef). kid r.kind.0 (trees r.node.0).meaning) x ≡ unfolded a
unfolding rename unfolded
renamed-kids trees rs (pair-leads x y a b h k) = rw (renamed-kids trees rs h, renamed-kids trees rs k) refl
renamed-kids trees rs (variant-leads i x a h) = rw (renamed-kids trees rs h) refl
renamed-kids trees rs (reference-leads r a among is) = ap (λ (m : Meaning ⊥). let z : Meaning Kid = reference (kid r.kind.0 m) in z) is
renamed-kids trees rs (followed-leads kind x a none h) = absurd none
renamed-kids trees rs _ = refl

-- what was written is a form of the node's tree
pub tree-form : {types : Types} {g : Ground} {n : ℕ} {written : Written} → (w : WroteTree types g n written)
    → TreeForm types w.shape (g.trees n).meaning written.bytes (kids_of g.trees written.references)
tree-form {types} {g} {n} {written} w =
    let f = keeps_forms (λ (r : ArcRef). kid r.kind.0 (g.trees r.node.0).meaning) kind_of_arc kind_of_kid types.parts deepest w.shape w.own written.bytes
    written.references (λ r. refl) w.form in
    subst (λ m. Form Kid kind_of_kid types.parts deepest w.shape m written.bytes (kids_of g.trees written.references))
    (renamed-kids g.trees written.references w.follows) f

-- the types of all that it leads to are read back, where those of its references' trees are
followed-read : (types : Types) {trees : ℕ → Tree} (rs : List ArcRef) {x : Meaning ArcRef} {a : Meaning ⊥} → FollowsTo trees rs x a
    → ((r : ArcRef) → Among rs r → ((trees r.node.0).type ≡ type_of r.kind.0) × IsReadableTree types (trees r.node.0)) → EachType (IsReadableType types) a
unfolding EachType
followed-read types rs (pair-leads x y a b f g) h = (followed-read types rs f h, followed-read types rs g h)
followed-read types rs (variant-leads i x a f) h = followed-read types rs f h
followed-read types rs (reference-leads r a among is) h =
    let (typed, can) = h r among in (subst (IsReadableType types) typed can.0, subst (EachType (IsReadableType types)) is can.1)
followed-read types rs (followed-leads kind x a none f) h = absurd none
followed-read types rs _ h = tt

-- its blob is of the tree's key, under which the tree is stored
pub key-stands : {N : Type 0} {v : Values N} {g : Ground} {shelf : Shelf} {n key : ℕ} {written : Written} (keys : List ℕ)
    → ((i : Identity) (k h : ℕ) → IsPublished shelf i k h → IdentityStands v g i k)
    → WroteTree v.types g n written → AreKeysOf shelf written.references keys → g.stored key ≡ Some (blob_of written.bytes keys) → key
    ≡ digest v (blob_of written.bytes keys)
    → KeyStands v g.stored (g.trees n) key
key-stands {v = v} {g} {shelf} {n} {key} {written} keys right w known is_stored is =
    let form = keeps_forms (keyed_by shelf) kind_of_arc kind_of_ref v.types.parts deepest w.shape w.own written.bytes written.references (λ r. refl) w.form in
    let is_key : KeyOf v.hash v.types (g.trees n) key =
    rw is (key-of (g.trees n) w.shape written.bytes (kids_of g.trees written.references) keys w.is (tree-form w) (keys-of right written.references keys known))
    in
    let all : EachType (IsReadableType v.types) (g.trees n).meaning =
    followed-read v.types written.references w.follows (λ r among. let p = (known-of shelf written.references keys known r among).1 in
    let i = right (identity_of r) _ p.0 p.1 in
    (i.typed, i.right.can)) in
    let spells : StoredAs g.stored v.types (g.trees n).type key (rename (keyed_by shelf) w.own) =
    search (w.is, form, is_stored ∙ ap (λ ks. Some (blob_of written.bytes ks)) (keys-are shelf written.references keys known)) in
    record {
      is_key = is_key;
      stands = record {
        own = rename
            (keyed_by shelf) w.own;
        stands = spells;
        follows = follows-keys right written.references keys known w.follows;
      };
      can = (w.can, all);
    }
