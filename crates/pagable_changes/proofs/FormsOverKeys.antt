-- A form of a tree that is stored over the keys which its references have now reads as the tree; and what is so of the nodes
-- that stand open.
use Rattle.pagable_changes.specs.{
  Changes.{AllHaveKeys, FoundKeys, HasKey, cell-has-key, key-was-found, none-are-asked, one-more-has},
  declared.{keys.FoundKey.FoundKey, nodes.OpenNode.OpenNode},
}
use Rattle.pagable_pager_spec.specs.{
  Basics.{Among, ArcRef, Blob, OptionalDataKey, if_there, is_loose_kind},
  Calls.{KeyCall, NodeCall},
  World.{Core, Seen, Values, Written, key_at},
  declared.handle_row.HandleRow.HandleRow,
}
use Rattle.pagable_theorems.proofs.{LoadProgress.pushed, Naturality.keeps_forms, RoundTrip.{Looked, all-looked, form-again, one-looked}, Trees.same_some}
use Rattle.pagable_theorems.specs.{FormLaws.rest, TreeSteps.{FollowsTo, Ground, WroteTree, followed-leads, pair-leads, reference-leads, variant-leads}}
use Rattle.pagable_value_spec.specs.{
  Canonical.IsReadableType,
  Meaning.{Meaning, rename},
  Merkle.{StoredAs, blob_of, key_of_ref, kind_of_ref},
  Reading.{deepest, read},
  Trees.{IsFollowed, KeyRef, ReadsAs, ReadsTree, Tree, Types, integer-followed, key_ref, none-followed, number-followed, pair-followed, pattern-followed},
  Trees.{reference-followed, text-followed, type_of, variant-followed},
  Writing.kind_of_arc,
}
use Rattle.std.proofs.{
  Common.{Err, IfOk, List, Ok, Option, Result, Some, ap, append-nil, arith, if◌then◌else◌, inl, inr, map, refl, subst, suc, sym, true, zero, ℕ, [], ◌++◌, ◌==◌},
  Common.{◌∙◌, ◌∷◌, ◌≡◌},
  lemmas.{Bool.Decides.nat_tests, List.map-append},
}

-- what is so of each of both lists is so of each of them together
pub both-all : {X : Type 0} {P : X → Type 0} (xs ys : List X) → ((x : X) → Among xs x → P x) → ((x : X) → Among ys x → P x) → (x : X) → Among (xs ++ ys) x → P x
both-all [] ys f g x among = g x among
both-all (y ∷ xs) ys f g x (zero, is) = f x (zero, is)
both-all (y ∷ xs) ys f g x (suc i, is) = both-all xs ys (λ z (j, at). f z (suc j, at)) g x (i, is)

pub alone : {X : Type 0} (P : X → Type 0) (y : X) → P y → (x : X) → Among (y ∷ []) x → P x
alone P y p x (zero, is) = subst P (same_some _ _ is) p
alone P y p x (suc i, is) = absurd cc

looked-keys : (refs : List KeyRef) → Looked (λ kind key. Ok (key_ref kind key)) kind_of_ref (map key_of_ref refs) refs (Ok [])
looked-keys [] = all-looked []
looked-keys (r ∷ refs) = one-looked r.key (map key_of_ref refs) r refs (Ok []) refl (looked-keys refs)

-- what is stored as a form reads as its meaning
stored-reads : (store : ℕ → Option Blob) (types : Types) (type key : ℕ) (m : Meaning KeyRef) → IsReadableType types type → StoredAs store types type key m
    → ReadsAs store types type key m
unfolding read
stored-reads store types type key m can h =
    let whole = rw append-nil at (form-again [] h.form (looked-keys h.refs) (can h.shape h.is)) in
    record { blob = blob_of h.bytes (map key_of_ref h.refs); stored = h.stored; rest = rest [] []; reads = rw h.is whole }

-- ---- the keys that references have now

abbrev number_of : OptionalDataKey → ℕ
number_of (OptionalDataKey.Some key) = key
number_of OptionalDataKey.None = 0

abbrev pub key_now : FoundKeys → Core → ArcRef → ℕ
key_now found w r = if is_loose_kind r.kind.0 then number_of (key_at w r.node.0) else if_there (λ (k : FoundKey). k.key) 0 (found r.node.0)

abbrev keyed : FoundKeys → Core → ArcRef → KeyRef
keyed found w r = key_ref r.kind.0 (key_now found w r)

-- the cell of the reference has this key
pub cell-key : {w : Core} (r : ArcRef) {key : ℕ} → NodeCall w r.handle (Ok r.node) → KeyCall w r.handle (Ok (OptionalDataKey.Some key)) → key_at w r.node.0
    ≡ OptionalDataKey.Some key
cell-key {w} r at keys =
    let rows : keys.found.0 ≡ at.found.0 = same_some _ _ (sym keys.found.1 ∙ at.found.1) in
    ap (λ n. key_at w n.0) (at.found.2 ∙ ap (λ (q : HandleRow). q.node) (sym rows)) ∙ sym keys.found.2

pub has-now : {found : FoundKeys} {w : Core} {r : ArcRef} {key : ℕ} → HasKey found w r key → key_now found w r ≡ key
has-now {r = r} (cell-has-key key loose at keys) = rw (loose) (ap number_of (cell-key r at keys))
has-now (key-was-found k eager is) = rw (eager) (ap (λ o. if_there (λ (k : FoundKey). k.key) 0 o) is)

keys-now : {found : FoundKeys} {w : Core} {rs : List ArcRef} {keys : List ℕ} → AllHaveKeys found w rs keys → keys ≡ map key_of_ref (map (keyed found w) rs)
keys-now none-are-asked = refl
keys-now {found} {w} (one-more-has rs keys r key all one) =
    ap (λ ks. ks ++ key ∷ []) (keys-now all) ∙ ap (λ k. map key_of_ref (map (keyed found w) rs) ++ k ∷ []) (sym (has-now one))
    ∙ sym (map-append key_of_ref (map (keyed found w) rs) (keyed found w r ∷ [])) ∙ ap (λ ks. map key_of_ref ks) (sym (map-append (keyed found w) rs (r ∷ [])))

pub each-has : {found : FoundKeys} {w : Core} {rs : List ArcRef} {keys : List ℕ} → AllHaveKeys found w rs keys → (r : ArcRef) → Among rs r → (key : ℕ)
    × HasKey found w r key
each-has none-are-asked r among = absurd cc
each-has {found} {w} (one-more-has rs keys q key all one) r (i, is) = elim (pushed rs q i r is) [
  | inl old ↦ each-has all r (i, old)
  | inr new ↦ (key, rw new.1 at one)
]

module _ {stored : ℕ → Option Blob} {types : Types} {trees : ℕ → Tree} (f : ArcRef → ℕ) (rs : List ArcRef)
    (reads : (r : ArcRef) → Among rs r → ((trees r.node.0).type ≡ type_of r.kind.0) × ReadsTree stored types (f r) (trees r.node.0)) where
  follows-keys : {x : Meaning ArcRef} {a : Meaning ⊥} → FollowsTo trees rs x a
      → IsFollowed (ReadsAs stored types) (rename (λ (r : ArcRef). key_ref r.kind.0 (f r)) x) a
  unfolding rename
  follows-keys (pair-leads x y a b h k) = pair-followed _ _ a b (follows-keys h) (follows-keys k)
  follows-keys (variant-leads i x a h) = variant-followed i _ a (follows-keys h)
  follows-keys (reference-leads r a among is) =
      let p = reads r among in
      let under : ReadsAs stored types (type_of r.kind.0) (f r) p.1.own = rw p.0 at p.1.reads in
      reference-followed (key_ref r.kind.0 (f r)) p.1.own a under (rw is at p.1.follows)
  follows-keys (followed-leads kind x a none h) = absurd none
  follows-keys h = search (number-followed, integer-followed, text-followed, pattern-followed, none-followed)

-- a form of a tree, stored over keys that read as what its references lead to, reads as the tree
pub blob-reads : {types : Types} {g : Ground} {n key : ℕ} {written : Written} {keys : List ℕ} {found : FoundKeys} {w : Core} → WroteTree types g n written
    → AllHaveKeys found w written.references keys
    → ((r : ArcRef) → Among written.references r → ((g.trees r.node.0).type ≡ type_of r.kind.0)
    × ReadsTree g.stored types (key_now found w r) (g.trees r.node.0))
    → g.stored key ≡ Some (blob_of written.bytes keys) → ReadsTree g.stored types key (g.trees n)
blob-reads {types} {g} {n} {key} {written} {keys} {found} {w} wrote_it have reads is_stored =
    let form = keeps_forms (keyed found w) kind_of_arc kind_of_ref types.parts deepest wrote_it.shape wrote_it.own written.bytes written.references
    (λ r. refl) wrote_it.form in
    let under : StoredAs g.stored types (g.trees n).type key (rename (keyed found w) wrote_it.own) = record {
      shape = wrote_it.shape;
      is = wrote_it.is;
      bytes = written.bytes;
      refs = map (keyed found w) written.references;
      form = form;
      stored = is_stored ∙ ap (λ ks. Some (blob_of written.bytes ks)) (keys-now have);
    } in
    record {
      own = rename (keyed found w) wrote_it.own;
      reads = stored-reads g.stored types (g.trees n).type key _ wrote_it.can under;
      follows = follows-keys (key_now found w) written.references reads wrote_it.follows;
    }

-- the node that was entered first
abbrev pub first_of : List OpenNode → OpenNode → OpenNode
first_of [] o = o
first_of (x ∷ xs) o = x

pub first-down : (path : List OpenNode) (o child : OpenNode) → first_of (path ++ o ∷ []) child ≡ first_of path o
first-down [] o child = refl
first-down (x ∷ xs) o child = refl

pub first-same : (path : List OpenNode) (o : OpenNode) (next : ℕ) → (first_of path (record o { keyed = next })).reference ≡ (first_of path o).reference
first-same [] o next = refl
first-same (x ∷ xs) o next = refl

pub ok-map : {X Y : Type 0} {P Q : X → Type 0} (r : Result X Y) → ((x : X) → P x → Q x) → IfOk r P → IfOk r Q
ok-map (Ok x) f p = f x p
ok-map (Err y) f p = tt

pub self-equal : (n : ℕ) → (n == n) ≡ true
self-equal n = grind (arith, nat_tests)

abbrev pub seen_in : {N : Type 0} → Values N → Seen N Blob Written
seen_in v = record { values = v; blob_of = λ b. b; written_of = λ w. w }
