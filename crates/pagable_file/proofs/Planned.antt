-- The keys that a walk over blobs plans to visit, and what it has visited.
use Rattle.blob_file.specs.Rows.{Body}
use Rattle.pagable_file.proofs.{Each.{each_append, each_so}, Flawed.{each_next, none_yet, passed, tested_as, tested_then}}
use Rattle.pagable_file.specs.{Bodies.blobs_of, Copies.{HasCopied, IsPath, KeySet, Reaches, end_of}, Flaws.{IsFlawAt, IsFlawOfReached, IsFlawUnder, IsMissingRoot, IsOfSome, IsSoundAt, IsSoundName, IsWholeUnder, TellsFlaws, children_in, keys_of_blob}, Plans.{IsTracked, Plans}, declared.fsck.Flaw.Flaw}
use Rattle.pagable_value_spec.specs.Blob.{Blob}
use Rattle.std.proofs.{Common.{Bool, IsSome, List, None, Option, Some, ap, append-nil, append_assoc, arith, false, get_or, inl, inr, length, refl, subst, sym, take, true}, Common.{ℕ, [], ◌++◌, ◌+◌, ◌<◌, ◌∙◌, ◌∷◌, ◌≡◌, ◌≤◌, ◌⊎◌}, lemmas.{Bool.Decides.nat_tests, List.{Elements.{All-contains, All-from_recursion, Contains-append_left, Contains-append_right, Contains-push, Contains-push_cases}, take-append-le, take_all, take_more}}}
use Rattle.std.specs.{HashMap.get, List.{AllByRecursion as Each, Contains}, Map.lookup, Prelude.{if◌then◌else◌, nat_eq}}
use Rattle.pagable_file.specs.declared.fsck.Flaw.TheVariants as flaw

-- nothing to plan
pub plans_none : (order : List ℕ) (planned : KeySet) → IsTracked order planned → Plans [] order order planned
plans_none order planned tracked = record { came = []; is = sym (append-nil order); only = tt; all = tt; tracked = tracked }

-- a map that is empty plans nothing
pub tracked_empty : (order : List ℕ) (planned : KeySet) → planned.entries ≡ [] → IsTracked order planned
tracked_empty order planned empty key has =
    absurd (no_value (lookup (nat_eq key) planned.entries) (ap (λ (es : List (ℕ × Unit {0})). lookup (nat_eq key) es) empty) has)
  where
    no_value : (o : Option (Unit {0})) → o ≡ None → IsSome o → ⊥
    no_value o none some = cc (some, none)

-- what the key is, where the map is asked for one behind an insert
tracked_with : (order : List ℕ) (planned more : KeySet) (key q : ℕ) → get nat_eq more q ≡ (if nat_eq key q then Some tt else get nat_eq planned q)
    → HasCopied more q → (key ≡ q) ⊎ HasCopied planned q
tracked_with order planned more key q comes has = go (nat_eq key q) refl comes
  where
    go : (b : Bool) → nat_eq key q ≡ b → get nat_eq more q ≡ (if b then Some tt else get nat_eq planned q) → (key ≡ q) ⊎ HasCopied planned q
    go true e h = inl (grind (arith, nat_tests))
    go false e h = inr (subst (λ (o : Option (Unit {0})). IsSome o) h has)

-- a key that was planned already
pub plans_known : (order : List ℕ) (planned more : KeySet) (key : ℕ)
    → ((q : ℕ) → get nat_eq more q ≡ (if nat_eq key q then Some tt else get nat_eq planned q)) → HasCopied planned key → IsTracked order planned
    → Plans (key ∷ []) order order more
plans_known order planned more key comes known tracked = record {
  came = [];
  is = sym (append-nil order);
  only = tt;
  all = (tracked key known, tt);
  tracked = λ q has. elim (tracked_with order planned more key q (comes q) has) [
    | inl same ↦ subst (Contains order) same (tracked key known)
    | inr was ↦ tracked q was
  ];
}

-- a key that is new
pub plans_new : (order later : List ℕ) (planned more : KeySet) (key : ℕ)
    → ((q : ℕ) → get nat_eq more q ≡ (if nat_eq key q then Some tt else get nat_eq planned q)) → later ≡ order ++ key ∷ [] → IsTracked order planned
    → Plans (key ∷ []) order later more
plans_new order later planned more key comes is tracked = record {
  came = key ∷ [];
  is = is;
  only = (Contains-push [] key, tt);
  all = (here, tt);
  tracked = λ q has. elim (tracked_with order planned more key q (comes q) has) [
    | inl same ↦ subst (Contains later) same here
    | inr was ↦ subst (λ (l : List ℕ). Contains l q) (sym is) (Contains-append_left order (key ∷ []) q (tracked q was))
  ];
}
  where
    here : Contains later key
    here = subst (λ (l : List ℕ). Contains l key) (sym is) (Contains-push order key)

grows : (a b c : List ℕ) (keys : List ℕ) → b ≡ a ++ c → Each (Contains a) keys → Each (Contains b) keys
grows a b c keys is = each_so (Contains a) (Contains b) keys (λ k has. subst (λ (l : List ℕ). Contains l k) (sym is) (Contains-append_left a c k has))

-- one more key was planned
pub plans_more : (keys : List ℕ) (i key : ℕ) {a b c : List ℕ} {p q : KeySet} → i < length keys → key ≡ get_or keys i key → Plans (take i keys) a b p
    → Plans (key ∷ []) b c q → Plans (take (i + 1) keys) a c q
plans_more keys i key {a} {b} {c} h is f g = rw (take_more keys i key h, ← is) (record {
  came = f.came ++ g.came;
  is = g.is ∙ ap (λ (l : List ℕ). l ++ g.came) f.is ∙ append_assoc a f.came g.came;
  only = each_append (Contains (take i keys ++ key ∷ [])) f.came g.came
      (each_so (Contains (take i keys)) (Contains (take i keys ++ key ∷ [])) f.came (λ k has. Contains-append_left (take i keys) (key ∷ []) k has) f.only)
      (each_so (Contains (key ∷ [])) (Contains (take i keys ++ key ∷ [])) g.came (λ k has. Contains-append_right (take i keys) (key ∷ []) k has) g.only);
  all = each_append (Contains c) (take i keys) (key ∷ []) (grows b c g.came (take i keys) g.is f.all) g.all;
  tracked = g.tracked;
})

pub plans_all : (keys : List ℕ) (n : ℕ) {a b : List ℕ} {p : KeySet} → length keys ≤ n → Plans (take n keys) a b p → Plans keys a b p
plans_all keys n h plans = rw (take_all n keys h) at plans

-- A walk from a root has visited the first `done` keys of its order, and told their flaws; the root reaches all keys of the order, and the
-- children of those that were visited stand in it.
pub record Walked (of : Blob → ℕ) (bodies : ℕ → Option Body) (root done : ℕ) (order : List ℕ) (planned : KeySet) (old new : List Flaw) : Type 0 where
  pub tells : TellsFlaws (IsOfSome (IsFlawAt of bodies) (take done order)) old new (Each (IsSoundAt of bodies) (take done order))
  pub tracked : IsTracked order planned
  pub first : Contains order root
  pub under : Each (Reaches (blobs_of bodies) root) order
  pub closed : (key : ℕ) → Contains (take done order) key → Each (Contains order) (children_in bodies key)

no_item : {X : Type 0} (x : X) → Contains [] x → ⊥
no_item x h = omega (arith, h.1)

one_item : (x y : ℕ) → Contains (x ∷ []) y → x ≡ y
one_item x y h = elim (Contains-push_cases [] x y h) [
  | inl among ↦ absurd (no_item y among)
  | inr same ↦ same
]

-- a walk begins
pub walk_begins : (of : Blob → ℕ) (bodies : ℕ → Option Body) (root : ℕ) (start order : List ℕ) (planned : KeySet) (old : List Flaw) → start ≡ []
    → Plans (root ∷ []) start order planned → Walked of bodies root 0 order planned old old
walk_begins of bodies root start order planned old empty plans = record {
  tells = passed (none_yet (IsFlawAt of bodies)) tt;
  tracked = plans.tracked;
  first = plans.all.0;
  under = subst (Each (Reaches (blobs_of bodies) root)) (sym (plans.is ∙ ap (λ (l : List ℕ). l ++ plans.came) empty))
      (each_so (Contains (root ∷ [])) (Reaches (blobs_of bodies) root) plans.came (λ k has. ([], tt, one_item root k has)) plans.only);
  closed = λ key has. absurd (no_item key has);
}

-- a path with one more key
path_more : (stored : ℕ → Option Blob) (key child : ℕ) (path : List ℕ) (blob : Blob) → IsPath stored key path → stored (end_of key path) ≡ Some blob
    → Contains blob.keys child → IsPath stored key (path ++ child ∷ [])
path_more stored key child [] blob h at has = ((blob, at, has), tt)
path_more stored key child (next ∷ path) blob h at has = (h.0, path_more stored next child path blob h.1 at has)

end_more : (key child : ℕ) (path : List ℕ) → end_of key (path ++ child ∷ []) ≡ child
end_more key child [] = refl
end_more key child (next ∷ path) = end_more next child path

-- what a key reaches, its blob's children are reached too
reaches_child : (bodies : ℕ → Option Body) (root key child : ℕ) → Reaches (blobs_of bodies) root key → Contains (children_in bodies key) child
    → Reaches (blobs_of bodies) root child
reaches_child bodies root key child r has = go (blobs_of bodies key) refl has
  where
    go : (o : Option Blob) → blobs_of bodies key ≡ o → Contains (keys_of_blob o) child → Reaches (blobs_of bodies) root child
    go None e among = absurd (no_item child among)
    go (Some blob) e among =
        (r.0 ++ child ∷ [], path_more (blobs_of bodies) root child r.0 blob r.1 (ap (blobs_of bodies) r.2 ∙ e) among, end_more root child r.0)

-- the next key was visited
pub walk_goes_on : (of : Blob → ℕ) (bodies : ℕ → Option Body) (root i key : ℕ) (order later : List ℕ) (p q : KeySet) (children : List ℕ) {a b c : List Flaw}
    → i < length order → key ≡ get_or order i key → Walked of bodies root i order p a b → TellsFlaws (IsFlawAt of bodies key) b c (IsSoundAt of bodies key)
    → children ≡ children_in bodies key → Plans children order later q → Walked of bodies root (i + 1) later q a c
walk_goes_on of bodies root i key order later p q children h is walked tells kids plans = record {
  tells = rw same (each_next (IsFlawAt of bodies) (IsSoundAt of bodies) order i key h is walked.tells tells);
  tracked = plans.tracked;
  first = subst (λ (l : List ℕ). Contains l root) (sym plans.is) (Contains-append_left order plans.came root walked.first);
  under = subst (Each (Reaches (blobs_of bodies) root)) (sym plans.is) (each_append (Reaches (blobs_of bodies) root) order plans.came walked.under
      (each_so (Contains children) (Reaches (blobs_of bodies) root) plans.came
      (λ child has. reaches_child bodies root key child reached (subst (λ (l : List ℕ). Contains l child) kids has)) plans.only));
  closed = λ k has. elim (Contains-push_cases (take i order) key k (subst (λ (l : List ℕ). Contains l k) (same ∙ next) has)) [
    | inl before ↦ grows order later plans.came (children_in bodies k) plans.is (walked.closed k before)
    | inr here ↦ subst (λ (n : ℕ). Each (Contains later) (children_in bodies n)) here (subst (Each (Contains later)) kids plans.all)
  ];
}
  where
    within : i + 1 ≤ length order
    within = omega (arith, h)

    same : take (i + 1) later ≡ take (i + 1) order
    same = ap (λ (l : List ℕ). take (i + 1) l) plans.is ∙ take-append-le (i + 1) order plans.came within

    next : take (i + 1) order ≡ take i order ++ key ∷ []
    next = take_more order i key h ∙ ap (λ (k : ℕ). take i order ++ k ∷ []) (sym is)

    reached : Reaches (blobs_of bodies) root key
    reached = All-contains (Reaches (blobs_of bodies) root) order key (All-from_recursion (Reaches (blobs_of bodies) root) order walked.under) (i, h, sym is)

-- all that the root reaches stands in the order
all_stand : (bodies : ℕ → Option Body) (order : List ℕ) → ((key : ℕ) → Contains order key → Each (Contains order) (children_in bodies key)) → (key : ℕ)
    (path : List ℕ)
    → IsPath (blobs_of bodies) key path → Contains order key → Contains order (end_of key path)
all_stand bodies order closed key [] h has = has
all_stand bodies order closed key (child ∷ path) h has =
    let kids : Each (Contains order) h.0.0.keys = subst (λ (o : Option Blob). Each (Contains order) (keys_of_blob o)) h.0.1 (closed key has) in
    all_stand bodies order closed child path h.1
    (All-contains (Contains order) h.0.0.keys child (All-from_recursion (Contains order) h.0.0.keys kids) h.0.2)

-- a walk ends
pub walk_ends : (of : Blob → ℕ) (bodies : ℕ → Option Body) (root n : ℕ) (order : List ℕ) (p : KeySet) {a b : List Flaw} → length order ≤ n
    → Walked of bodies root n order p a b
    → TellsFlaws (IsFlawOfReached of bodies root) a b ((key : ℕ) → Reaches (blobs_of bodies) root key → IsSoundAt of bodies key)
walk_ends of bodies root n order p h walked = tested_as to from sound walked.tells
  where
    whole : take n order ≡ order
    whole = take_all n order h

    stands : (key : ℕ) → Reaches (blobs_of bodies) root key → Contains order key
    stands key r = subst (Contains order) r.2 (all_stand bodies order
        (λ k has. walked.closed k (subst (λ (l : List ℕ). Contains l k) (sym whole) has)) root r.0 r.1 walked.first)

    to : (it : Flaw) → IsOfSome (IsFlawAt of bodies) (take n order) it → IsFlawOfReached of bodies root it
    to it o = (
      o.0,
      All-contains (Reaches (blobs_of bodies) root) order o.0 (All-from_recursion (Reaches (blobs_of bodies) root) order walked.under)
          (subst (λ (l : List ℕ). Contains l o.0) whole o.1),
      o.2,
    )

    from : (it : Flaw) → IsFlawOfReached of bodies root it → IsOfSome (IsFlawAt of bodies) (take n order) it
    from it r = (r.0, subst (λ (l : List ℕ). Contains l r.0) (sym whole) (stands r.0 r.1), r.2)

    sound : Each (IsSoundAt of bodies) (take n order) → (key : ℕ) → Reaches (blobs_of bodies) root key → IsSoundAt of bodies key
    sound all key r = All-contains (IsSoundAt of bodies) order key (All-from_recursion (IsSoundAt of bodies) order (subst (Each (IsSoundAt of bodies)) whole all))
        (stands key r)

-- a name that stands for no key
pub root_nowhere : (of : Blob → ℕ) (bodies : ℕ → Option Body) (names : List ℕ → Option ℕ) (name : List ℕ) (all : List Flaw) → all ≡ [] → names name ≡ None
    → TellsFlaws (IsFlawUnder of bodies names name) [] all (IsWholeUnder of bodies names name)
root_nowhere of bodies names name all empty none = rw empty (passed none_of (record {
  blobs = λ key under. absurd (no_root under.0 under.1);
  named = λ key is. absurd (no_root key is);
}))
  where
    no_root : (key : ℕ) → names name ≡ Some key → ⊥
    no_root key is = let both : None ≡ Some key = sym none ∙ is in cc

    no_missing : (it : Flaw) → IsMissingRoot bodies names name it → ⊥
    no_missing (flaw.StrayBlob key) h = h
    no_missing (flaw.WrongKey key) h = h
    no_missing (flaw.MissingChild key child) h = h
    no_missing (flaw.MissingRoot own key) h = no_root key h.1

    none_of : (it : Flaw) → IsFlawUnder of bodies names name it → ⊥
    none_of it (inl missing) = no_missing it missing
    none_of it (inr under) = no_root under.1.0 under.1.1

-- a root and what it reaches were tested
pub root_found : (of : Blob → ℕ) (bodies : ℕ → Option Body) (names : List ℕ → Option ℕ) (name : List ℕ) (root : ℕ) {start mid all : List Flaw} → start ≡ []
    → names name ≡ Some root → TellsFlaws (IsMissingRoot bodies names name) start mid (IsSoundName bodies names name)
    → TellsFlaws (IsFlawOfReached of bodies root) mid all ((key : ℕ) → Reaches (blobs_of bodies) root key → IsSoundAt of bodies key)
    → TellsFlaws (IsFlawUnder of bodies names name) [] all (IsWholeUnder of bodies names name)
root_found of bodies names name root empty stands f g = rw (← empty) (tested_as to from sound (tested_then f g))
  where
    same_root : (other : ℕ) → names name ≡ Some other → other ≡ root
    same_root other is = let both : Some other ≡ Some root = sym is ∙ stands in cc

    to : (it : Flaw) → IsMissingRoot bodies names name it ⊎ IsFlawOfReached of bodies root it → IsFlawUnder of bodies names name it
    to it (inl missing) = inl missing
    to it (inr reached) = inr (reached.0, (root, stands, reached.1), reached.2)

    from : (it : Flaw) → IsFlawUnder of bodies names name it → IsMissingRoot bodies names name it ⊎ IsFlawOfReached of bodies root it
    from it (inl missing) = inl missing
    from it (inr under) =
        inr (under.0, subst (λ (r : ℕ). Reaches (blobs_of bodies) r under.0) (same_root under.1.0 under.1.1) under.1.2, under.2)

    sound : IsSoundName bodies names name × ((key : ℕ) → Reaches (blobs_of bodies) root key → IsSoundAt of bodies key) → IsWholeUnder of bodies names name
    sound h = record {
      blobs = λ key under. h.1 key (subst (λ (r : ℕ). Reaches (blobs_of bodies) r key) (same_root under.0 under.1) under.2);
      named = h.0;
    }
