-- What the calls of a page-out amount to.
use Rattle.pagable_changes.specs.{
  Changes.{AllHaveKeys, AppendsKey, EndsTurns, FinishFails, FinishesOpenNode, FoundKeys, HasKey, HasNoKey, IsBlobOfNode, IsElsewhere, IsKeyOfTarget},
  Changes.{IsNext, MakesTurn, OpenChildFails, OpensChild, PinsLoosely, RecordsKey, ReleasesBoth, ReleasesPath, SetKeyFails, SetsKey, Stage, StoresBlob, Turn},
  Changes.{TurnFails, Turns, TurnsFail, TurnsUntilKey, Walks, WriteNodeFails, all-is-stored, blob-is-refused, cell-gets-key, count_of, goes-down, handle-is-gone},
  Changes.{handle-is-of-another, has-key, height_over, height_through, isnt-entered, key-is-refused, key-was-found, last-is-left, none-are-asked, none-is-open},
  Changes.{none-was-found, no-turn, nothing_found, one-goes-first, one-more-has, one-more-turn, stage, turns-once, walk-is-refused, written_of},
  Changes.{WriteFails, value-is-not-written, writer-fails},
  declared.{keys.FoundKey.FoundKey, nodes.OpenNode.OpenNode},
}
use Rattle.pagable_pager_spec.specs.{
  Access.MakesCall,
  Basics.{ArcRef, Blob, Error, HandleNumber, NodeNumber, if_there, is_loose_kind},
  Calls.{Looks, NodeCall},
  Pager.{PagerState, ValueCall},
  Refusals.live_fault,
  World.{Core, Values, greatest, one_more, row_at},
  declared.handle_row.HandleRow.HandleRow,
}
use Rattle.pagable_theorems.proofs.Trees.{same_some}
use Rattle.pagable_value_spec.specs.Merkle.{blob_of}
use Rattle.std.proofs.{
  Common.{Err, IfErr, List, None, Ok, OnOk, Option, Result, Some, ap, arith, false, if◌then◌else◌, inl, inr, length, refl, subst, sym, take, true, ℕ, [], ◌++◌},
  Common.{◌+◌, ◌<◌, ◌==◌, ◌∙◌, ◌∷◌, ◌≡◌, ◌≤◌},
  lemmas.{Bool.Decides.nat_tests, List.{take_all, take_more}, Option.{get_or_from_slice_get, slice_get_cases, slice_get_within}},
}
use Rattle.std.specs.{Prelude.{IfSome, max, slice_get}, Result.IsErrAnd}

-- what was done in an environment that is the same
module _ {N E X : Type 0} (says : E → Values N) {e e' : E} (same : e' ≡ e) where
  pub at-same : {does : Core → Type 0} {s s' : PagerState N X} → MakesCall (says e') does s s' → MakesCall (says e) does s s'
  at-same c = rw same at c

  pub pins-same : {c : HandleNumber} {r : Result HandleNumber Error} {s s' : PagerState N X} → PinsLoosely (says e') c s r s' → PinsLoosely (says e) c s r s'
  pins-same p = rw same at p

  pub lets-same : {c k : HandleNumber} {s s' : PagerState N X} → ReleasesBoth (says e') c k s s' → ReleasesBoth (says e) c k s s'
  lets-same p = rw same at p

  pub sets-same : {found found' : FoundKeys} {o : OpenNode} {known : FoundKey} {s s' : PagerState N X} → RecordsKey (says e') found o known s found' s'
      → RecordsKey (says e) found o known s found' s'
  sets-same p = rw same at p

  pub unset-same : {o : OpenNode} {key : ℕ} {why : Error} {s s' : PagerState N X} → SetKeyFails (says e') o key s why s' → SetKeyFails (says e) o key s why s'
  unset-same p = rw same at p

  pub gives-same : {path : List OpenNode} {s s' : PagerState N X} → ReleasesPath (says e') path s s' → ReleasesPath (says e) path s s'
  gives-same p = rw same at p

  pub turned-same : {a b : Stage N X} {key : Option ℕ} → MakesTurn (says e') a key b → MakesTurn (says e) a key b
  turned-same p = rw same at p

  pub fails-same : {a : Stage N X} {why : Error} {s' : PagerState N X} → TurnFails (says e') a why s' → TurnFails (says e) a why s'
  fails-same p = rw same at p

  pub fails-in : {r : ArcRef} {c k : HandleNumber} {why : Error} {s : PagerState N X} → WriteNodeFails (says e') s r c k why
      → WriteNodeFails (says e) s r c k why
  fails-in p = rw same at p

  pub walks-same : {first : OpenNode} {r : Result ℕ Error} {s s' : PagerState N X} → Walks (says e') first s r s' → Walks (says e) first s r s'
  walks-same p = rw same at p

-- an error of an allocation is OutOfMemory
pub no-memory : {X : Type 0} (P : Error → Type 0) (r : Result X Error) → IsErrAnd r (λ e. e ≡ Error.OutOfMemory) → P Error.OutOfMemory → IfErr r P
no-memory P (Err e) is p = subst P (sym is) p
no-memory P (Ok x) is p = absurd is

-- a handle of another node, or none, isn't one of this node
pub elsewhere : {w : Core} {h : HandleNumber} {n m : NodeNumber} → NodeCall w h (Ok m) → (m.0 ≡ n.0 → ⊥) → IsElsewhere w h n
elsewhere is other =
    handle-is-of-another is.found.0 is.found.1 (λ same. other (ap (λ (x : NodeNumber). x.0) (is.found.2 ∙ same)))

pub of-another : {w : Core} {h : HandleNumber} {n m : NodeNumber} → NodeCall w h (Ok m) → (m.0 == n.0) ≡ false → IsElsewhere w h n
of-another is differ = elsewhere is (λ same. absurd (grind (arith, nat_tests)))

pub no-row : {X : Type 0} {w : Core} {h : HandleNumber} {holds : X → HandleRow → Type 0} {n : NodeNumber} {e : Error} → Looks w h holds (Err e)
    → (e ≡ Error.NoSuchHandle) × IsElsewhere w h n
no-row {w = w} {h} {n = n} {e} looks = by (row_at w h) refl looks.refused
  where
    by : (row : Option HandleRow) → row_at w h ≡ row → live_fault row ≡ Some e → (e ≡ Error.NoSuchHandle) × IsElsewhere w h n
    by None is why = (sym (same_some _ _ why), handle-is-gone is)
    by (Some row) is why = absurd cc

pub found-by : (found : FoundKeys) (w : Core) (r : ArcRef) (o : Option FoundKey) → o ≡ found r.node.0 → is_loose_kind r.kind.0 ≡ false
    → IsKeyOfTarget found w r o
found-by found w r (Some k) is eager = key-was-found k eager (sym is)
found-by found w r None is eager = none-was-found eager (sym is)

pub height-by : (found : FoundKeys) (r : ArcRef) (o : Option FoundKey) → o ≡ found r.node.0 → is_loose_kind r.kind.0 ≡ false
    → IfSome o (λ k. (if is_loose_kind r.kind.0 then 0 else one_more k.height) ≡ height_through found r)
height-by found r (Some k) is eager =
    rw (eager) (ap (λ o. if_there (λ (k : FoundKey). one_more k.height) 0 o) is)
height-by found r None is eager = tt

-- a number within a list is of one of its references
pub is-there : (rs : List ArcRef) (at : ℕ) → at < length rs → slice_get rs at ≡ None → ⊥
is-there rs at within none = elim (slice_get_cases rs at).1 [
  | inl there ↦ let is = there.2 in cc
  | inr past ↦ let le = past.0 in omega (arith, le, within)
]

module _ {N E : Type 0} (v : Values N) (o : OpenNode) (known : FoundKey) (s s' : PagerState N E) (found : FoundKeys) where
  pub sets-cell : (r : Result (Unit {0}) Error) → is_loose_kind o.reference.kind.0 ≡ true → SetsKey v s o.cloned known.key r s'
      → OnOk r (RecordsKey v found o known s found s')
  sets-cell (Ok u) is sets = cell-gets-key found s' is sets (λ n. refl)
  sets-cell (Err e) is sets = tt

-- why a value isn't written, or a node
module _ {N E X : Type 0} (v : Values N) (s : PagerState N E) (r : ArcRef) where
  pub writer-by : (pin : HandleNumber) (x : N) → ValueCall s pin (Ok (Some x)) → (result : Result X Error) → IfErr result (v.write_causes (v.node_type x))
      → IfErr result (λ e. WriteFails v s r pin e)
  writer-by pin x shown (Ok y) is = tt
  writer-by pin x shown (Err e) is = writer-fails x e shown is

  pub not-written : (cloned pin : HandleNumber) (result : Result X Error) → IfErr result (λ e. WriteFails v s r pin e)
      → IfErr result (λ e. WriteNodeFails v s r cloned pin e)
  not-written cloned pin (Ok y) is = tt
  not-written cloned pin (Err e) is = value-is-not-written e is

-- the keys of one reference more
pub no-keys-yet : {found : FoundKeys} {w : Core} (rs : List ArcRef) {keys : List ℕ} → keys ≡ [] → AllHaveKeys found w (take 0 rs) keys
no-keys-yet {found} {w} rs is = rw is none-are-asked

pub one-key-more : {found : FoundKeys} {w : Core} (rs : List ArcRef) (at : ℕ) (r : ArcRef) (key : ℕ) {keys keys' : List ℕ} → take (at + 1) rs ≡ take at rs ++ r
    ∷ []
    → AllHaveKeys found w (take at rs) keys → HasKey found w r key → keys' ≡ keys ++ key ∷ [] → AllHaveKeys found w (take (at + 1) rs) keys'
one-key-more {found} {w} rs at r key {keys} {keys'} one so has is =
    rw (← is) at (rw (← one) at (one-more-has (take at rs) keys r key so has))

-- one reference more
pub taken-then : (rs : List ArcRef) (at : ℕ) (r : ArcRef) → slice_get rs at ≡ Some r → take (at + 1) rs ≡ take at rs ++ r ∷ []
taken-then rs at r there = take_more rs at r (slice_get_within rs at r there) ∙ ap (λ x. take at rs ++ x ∷ []) (get_or_from_slice_get rs at r r there)

pub one-taken : {found : FoundKeys} {w : Core} (rs : List ArcRef) (at : ℕ) {r : ArcRef} {keys keys' : List ℕ} {height : ℕ} → slice_get rs at ≡ Some r
    → AllHaveKeys found w (take at rs) keys
    → AppendsKey found w r keys keys' height
    → AllHaveKeys found w (take (at + 1) rs) keys'
one-taken rs at {r} there so t = one-key-more rs at r t.key (taken-then rs at r there) so t.has t.added

-- the longest path through one reference more
height-and : (found : FoundKeys) (rs : List ArcRef) (r : ArcRef) → height_over found (rs ++ r ∷ []) ≡ max (height_through found r) (height_over found rs)
unfolding height_over
height-and found [] r = refl
height-and found (q ∷ rs) r = ap (λ n. max (height_through found q) n) (height-and found rs r) ∙ turned (height_through found q) (height_through found r)
    (height_over found rs)
  where
    turned : (a b c : ℕ) → max a (max b c) ≡ max b (max a c)
    turned a b c = omega arith

pub no-height-yet : (found : FoundKeys) (rs : List ArcRef) → 0 ≡ height_over found (take 0 rs)
unfolding height_over
no-height-yet found rs = refl

pub higher : {found : FoundKeys} {w : Core} (rs : List ArcRef) (at : ℕ) {r : ArcRef} {keys keys' : List ℕ} {above height more : ℕ}
    → slice_get rs at ≡ Some r → AppendsKey found w r keys keys' above → height ≡ height_over found (take at rs) → more ≡ max above height
    → more ≡ height_over found (take (at + 1) rs)
higher {found} rs at {r} {height = height} there t was is =
    is ∙ ap (λ n. max n height) t.tall ∙ ap (λ n. max (height_through found r) n) was ∙ sym (height-and found (take at rs) r)
    ∙ ap (height_over found) (sym (taken-then rs at r there))

pub whole-height : (found : FoundKeys) (rs : List ArcRef) {at height : ℕ} → length rs ≤ at → height ≡ height_over found (take at rs)
    → height ≡ height_over found rs
whole-height found rs {at} past is = is ∙ ap (height_over found) (take_all at rs past)

pub all-taken : {found : FoundKeys} {w : Core} (rs : List ArcRef) {at : ℕ} {keys : List ℕ} → length rs ≤ at → AllHaveKeys found w (take at rs) keys
    → AllHaveKeys found w rs keys
all-taken {found} {w} rs {at} {keys} past so = rw (take_all at rs past) at so

-- a node is left, or isn't
module _ {N E : Type 0} (v : Values N) {found : FoundKeys} {s mid : PagerState N E} {o : OpenNode} {blob : Blob} {height : ℕ}
    (over : IsBlobOfNode found s.core o blob height) where
  stores-over : {r : Result ℕ Error} → StoresBlob v s blob r mid → StoresBlob v s (blob_of (written_of o.written).bytes over.keys) r mid
  stores-over {r} stores = rw over.is at stores

  pub leaves-by : {ready found' : FoundKeys} {low s' : PagerState N E} {key : ℕ} → StoresBlob v s blob (Ok key) mid → ((n : ℕ) → ready n ≡ found n)
      → RecordsKey v ready o (record { key = key; height = height }) mid found' low
      → ReleasesBoth v o.cloned o.pin low s' → FinishesOpenNode v found s o key found' s'
  leaves-by {ready} {found'} {low} {s'} {key} stores same sets lets = record {
    keys = over.keys;
    have = over.have;
    mid = mid;
    stores = stores-over stores;
    within = rw over.tall at over.within;
    low = low;
    sets = subst (λ f. RecordsKey v f o (record { key = key; height = height_over found (written_of o.written).references }) mid found' low) (λ i n. same n i)
        (subst (λ h. RecordsKey v ready o (record { key = key; height = h }) mid found' low) over.tall sets);
    lets = lets;
  }

  pub blob-fails-by : {e : Error} → StoresBlob v s blob (Err e) mid → FinishFails v found s o e mid
  blob-fails-by stores = blob-is-refused _ over.keys mid over.have (stores-over stores)

  pub key-fails-by : {e : Error} {key : ℕ} {s' : PagerState N E} → StoresBlob v s blob (Ok key) mid → SetKeyFails v o key mid e s'
      → FinishFails v found s o e s'
  key-fails-by {key = key} {s'} stores unset = key-is-refused _ key over.keys mid s' over.have (stores-over stores) unset

-- a turn down
module _ {N E : Type 0} (v : Values N) (s s' : PagerState N E) (path path' : List OpenNode) (o o' : OpenNode) (found : FoundKeys) {q : ArcRef}
    (next : IsNext o q) (none : HasNoKey found s.core q) where
  pub down-by : (r : Result (Unit {0}) Error) → OnOk r (OpensChild v q path o s path' o' s') → OnOk r (Turn v (stage path o found s) (stage path' o' found s'))
  down-by (Ok u) down = goes-down _ q down.depth next none down.leads down.waits refl down.enters
  down-by (Err e) down = tt

  pub nowhere-by : (r : Result (Unit {0}) Error) → IfErr r (λ e. OpenChildFails v q o s e s') → IfErr r (λ e. TurnFails v (stage path o found s) e s')
  nowhere-by (Ok u) fails = tt
  nowhere-by (Err e) fails = isnt-entered e q s' next none fails

-- the next reference is passed
pub passed-by : {N E : Type 0} (path : List OpenNode) (o o' : OpenNode) (found : FoundKeys) (s : PagerState N E) (next : ℕ) → o' ≡ record o { keyed = next }
    → stage path o' found s ≡ record (stage path o found s) { node = record o { keyed = next } }
passed-by path o o' found s next is = ap (λ x. stage path x found s) is

last-by : {N E : Type 0} (v : Values N) {first : OpenNode} {s : PagerState N E} {a b : Stage N E} {key : ℕ} → Turns v (stage [] first nothing_found s) a
    → MakesTurn v a (Some key) b
    → Walks v first s (Ok key) b.pager
last-by v {a = a} so (last-is-left key b none leaves) = all-is-stored a b key so none leaves

-- turns, after which so many of all that are made are left
pub record TurnsLeave {N E : Type 0} (v : Values N) (a b : Stage N E) (left : ℕ) : Type 0 where
  pub so : Turns v a b
  pub made : count_of v so + left ≡ greatest

pub no-turns-yet : {N E : Type 0} (v : Values N) (a : Stage N E) → TurnsLeave v a a greatest
unfolding count_of
no-turns-yet v a = record { so = no-turn a; made = refl }

pub one-turn-more : {N E : Type 0} (v : Values N) {a b c : Stage N E} {left less : ℕ} → TurnsLeave v a b left → less + 1 ≡ left → MakesTurn v b None c
    → TurnsLeave v a c less
unfolding count_of
one-turn-more v {a} {b} {left = left} t one (turns-once d turn) = record {
  so = one-more-turn a b d t.so turn;
  made = let made = t.made in omega (arith, made, one);
}

-- one of the nodes is given up
pub one-given-up : {N E : Type 0} (v : Values N) {path path' : List OpenNode} (o : OpenNode) {s mid s' : PagerState N E} → path ≡ path' ++ o ∷ []
    → ReleasesBoth v o.cloned o.pin s mid
    → ReleasesPath v path' mid s' → ReleasesPath v path s s'
one-given-up v {path' = path'} o {s} {mid} {s'} is lets gives = rw (← is) at (one-goes-first path' o s mid s' lets gives)

pub none-left : {N E : Type 0} (v : Values N) {path : List OpenNode} {s : PagerState N E} → path ≡ [] → ReleasesPath v path s s
none-left v {s = s} is = rw is (none-is-open s)

-- turns that end with an error
record Ended {N E : Type 0} (v : Values N) (a last : Stage N E) (e : Error) (mid : PagerState N E) : Type 0 where
  so : Turns v a last
  fails : EndsTurns v last (count_of v so) e mid

-- the walk from its turns
module _ {N E : Type 0} (v : Values N) {first : OpenNode} {s : PagerState N E} {path : List OpenNode} {found : FoundKeys} (none : path ≡ [])
    (empty : (n : ℕ) → found n ≡ None) where
  pub same-start : {b : Stage N E} → Turns v (stage path first found s) b → Turns v (stage [] first nothing_found s) b
  same-start {b} turns = subst (λ f. Turns v (stage [] first f s) b) (λ i n. empty n i) (rw none at turns)

  pub walks-by : {b : Stage N E} {key : ℕ} → TurnsUntilKey v (stage path first found s) key b → Walks v first s (Ok key) b.pager
  walks-by t = last-by v (same-start t.so) t.out

  same-end : {last : Stage N E} {e : Error} {mid : PagerState N E} → Ended v (stage path first found s) last e mid
      → Ended v (stage [] first nothing_found s) last e mid
  same-end {last} {e} {mid} t =
      subst (λ f. Ended v (stage [] first f s) last e mid) (λ i n. empty n i) (subst (λ p. Ended v (stage p first found s) last e mid) none t)

  pub refused-by : {path' : List OpenNode} {node' : OpenNode} {e : Error} {mid low s' : PagerState N E}
      → TurnsFail v (stage path first found s) e path' node' mid
      → ReleasesBoth v node'.cloned node'.pin mid low → ReleasesPath v path' low s' → Walks v first s (Err e) s'
  refused-by {e = e} {mid} {low} {s'} t lets gives =
      let end = same-end (record { so = t.so; fails = t.fails }) in
      walk-is-refused t.last e mid low s' end.so end.fails (rw t.node_is at lets)
      (rw t.path_is at gives)
