-- What a step does before it releases handles, part by part: it leaves what values own as it is, and brings a value only to a node that had none. And what a
-- call is that neither brings nor drops a value.
use Rattle.pagable_pager_spec.proofs.Elements.{among-left}
use Rattle.pagable_pager_spec.specs.{
  Basics.{Among, ArcRef, Error, HandleNumber, Kind, LoadNumber, NodeNumber, OptionalDataKey, if_there, is_in, one, times, type_of, updated},
  Calls.{CloseCall, InsertCall, InsertPagedOutCall, OfferCall, ReleaseCall, ScheduleCall, SetKeyCall, UnpinCall, is_named_by, moved, next_node, row_of},
  Calls.{with_handle, with_key, with_mode, with_node},
  Cascade.{AreNewEntries, Falls, FallsAnyhow, fallen, is_keyed, is_outside, left_rows, loses_value, only_handle, owned_outside},
  Kinds.{held, is_at, is_loose, is_owned_by, is_owner, is_pin, is_pinning, mode_of, owner_value, owner_worker, pins},
  LoadCalls.{Adopts, DropCall, HandOverCall, Installs, LazyCall, LoadCloses, MayEnd, is_owned_in, numbers_of, with_pin, without_load},
  Pager.{IsPagerWhole, PagerState},
  Refusals.{Owns, references_fault},
  Workers.{WorkerEnds, is_load_of, is_workers_at},
  World.{Alike, Cell, Core, OpenLoad, Values, is_here, type_at, usable},
  declared.{handle_row.{HandleRow.HandleRow, Owner.Owner}, mode.Mode.Mode},
}
use Rattle.pagable_theorems.proofs.{
  CascadeWitness.outlast,
  Decoding.among-either,
  FormsOfTrees.one-less,
  HandlesKept.{NotLoads, NotValues, Stands, among-changed, among-found, fell-away, found-number, good, no-pins, or-none, same-owner, stands-changed},
  HandlesKept.{stands-left, stands-whole},
  LoadProgress.row-held,
  StepBounds.{found, named-among, neither},
  Trees.{at-most-sum, counted, same-number, self-number, sum-le},
  ValueRows.{AreFree, At, Has, Keeps, OwnsAlike, among-named, by-row, holds_value, listed-free, load-free, mode-here, mode-others, mode-owns, moved-pins},
  ValueRows.{own-free, owned-test, owns-changed, owns-handle, owns-same, owns-then, rests-cached, row-here, rowed, same-value, settled, shut-alike, sits},
  ValueRows.{sits-on, spares-handle, spares-keeps, spares-known, spares-moved, spares-then, turned},
  Words.basics,
}
use Rattle.std.proofs.{
  Common.{Bool, Err, List, None, Ok, Option, Some, ap, arith, false, if◌then◌else◌, inl, inr, map, refl, subst, suc, sym, true, ℕ, [], ◌&&◌, ◌++◌, ◌+◌, ◌<◌},
  Common.{◌==◌, ◌||◌, ◌∙◌, ◌∷◌, ◌≡◌, ◌≤◌},
  lemmas.{Bool.{and_parts, cases_Bool, false_from_ne_true}, List.Sums.{sum_by-append, sum_by-cons, sum_by_push}},
}
use Rattle.std.specs.Prelude.{Result, filter, is_some, nat_lt, not, slice_get}
use Rattle.pagable_theorems.proofs.Effects as effects
pub use Rattle.pagable_theorems.proofs.{
  ValueRows.{IsRight, IsShut, Leaves, Rests, Spares, asked, begins, begins-key, clones, known-here, loosens, not-load, pinned-here, pins-it, recalls},
  ValueRows.{rests-then, spared, spares-same, starts-listed, stayed, takes, unmoved},
}

-- ---- calls by which values go: they go with a cascade. Where a call has done what it does directly, a value stays exactly where its node is in memory
-- afterwards, and owns what it did

times-left : (t : HandleRow → Bool) (gone : ℕ → Bool) (rows : List HandleRow) → times t (left_rows gone rows) ≡ times (λ h. t h && is_outside gone h) rows
times-left t gone [] = refl
times-left t gone (x ∷ xs) = grind (
  basics,
  sum_by-cons (λ h. one (t h)) x (left_rows gone xs),
  sum_by-cons (λ h. one (t h && is_outside gone h)) x xs,
  times-left t gone xs,
)

listed : (last : ℕ) (entries : List HandleRow) → AreNewEntries last entries → (h : HandleRow) → Among entries h → h.owner ≡ Owner.List
listed last (x ∷ xs) (number, mode, owner, new) h (suc i, is) = listed (last + 1) xs new h (i, is)
listed last x1 x2 h x4 = grind basics

-- none is there where no node has one
no-entries : (es : List HandleRow) → ((n : ℕ) → 0 < held n es → ⊥) → es ≡ []
no-entries [] none = refl
no-entries (h ∷ hs) none = absurd (none h.node.0 (grind (basics, sum_by-cons (λ x. one (is_at h.node.0 x)) h hs)))

typed-cell : (w : Core) (n t : ℕ) → type_at w n ≡ Some t → (cell : Cell) × (w.cells n ≡ Some cell)
typed-cell w n t is = grind basics

module _ {before w w' : Core} {given : ℕ → Bool} {r : _} (f : Falls before w given r w') where
  -- a node has lost its value exactly where it isn't in memory any more
  loses : (n : ℕ) (cell : Cell) → w.cells n ≡ Some cell → loses_value w.rows (is_keyed w) f.entries f.gone n ≡ not (holds_value w' n)
  loses n cell live =
      let counts : (t : HandleRow → Bool) → times t w'.rows ≡ times (λ h. t h && is_outside f.gone h) w.rows + times t f.entries =
      λ t. ap (times t) f.leaves.rows ∙ (sum_by-append (λ h. one (t h)) (left_rows f.gone w.rows) f.entries
      ∙ ap (λ k. k + times t f.entries) (times-left t f.gone w.rows)) in
      let h = counts (is_at n) in
      let p = counts (is_pin n) in
      let none = no-pins n w.last.handle f.entries f.new in
      let fewer = sum-le (λ h. one (is_pin n h && is_outside f.gone h)) (λ h. one (is_at n h && is_outside f.gone h)) w.rows
      (λ h among. grind basics) in
      let cells : w'.cells n ≡ (if nat_lt 0 (held n w'.rows) then Some cell else None) = f.leaves.cells n ∙ rw (f.leaves.rows, live) refl in
      grind basics

  -- a row that a value owns was there, and isn't gone
  was : (n : ℕ) (h : HandleRow) → Among w'.rows h → h.owner ≡ owner_value n → Among w.rows h × (f.gone h.number.0 ≡ false)
  was n h (i, at) own = elim (among-either (left_rows f.gone w.rows) f.entries i h (subst (λ rows. slice_get rows i ≡ Some h) f.leaves.rows at)) [
    | inl left ↦ (let (there, passes) = among-left _ w.rows h left in (there, grind basics))
    | inr new ↦ absurd (cc (sym (listed w.last.handle f.entries f.new h new) ∙ own))
  ]

  same-cell : (n : ℕ) → is_some (w'.cells n) ≡ true → w'.cells n ≡ w.cells n
  same-cell n is = grind basics

  same-type : (n : ℕ) → is_some (w'.cells n) ≡ true → type_at w' n ≡ type_at w n
  same-type n is = ap (λ o. if_there (λ (cell : Cell). Some cell.node_type) None o) (same-cell n is)

  shut-fell : IsShut w → IsShut w'
  shut-fell shut closed =
      let e : w.closed ≡ true = sym f.leaves.closed ∙ closed in
      let none : f.entries ≡ [] = no-entries f.entries (λ n some. let open_still = (f.only n some).0.stands_open in
      absurd (cc (sym e ∙ open_still))) in
      let listed = ap (λ (qs : List HandleNumber). filter (λ (q : HandleNumber). not (f.gone q.0)) qs ++ map (λ (h : HandleRow). h.number) f.entries)
      (shut e).0 in
      shut-alike {w = fallen w f.gone f.entries} f.leaves (λ c. (listed ∙ ap (map (λ (h : HandleRow). h.number)) none, (shut e).1)) closed

  module _ {N : Type 0} (v : Values N) (values : ℕ → Option N) (at : (n : ℕ) → At v w n (values n)) (free : AreFree w given) where
    has : (n : ℕ) (x : N) → values n ≡ Some x → Has v w n x
    has n x e = subst (At v w n) e (at n)

    loses-it : (n : ℕ) (x : N) → values n ≡ Some x → loses_value w.rows (is_keyed w) f.entries f.gone n ≡ not (holds_value w' n)
    loses-it n x e = let c = typed-cell w n (v.node_type x) (has n x e).typed in loses n c.0 c.1

    -- what a value refers to that stays isn't gone
    kept : (n : ℕ) (x : N) → values n ≡ Some x → holds_value w' n ≡ true → (r : ArcRef) → Among (v.references x) r → f.gone r.handle.0 ≡ false
    kept n x e still r among =
        let a = ((has n x e).names r among).is in
        let number = found-number r.handle.0 w.rows a.row a.live in
        let owner : (h : HandleRow) → Among w.rows h → is_named_by (v.references x) h.number.0 ≡ true → h.owner ≡ owner_value n = λ h there named.
        let c = named-among (v.references x) h.number.0 named in
        let b = (has n x e).names c.0 c.1 in
        ap (λ (y : HandleRow). y.owner) (b.stands.only h there (sym c.2)) ∙ b.is.owned in
        ap f.gone (sym number)
        ∙ outlast w.rows (is_keyed w) f.entries given f.gone (is_named_by (v.references x)) f.set
        (λ h there is. false_from_ne_true (is_named_by (v.references x) h.number.0) (λ named. free h there is (record { 0 = n }) (owner h there named)))
        (λ m h there own lost. false_from_ne_true (is_named_by (v.references x) h.number.0) (λ named.
        let same : m ≡ n = same-value h.owner (owner h there named) (same-owner (owner_value m) h.owner own) in
        cc (ap (loses_value w.rows (is_keyed w) f.entries f.gone) (sym same) ∙ lost, loses-it n x e)))
        a.row (among-found r.handle.0 w.rows a.row a.live) (ap (is_named_by (v.references x)) number ∙ among-named (v.references x) r among)

    at-left : (n : ℕ) → At v w' n (if holds_value w' n then values n else None)
    at-left n = by (values n) refl (holds_value w' n) refl
      where
        by : (o : Option N) → values n ≡ o → (b : Bool) → holds_value w' n ≡ b → At v w' n (if b then o else None)
        by (Some x) e true still =
            let a = has n x e in
            record {
              typed = same-type n (and_parts (is_some (w'.cells n)) (is_here w' n) still).0 ∙ a.typed;
              names = λ r among.
                  let is = (a.names r among).is in
                  let s = stands-left f (kept n x e still r among) (a.names r among).stands in
                  let some =
                  subst (λ (k : _). 0 < held k w'.rows) (ap (λ k. k.0) is.at) (row-held w' r.handle is.row s.live) in
                  let there : is_some (w'.cells r.node.0) ≡ true = grind (basics, held, nat_lt, left_rows, is_some) in
                  record {
                    is = record {
                      row = is.row;
                      live = s.live;
                      at = is.at;
                      owned = is.owned;
                      fits = is.fits;
                      typed = same-type r.node.0 there ∙ is.typed;
                    };
                    stands = s;
                  };
              once = a.once;
              owned = λ h among own. a.owned h (was n h among own).0 own;
            }
        by (Some x) e false goes = λ h among own.
            let none : owned_outside w.rows f.gone n ≡ 0 = f.set.closed n (loses-it n x e ∙ ap not goes) in
            let a = was n h among own in
            let some = at-most-sum (λ y. one (is_owned_by (owner_value n) y && is_outside f.gone y)) w.rows h a.0 in
            let counts : one (is_owned_by (owner_value n) h && is_outside f.gone h) ≡ 1 = rw (owned-test n h.owner own, a.1) refl in
            absurd (omega arith)
        by None e true still = λ h among own. subst (At v w n) e (at n) h (was n h among own).0 own
        by None e false goes = λ h among own. subst (At v w n) e (at n) h (was n h among own).0 own

-- Where values stand in the world between, and each node in memory there has one, a pager is in step after the cascade.
fell-from : {N E : Type 0} {v : Values N} {m : Core} {values : ℕ → Option N} → ((n : ℕ) → At v m n (values n))
    → ((n : ℕ) → holds_value m n ≡ true → is_some (values n) ≡ true)
    → {before : Core} {given : ℕ → Bool} {r : _} (s' : PagerState N E) → Falls before m given r s'.core → IsShut m → AreFree m given → Leaves values s'
    → IsPagerWhole v s'
fell-from {N} {v = v} {m} {values} at there s' f shut free l = settled s' (λ n. subst (At v s'.core n) (sym (l.swept n)) (at-left f v values at free n))
    (λ n.
    let was : holds_value s'.core n ≡ true → holds_value m n ≡ true = λ is.
    (grind (basics, same-cell f n (and_parts (is_some (s'.core.cells n)) (is_here s'.core n) is).0, fell-away f n)) in
    ap is_some (l.swept n) ∙ (grind (basics, there n))) l.right.counted (l.right.whole (shut-fell f shut))

-- The handles go from a world where values stand as they stood, and none of them is a value's.
pub fell : {N E : Type 0} {v : Values N} {s s' : PagerState N E} {before m : Core} {given : ℕ → Bool} {r : _} → IsPagerWhole v s → Keeps s.core m
    → Falls before m given r s'.core → IsShut m
    → AreFree s.core given → Leaves s.values s' → IsPagerWhole v s'
fell {v = v} {s} {s'} is k f shut free =
    fell-from (λ n. sits-on v (k.owns n) (s.values n) (sits is n)) (λ n held. is.valued n ∙ k.held n held) s' f shut
    (λ h among given n own. free h ((k.owns n.0).owned h among own) given n own)

module _ {N E : Type 0} {v : Values N} {s s' : PagerState N E} (is : IsPagerWhole v s) (left : Leaves s.values s') where
  stays : Alike s.core s'.core → IsPagerWhole v s'
  stays a = stayed is (unmoved a is.whole.shut) left

  pub load_closed : (l : LoadNumber) {r : Result (Unit {0}) Error} → LoadCloses s.core l r s'.core → IsPagerWhole v s'
  load_closed l f = fell is (spares-keeps (spares-same refl (λ n. refl) refl)) f is.whole.shut (load-free is.whole l) left

  pub dropped : {me : Owner} {l : LoadNumber} {r : Result (Unit {0}) Error} → DropCall s.core me l r s'.core → IsPagerWhole v s'
  dropped {l = l} c = elim c.does [ inl refused ↦ stays refused.stays | inr (load, owned, f) ↦ load_closed l f ]

  -- what was read is dropped, since the cache gives a node
  pub adopted_known : {me : Owner} {l : LoadNumber} {kind : Kind} {key t n : ℕ} {references : List ArcRef} {k : HandleNumber}
      → Adopts s.core me l kind key t references k s'.core
      → usable s.core kind.0 key ≡ Some n → IsPagerWhole v s'
  adopted_known {l = l} {kind} {key} {references = references} a known = elim a.makes [
    | inl (n, usable, f) ↦
        let right = good s.core (Owner.Load l) [] references a.good in
        let free = rowed is.whole (is_named_by references) (λ m. effects.named-free (Owner.Value m) s.core (Owner.Load l) references (not-load l m) right) in
        fell is (spares-keeps (spares-known is.whole kind key n (not-load l) usable)) f.falls is.whole.shut free left
    | inr (none, few, alike) ↦ absurd (cc (sym none ∙ known))
  ]

  pub closed : {r : Result (Unit {0}) Error} → CloseCall s.core r s'.core → IsPagerWhole v s'
  closed c = fell is (spares-keeps (spares-same refl (λ n. refl) refl)) c.falls.falls (λ e. (refl, λ kind key. refl))
      (grind (basics, counted, listed-free)) left

  -- a worker releases the node that it has walked
  pub worker_released : (u n : ℕ) → FallsAnyhow s.core s.core (is_workers_at s.core u n) s'.core → IsPagerWhole v s'
  worker_released u n f = fell is (spares-keeps (spares-same refl (λ n. refl) refl)) f.falls is.whole.shut
      (by-row is.whole (λ row. is_owned_by (owner_worker u) row && is_at n row) (λ h m own. ap (λ o. is_owner (owner_worker u) o && is_at n h) own)) left

  pub worker_ended : (u : ℕ) → WorkerEnds s.core u s'.core → IsPagerWhole v s'
  worker_ended u f =
      let free = by-row is.whole (λ row. is_owner (owner_worker u) row.owner || is_load_of s.core u row.owner)
      (λ h m own. ap (λ o. is_owner (owner_worker u) o || is_load_of s.core u o) own) in
      fell is (spares-keeps (spares-same refl (λ n. refl) refl)) f.falls is.whole.shut free left

  module _ {me : Owner} (none : NotValues me) where
    pub released : {h : HandleNumber} {r : Result (Unit {0}) Error} → ReleaseCall s.core me h r s'.core → IsPagerWhole v s'
    released {h} c = elim c.does [
      | inl e ↦ stays e.stays
      | inr (row, own, f) ↦ fell is (spares-keeps (spares-same refl (λ n. refl) refl)) f is.whole.shut
          (own-free is.whole h row none own) left
    ]

    pub unpinned : {h : HandleNumber} {r : Result (Unit {0}) Error} → UnpinCall s.core me h r s'.core → IsPagerWhole v s'
    unpinned {h} c = elim c.does [
      | inl refused ↦ stays refused.stays
      | inr (row, owns, inl (mode, told, a)) ↦ stays a
      | inr (row, owns, inr (mode, f)) ↦
          let stood = stands-whole is.whole.handles h.0 row owns.live in
          let keeps : Keeps s.core (with_mode s.core h Mode.LooseUnpinned) = record {
            owns = mode-owns s.core h Mode.LooseUnpinned row stood (subst NotValues (sym owns.own) none);
            held = λ n e. (grind (
              basics,
              same-number,
              row-here s.core h row owns.live (ap is_pinning mode),
              mode-others s.core h Mode.LooseUnpinned row stood n,
            ));
          } in
          fell is keeps f is.whole.shut (λ x among e. absurd (cc)) left
    ]

    pub key_set : {h : HandleNumber} {key : ℕ} {r : Result (Unit {0}) Error} → SetKeyCall s.core me h key r s'.core → IsPagerWhole v s'
    key_set {key = key} c = elim c.does [
      | inl refused ↦ stays refused.stays
      | inr (row, owns, inl (mode, told, a)) ↦ stays a
      | inr (row, owns, inr (loose, f)) ↦
          let keeps : Keeps s.core (with_key s.core row.node key) = record {
            owns = λ n. owns-same refl refl (λ p t e. grind basics);
            held = λ n e. grind basics;
          } in
          fell is keeps f is.whole.shut (λ x among e. absurd (cc)) left
    ]

    pub scheduled : {h : HandleNumber} (r : Result (Unit {0}) Error) → ScheduleCall s.core me h r s'.core → IsPagerWhole v s'
    scheduled {h} (Ok u) c = elim c.moves.2 [
      | inl (open_still, a) ↦
          let listed = spares-moved s.core (only_handle h) Owner.List (λ n e. cc) (own-free is.whole h c.moves.0 none c.moves.1) in
          stayed is (rests-then listed a (λ e. absurd (cc (sym e ∙ open_still)))) left
      | inr (shut, f) ↦ fell is (spares-keeps (spares-same refl (λ n. refl) refl)) f.falls is.whole.shut (own-free is.whole h c.moves.0 none c.moves.1) left
    ]
    scheduled (Err e) c = stays c.refused.stays

    pub offered : {kind : Kind} {key : ℕ} {h : HandleNumber} (r : Result (Option HandleNumber) Error) → OfferCall s.core me kind key h r s'.core
        → IsPagerWhole v s'
    offered (Ok None) c = stayed is (rests-then (spares-same refl (λ n. refl) refl) c.answers.3.2
        (λ e. absurd (cc (sym e ∙ c.answers.3.0)))) left
    offered {kind} {key} {h} (Ok (Some k)) c = elim c.answers.3 [
      | inl (shut, same, a) ↦ stays a
      | inr (open_still, (n, usable, next, f)) ↦ fell is (spares-keeps (spares-known is.whole kind key n none usable)) f.falls is.whole.shut
          (own-free is.whole h c.answers.0 none c.answers.1) left
    ]
    offered (Err e) c = stays c.refused.stays

    pub handed_over : {l : LoadNumber} {hs : List HandleNumber} (r : Result (Unit {0}) Error) → HandOverCall s.core me l hs r s'.core → IsPagerWhole v s'
    handed_over {l} {hs} (Ok u) c =
        let named = (neither _ _ (neither _ _ c.hands.0).1).1 in
        let free = rowed is.whole (is_in (numbers_of hs)) (λ n. record { each = effects.handed-free (Owner.Value n) (λ m. refl) s.core l hs [] named }) in
        let moves = spares-moved s.core (is_in (numbers_of hs)) me {list = s.core.list} none free in
        fell is (spares-keeps (spares-then moves (spares-same refl (λ n. refl) refl))) c.hands.1.falls is.whole.shut
        (λ h among is_so. load-free is.whole l h among (and_parts (is_owned_in s.core (Owner.Load l) h.number.0) _ is_so).0) left
    handed_over (Err e) c = stays c.refused.1

-- ---- a value comes to a node that had none: the handles that it names move to it, and it owns each once

-- references that nothing is to be said against name each handle once at most, and none that was seen
named-once : (w : Core) (owner : Owner) (seen : List ℕ) (rs : List ArcRef) (q : ℕ) → references_fault w owner seen rs ≡ None
    → times (λ (r : ArcRef). r.handle.0 == q) rs ≤ one (not (is_in seen q))
unfolding references_fault is_in
named-once w owner seen [] q none = omega arith
named-once w owner seen (r ∷ rs) q none =
    let (first, others) = or-none _ _ none in
    grind (basics, same-number, named-once w owner (r.handle.0 ∷ seen) rs q others, sum_by-cons (λ (x : ArcRef). one (x.handle.0 == q)) r rs)

-- What names handles may come as a value to the node p, to which they moved.
pub record Receives {N : Type 0} (v : Values N) (w given : Core) (values : ℕ → Option N) (references : List ArcRef) (p : ℕ) : Type 0 where
  -- what is so of each node, if that is so of this one
  pub all : (o : Option N) → At v given p o → (n : ℕ) → At v given n (if n == p then o else values n)
  pub value : (x : N) → v.references x ≡ references → type_at given p ≡ Some (v.node_type x) → At v given p (Some x)
  pub pins : (n : ℕ) → pins n given.rows ≡ pins n w.rows
  -- what it owns is named, and what another one owns was its own
  pub named : (h : HandleRow) → Among given.rows h → h.owner ≡ owner_value p → is_named_by references h.number.0 ≡ true
  pub before : (n : ℕ) → (n == p) ≡ false → OwnsAlike n w given

module _ {N E : Type 0} {v : Values N} {s : PagerState N E} (is : IsPagerWhole v s) {me : Owner} (free : NotValues me) (references : List ArcRef)
    (fine : references_fault s.core me [] references ≡ None)
    (p : ℕ) (cells : ℕ → Option Cell) (loads : ℕ → Option OpenLoad) (node : ℕ)
    (typed : (n t : ℕ) → type_at s.core n ≡ Some t → type_at (record s.core { cells = cells }) n ≡ Some t)
    (no_value : s.values p ≡ None) where
  abbrev given : Core
  given = record s.core {
    rows = moved (is_named_by references) (owner_value p) s.core.rows;
    cells = cells;
    loads = loads;
    last = record s.core.last { node = node };
  }

  abbrev named : HandleRow → Bool
  named h = is_named_by references h.number.0

  abbrev given_row : HandleRow → HandleRow
  given_row h = record h { owner = owner_value p }

  others : (n : ℕ) → (n == p) ≡ false → OwnsAlike n s.core given
  others n other =
      let apart : owner_value p ≡ owner_value n → ⊥ = λ own. grind (basics, same-value (owner_value p) refl own, self-number p) in
      let before = rowed is.whole (is_named_by references) (λ m. effects.named-free (Owner.Value m) s.core me references (free m)
      (good s.core me [] references fine)) in
      owns-then (owns-changed s.core named given_row (λ h. refl) n (λ h among is. (before h among is (record { 0 = n }), apart)) {list = s.core.list})
      (owns-same refl refl typed)

  owned : (h : HandleRow) → Among given.rows h → h.owner ≡ owner_value p → named h ≡ true
  owned h among own = let a = among-changed (λ x. if named x then given_row x else x) s.core.rows h among in let none =
      subst (At v s.core p) no_value (sits is p) a.0 a.1 in grind basics

  new : (x : N) → v.references x ≡ references → type_at given p ≡ Some (v.node_type x) → Has v given p x
  unfolding is_in
  new x same its_type = record {
    typed = its_type;
    names = λ r among.
        let a = good s.core me [] references fine r (subst (λ rs. Among rs r) same among) in
        let hit : named a.row ≡ true = ap (is_named_by references) (found-number r.handle.0 s.core.rows a.row a.live)
        ∙ among-named references r (subst (λ rs. Among rs r) same among) in
        let kept = stands-changed named given_row (λ h. refl) (stands-whole is.whole.handles r.handle.0 a.row a.live) in
        let stands = subst (λ b. Stands s.core.last.handle given.rows r.handle.0 (if b then given_row a.row else a.row)) hit kept in
        record {
          is = record { row = given_row a.row; live = stands.live; at = a.at; owned = refl; fits = a.fits; typed = typed _ _ a.typed };
          stands = stands;
        };
    once = λ q. subst (λ (rs : List ArcRef). times (λ (r : ArcRef). r.handle.0 == q) rs ≤ 1) (sym same) (named-once s.core me [] references q fine);
    owned = λ h among own. named-among (v.references x) h.number.0 (ap (λ rs. is_named_by rs h.number.0) same ∙ owned h among own);
  }

  receives : Receives v s.core given s.values references p
  receives = record {
    all = λ o here n. elim (cases_Bool (n == p)) [
      | inl e ↦ rw e (subst (λ k. At v given k o) (sym (same-number n p e)) here)
      | inr e ↦ rw e (sits-on v (others n e) (s.values n) (sits is n))
    ];
    value = new;
    pins = moved-pins s.core.rows (is_named_by references) (owner_value p);
    named = owned;
    before = others;
  }

module _ {N E : Type 0} {v : Values N} {s : PagerState N E} (s' : PagerState N E) (is : IsPagerWhole v s) {me : Owner} (free : NotValues me) (t : ℕ)
    (own : OptionalDataKey)
    (references : List ArcRef) (mode : Mode) (fine : references_fault s.core me [] references ≡ None)
    (like : Rests (with_handle (with_node s.core t own references) (next_node s.core) mode me) s'.core) where
  abbrev next : ℕ
  next = s.core.last.node + 1

  abbrev bearing : Core
  bearing = with_node s.core t own references

  abbrev made : Core
  made = with_handle bearing (next_node s.core) mode me

  no-cell : s.core.cells next ≡ None
  no-cell = grind basics

  no-value : s.values next ≡ None
  no-value = grind basics

  receives-it : Receives v s.core bearing s.values references next
  receives-it = receives is free references fine next bearing.cells s.core.loads next (λ n u has. grind (basics, no-cell)) no-value

  pins-made : (n : ℕ) → pins n made.rows ≡ pins n s.core.rows + one ((next == n) && is_pinning mode)
  pins-made n = sum_by_push (λ h. one (is_pin n h)) bearing.rows (row_of (s.core.last.handle + 1) (next_node s.core) mode me)
      ∙ ap (λ p. p + one ((next == n) && is_pinning mode)) (receives-it.pins n)

  new-cell : bearing.cells next ≡ Some (record { node_type = t; key = own })
  new-cell = ap (λ b. if b then Some (record { node_type = t; key = own }) else s.core.cells next) (self-number next)

  comes : (o : Option N) → At v bearing next o → is_some o ≡ is_here made next → ((n : ℕ) → s'.values n ≡ (if n == next then o else s.values n)) → IsRight s'
      → IsPagerWhole v s'
  comes o new here values right =
      settled s' (λ n. subst (At v s'.core n) (sym (values n)) (sits-on v
      (owns-then (owns-handle bearing (next_node s.core) mode me free n) (like.spares.owns n)) _ (receives-it.all o new n)))
      (λ n.
      let valued : is_some (if n == next then o else s.values n) ≡ holds_value made n = grind (basics, same-number, is.valued n, new-cell, pins-made n) in
      ap is_some (values n) ∙ (valued ∙ sym (like.spares.holds n))) right.counted (right.whole like.shut)

  comes-with : (x : N) → v.node_type x ≡ t → v.references x ≡ references → is_pinning mode ≡ true
      → ((n : ℕ) → s'.values n ≡ (if n == next then Some x else s.values n)) → IsRight s' → IsPagerWhole v s'
  comes-with x is_typed named pinning = grind (basics, comes, receives-it, new-cell, pinned-here, pins-made, self-number)

  comes-away : (key : ℕ) → own ≡ OptionalDataKey.Some key → references ≡ [] → is_pinning mode ≡ false → ((n : ℕ) → s'.values n ≡ s.values n) → IsRight s'
      → IsPagerWhole v s'
  unfolding is_named_by
  comes-away key keyed nothing unpinned same =
      let no-pins : pins next s.core.rows ≡ 0 = grind (basics, sum-le, one-less, no-cell) in
      let away : is_here made next ≡ false = grind (basics, pins-made next, self-number next) in
      comes None (λ h among mine. absurd (cc (ap (λ rs. is_named_by rs h.number.0) (sym nothing) ∙ receives-it.named h among mine))) (sym away)
      (λ n. grind (basics, no-value, same n))

module _ {N E : Type 0} {v : Values N} {s s' : PagerState N E} (is : IsPagerWhole v s) where
  pub born : {me : Owner} {x : N} {mode : Mode} {k : HandleNumber} → NotValues me → is_pinning mode ≡ true
      → InsertCall s.core me x (v.node_type x) (v.references x) mode (Ok k) s'.core
      → ((n : ℕ) → s'.values n ≡ (if n == s.core.last.node + 1 then Some x else s.values n)) → IsRight s' → IsPagerWhole v s'
  born {x = x} {mode} free pinning b = comes-with s' is free (v.node_type x) OptionalDataKey.None (v.references x) mode b.made.0
      (unmoved b.made.3 is.whole.shut) x refl refl pinning

  -- what a load read becomes a node, where the cache gives none
  pub adopts-new : {me : Owner} {l : LoadNumber} {kind : Kind} {key : ℕ} {x : N} {k : HandleNumber}
      → Adopts s.core me l kind key (v.node_type x) (v.references x) k s'.core
      → usable s.core kind.0 key ≡ None → ((n : ℕ) → s'.values n ≡ (if n == s.core.last.node + 1 then Some x else s.values n)) → IsRight s' → IsPagerWhole v s'
  adopts-new {l = l} {kind} {key} {x} a unknown = elim a.makes [
    | inl (n, known, f) ↦ absurd (cc (sym unknown ∙ known))
    | inr (none, few, alike) ↦ comes-with s' is (not-load l) (type_of kind.0) _ (v.references x) (mode_of kind.0) a.good
        (rests-cached kind key (next_node s.core) s.core.closed alike refl is.whole.shut) x a.typed refl (grind (basics, a.eager))
  ]

  pub born-away : {me : Owner} {t key : ℕ} (r : Result HandleNumber Error) → NotValues me → InsertPagedOutCall s.core me t key r s'.core
      → ((n : ℕ) → s'.values n ≡ s.values n) → IsRight s' → IsPagerWhole v s'
  unfolding references_fault
  born-away {me} {t} {key} (Ok k) free b = comes-away s' is free t (OptionalDataKey.Some key) [] Mode.LooseUnpinned refl
      (unmoved b.made.2 is.whole.shut) key refl refl refl
  born-away (Err e) free b = spared is (unmoved b.refused.stays is.whole.shut)

  pub lazily : {me : Owner} {l : LoadNumber} {kind : Kind} {key : ℕ} (r : Result HandleNumber Error) → LazyCall s.core me l kind key r s'.core
      → ((n : ℕ) → s'.values n ≡ s.values n) → IsRight s' → IsPagerWhole v s'
  unfolding references_fault
  lazily {l = l} {kind} {key} (Ok k) c = elim c.makes.3 [
    | inl g ↦ spared is (rests-then (spares-known is.whole kind key g.n (not-load l) g.known) g.leaves is.whole.shut)
    | inr (none, few, is_next, a) ↦
        comes-away s' is (not-load l) (type_of kind.0) (OptionalDataKey.Some key) [] (mode_of kind.0) refl
        (rests-cached kind key (next_node s.core) s.core.closed a refl is.whole.shut) key refl refl (grind (basics, c.makes.2))
  ]
  lazily (Err e) c = spared is (unmoved c.refused.stays is.whole.shut)

-- ---- a load of a cell ends with a pin: where the cell has no value, what was read comes into it; else it is dropped. What the load still owns goes

module _ {N E : Type 0} {v : Values N} {s : PagerState N E} (is : IsPagerWhole v s) {me : Owner} {l : LoadNumber} {node : NodeNumber} {h : HandleNumber} {x : N}
    (may : MayEnd s.core me l node h (v.node_type x) (v.references x)) (row : HandleRow) (own : Owns s.core me h is_loose row) (at_node : row.node ≡ node) where
  free : NotValues me × NotLoads me
  free = (grind basics)

  stands : Stands s.core.last.handle s.core.rows h.0 row
  stands = stands-whole is.whole.handles h.0 row own.live

  there-keeps : is_here s.core node.0 ≡ true → Keeps s.core (with_pin (without_load s.core l) h node me)
  there-keeps there =
      let first = turned is.whole free.0 h row own (subst (λ (m : NodeNumber). is_here s.core m.0 ≡ true) (sym at_node) there) in
      let here = subst (λ (m : NodeNumber). is_here (with_mode s.core h Mode.LoosePinned) m.0 ≡ true) at_node
      (mode-here s.core h Mode.LoosePinned row stands refl) in
      spares-keeps (spares-then first (spares-then (spares-handle (with_mode s.core h Mode.LoosePinned) node Mode.Pinned me free.0 (λ e. here))
      (spares-same refl (λ n. refl) refl)))

  module _ (away : is_here s.core node.0 ≡ false) where
    -- the load is closed, and what the value names is its own
    abbrev closed-given : Core
    closed-given = record (without_load s.core l) { rows = moved (is_named_by (v.references x)) (owner_value node.0) s.core.rows }

    abbrev values : ℕ → Option N
    values = updated node.0 (Some x) s.values

    -- the handle has its row still
    stands-still : Stands closed-given.last.handle closed-given.rows h.0 row
    stands-still =
        let right = good s.core (Owner.Load l) [] (v.references x) may.good in
        let unnamed = (effects.named-free me s.core (Owner.Load l) (v.references x) (λ e. free.1 l (sym e)) right).each h.0 row own.own stands in
        effects.moved-free me (is_named_by (v.references x)) (owner_value node.0) unnamed stands

    after : (n : ℕ) → OwnsAlike n closed-given (with_pin closed-given h node me)
    after n = owns-then (mode-owns closed-given h Mode.LoosePinned row stands-still (subst NotValues (sym own.own) free.0) n)
        (owns-handle _ node Mode.Pinned me free.0 n)

    takes-it : Receives v s.core closed-given s.values (v.references x) node.0
    takes-it = receives is (not-load l) (v.references x) may.good node.0 s.core.cells closed-given.loads s.core.last.node (λ n t e. e)
        (grind basics)

    sits-all : (n : ℕ) → At v (with_pin closed-given h node me) n (values n)
    sits-all n = sits-on v (after n) (values n) (takes-it.all (Some x) (takes-it.value x refl (grind (basics, row-held))) n)

    there : (n : ℕ) → holds_value (with_pin closed-given h node me) n ≡ true → is_some (values n) ≡ true
    there n holds =
        let same-pins : (n == node.0) ≡ false → pins n (with_pin closed-given h node me).rows ≡ pins n s.core.rows = λ e.
        let apart : (node.0 == n) ≡ false = grind basics in
        let a = sum_by_push (λ r. one (is_pin n r)) (with_mode closed-given h Mode.LoosePinned).rows (row_of (s.core.last.handle + 1) node Mode.Pinned me) in
        let b = mode-others closed-given h Mode.LoosePinned row stands-still n (ap (λ (m : NodeNumber). m.0 == n) at_node ∙ apart) in
        let c = takes-it.pins n in
        let d : one (is_pin n (row_of (s.core.last.handle + 1) node Mode.Pinned me)) ≡ 0 = rw apart refl in
        omega arith in
        grind (basics, is.valued n)

    none-goes : AreFree (with_pin closed-given h node me) (λ q. is_owned_in s.core (Owner.Load l) q && not (is_named_by (v.references x) q))
    none-goes q among goes n mine =
        let before = (after n.0).owned q among mine in
        let (owned_so, unnamed) = and_parts (is_owned_in s.core (Owner.Load l) q.number.0) _ goes in
        elim (cases_Bool (n.0 == node.0)) [
          | inl e ↦ cc (takes-it.named q before (mine ∙ ap owner_value (same-number n.0 node.0 e)))
          | inr e ↦
              let row_found = found is.whole.handles q.number.0 q ((takes-it.before n.0 e).owned q before mine) refl in
              cc (ap (if_there (is_owned_by (Owner.Load l)) false) row_found, ap (is_owner (Owner.Load l)) mine)
        ]

module _ {N E : Type 0} {v : Values N} {s s' : PagerState N E} (is : IsPagerWhole v s) {me : Owner} {l : LoadNumber} {node : NodeNumber} {h k : HandleNumber}
    {x : N}
    (may : MayEnd s.core me l node h (v.node_type x) (v.references x)) (i : Installs s.core me l node h k (v.references x) s'.core) where
  pub installed_there : is_here s.core node.0 ≡ true → Leaves s.values s' → IsPagerWhole v s'
  installed_there there left = elim i.falls [
    | inl (away, f) ↦ absurd (cc (sym away ∙ there))
    | inr (here, f) ↦ fell is (there-keeps is may i.row i.owned i.at there) f.falls is.whole.shut (load-free is.whole l) left
  ]

  pub installed_away : is_here s.core node.0 ≡ false → Leaves (updated node.0 (Some x) s.values) s' → IsPagerWhole v s'
  installed_away away left = elim i.falls [
    | inl (none, f) ↦ fell-from (sits-all is may i.row i.owned i.at away) (there is may i.row i.owned i.at away) s' f.falls is.whole.shut
        (none-goes is may i.row i.owned i.at away) left
    | inr (there, f) ↦ absurd (cc (sym there ∙ away))
  ]
