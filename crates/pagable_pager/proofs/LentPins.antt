-- Pins on a lent pager: a load's steps from its root's blob, and the value that a new pin shares.
use Rattle.pagable_load.proofs.{Keyed.{own_type, root_comes}, PinsAndReads.{taken_back, takes_back}}
use Rattle.pagable_load.specs.{Decoding.IsReadAs, AccessView.IfKnown, Frames.{IsLoadOf, frames_of, reading_of}, Keyed.{FramesKeyed, IsEndKeyed, IsKeyed}, LoadSteps.RunsLoad, Outcomes.GivesValue, PinStart.{SharesPinned, TakesBack}, declared.reading.{LoadOutcome.LoadOutcome, Reading.Reading as Own}}
use Rattle.pagable_pager.proofs.LeafPins.{dropped-run, loads-pinned, loads-refused, pinned-run}
use Rattle.pagable_pager.specs.Leaf.{EndsCellLoad, LeafBegun, LeafDropped, LeafFetched, LeafLoads, LeafPinned, PinsPagedOut, SharesOrUndoes, rooted_reading}
use Rattle.pagable_pager_spec.specs.{
  Access.{IsValueOf, LoadRun, MakesCall, PinRun},
  Calls.{ReleaseCall, UnpinCall},
  Pager.PagerState,
  World.{Reading, Values, of_cell},
  declared.{events.LoadAnswer.LoadAnswer, handle_row.Owner.Owner},
}
use Rattle.pagable_tables.specs.declared.leaf.Leaf.{Leaf}
use Rattle.pagable_value_spec.specs.{Blob.{Blob, key_of}, declared.{error.Error.Error, numbers.{HandleNumber.HandleNumber, LoadNumber.LoadNumber}}}
use Rattle.std.proofs.Common.{Bool, Err, None, Ok, Option, Result, Some, ap, false, if◌then◌else◌, inl, refl, subst, sym, true, ℕ, [], ◌∙◌, ◌≡◌}
use Rattle.std.specs.{Arc.arc_value, Global.Global, Prelude.{IfOk, IfSome, IsTrue}, declared.sync.Arc.Arc}

module _ {N E : Type 0} (v : Values N) (me : Owner) (own : Own) where
  pub ends-pinned : (k : HandleNumber) (read : Option (Arc N Global)) (s t : PagerState N E) → RunsLoad v me own s (LoadOutcome.Pinned k read) t
      → EndsCellLoad v me own s (Ok k) t
  ends-pinned k read s t runs = record { pinned = runs.run; refused = tt }

  pub ends-refused : (e : Error) (s t : PagerState N E) → RunsLoad v me own s (LoadOutcome.Refused e) t → EndsCellLoad v me own s (Err e) t
  ends-refused e s t runs = record { pinned = tt; refused = runs.run }

pub ruleset ending = (ends-pinned, ends-refused)

module _ {N E : Type 0} (v : Values N) (s mid : PagerState N E) (leaf : Leaf) (l : LoadNumber) (begun : LeafBegun v s leaf l mid) (own : Own)
    (number : own.load ≡ l) (key : own.key ≡ leaf.key) (sort : own.for_cell ≡ true) where
  open-load : IsLoadOf mid.core Owner.Caller own
  open-load = record {
    load = record { owner = Owner.Caller; key = leaf.key; root = of_cell leaf.row.node leaf.node_type leaf.row.number };
    owned = record { stands_open = ap (λ (n : LoadNumber). mid.core.loads n.0) number ∙ begun.opened; own = refl };
    key = sym key;
    sort = sym sort;
  }

  module _ (t : PagerState N E) (blob : Blob) (me : Owner) (mine : me ≡ Owner.Caller) (rooted : reading_of own ≡ rooted_reading l leaf.key leaf.node_type blob)
    where
      runs-so : (answer : LoadAnswer N) → (IsLoadOf mid.core me own → LoadRun v me (reading_of own) mid answer t)
          → LoadRun v Owner.Caller (rooted_reading l leaf.key leaf.node_type blob) mid answer t
      runs-so answer runs =
          let r : IsLoadOf mid.core Owner.Caller own → LoadRun v Owner.Caller (reading_of own) mid answer t = rw mine at runs in
          subst (λ (q : Reading). LoadRun v Owner.Caller q mid answer t) rooted (r open-load)

      pub loads-ended : (r : Result HandleNumber Error) → EndsCellLoad v me own mid r t → LeafLoads v s leaf blob r t
      loads-ended (Ok k) ends = record { pinned = (l, mid, begun, runs-so (LoadAnswer.Pinned k) ends.pinned); refused = tt }
      loads-ended (Err e) ends = record { pinned = tt; refused = inl (l, mid, begun, runs-so (LoadAnswer.Refused e) ends.refused) }

      -- by what is told in the same environment
      pub loads-told : {F : Type 0} (says : F → Values N) {e1 e0 : F} → e1 ≡ e0 → says e0 ≡ v → (r : Result HandleNumber Error)
          → EndsCellLoad (says e1) me own mid r t → LeafLoads v s leaf blob r t
      loads-told says same is r ends = loads-ended r (rw (ap says same ∙ is) at ends)

-- the value that a load has brought is the new handle's
pub given-held : {N E : Type 0} (b : Bool) (s : PagerState N E) (r : Result (HandleNumber × Option (Arc N Global)) Error) → IsTrue b
    → IfOk r (λ pin. IfKnown (if b then Some s else None) (λ u. GivesValue u (LoadOutcome.Pinned pin.0 pin.1)))
    → IfOk r (λ pin. IfSome pin.1 (λ x. IsValueOf s pin.0 (arc_value x)))
given-held true s (Ok (k, Some x)) is given = let v = given.holds.found in record { row = v.0; live = v.1; held = v.2.1 }
given-held true s (Ok (k, None)) is given = tt
given-held true s (Err e) is given = tt
given-held false s r is given = absurd (cc)

-- and was read under the key of the root's blob
pub rest-keyed : {N E : Type 0} (says : E → Values N) {e1 e0 : E} → e1 ≡ e0 → (own : Own) (l : LoadNumber) {key : ℕ} (t : ℕ) (blob : Blob)
    → reading_of own ≡ rooted_reading l key t blob → own.key ≡ key → key_of (says e0).hash blob ≡ key
    → (r : Result (HandleNumber × Option (Arc N Global)) Error)
    → IfOk r (λ pin. FramesKeyed (says e1) own.key own.node_type (frames_of own.top own.below.items) → IsEndKeyed (says e1) own.key own.node_type pin.1)
    → IfOk r (λ pin. IfSome pin.1 (λ x. IsKeyed (says e0) key ((says e0).node_type (arc_value x)) (arc_value x)))
rest-keyed {N} {E} says {e1} {e0} same own l {key} t blob rooted keyed named (Ok (k, Some x)) follows =
    let P : E → ℕ → ℕ → Type 0 = λ e q u. FramesKeyed (says e) q u (frames_of own.top own.below.items) → IsKeyed (says e) q u (arc_value x) in
    let typed : own.node_type ≡ t = ap (λ (q : Reading). q.node_type) rooted in
    let here : P e0 key t = subst (λ e. P e key t) same (subst (λ q. P e1 q t) keyed (subst (λ u. P e1 own.key u) typed follows)) in
    own_type (here (root_comes (says e0) key t blob (ap (λ (q : Reading). q.frames) rooted) named))
rest-keyed says same own l t blob rooted keyed named (Ok (k, None)) follows = tt
rest-keyed says same own l t blob rooted keyed named (Err e) follows = tt

-- ---- a pin of a cell whose value is away, once its blob has come

module _ {N E : Type 0} (says : E → Values N) {e1 e0 : E} (same : e1 ≡ e0) {s s1 : PagerState N E} {leaf : Leaf} {blob : Blob}
    (f : LeafFetched (says e0) s leaf blob s1) {h : HandleNumber} (number : leaf.row.number ≡ h) where
  is-refused : (e : Error) (u : PagerState N E) → PinRun (says e0) s leaf.row.number (Err e) u → PinsPagedOut (says e0) s h (Err e) u
  is-refused e u run = record { goes = tt; refused = rw number at run }

  is-pinned : (k : HandleNumber) (u : PagerState N E) → PinRun (says e0) s leaf.row.number (Ok k) u → PinsPagedOut (says e0) s h (Ok (Some k)) u
  is-pinned k u run = record {
    goes = (rw number at run, rw number at f.unpinned);
    refused = tt;
  }

  pub away-loads-refused : (e : Error) (u : PagerState N E) → LeafLoads (says e1) s1 leaf blob (Err e) u → PinsPagedOut (says e0) s h (Err e) u
  away-loads-refused e u loads = is-refused e u (loads-refused f (rw same at loads))

  pub away-loads-pinned : (k : HandleNumber) (u : PagerState N E) → LeafLoads (says e1) s1 leaf blob (Ok k) u → PinsPagedOut (says e0) s h (Ok (Some k)) u
  away-loads-pinned k u loads = is-pinned k u (loads-pinned f (rw same at loads))

  pub away-dropped : (e : Error) (u : PagerState N E) → (e ≡ Error.OutOfMemory) × LeafDropped (says e1) s1 leaf u → PinsPagedOut (says e0) s h (Err e) u
  away-dropped e u (wanting, dropped) =
      is-refused e u (rw (← wanting) at (dropped-run f (rw same at dropped)))

  pub away-pinned : (x : N) (k : HandleNumber) (u : PagerState N E) → IsReadAs (says e1) leaf.node_type blob [] x → (says e1).references x ≡ []
      → LeafPinned (says e1) s1 leaf x k u → PinsPagedOut (says e0) s h (Ok (Some k)) u
  away-pinned x k u read bare pinned = is-pinned k u (pinned-run f (rw same at read)
      (rw same at bare)
      (rw same at pinned))

-- ---- the value that a new pin shares

module _ {N E : Type 0} (v : Values N) (h k : HandleNumber) where
  pub shares-back : {X : Type 0} (see : X → N) (e : Error) (s t : PagerState N E) → SharesPinned see s k (Err e) → TakesBack v true h k s t
      → SharesOrUndoes v h k s (Err e) t
  shares-back see e s t d back = record { shares = λ was first. taken_back v h see k true e was s t first d back }

  pub back-so : {me : Owner} → me ≡ Owner.Caller → (told other : Result (Unit {0}) Error) (s low t : PagerState N E)
      → MakesCall v (λ w'. UnpinCall s.core me h told w') s low → MakesCall v (λ w'. ReleaseCall low.core me k other w') low t → TakesBack v true h k s t
  back-so {me} mine told other s low t unpins releases = takes_back v h mine k true s low t other
      (told, rw mine at unpins) releases
