use Rattle.pagable_tables.proofs.{
  CascadeEnd.{gives-fewer, gives-unlisted},
  CascadeStep.{done-fits, done-gone, fallen, fits-same, is_owned, taken-fits, taken-owned, taken-there, top-stands, top-there},
  Counting.gives-sums,
  HandleTable.{none-found, only-row},
  Words.{ArcRef, HandleRow, IsSoundInCascade, List, RefCounts, Some, ValueStays, alive, ap, append-nil, arith, basics, cases_eq, counts_at, inl, inr, is_at},
  Words.{is_value_owner, length, one, owner_value, owns, owns_nothing, refl, refs_at, rows_of, slice_get, subst, sum_by-le-sum_by, sym, ℕ, [], ◌&&◌, ◌++◌},
  Words.{◌==◌, ◌∙◌, ◌∷◌, ◌≡◌, ◌≢◌},
}
use Rattle.pagable_tables.specs.{CascadeInvariant.is_work, Nodes.most_worker_handles_at}
use Rattle.pagable_tables.proofs.cascade.step_cascade.Goals as goal

-- the first node that falls has this reference, which was taken
module _ (t mid : RefCounts) (ns : List ℕ) (p : ArcRef) (i : ℕ) (x : HandleRow) (w : IsSoundInCascade t (t.top ∷ ns) owns_nothing)
    (popped : refs_at t.nodes t.top ≡ refs_at mid.nodes t.top ++ p ∷ [])
    (others : (m : ℕ) → m ≢ t.top → refs_at mid.nodes m ≡ refs_at t.nodes m) (same : (m : ℕ) → counts_at mid.nodes m ≡ counts_at t.nodes m)
    (work : (m : ℕ) → most_worker_handles_at mid.nodes m ≡ most_worker_handles_at t.nodes m) (at : slice_get t.handles.places.items i ≡ Some (alive x))
    (number : x.number.0 ≡ p.handle.0) where
  taken : (x.owner ≡ owner_value t.top) × IsSoundInCascade (record t { nodes = mid.nodes }) (t.top ∷ ns) (owns x)
  taken =
      let a = taken-owned p w.fits popped
      others same in
      let b = only-row (is_owned t.top p.handle.0) _ i x w.sound.ordered at (λ h. grind basics) in
      let its : is_owned t.top p.handle.0 x ≡ 1 = grind basics in
      let o : (x.owner ≡ owner_value t.top) × ((m r : ℕ) → is_owned m r x ≡ one (t.top == m && p.handle.0 == r)) = grind basics in
      let fits = taken-fits p w.fits
      popped others same x o.1 in (
        o.0,
        record {
          sound = w.sound;
          next = w.next;
          fits = fits;
          worked = λ m. rw (work m) (w.worked m);
        },
      )

pub release_without_cascade-requires-clause-falling : goal.release_without_cascade-requires-clause-falling
release_without_cascade-requires-clause-falling c =
    let t = c.args.t.now in
    let s = top-stands t _ c.requires.some c.requires.falling.1 in
    let e = c.in-Some.ensures in
    let f = c.in-Some-find_live.ensures in
    let number = ap (λ n. n.0) f.number in (
      t.top ∷ s.0,
      (taken t (record t { nodes = c.pop_reference.new.nodes }) s.0 c.in-Some.reference c.in-Some-find_live.at.place c.in-Some-find_live.at.row s.2 e.here
          e.others e.counts e.worker_bound f.place number).1,
    )

pub unreachable-requires : goal.unreachable-requires
unreachable-requires c =
    let t = c.args.t.now in
    let s = top-stands t _ c.requires.some c.requires.falling.1 in
    let e = c.in-Some.ensures in
    let a = taken-there c.in-Some.reference s.2.fits e.here e.others e.counts in
    absurd (omega (arith, none-found c.in-Some.reference.handle.0 (rows_of t) c.in-None-find_live.ensures.none))

-- nothing was taken
untouched : (t mid : RefCounts) (stack : List ℕ) → IsSoundInCascade t stack owns_nothing → refs_at t.nodes t.top ≡ refs_at mid.nodes t.top ++ []
    → ((m : ℕ) → m ≢ t.top → refs_at mid.nodes m ≡ refs_at t.nodes m) → ((m : ℕ) → counts_at mid.nodes m ≡ counts_at t.nodes m)
    → ((m : ℕ) → most_worker_handles_at mid.nodes m ≡ most_worker_handles_at t.nodes m)
    → IsSoundInCascade (record t { nodes = mid.nodes }) stack owns_nothing
untouched t mid stack w here others same work =
    let refs : (m : ℕ) → refs_at mid.nodes m ≡ refs_at t.nodes m = λ m. grind (basics, cases_eq, append-nil) in
    record {
      sound = w.sound;
      next = w.next;
      fits = fits-same w.fits same refs;
      worked = λ m. rw (work m) (w.worked m);
    }

pub unwrap-counts-requires : goal.unwrap-counts-requires
unwrap-counts-requires c =
    let e = c.in-None.ensures in
    let mid : RefCounts = record c.args.t.now { nodes = c.pop_reference.new.nodes } in
    grind (
      basics,
      (top-there mid c.requires.falling.0 c.requires.some
          (untouched c.args.t.now mid c.requires.falling.0 c.requires.falling.1 e.here e.others e.counts e.worker_bound)),
      c.counts_of.ensures,
    )

pub returns-in-Some-find_live : goal.returns-in-Some-find_live
returns-in-Some-find_live c stack w =
    let t = c.args.t.now in
    let s = top-stands t _ c.requires.some w in
    let e = c.in-Some.ensures in
    let x = c.in-Some-find_live.at.row in
    let mid : RefCounts = record t { nodes = c.pop_reference.new.nodes } in
    let o = taken t mid s.0 c.in-Some.reference c.in-Some-find_live.at.place x s.2 e.here e.others e.counts e.worker_bound
    c.in-Some-find_live.ensures.place (ap (λ n. n.0) c.in-Some-find_live.ensures.number) in
    let g =
    c.release_without_cascade.ensures (t.top ∷ s.0) o.1 in
    record {
      rest = g.more;
      falling = g.falling;
      less = grind (basics, gives-sums g (λ h. one (is_value_owner h.owner)), ap (λ k. one (is_value_owner k)) o.0, ap length s.1);
      cells = λ m some. grind (basics, e.counts m, g.cells m);
      values = λ m _. rw (e.counts m) at (g.values m);
      gone = tt;
      fewer = gives-fewer g;
      unlisting = λ none. gives-unlisted none g;
      what = inr (
        x,
        t.top,
        refl,
        record {
          owner = o.0;
          fallen = fallen s.2.fits;
          popped = mid;
          same = refl;
          counts = e.counts;
          stack = t.top ∷ s.0;
          gives = g;
        },
      );
    }

pub returns-in-None : goal.returns-in-None
returns-in-None c stack w =
    let t = c.args.t.now in
    let e = c.in-None.ensures in
    let mid : RefCounts = record t { nodes = c.pop_reference.new.nodes } in
    let at = counts_at mid.nodes in
    let new = counts_at c.finish_node.new.nodes in
    let l = c.finish_node.ensures in
    let s = top-stands _ _ c.requires.some (untouched t mid stack w e.here e.others e.counts e.worker_bound) in
    let is = sym c.counts_of.ensures ∙ c.unwrap-counts.ensures in
    let done = done-fits _ s.2.fits is l.here e.none l.others
    l.refs c.requires.some in
    record {
      rest = s.0;
      falling = record {
        sound = w.sound;
        next = w.next;
        fits = done;
        worked = λ m.
            let less = sum_by-le-sum_by (λ h. one (is_work m h)) (λ h. one (is_at m h)) (rows_of t) (λ h. grind basics) in
            let holds = w.fits.holding m ∙ refl in
            grind (basics, cases_eq m t.top, w.worked m, e.worker_bound m, l.worker_bound m, l.here_worker_bound, e.counts m, is, less, holds);
      };
      less = omega (arith, ap length s.1);
      cells = λ m some. grind (basics, cases_eq m t.top, is, l.here, l.others m, e.counts m);
      values = λ m ne. let other = l.others m (λ eq. ne (ap (λ k. Some (record { 0 = k })) (sym eq))) in
          subst (λ o. ValueStays o (new m)) (other ∙ e.counts m) (λ falls. (falls, refl));
      gone = done-gone _ s.2.fits is l.here e.none l.others l.refs
          c.requires.some;
      fewer = omega arith;
      unlisting = λ none. refl;
      what = inl (refl, refl);
    }
