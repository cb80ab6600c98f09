use Rattle.pagable_tables.proofs.{
  CallsKeepWhole.take-whole,
  CascadeStep.{entry-lives, entry-unvalued, fits-same, held-here, some-held},
  HandleTable.{length-live-le, row-le-live},
  OwnedByLoad.{later-by, load-kept, worker-kept},
  RowCounts.found-among,
  SameViews.{alike, at-work-still},
  Views.not-a-value,
  Wholeness.whole-so,
  Words.{InReach, Some, TakeCall, ap, arith, basics, cases_eq, core_alone, core_of, counts_at, inl, inr, is_at, live, moved, one, only_handle, reach_at, refl},
  Words.{rows_of, rules, slice_get_read, subst, times, ◌<◌, ◌∙◌, ◌≡◌},
  WorkCounts.work-few,
}
use Rattle.pagable_tables.specs.{CascadeInvariant.{BoundsWorkerHandles, is_work}, Core.{StorageView, no_blobs}}

pub unreachable-requires-in_default-find_live : Rattle.pagable_tables.proofs.pending.take_pending.Goals.unreachable-requires-in_default-find_live
unreachable-requires-in_default-find_live c =
    let listed = c.requires.whole.core.owners_there.listed c.in-Some.handle.0 in
    entry-lives c.args.t.now.ref_counts.list.items c.args.t.now.ref_counts.handles.places.items c.args.place c.in-Some.handle
    (omega arith) c.in-Some.ensures.value listed (search rules)

pub raise_bound_for-requires : Rattle.pagable_tables.proofs.pending.take_pending.Goals.raise_bound_for-requires
raise_bound_for-requires c =
    let x = c.in-Some-find_live.at.row in
    let t = c.args.t.now.ref_counts in
    let there = row-le-live (λ h. one (is_at x.node.0 h)) t.handles.places.items c.in-Some-find_live.at.place x c.in-Some-find_live.ensures.place in
    some-held (counts_at t.nodes x.node.0) (omega (arith, held-here x, c.requires.whole.steady.fits.holding x.node.0))

pub returns : Rattle.pagable_tables.proofs.pending.take_pending.Goals.returns
returns c =
    let u = c.args.t.now in
    let t = u.ref_counts in
    let h = c.in-Some.handle in
    let w = c.requires.whole in
    let given = c.hand_over.ensures.becomes.rows ∙ ap (λ q. moved (only_handle q) c.args.me (rows_of t)) c.in-Some-find_live.ensures.number in
    let taken : (storage : StorageView) → TakeCall (core_of u storage) c.args.me c.args.place (Some h)
    (core_of (record u {
      ref_counts = record t { handles = c.hand_over.new.handles; list = c.remove.new.self; nodes = c.raise_bound_for.new.nodes };
      workers = c.widen_range.new.workers;
    }) storage) =
    λ storage.
    (let w' = core_of (record u { ref_counts = record t { handles = c.hand_over.new.handles; list = c.remove.new.self; nodes = c.raise_bound_for.new.nodes } })
    storage in (
      slice_get_read t.list.items _ c.args.place h refl (omega arith) c.in-Some.ensures.value,
      at-work-still (alike _ w' given (λ n. rw (c.raise_bound_for.ensures.counts n) refl) c.in-Some.ensures.items
          (grind arith) refl) c.widen_range.ensures.same_workers,
    )) in
    let none = entry-unvalued t.list.items t.handles.places.items c.args.place h (omega arith) c.in-Some.ensures.value (w.core.owners_there.listed h.0) in
    let unvalued = none c.in-Some-find_live.at.place c.in-Some-find_live.at.row w.steady.sound.ordered c.in-Some-find_live.ensures.place
    c.in-Some-find_live.ensures.number in
    let k = c.raise_bound_for.ensures in
    let x = c.in-Some-find_live.at.row in
    let rows = rows_of t in
    let new = live c.hand_over.new.handles.places.items in
    let worked : BoundsWorkerHandles new c.raise_bound_for.new.nodes = λ n.
    let here = λ (same : n ≡ x.node.0). k.here (times (is_work n) new) in
    grind (
      basics,
      cases_eq n x.node.0,
      c.hand_over.ensures.sums (λ h. one (is_work n h)),
      w.steady.worked n,
      k.others n,
      work-few n new,
      length-live-le c.hand_over.new.handles.places.items,
    ) in
    let steady = c.hand_over.ensures.keeps_sound (record t { list = c.remove.new.self; nodes = c.raise_bound_for.new.nodes }) unvalued
    (not-a-value (core_alone u) c.args.me c.requires.holder)
    (rw c.hand_over.ensures.becomes.rows at worked)
    (record {
      sound = w.steady.sound;
      next = w.steady.next;
      fits = fits-same w.steady.fits k.counts k.refs;
      worked = λ n. omega (arith, k.others n, w.steady.worked n);
    }) in
    record {
      taken = taken;
      whole = whole-so steady (take-whole _ c.args.me c.args.place h w.core c.requires.holder (taken no_blobs));
      later = λ other later.
          (let row = found-among h.0 (rows_of t) c.in-Some-find_live.at.row c.in-Some-find_live.ensures.found in
          let numbered : 0 < h.0 = omega (arith, w.core.handles.numbered c.in-Some-find_live.at.row row.0) in
          later-by later (omega arith) refl (λ l load is. is) c.widen_range.ensures.wider
          (λ l q own. inl (load-kept u later (only_handle h) c.args.me other _ given l q own))
          (λ v q own. elim (worker-kept u later (only_handle h) c.args.me other _ given v q own) [
            | inl had ↦ inl had
            | inr (mine, is) ↦ inr (inr (subst (λ n. InReach (reach_at c.widen_range.new.workers v) n) (grind basics)
                (c.widen_range.ensures.here v numbered mine)))
          ]));
    }
