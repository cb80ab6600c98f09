use Rattle.pagable_tables.proofs.{
  CascadeStep.{come-fits, counts-there, held-here, set_loose_pinned-fits, some-held, turned},
  HandleTable.{changed-known, length-live-le, row-le-live},
  OwnedByLoad.does-so,
  SameViews.alike,
  Views.{not-a-value, pin-comes, settled},
  Words.{Counts, HandleRow, Mode, Some, ap, arith, basics, cases_eq, core_alone, counts_at, is_at, is_pinning, live, not, one, refl, refs_at, updated, []},
  Words.{◌++◌, ◌+◌, ◌∙◌, ◌∷◌},
  WorkCounts.{work-few, work-push},
}
use Rattle.pagable_tables.specs.CascadeInvariant.{BoundsWorkerHandles, is_work}
use Rattle.pagable_tables.proofs.create.pin_in_place.Goals as goal

pub returns : goal.returns
returns c =
    let t = c.args.t.now.ref_counts in
    let x = c.args.at.row in
    let n = x.node.0 in
    let w = c.requires.whole in
    let k = c.count_handle.ensures in
    let new = c.count_handle.new.nodes in
    let gone = c.replace_row.new.handles in
    let some = row-le-live (λ h. one (is_at n h)) t.handles.places.items c.args.at.place x c.requires.place in
    let there = counts-there (counts_at t.nodes n) (some-held _ (omega (arith, w.steady.fits.holding n, some, held-here x))) in
    let y = there.0 in
    let is = there.1 in
    let z : Counts = record y { pins = y.pins + one (not (is_pinning x.mode)) } in
    let mid = updated n (Some z) (counts_at t.nodes) in
    let rows = live gone.places.items in
    let pin : HandleRow = record { number = record { 0 = t.last_handle + 1 }; node = x.node; mode = Mode.Pinned; owner = c.args.me } in
    let loose = set_loose_pinned-fits {at' = mid} {refs' = refs_at t.nodes} x y w.steady.fits is c.replace_row.ensures.sums (grind basics)
    (λ q ne. grind basics) (λ q. refl) in
    let worked : BoundsWorkerHandles rows t.nodes = λ q. grind (basics, c.replace_row.ensures.sums (λ h. one (is_work q h)), w.steady.worked q) in
    does-so
    (λ storage. record {
      pinned = (
        record { above = refl; is_left = c.requires.left },
        alike _ _ (c.in-Ok.ensures.rows ∙ ap (λ rows. rows ++ pin ∷ [])
            (c.replace_row.ensures.becomes.rows ∙ changed-known _ _ x w.steady.sound.ordered c.requires.place turned))
            (λ q. grind (basics, cases_eq q n, is, k.here, k.others q)) refl (grind arith) refl,
      );
      refused = tt;
    })
    (record {
      sound = c.push.ensures.sound;
      next = c.in-Ok.ensures.next;
      fits = rw c.in-Ok.ensures.rows (come-fits pin z loose (grind basics) (grind (basics, k.here)) (λ q ne. grind (basics, k.others q ne)) k.refs
          (not-a-value (core_alone c.args.t.now) _ c.requires.holder));
      worked = rw c.in-Ok.ensures.rows (work-push rows pin t.nodes new worked k.bounds
          (k.bound _ (grind (basics, work-few n rows, length-live-le gone.places.items)) (omega (arith, worked n))));
    })
    (λ step. let made = step.pinned in let turns = pin-comes x.number x c.args.me w.core c.requires.holder c.requires.owns made.0.is_left in
    settled made.1 turns.0 turns.2) refl refl refl
