use Rattle.pagable_tables.proofs.{
  CallsKeepWhole.{installs-goes, may-hold},
  CascadeStep.{fits-same, pins-le-held, some-held, turned},
  LoadEnd.{ended, has-come, joined-fits, pins-here, ready-owner},
  OwnedByLoad.{closed-still, later-less, lazily-by, not-named, still-reaches},
  SameViews.named-none,
  Views.{none-named, not-a-value},
  Words.{ArcRef, Bool, Cell, Core, Counts, Error, Falls, FallsAnyhow, HandleRow, List, LoadNumber, Mode, None, Option, OptionalDataKey, Owner, Result, Right},
  Words.{Some, and-true, ap, arith, basics, cases_Bool, cell_in, changed, core_alone, core_of, counts_at, falls_in, false, has_key, has_value, if_there, inl},
  Words.{inr, is_handle, is_here, is_in_memory, is_named_by, is_owned_in, is_pin, key_in, live, load_at, load_in, moved, named, nat_lt, not, one, option_map},
  Words.{owner_value, owns, owns_nothing, pins_in, references_fault, refl, refs_at, row_of, rows_of, sum_by, sym, true, with_pin, without_load, ℕ, [], ◌&&◌},
  Words.{◌++◌, ◌+◌, ◌<◌, ◌∙◌, ◌∷◌, ◌≡◌, ◌⊎◌},
  WorkCounts.work-moved,
}
use Rattle.pagable_tables.specs.{Core.{no_blobs, no_blobs_of}, Nodes.coming}
use Rattle.std.proofs.lemmas.{Bool.{not-false, not-true}, List.map-id}
use Rattle.pagable_tables.proofs.load_end.install_until.Goals as goal

-- the load gives up what it owns, and what comes doesn't fall
falls-so : (b : Bool) (w : Core) (me : Owner) (l : LoadNumber) (row : HandleRow) (rs : List ArcRef) (r : Result (Unit {0}) Error) (w' : Core) → b
    ≡ not (is_here w row.node.0)
    → Falls w (with_pin (record (without_load w l) { rows = moved (is_named_by (coming b rs)) (owner_value row.node.0) w.rows }) row.number row.node me)
    (λ q. is_owned_in w (Owner.Load l) q && not (is_named_by (coming b rs) q)) r w'
    → ((is_here w row.node.0 ≡ false)
    × FallsAnyhow w (with_pin (record (without_load w l) { rows = moved (is_named_by rs) (owner_value row.node.0) w.rows }) row.number row.node me)
    (λ q. is_owned_in w (Owner.Load l) q && not (is_named_by rs q)) w')
    ⊎ ((is_here w row.node.0 ≡ true) × FallsAnyhow w (with_pin (without_load w l) row.number row.node me) (is_owned_in w (Owner.Load l)) w')
falls-so true w me l row rs r w' away falls = inl (not-true _ (sym away), record { told = r; falls = falls })
falls-so false w me l row rs r w' away falls = inr (not-false _ (sym away), record { told = r; falls = simp (named-none, map-id, and-true) at falls })

stored-key : (k : ℕ) → has_key (key_in k) ≡ nat_lt 0 k
stored-key k = grind basics

-- where nothing falls, a node doesn't
stands : (o : Option Counts) → 0 ≡ one (falls_in o) → falls_in o ≡ false
stands o none = grind basics

-- a node whose value is away refers to nothing
bare-away : (o : Option Counts) (refs : List ArcRef) (pinned : ℕ) → Right o refs → falls_in o ≡ false → pins_in o ≡ pinned
    → is_in_memory pinned (if_there (λ (cell : Cell). cell.key) OptionalDataKey.None (cell_in o)) ≡ false → refs ≡ []
bare-away o [] pinned right still same away = refl
bare-away None (r ∷ rs) pinned right still same away = right
bare-away (Some c) (r ∷ rs) pinned right still same away = absurd (grind (basics, stored-key))

pub pin_in_memory-requires : goal.pin_in_memory-requires
pin_in_memory-requires g c =
    let r = c.requires.ready no_blobs in
    let holder = may-hold (core_alone c.args.t.now) _ (ready-owner c.requires.whole r) in
    record { whole = c.requires.whole; holder = holder; owns = r.owned }

pub unreachable-requires : goal.unreachable-requires
unreachable-requires g c =
    grind (
      basics,
      c.requires.place,
      c.requires.whole.steady.sound,
      (c.requires.ready no_blobs).left,
      (c.in_default.ensures.does.does no_blobs).refused.why,
    )

pub set_references_if-requires-clause-live : goal.set_references_if-requires-clause-live
set_references_if-requires-clause-live g c =
    let t1 = c.pin_in_memory.new.t in
    let n = c.args.ending.row.node.0 in
    let d = c.in-Ok.ensures.does.whole.steady.fits.holding n in
    let p = pins-here c.args.t.now t1 no_blobs c.args.ending.row c.args.me (c.in-Ok.ensures.does.does no_blobs).pinned.1 in
    let q = pins-le-held n (rows_of t1.ref_counts) in
    some-held (counts_at t1.ref_counts.nodes n) (omega arith)

pub release_owned-requires-clause-steady : goal.release_owned-requires-clause-steady
release_owned-requires-clause-steady g c =
    let t = c.args.t.now in
    let t1 = c.pin_in_memory.new.t in
    let me = c.args.me in
    let l = c.args.load in
    let row = c.args.ending.row in
    let n = row.node.0 in
    let rs = c.args.references.items in
    let p = core_alone t in
    let was = c.requires.whole in
    let whole = c.in-Ok.ensures.does.whole in
    let j = c.set_references_if.ensures in
    let k = c.set_references_if.new.t in
    let r = c.requires.ready no_blobs in
    let a = (c.in-Ok.ensures.does.does no_blobs).pinned.1 in
    let x = row_of (t.ref_counts.last_handle + 1) row.node Mode.Pinned me in
    elim (cases_Bool c.args.ending.lacks_value) [
      | inr here ↦ rw (j.none here) whole.steady
      | inl comes ↦
          (let away = not-true (is_here p n) (sym r.away ∙ comes) in
          let at = counts_at t.ref_counts.nodes n in
          let still = stands at (was.steady.fits.marked n) in
          let bare : refs_at t.ref_counts.nodes n ≡ [] = bare-away at _ _ (was.steady.fits.right n) still (was.steady.fits.pinned n) away in
          let none : (q : ℕ) → sum_by (λ h. owns h n q) (rows_of t.ref_counts) ≡ 0 =
          λ q. sym (was.steady.fits.owned n q) ∙ ap (λ refs. named q refs + owns_nothing n q) bare in
          let unvalued = not-a-value p me (may-hold p me (ready-owner was r)) in
          let spared = not-named p l rs was.core.handles r.may.good (t.ref_counts.last_handle + 1) (omega arith) in
          let before = changed (is_handle row.number.0) turned (rows_of t.ref_counts) ++ x ∷ [] in
          let fits = rw a.rows at whole.steady.fits in
          let pinned : 0 < sum_by (λ y. one (is_pin n y)) before =
          rw a.rows at (pins-here t t1 no_blobs row me a) in
          let joined = joined-fits p (Owner.Load l) rs was.core.handles.ordered r.may.good refl n none row.number.0 x unvalued spared fits pinned
          (j.here comes) j.others in
          let told = fits-same joined j.counts (λ m. refl) in
          let rows = j.handles.rows ∙ ap (λ b. moved (is_named_by (coming b rs)) (owner_value n) (rows_of t1.ref_counts)) comes
          ∙ ap (moved (is_named_by rs) (owner_value n)) a.rows in
          record {
            sound = j.handles.sound;
            next = j.handles.next (k.last_handle + 1) (grind (arith, whole.steady.next, ap (λ h. h.last_handle) j.same));
            fits = rw rows
                (grind (arith, told, ap (λ h. h.top) j.same));
            worked = rw j.handles.rows
                (work-moved k.nodes (is_named_by (coming c.args.ending.lacks_value rs)) (owner_value n) (rows_of t1.ref_counts) refl
                (λ m. rw (j.worker_bound m) (whole.steady.worked m)));
          })
    ]

pub returns-clause-does : goal.returns-clause-does
returns-clause-does g c =
    let t = c.args.t.now in
    let t1 = c.pin_in_memory.new.t in
    let me = c.args.me in
    let l = c.args.load in
    let row = c.args.ending.row in
    let rs = c.args.references.items in
    let b = c.args.ending.lacks_value in
    let p = c.requires.ready no_blobs in
    let same = c.in-Ok.ensures.same in
    let j = c.set_references_if.ensures in
    let good : references_fault (core_alone t) (Owner.Load l) [] (coming b rs) ≡ None = grind (basics, none-named) in
    let may = (c.requires.ready (no_blobs_of c.args.lists)).may in
    lazily-by
    (λ storage e.
    let r = c.requires.ready storage in
    let next = (c.in-Ok.ensures.does.does storage).pinned.0 in
    record {
      row = row;
      owned = r.owned;
      at = refl;
      next = record { above = next.above; is_left = next.is_left };
      falls = falls-so b (core_of t storage) me l row rs c.release_owned.result _ r.away
          (ended t t1 storage c.args.lists c.requires.whole c.in-Ok.ensures.does.whole e row p.owned.live me
          (ready-owner c.requires.whole p) l (coming b rs)
          good (c.in-Ok.ensures.does.does storage).pinned.1 same c.set_references_if.new.t j.handles.rows (ap (λ h. h.list) j.same)
          (ap (λ h. h.last_handle) j.same)
          j.handles.capacity (λ m. ap cell_in (j.counts m)) c.args.ending.load.since c.args.until c.release_owned.new.t (load_at c.remove_row.new.rows)
          c.release_owned.result (λ before v f few between. c.release_owned.ensures.falls before v
          (record v { loads = λ m. option_map load_in (load_at c.remove_row.new.rows m) }) (λ m. refl) f few
          (λ q own. let b = between q own in let after = b.0 in ((omega arith, inl after), b.1)))
          (λ q own. (c.requires.above q own, c.requires.up_to q own)) c.remove_row.ensures.gone c.remove_row.ensures.others);
    })
    c.release_owned.ensures.steady
    (λ i. (installs-goes c.requires.whole.core may i).whole)
    (λ i later. later-less later (installs-goes c.requires.whole.core may i).newer
    (ap (λ u. u.noted) same)
    (λ m load is. closed-still c.remove_row.ensures.gone
    (λ q other. c.remove_row.ensures.others q other ∙ ap (λ u. load_at u.loads q) same) m load is)
    (still-reaches (ap (λ u. u.workers) same)))

pub returns-clause-drops : goal.returns-clause-drops
returns-clause-drops g c = record {
  left = λ kept. c.release_owned.ensures.drops.left (λ n falls. kept n
      ∙ sym (ap has_value (c.set_references_if.ensures.counts n)
      ∙ has-come _ _ _ _ _
      (c.in-Ok.ensures.does.does (no_blobs_of c.args.lists)).pinned.1 c.requires.whole c.in-Ok.ensures.does.whole
      (c.requires.ready (no_blobs_of c.args.lists)).owned.live n));
}
