-- The states of a worker that takes an entry of the list, clones its handle, pins the cell, and sets its key are whole.
use Rattle.pagable_pager_spec.specs.{Basics.{Blob, HandleNumber}, Calls.{with_handle, with_key, with_mode, row_of}, Cascade.only_handle, Events.{with_entry_taken, with_worker}, Kinds.{is_handle, is_loose, is_shared, owner_worker}, Pager.{IsWhole, MayOwnLoad}, World.{Core, greatest, row_at}, declared.{handle_row.{HandleRow.HandleRow, Owner.Owner}, mode.Mode.Mode}}
use Rattle.pagable_tables.proofs.{CallsKeepWhole.{keyed-whole, take-whole, worker-whole}, RowCounts.{HasLike, among-last}, Views.{beside, opened, pin-comes, roomy, settles}}
use Rattle.pagable_tables.specs.Core.{MayOwnHandle}
use Rattle.pagable_theorems.proofs.{
  HandlesKept.{among-found, found-after, stands-new},
  Trees.self-number,
}
use Rattle.pagable_pager.proofs.LeafWorkerSteps.{alike-self}
use Rattle.std.proofs.{Common.{Bool, Some, ap, arith, false, if◌then◌else◌, length, refl, subst, sym, true, ℕ, [], ◌+◌, ◌<◌, ◌∙◌, ◌∷◌, ◌≡◌, ◌≤◌}, lemmas.{Bool.Decides.nat_tests, List.{Edits.length-remove, length-append, length-map}, Option.slice_get_within}}
use Rattle.std.specs.{Prelude.{Option, slice_get}}

ruleset basics = (arith, nat_tests)

-- what is stored doesn't matter, nor how often the storage has failed
pub stored-whole : (w : Core) (st : ℕ → Option Blob) (fl : ℕ) → IsWhole w → IsWhole (record w { stored = st; failures = fl })
stored-whole w st fl is = record {
  handles = record {
    ordered = is.handles.ordered;
    numbered = is.handles.numbered;
    nodes_numbered = is.handles.nodes_numbered;
    within = is.handles.within;
    live = is.handles.live;
    uniform = is.handles.uniform;
    unkeyed = is.handles.unkeyed;
    places = is.handles.places;
  };
  owners_there = record {
    listed = is.owners_there.listed;
    waiting = is.owners_there.waiting;
    loads = is.owners_there.loads;
    workers = is.owners_there.workers;
  };
  loads = record {
    numbered = is.loads.numbered;
    owned = λ l load e. may load.owner (is.loads.owned l load e);
    roots = λ l load node k q e root. let r = is.loads.roots l load node k q e root in record { typed = r.typed; begun = r.begun; given = r.given };
  };
  cache = λ kind key n known. let c = is.cache kind key n known in record { given = c.given; typed = c.typed; shares = c.shares };
  workers_numbered = is.workers_numbered;
  shut = is.shut;
}
  where
    may : (o : Owner) → MayOwnLoad w o → MayOwnLoad (record w { stored = st; failures = fl }) o
    may o m = grind basics

opened-is : (c : Core) → c.closed ≡ false → opened c ≡ c
opened-is c stands = λ i. record c { closed = sym stands i }

module _ (w : Core) (whole : IsWhole w) (place : ℕ) (row : HandleRow) (listed : slice_get w.list place ≡ Some row.number)
    (live : row_at w row.number ≡ Some row) (loose : is_loose row.mode ≡ true) (stands : w.closed ≡ false)
    (handles_left : w.last.handle + 2 < greatest) (room : length w.rows + 2 ≤ w.places.handles) where
  abbrev n : ℕ
  n = w.last.worker + 1

  abbrev me : Owner
  me = owner_worker n

  abbrev through : HandleNumber
  through = record { 0 = w.last.handle + 1 }

  abbrev begun : Core
  begun = with_worker (with_entry_taken w place row.number (record { 0 = n }))

  abbrev cloned : Core
  cloned = with_handle begun row.node row.mode me

  abbrev pinned : Core
  pinned = with_handle (with_mode cloned through Mode.LoosePinned) row.node Mode.Pinned me

  at-work : (c : Core) → c.workers ≡ begun.workers → MayOwnHandle c me
  at-work c same = ap (λ (f : ℕ → Bool). f n) same ∙ (let self = self-number n in grind basics)

  rows-begun : length begun.rows ≡ length w.rows
  rows-begun = length-map w.rows (λ x. if only_handle row.number x.number.0 then record x { owner = me } else x)

  pub begun-whole : IsWhole begun
  begun-whole =
      let shorter = length-remove w.list place (slice_get_within w.list place row.number listed) in
      let places = whole.handles.places in
      let rows = rows-begun in
      subst IsWhole (opened-is begun stands) (take-whole {w = roomy (with_worker w)} (opened begun) me place row.number (worker-whole whole)
      (at-work (roomy (with_worker w)) refl) (
        listed,
        record {
          rows = refl;
          cells = λ m. refl;
          list = refl;
          cache = record { gives = λ kind key. refl; only = λ kind key m is. is };
          stored = λ key. refl;
          closed = refl;
          failures = refl;
          loads = λ l. refl;
          workers = λ u. refl;
          last = refl;
          places = record { handles = places.0; entries = places.1 };
        },
      )
      (record { rows = omega arith; list = omega arith }))

  row-begun : HandleRow
  row-begun = record row { owner = me }

  begun-live : row_at begun row.number ≡ Some row-begun
  unfolding row-begun
  begun-live =
      let self = self-number row.number.0 in
      found-after (λ (x : HandleRow). only_handle row.number x.number.0) (λ x. record x { owner = me }) (λ x. refl) row.number.0 w.rows row live
      ∙ ap (λ b. Some (if b then record row { owner = me } else row)) self

  list-short : length begun.list ≤ begun.places.entries
  list-short = whole-places.1
    where
      whole-places : (length begun.rows ≤ begun.places.handles) × (length begun.list ≤ begun.places.entries)
      whole-places = begun-whole.handles.places

  pub cloned-whole : IsWhole cloned
  unfolding row-begun
  cloned-whole =
      let like : HasLike begun.rows row.node.0 (is_shared row.mode) =
      record { row = row-begun; there = among-found row.number.0 begun.rows row-begun begun-live; at = refl; same = refl } in
      let (turned, on, newer) = beside begun-whole row.node row.mode me like (at-work begun refl) (omega arith) in
      let rows = rows-begun in
      let more = length-append begun.rows (row_of (w.last.handle + 1) row.node row.mode me ∷ []) in
      subst IsWhole (opened-is cloned stands) (settles {m = cloned} turned (alike-self cloned) (record { rows = omega arith; list = list-short }))

  abbrev clone-row : HandleRow
  clone-row = row_of (w.last.handle + 1) row.node row.mode me

  abbrev pin-row : HandleRow
  pin-row = row_of (w.last.handle + 1 + 1) row.node Mode.Pinned me

  pinned-rows : length pinned.rows ≡ length w.rows + 2
  pinned-rows =
      let a = length-map cloned.rows (λ x. if is_handle through.0 x then record x { mode = Mode.LoosePinned } else x) in
      let b = length-append (with_mode cloned through Mode.LoosePinned).rows (pin-row ∷ []) in
      let c = length-append begun.rows (clone-row ∷ []) in
      let d = rows-begun in
      omega arith

  pub pinned-whole : IsWhole pinned
  pinned-whole =
      let found = (stands-new w.last.handle begun.rows clone-row (λ h among. (begun-whole.handles.numbered h among).1) refl).live in
      let (turned, on, newer) = pin-comes {w = cloned} through clone-row me cloned-whole (at-work cloned refl)
      (record { live = found; own = refl; as_asked = loose }) (omega arith) in
      let rows = pinned-rows in
      subst IsWhole (opened-is pinned stands) (settles {m = pinned} turned (alike-self pinned) (record { rows = omega arith; list = list-short }))

  module _ (st : ℕ → Option Blob) (fl : ℕ) where
    abbrev stored : Core
    stored = record pinned { stored = st; failures = fl }

    pub pinned-stored : IsWhole stored
    pinned-stored = stored-whole pinned st fl pinned-whole

    pub pinned-keyed : (key : ℕ) → IsWhole (with_key stored row.node key)
    pinned-keyed key =
        let rows = pinned-rows in
        let turned = keyed-whole pinned-stored pin-row (among-last (with_mode cloned through Mode.LoosePinned).rows pin-row) key refl in
        subst IsWhole (opened-is (with_key stored row.node key) stands)
        (settles {m = with_key stored row.node key} turned (alike-self (with_key stored row.node key)) (record { rows = omega arith; list = list-short }))
