-- A leaf of the page-out list that is paged out in one call: the steps of the worker that leave the same state.
use Rattle.pagable_pager_spec.specs.{Access.{AccessState, EntryRun, WalkStep, WorkerStarts, entry-is-walked, worker-ends, worker-goes-on}, Basics.{Among, ArcRef, Blob, Error, HandleNumber, OptionalDataKey, changed, if_there, is_loose_kind}, Basics.{one, times, type_of}, Basics.{or_else, updated}, Calls.{CloneCall, PinCall, SetKeyCall, StoreCall, moved, row_of, with_handle, with_key, with_mode}, Cascade.{AreNewEntries, FallsAnyhow, IsClosed, MustList, fallen, is_keyed, is_outside, left_rows, nobody, only_handle}, Events.{Ends, IsEntry, no_shelf, with_entry_taken, with_worker}, Kinds.{HasKinds, find_row, held, identity_of, is_at, is_handle, is_loose, is_owned_by, is_owner, is_pin, is_share, loose_kind, owner_worker}, Kinds.{pins, sharing}, Pager.{IsPagerWhole, IsWhole, MayOwnLoad, PagerState, TookWrites}, Workers.{WorkDoes, WorkerEnds, answer_after, claim_fault, is_workers, is_workers_at, is_load_of, is_workers_load}, Workers.{with_changed_slot, with_outcome}, Workers.{with_failed, with_slot, with_wait, without_worker}, World.{Alike, Core, HasForm, OpenLoad, SameShelf, Seen, Shelf, Slot, Todo, Values, Written, digest, greatest, is_here, key_at, no_result}, World.published, World.{row_at, to_fail, to_finish, to_pin, to_publish, to_release, to_set, to_start, to_write, was_refused}, declared.{events.{Action.Action, Claim.Claim, PinStep.PinStep, WorkerAnswer.WorkerAnswer}, handle_row.{HandleRow.HandleRow, Owner.Owner}, mode.Mode.Mode}, declared.pinning.Pinning.Pinning}
use Rattle.pagable_pager_spec.proofs.Elements.{among-left}
use Rattle.pagable_theorems.proofs.{CascadeWitness.within-self, Decoding.among-either, HandlesKept.{NotValues, among-changed, among-found, find-both, found-after, once, only-one, same-owner, stands-new}, StepBounds.found, Trees.{at-most-sum, counted, one-true, same-number, self-number, sum-le}, ValueRows.{owns-same}, ValuesOwned.{clones, pins-it, spared, spares-same, starts-listed}}
use Rattle.pagable_value_spec.specs.Merkle.{blob_of}
use Rattle.pagable_pager.specs.LeafPageOut.{AreNewFor, with_entry_paged, with_entry_relisted}
use Rattle.pagable_pager.proofs.ReleasedAlone.{
  ListStays,
  UnpinsNone,
  alone,
  closed-beside,
  falls-alone,
  filter-alike,
  filter-whole,
  sum-alike,
  times-left,
  unpins-beside,
}
use Rattle.std.proofs.{Common.{Bool, Err, List, None, Ok, Option, Some, ap, arith, false, filter, if◌then◌else◌, inl, inr, length, map, not, refl, subst, suc}, Common.{sym, true, ℕ, [], ◌&&◌, ◌++◌, ◌+◌, ◌<◌, ◌==◌, ◌||◌}, Common.{◌∙◌, ◌∷◌, ◌≡◌, ◌≤◌}, lemmas.{Bool.{Decides.nat_tests, and_parts, cases_Bool, false_from_ne_true}, Option.slice_get_within}, lemmas.List.{Sums.{sum_by-append, sum_by_push}}}
use Rattle.std.specs.{List.remove, Prelude.{nat_lt}}

ruleset basics = (arith, nat_tests)

pub alike-self : (w : Core) → Alike w w
alike-self w = grind basics

pub same-shelf : (s : Shelf) → SameShelf s s
same-shelf s = record { slots = λ i. refl; waits = λ v. refl }

-- an entry of the list is a row that the list owns, which is loose and unpinned
pub list-row : {w : Core} → IsWhole w → (q : HandleNumber) → Among w.list q → (h : HandleRow) × Among w.rows h × (h.number.0 ≡ q.0) × (h.owner ≡ Owner.List)
list-row {w} whole q among =
    let one_there : one (q.0 == q.0) ≤ times (λ (h : HandleNumber). h.0 == q.0) w.list = at-most-sum (λ (h : HandleNumber). one (h.0 == q.0)) w.list q among in
    let self = self-number q.0 in
    let listed = whole.owners_there.listed q.0 in
    let some : 0 < times (λ h. is_handle q.0 h && is_owned_by Owner.List h) w.rows = grind basics in
    let (h, there, counts) = counted (λ h. one (is_handle q.0 h && is_owned_by Owner.List h)) w.rows some in
    let both = and_parts (is_handle q.0 h) (is_owned_by Owner.List h) (one-true _ counts) in
    (h, there, same-number h.number.0 q.0 both.0, same-owner Owner.List h.owner both.1)

pub entry-row : {w : Core} {place t : ℕ} {row : HandleRow} → IsWhole w → IsEntry w place row.number row t
    → Among w.rows row × (row.owner ≡ Owner.List) × (row.mode ≡ Mode.LooseUnpinned)
entry-row {w} {place} {t} {row} whole entry =
    let (h, there, number, own) = list-row whole row.number (place, entry.listed) in
    let among = among-found row.number.0 w.rows row entry.live in
    let owner = ap (λ (x : HandleRow). x.owner) (once w.rows whole.handles.ordered row h among there (sym number)) ∙ own in
    (among, owner, whole.owners_there.waiting row among owner)

-- a reference to the cell of an entry is a loose one, of the cell's type
pub loose-is : (t : ℕ) → is_loose_kind (loose_kind t) ≡ true
loose-is t = grind basics

pub type-is : (t : ℕ) → type_of (loose_kind t) ≡ t
type-is t = grind basics

-- ---- the worker's states

module _ {N E : Type 0} (v : Values N) (s : PagerState N E) (whole : IsPagerWhole v s) (place : ℕ) (row : HandleRow) (t : ℕ)
    (entry : IsEntry s.core place row.number row t) (worker_left : s.core.last.worker < greatest) (handles_left : s.core.last.handle + 2 < greatest)
    (unkeyed : key_at s.core row.node.0 ≡ OptionalDataKey.None) where
  abbrev w : Core
  w = s.core

  -- the worker's number and handles, and the reference to the cell by the entry
  abbrev n : ℕ
  n = w.last.worker + 1

  abbrev me : Owner
  me = owner_worker n

  abbrev through : HandleNumber
  through = record { 0 = w.last.handle + 1 }

  abbrev pin : HandleNumber
  pin = record { 0 = w.last.handle + 1 + 1 }

  abbrev reference : ArcRef
  reference = record { kind = record { 0 = loose_kind t }; node = row.node; handle = row.number }

  -- the worker has begun; it has cloned the entry, and pinned the cell by the clone
  abbrev begun : Core
  begun = with_worker (with_entry_taken w place row.number (record { 0 = n }))

  abbrev cloned : Core
  cloned = with_handle begun row.node row.mode me

  abbrev pinned : Core
  pinned = with_handle (with_mode cloned through Mode.LoosePinned) row.node Mode.Pinned me

  -- the state with this core, in which no value has come or gone
  abbrev state : Core → PagerState N E
  state c = record { core = c; counts = λ m. pins m c.rows; values = s.values; environment = s.environment }

  -- ---- the entry's row

  row-among : Among w.rows row
  row-among = (entry-row whole.whole entry).0

  row-mode : row.mode ≡ Mode.LooseUnpinned
  row-mode = (entry-row whole.whole entry).2

  row-loose : is_loose row.mode ≡ true
  row-loose = ap is_loose row-mode

  free : NotValues me
  free m e = cc

  row-begun : HandleRow
  row-begun = record row { owner = me }

  live-begun : row_at begun row.number ≡ Some row-begun
  unfolding row-begun
  live-begun =
      let self = self-number row.number.0 in
      found-after (λ (x : HandleRow). only_handle row.number x.number.0) (λ x. record x { owner = me }) (λ x. refl) row.number.0 w.rows row entry.live
      ∙ ap (λ b. Some (if b then record row { owner = me } else row)) self

  -- ---- it claims the cell

  claimable : claim_fault begun reference ≡ None
  unfolding row-begun
  claimable =
      let live = live-begun in
      let typed = entry.typed in
      let node = self-number row.node.0 in
      let loose = row-mode in
      let kind = loose-is t in
      let type = type-is t in
      grind basics

  module _ (whole-begun : IsWhole begun) (whole-cloned : IsWhole cloned) (whole-pinned : IsWhole pinned) where
    pub state-begun : IsPagerWhole v (state begun)
    state-begun = spared whole (starts-listed whole.whole place row.number (record { 0 = n }) entry.listed (alike-self begun)) (λ m. refl)
        (record { counted = λ m. refl; whole = λ shut. whole-begun })

    -- ---- it pins the cell

    clone : CloneCall begun me row.number (Ok through) cloned
    unfolding row-begun
    clone = record { made = (row-begun, live-begun, record { above = refl; is_left = omega arith }, alike-self cloned); refused = tt }

    state-cloned : IsPagerWhole v (state cloned)
    state-cloned = spared state-begun (clones whole-begun free (Ok through) clone) (λ m. refl) (record { counted = λ m. refl; whole = λ shut. whole-cloned })

    abbrev clone-row : HandleRow
    clone-row = row_of (w.last.handle + 1) row.node row.mode me

    abbrev pin-row : HandleRow
    pin-row = row_of (w.last.handle + 1 + 1) row.node Mode.Pinned me

    live-cloned : row_at cloned through ≡ Some clone-row
    live-cloned = (stands-new w.last.handle begun.rows clone-row (λ h among. (whole-begun.handles.numbered h among).1) refl).live

    pin-call : PinCall cloned me through (Ok (Pinning.Pinned pin)) pinned
    pin-call =
        let here : is_here cloned row.node.0 ≡ true = grind (basics, unkeyed) in
        record {
          pins = (
            clone-row,
            record { live = live-cloned; own = refl; as_asked = row-loose },
            (here, record { above = refl; is_left = omega arith }, alike-self pinned),
          );
          refused = tt;
        }

    pub state-pinned : IsPagerWhole v (state pinned)
    state-pinned = spared state-cloned (pins-it whole-cloned free (Ok (Pinning.Pinned pin)) pin-call) (λ m. refl)
        (record { counted = λ m. refl; whole = λ shut. whole-pinned })

    -- ---- its value, which refers to nothing, is written

    module _ (x : N) (valued : s.values row.node.0 ≡ Some x) (bare : v.references x ≡ []) (bytes : List ℕ)
        (form : HasForm v x (record { bytes = bytes; references = [] })) where
      bare-here : (y : N) → s.values row.node.0 ≡ Some y → v.references y ≡ []
      bare-here y is =
          let same : Some y ≡ Some x = sym is ∙ valued in
          let e : y ≡ x = cc in
          ap v.references e ∙ bare

      abbrev seen : Seen N Blob Written
      seen = record { values = v; blob_of = λ b. b; written_of = λ y. y }

      abbrev written : Written
      written = record { bytes = bytes; references = [] }

      abbrev claim : Slot
      claim = record { worker = n; references = None; outcome = no_result }

      abbrev shelf-claimed : Shelf
      shelf-claimed = with_slot (with_wait no_shelf n None) (identity_of reference) (Some claim)

      abbrev shelf-written : Shelf
      shelf-written = with_changed_slot shelf-claimed (identity_of reference) (λ slot. record slot { references = Some [] })

      abbrev at : Core → Shelf → AccessState N E
      at c shelf = record { pager = state c; shelf = shelf }

      -- what the worker waits with for the blob to be stored
      abbrev waiting : Todo
      waiting = to_finish (record { reference = reference; place = 0; through = through; written = written; keys = []; height = 0 })

      -- a step that doesn't end the worker
      walk-step : (c c' : Core) (shelf shelf' : Shelf) (todo next : List Todo) (action : Action Written)
          → WorkDoes seen n (record { core = c; shelf = shelf; todo = todo }) todo action (record { core = c'; shelf = shelf'; todo = next })
          → answer_after todo action ≡ None → TookWrites v (λ y. y) (state c) action → IsPagerWhole v (state c')
          → WalkStep seen n todo (at c shelf) action next (at c' shelf')
      walk-step c c' shelf shelf' todo next action does goes_on writes is = record {
        after = record { core = c'; shelf = shelf'; todo = next };
        does = record { does = does };
        goes_on = refl;
        shelf_is = same-shelf shelf';
        ends = subst (λ a. Ends a n c' c') (sym goes_on) (alike-self c');
        moves = record { each = λ m y is. inl is; environment = refl };
        holds = record { each = λ m y is. inl is; environment = refl };
        writes = writes;
        whole = is;
      }

      starts : WorkerStarts v (with_entry_taken w place row.number (record { 0 = n })) s n (state begun)
      starts = record {
        next = refl;
        begins = record { step = alike-self begun; moves = record { each = λ m y is. inl is; environment = refl }; whole = state-begun };
      }

      claims : WalkStep seen n (to_start reference 0 ∷ []) (at begun no_shelf) (Action.Claim (identity_of reference) (Ok Claim.Claimed))
          (to_pin reference 0 ∷ []) (at begun shelf-claimed)
      claims = walk-step begun begun no_shelf shelf-claimed _ _ _ (
        refl,
        record {
          finds = (claimable, (omega arith, refl, record { pager_stays = alike-self begun; table_is = same-shelf shelf-claimed; list_is = refl }));
          refused = tt;
        },
      )
          refl tt state-begun

      pins-cell : WalkStep seen n (to_pin reference 0 ∷ []) (at begun shelf-claimed) (Action.Pin (identity_of reference) (Ok (PinStep.Pinned pin)))
          (to_write reference 0 through ∷ []) (at pinned shelf-claimed)
      unfolding row-begun
      pins-cell = walk-step begun pinned shelf-claimed shelf-claimed _ _ _ (
        refl,
        record {
          pins = (
            through,
            inr (record { row = row-begun; live = live-begun; sort = row-loose }, (cloned, clone, pin-call)),
            record { table_stays = same-shelf shelf-claimed; list_is = refl },
          );
          refused = tt;
        },
      )
          refl tt state-pinned

      writes-value : WalkStep seen n (to_write reference 0 through ∷ []) (at pinned shelf-claimed) (Action.Write (identity_of reference) (Ok written))
          (waiting ∷ [])
          (at pinned shelf-written)
      writes-value = walk-step pinned pinned shelf-claimed shelf-written _ _ _ (
        refl,
        record {
          writes = record { pager_stays = alike-self pinned; table_is = same-shelf shelf-written; list_is = refl };
          refused = tt;
        },
      )
          refl (record { x = x; held = valued; form = form; listed = sym bare }) state-pinned

      -- ---- the storage is asked to store the blob

      module _ (st : ℕ → Option Blob) (fl : ℕ) where
        abbrev stored : Core
        stored = record pinned { stored = st; failures = fl }

        module _ (whole-stored : IsWhole stored) where
          state-stored : IsPagerWhole v (state stored)
          state-stored = spared state-pinned (record { spares = spares-same refl (λ m. refl) refl; shut = whole-stored.shut }) (λ m. refl)
              (record { counted = λ m. refl; whole = λ shut. whole-stored })

          pinned-there : 0 < pins row.node.0 stored.rows
          pinned-there =
              let last = row_of (w.last.handle + 1 + 1) row.node Mode.Pinned me in
              let more = sum_by_push (λ h. one (is_pin row.node.0 h)) (with_mode cloned through Mode.LoosePinned).rows last in
              let self = self-number row.node.0 in
              grind basics

          not-mine : (y : HandleRow) → Among w.rows y → is_owned_by me y ≡ false
          not-mine y among = false_from_ne_true (is_owned_by me y) (λ is.
              let own = same-owner me y.owner is in
              let at_work = whole.whole.owners_there.workers y n among own in
              absurd (omega (arith, whole.whole.workers_numbered n at_work)))

          entry-node : (y : HandleRow) → Among w.rows y → (y.number.0 == row.number.0) ≡ true → y.node.0 ≡ row.node.0
          entry-node y among is = ap (λ (z : HandleRow). z.node.0) (once w.rows whole.whole.handles.ordered y row among row-among
              (same-number y.number.0 row.number.0 is))

          workers-back : (u : ℕ) → updated n false (updated n true w.workers) u ≡ w.workers u
          workers-back u =
              let few : w.workers n ≡ false = false_from_ne_true (w.workers n) (λ is. absurd (omega (arith, whole.whole.workers_numbered n is))) in
              let same = same-number u n in
              grind basics

          -- what is left without the worker's handles are the rows that were there, without the entry's
          left-back : (its : HandleRow → Bool) → ((y : HandleRow) → y.owner ≡ me → y.node.0 ≡ row.node.0 → its y ≡ true) → (rows : List HandleRow)
              → ((y : HandleRow) → Among rows y → (its y ≡ false) × (y.number.0 ≤ w.last.handle)
              × ((y.number.0 == row.number.0) ≡ true → y.node.0 ≡ row.node.0))
              → filter (λ h. not (its h)) (changed (is_handle through.0) (λ h. record h { mode = Mode.LoosePinned })
              (moved (only_handle row.number) me rows ++ clone-row ∷ []) ++ pin-row ∷ [])
              ≡ left_rows (only_handle row.number) rows
          left-back its own [] each =
              let a = own clone-row refl refl in
              let b = own (record clone-row { mode = Mode.LoosePinned }) refl refl in
              let c = own pin-row refl refl in
              grind basics
          left-back its own (y ∷ ys) each =
              let rest = left-back its own ys (λ z (i, at). each z (suc i, at)) in
              let here = each y (0, refl) in
              let apart : is_handle through.0 y ≡ false = grind basics in
              let moves : (y.number.0 == row.number.0) ≡ true → its (record y { owner = me }) ≡ true = λ is. own (record y { owner = me }) refl (here.2 is) in
              grind basics

          -- the rows that are the worker's are of the cell
          owned-here : (z : HandleRow) → Among stored.rows z → is_owned_by me z ≡ true → z.node.0 ≡ row.node.0
          owned-here z (i, there) own = elim (among-either (with_mode cloned through Mode.LoosePinned).rows (pin-row ∷ []) i z there) [
            | inl among ↦
                let (y, among_y, is) = among-changed (λ
                (x : HandleRow). if is_handle through.0 x then record x { mode = Mode.LoosePinned } else x) cloned.rows z among in
                let node : z.node.0 ≡ y.node.0 = grind basics in
                let mine : is_owned_by me y ≡ true = grind basics in
                elim (among-either begun.rows (clone-row ∷ []) among_y.0 y among_y.1) [
                  | inl old ↦
                      let (x, among_x, is_x) = among-changed (λ
                      (x : HandleRow). if only_handle row.number x.number.0 then record x { owner = me } else x) w.rows y old in
                      let other = not-mine x among_x in
                      let at : (x.number.0 == row.number.0) ≡ true → x.node.0 ≡ row.node.0 = λ same. entry-node x among_x same in
                      grind basics
                  | inr new ↦ let e = only-one clone-row y new in node ∙ ap (λ (x : HandleRow). x.node.0) e
                ]
            | inr new ↦ let e = only-one pin-row z new in ap (λ (x : HandleRow). x.node.0) e
          ]

          rows-known : (its : HandleRow → Bool) → ((y : HandleRow) → Among w.rows y → its y ≡ false) → (y : HandleRow) → Among w.rows y
              → (its y ≡ false) × (y.number.0 ≤ w.last.handle) × ((y.number.0 == row.number.0) ≡ true → y.node.0 ≡ row.node.0)
          rows-known its none y among = (none y among, (whole.whole.handles.numbered y among).1, entry-node y among)

          no-load : (l : ℕ) → is_workers_load n (w.loads l) ≡ false
          no-load l = at (w.loads l) refl
            where
              at : (o : Option OpenLoad) → w.loads l ≡ o → is_workers_load n o ≡ false
              at None e = refl
              at (Some load) e = false_from_ne_true (is_owner me load.owner) (λ is.
                  let own = same-owner me load.owner is in
                  let may = whole.whole.loads.owned l load e in
                  let at_work : w.workers n ≡ true = subst (MayOwnLoad w) own may in
                  absurd (omega (arith, whole.whole.workers_numbered n at_work)))

          -- ---- the storage refuses the blob, and the worker ends

          module _ (entries : List HandleRow) (are : AreNewFor w row entries) where
            abbrev quit : Core
            quit = without_worker stored n

            abbrev left-over : ℕ → Bool
            left-over = is_workers stored n

            no-load-of : (o : Owner) → is_load_of stored n o ≡ false
            no-load-of (Owner.Load l) = no-load l.0
            no-load-of Owner.Caller = refl
            no-load-of (Owner.Value m) = refl
            no-load-of Owner.List = refl
            no-load-of (Owner.Worker u) = refl

            left-is : (h : HandleRow) → Among stored.rows h → left-over h.number.0 ≡ is_owned_by me h
            left-is h among =
                let f = ap (if_there (λ (y : HandleRow). is_owner me y.owner || is_load_of stored n y.owner) false)
                (found whole-stored.handles h.number.0 h among refl) in
                let none = no-load-of h.owner in
                grind basics

            rows-quit : left_rows left-over stored.rows ≡ left_rows (only_handle row.number) w.rows
            rows-quit = filter-alike (λ h. not (left-over h.number.0)) (λ h. not (is_owned_by me h)) stored.rows (λ h among. ap not (left-is h among))
                ∙ left-back (is_owned_by me) (λ y own at. ap (is_owner me) own ∙ self-number n) w.rows (rows-known (is_owned_by me) not-mine)

            list-quit : filter (λ (q : HandleNumber). not (left-over q.0)) stored.list ≡ stored.list
            list-quit = filter-whole (λ (q : HandleNumber). not (left-over q.0)) stored.list (λ q among.
                let (h, there, number, own) = list-row whole-stored q among in
                ap not (ap left-over (sym number) ∙ left-is h there ∙ ap (is_owner me) own))

            quit-as : fallen quit left-over entries ≡ with_entry_relisted (record w { stored = st; failures = fl }) place row entries
            quit-as =
                let rows : left_rows left-over stored.rows ++ entries ≡ left_rows (only_handle row.number) w.rows ++ entries =
                ap (λ rs. rs ++ entries) rows-quit in
                let list : filter (λ (q : HandleNumber). not (left-over q.0)) stored.list ++ map (λ (h : HandleRow). h.number) entries
                ≡ remove w.list place ++ map (λ (h : HandleRow). h.number) entries = ap (λ qs. qs ++ map (λ (h : HandleRow). h.number) entries) list-quit in
                let loads : (l : ℕ) → (if is_workers_load n (w.loads l) then None else w.loads l) ≡ w.loads l = λ l.
                ap (λ b. if b then None else w.loads l) (no-load l) in
                let last : w.last.handle + 1 + 1 + length entries ≡ w.last.handle + 2 + length entries = omega arith in
                λ i. record w {
                  rows = rows i;
                  cells = λ m. if nat_lt 0 (held m (rows i)) then w.cells m else None;
                  list = list i;
                  stored = st;
                  failures = fl;
                  loads = λ l. loads l i;
                  workers = λ u. workers-back u i;
                  last = record w.last { handle = last i; worker = w.last.worker + 1 };
                }

            -- what there is of the new entry
            new-so : AreNewEntries (w.last.handle + 1 + 1) entries
            new-so = elim are [
              | inl (none, is) ↦ subst (λ es. AreNewEntries (w.last.handle + 1 + 1) es) (sym is) (refl, refl, refl, tt)
              | inr (some, is) ↦ subst (λ es. AreNewEntries (w.last.handle + 1 + 1) es) (sym is) tt
            ]

            few-so : length entries ≤ 1
            few-so = elim are [
              | inl (none, is) ↦ omega (arith, ap length is)
              | inr (some, is) ↦ omega (arith, ap length is)
            ]

            held-so : (m : ℕ) → 0 < held m entries → (m ≡ row.node.0) × (held m entries ≡ 1) × (pins row.node.0 w.rows ≡ 0)
            held-so m some = elim are [
              | inl (none, is) ↦
                  let e : held m entries ≡ one (row.node.0 == m) = ap (held m) is ∙ grind basics in
                  let same : (row.node.0 == m) ≡ true = grind basics in
                  (sym (same-number row.node.0 m same), e ∙ ap one same, none)
              | inr (pins_it, is) ↦ absurd (omega (arith, ap (held m) is))
            ]

            one-so : pins row.node.0 w.rows ≡ 0 → held row.node.0 entries ≡ 1
            one-so none = elim are [
              | inl (unpinned, is) ↦ ap (held row.node.0) is ∙ (let self = self-number row.node.0 in grind basics)
              | inr (some, is) ↦ absurd (omega arith)
            ]

            pins-so : (m : ℕ) → pins m entries ≡ 0
            pins-so m = elim are [
              | inl (none, is) ↦ ap (pins m) is ∙ grind basics
              | inr (some, is) ↦ ap (pins m) is
            ]

            module _ (e : Error) (kinds : HasKinds t)
                (refuses : StoreCall (digest v) w (blob_of bytes []) (Err e) (record w { stored = st; failures = fl }))
                (u : PagerState N E) (after-whole : IsPagerWhole v u)
                (alike : Alike (with_entry_relisted (record w { stored = st; failures = fl }) place row entries) u.core)
                (fewer : (m : ℕ) (y : N) → u.values m ≡ Some y → s.values m ≡ Some y) (same-environment : u.environment ≡ s.environment) where
              at-node : (h : HandleRow) → Among stored.rows h → left-over h.number.0 ≡ true → h.node.0 ≡ row.node.0
              at-node h among is = owned-here h among (sym (left-is h among) ∙ is)

              -- the entry pinned nothing
              pins-left : (m : ℕ) → pins m (left_rows (only_handle row.number) w.rows) ≡ pins m w.rows
              pins-left m = times-left (is_pin m) (only_handle row.number) w.rows
                  ∙ sum-alike (λ h. one (is_pin m h && is_outside (only_handle row.number) h)) (λ h. one (is_pin m h)) w.rows (λ h among.
                  let same : (h.number.0 == row.number.0) ≡ true → h.mode ≡ Mode.LooseUnpinned = λ is.
                  ap (λ (y : HandleRow). y.mode) (once w.rows whole.whole.handles.ordered h row among row-among
                  (same-number h.number.0 row.number.0 is)) ∙ row-mode in
                  grind basics)

              pins-after : (m : ℕ) → pins m u.core.rows ≡ pins m w.rows
              pins-after m =
                  let a = ap (pins m) alike.rows in
                  let b = sum_by-append (λ h. one (is_pin m h)) (left_rows (only_handle row.number) w.rows) entries in
                  let c = pins-left m in
                  let d = pins-so m in
                  omega arith

              pins-elsewhere : (m : ℕ) → (m == row.node.0) ≡ false → pins m stored.rows ≡ pins m w.rows
              pins-elsewhere m other =
                  let a = times-left (is_pin m) left-over stored.rows in
                  let b = sum-alike (λ h. one (is_pin m h && is_outside left-over h)) (λ h. one (is_pin m h)) stored.rows (λ h among.
                  let at = at-node h among in
                  let same = same-number h.node.0 m in
                  grind basics) in
                  let c = ap (pins m) rows-quit in
                  let d = pins-left m in
                  omega arith

              must-be : (m : ℕ) → MustList stored quit u.core m → (m ≡ row.node.0) × (pins row.node.0 w.rows ≡ 0)
              must-be m must = elim (cases_Bool (m == row.node.0)) [
                | inl is ↦
                    let same = same-number m row.node.0 is in
                    let a = pins-after m in
                    let none = must.unpinned in
                    (same, ap (λ k. pins k w.rows) (sym same) ∙ sym a ∙ none)
                | inr other ↦
                    let some = must.pinned in
                    let none = must.unpinned in
                    let a = pins-after m in
                    let b = pins-elsewhere m other in
                    absurd (omega arith)
              ]

              unshared : sharing row.node.0 stored.rows ≡ 0
              unshared = elim (whole-stored.handles.uniform row.node.0) [
                | inl none ↦ none
                | inr all ↦
                    let before = (with_mode cloned through Mode.LoosePinned).rows in
                    let a = sum_by_push (λ h. one (is_share row.node.0 h)) before pin-row in
                    let b = sum_by_push (λ h. one (is_at row.node.0 h)) before pin-row in
                    let le = sum-le (λ h. one (is_share row.node.0 h)) (λ h. one (is_at row.node.0 h)) before (λ h among. grind basics) in
                    let self = self-number row.node.0 in
                    absurd (grind basics)
              ]

              open-still : w.closed ≡ false
              open-still = false_from_ne_true w.closed (λ shut.
                  absurd (omega (arith, slice_get_within w.list place row.number entry.listed, ap length (whole.whole.shut shut).0)))

              lists : (m : ℕ) → 0 < held m entries → MustList stored quit u.core m × (held m entries ≡ 1)
              lists m some =
                  let (same, once_there, none) = held-so m some in
                  let there = pinned-there in (
                    record {
                      pinned = subst (λ k. 0 < pins k stored.rows) (sym same) there;
                      unpinned = pins-after m ∙ ap (λ k. pins k w.rows) same ∙ none;
                      unkeyed = ap (is_keyed quit) same ∙ grind (basics, unkeyed);
                      unshared = ap (λ k. sharing k stored.rows) same ∙ unshared;
                      stands_open = open-still;
                    },
                    once_there,
                  )

              listed-once : (m : ℕ) → MustList stored quit u.core m → held m entries ≡ 1
              listed-once m must = let (same, none) = must-be m must in ap (λ k. held k entries) same ∙ one-so none

              quits : WorkerEnds stored n u.core
              quits =
                  let closed : IsClosed stored.rows (is_keyed quit) entries left-over = λ m lost.
                  closed-beside state-stored row.node.0 bare-here left-over at-node (is_keyed quit) (λ k other. refl) m (grind (basics, lost)) in
                  let few = few-so in
                  record {
                    told = Ok tt;
                    falls = record {
                      gone = left-over;
                      entries = entries;
                      set = record { holds = within-self stored.rows (is_keyed quit) entries left-over; closed = closed; least = λ more holds is. holds };
                      new = new-so;
                      only = lists;
                      each = λ m must. inl (listed-once m must);
                      tells = record { all = listed-once; not_all = tt };
                      within = omega arith;
                      leaves = subst (λ c. Alike c u.core) (sym quit-as) alike;
                    };
                  }

              abbrev shelf-failed : Shelf
              shelf-failed = with_failed shelf-written n

              refuses-blob : WalkStep seen n (waiting ∷ []) (at pinned shelf-written) (Action.Store (Some (identity_of reference)) (Err e))
                  (to_fail (was_refused e) None ∷ []) (at stored shelf-written)
              refuses-blob =
                  let (asks, why) = refuses.refused in
                  walk-step pinned stored shelf-written shelf-written _ _ _ (
                    refl,
                    record {
                      all = refl;
                      stored = record {
                        stores = tt;
                        refused = (
                          record {
                            fails = asks.fails;
                            leaves = grind (basics, asks.leaves.stored);
                          },
                          why,
                        );
                      };
                      goes = tt;
                      refused = record { table_stays = same-shelf shelf-written; list_is = refl };
                    },
                  )
                  refl tt state-stored

              gives-up : WalkStep seen n (to_fail (was_refused e) None ∷ []) (at stored shelf-written) Action.Fail []
                  (record { pager = u; shelf = shelf-failed })
              gives-up = record {
                after = record { core = stored; shelf = shelf-failed; todo = [] };
                does = record { does = (alike-self stored, same-shelf shelf-failed, refl) };
                goes_on = refl;
                shelf_is = same-shelf shelf-failed;
                ends = quits;
                moves = record { each = λ m y is. inl (fewer m y is); environment = same-environment };
                holds = record { each = λ m y is. inl (fewer m y is); environment = same-environment };
                writes = tt;
                whole = after-whole;
              }

              pub fails-leaf : EntryRun seen s place (WorkerAnswer.Failed e) u
              fails-leaf = entry-is-walked row.number row t n _ (WorkerAnswer.Failed e) (state begun)
                  (record { pager = u; shelf = shelf-failed }) entry kinds starts
                  (worker-goes-on _ _ _ _ _ _ _ _ claims refl
                  (worker-goes-on _ _ _ _ _ _ _ _ pins-cell refl
                  (worker-goes-on _ _ _ _ _ _ _ _ writes-value refl
                  (worker-goes-on _ _ _ _ _ _ _ _ refuses-blob refl
                  (worker-ends _ _ _ _ _ _ gives-up refl)))))

          -- ---- the key is set

          module _ (key : ℕ) where
            abbrev keyed : Core
            keyed = with_key stored row.node key

            module _ (whole-keyed : IsWhole keyed) where
              -- the clone is pinned
              through-row : HandleRow
              through-row = record clone-row { mode = Mode.LoosePinned }

              live-through : row_at stored through ≡ Some through-row
              unfolding through-row find_row
              live-through =
                  let self = self-number (w.last.handle + 1) in
                  let f = found-after (is_handle through.0) (λ (x : HandleRow). record x { mode = Mode.LoosePinned })
                  (λ x. refl) through.0 cloned.rows clone-row live-cloned
                  ∙ ap (λ b. Some (if b then record clone-row { mode = Mode.LoosePinned } else clone-row)) self in
                  find-both through.0 (with_mode cloned through Mode.LoosePinned).rows _ ∙ ap (λ o. or_else o (find_row through.0 (row_of
                  (w.last.handle + 1 + 1) row.node Mode.Pinned me ∷ []))) f

              list-stays : (given : ℕ → Bool) → ((h : HandleRow) → Among keyed.rows h → h.owner ≡ Owner.List → given h.number.0 ≡ false) → ListStays keyed given
              list-stays given none q among =
                  let (h, there, number, own) = list-row whole-keyed q among in
                  (h, there, number, none h there own)

              -- a world in which nothing is released
              alone-is : (c : Core) → IsWhole c → alone c nobody ≡ c
              alone-is c is =
                  let rows : left_rows nobody c.rows ≡ c.rows = filter-whole (λ h. true) c.rows (λ h among. refl) in
                  let cells : (m : ℕ) → (if nat_lt 0 (held m (left_rows nobody c.rows)) then c.cells m else None) ≡ c.cells m = λ m.
                  let live = is.handles.live m in
                  let same = ap (held m) rows in
                  grind basics in
                  λ i. record c { rows = rows i; cells = λ m. cells m i }

              keyed-there : is_keyed keyed row.node.0 ≡ true
              keyed-there =
                  let typed = entry.typed in
                  let self = self-number row.node.0 in
                  grind basics

              sets-key : SetKeyCall stored me through key (Ok tt) keyed
              unfolding through-row
              sets-key =
                  let closed = closed-beside state-stored row.node.0 bare-here nobody (λ h among g. absurd cc) (is_keyed keyed) (λ m other. grind basics) in
                  let unpins : UnpinsNone stored keyed nobody = λ m other none. sym (ap (pins m) (filter-whole (λ h. true) keyed.rows
                  (λ h among. refl))) ∙ none in
                  let few = whole-stored.handles.within.0 in
                  let alike = subst (λ c. Alike c keyed) (sym (alone-is keyed whole-keyed)) (alike-self keyed) in
                  let falls = falls-alone keyed nobody (list-stays nobody (λ h there own. refl)) stored closed unpins few alike in
                  record {
                    does = inr (through-row, record { live = live-through; own = refl; as_asked = refl }, inr (refl, falls));
                  }

              state-keyed : IsPagerWhole v (state keyed)
              state-keyed = spared state-stored (record {
                spares = record {
                  owns = λ m. owns-same refl refl (λ p u e. grind basics);
                  holds = λ m.
                      let there = pinned-there in
                      let same = same-number m row.node.0 in
                      grind basics;
                };
                shut = whole-keyed.shut;
              }) (λ m. refl) (record { counted = λ m. refl; whole = λ shut. whole-keyed })

              -- ---- the worker's handles are released

              abbrev is-mine : HandleRow → Bool
              is-mine h = is_owned_by me h && is_at row.node.0 h

              abbrev mine : ℕ → Bool
              mine = is_workers_at keyed n row.node.0

              mine-is : (h : HandleRow) → Among keyed.rows h → mine h.number.0 ≡ is-mine h
              mine-is h among = ap (if_there is-mine false) (found whole-keyed.handles h.number.0 h among refl)

              abbrev released : Core
              released = alone keyed mine

              releases : FallsAnyhow keyed keyed mine released
              releases =
                  let at-node : (h : HandleRow) → Among keyed.rows h → mine h.number.0 ≡ true → h.node.0 ≡ row.node.0 = λ h among is.
                  same-number h.node.0 row.node.0 (and_parts (is_owned_by me h) (is_at row.node.0 h) (sym (mine-is h among) ∙ is)).1 in
                  let closed = closed-beside state-keyed row.node.0 bare-here mine at-node (is_keyed keyed) (λ m other. refl) in
                  let unpins = unpins-beside state-keyed keyed mine refl (λ h among is. ap (is_keyed keyed) (at-node h among is) ∙ keyed-there) in
                  let stays = list-stays mine (λ h among own. mine-is h among ∙ ap (λ o. is_owner me o && is_at row.node.0 h) own) in
                  record { told = Ok tt; falls = falls-alone keyed mine stays keyed closed unpins whole-keyed.handles.within.0 (alike-self released) }

              rows-left : left_rows mine keyed.rows ≡ left_rows (only_handle row.number) w.rows
              rows-left = filter-alike (λ h. not (mine h.number.0)) (λ h. not (is-mine h)) keyed.rows (λ h among. ap not (mine-is h among))
                  ∙ left-back is-mine (λ y own at. grind basics) w.rows
                  (rows-known is-mine (λ y among. let other = not-mine y among in grind basics))

              -- ---- the worker ends

              abbrev ended : Core
              ended = without_worker released n

              abbrev its : ℕ → Bool
              its = is_workers released n

              none-its : (q : ℕ) → its q ≡ false
              none-its q = at (find_row q released.rows) refl
                where
                  test : HandleRow → Bool
                  test h = is_owner me h.owner || is_load_of released n h.owner

                  loads-none : (o : Owner) → is_load_of released n o ≡ false
                  loads-none (Owner.Load l) = no-load l.0
                  loads-none Owner.Caller = refl
                  loads-none (Owner.Value m) = refl
                  loads-none Owner.List = refl
                  loads-none (Owner.Worker u) = refl

                  at : (o : Option HandleRow) → find_row q released.rows ≡ o → if_there (λ
                      (h : HandleRow). is_owner me h.owner || is_load_of released n h.owner) false o
                      ≡ false
                  at None e = refl
                  at (Some h) e =
                      let there = subst (λ rows. Among rows h) rows-left (among-found q released.rows h e) in
                      let was = (among-left (λ y. not (only_handle row.number y.number.0)) w.rows h there).0 in
                      let a = not-mine h was in
                      let b = loads-none h.owner in
                      grind basics

              ends-as : alone ended its ≡ with_entry_paged (record w { stored = st; failures = fl }) place row key
              ends-as =
                  let rows : left_rows its released.rows ≡ left_rows (only_handle row.number) w.rows =
                  filter-whole (λ h. not (its h.number.0)) released.rows (λ h among. ap not (none-its h.number.0)) ∙ rows-left in
                  let cells : (m : ℕ) → (if nat_lt 0 (held m (left_rows its released.rows)) then released.cells m else None)
                  ≡ (if nat_lt 0 (held m (left_rows (only_handle row.number) w.rows)) then (with_key w row.node key).cells m else None) = λ m.
                  let a = ap (held m) rows in
                  let b = ap (held m) rows-left in
                  grind basics in
                  let loads : (l : ℕ) → (if is_workers_load n (w.loads l) then None else w.loads l) ≡ w.loads l = λ l.
                  ap (λ b. if b then None else w.loads l) (no-load l) in
                  let last : w.last.handle + 1 + 1 ≡ w.last.handle + 2 = omega arith in
                  λ i. record w {
                    rows = rows i;
                    cells = λ m. cells m i;
                    list = remove w.list place;
                    stored = st;
                    failures = fl;
                    loads = λ l. loads l i;
                    workers = λ u. workers-back u i;
                    last = record w.last { handle = last i; worker = w.last.worker + 1 };
                  }

              abbrev shelf-published : Shelf
              shelf-published = with_changed_slot shelf-written (identity_of reference) (with_outcome (published key 0))

              module _ (kinds : HasKinds t)
                  (stores : StoreCall (digest v) w (blob_of bytes []) (Ok key) (record w { stored = st; failures = fl }))
                  (u : PagerState N E) (after-whole : IsPagerWhole v u)
                  (alike : Alike (with_entry_paged (record w { stored = st; failures = fl }) place row key) u.core)
                  (fewer : (m : ℕ) (y : N) → u.values m ≡ Some y → s.values m ≡ Some y) (same-environment : u.environment ≡ s.environment) where
                rows-after : u.core.rows ≡ released.rows
                rows-after = alike.rows ∙ sym rows-left

                worker-ends-so : WorkerEnds released n u.core
                worker-ends-so =
                    let stays : ListStays ended its = λ q among.
                    let (h, there, number, own) = list-row after-whole.whole q (subst (λ list. Among list q) (sym alike.list) among) in
                    (h, subst (λ rows. Among rows h) rows-after there, number, none-its h.number.0) in
                    let keys : (m : ℕ) → (m == row.node.0) ≡ false → is_keyed ended m ≡ is_keyed u.core m = λ m other.
                    let a = ap (held m) rows-left in
                    let b = alike.cells m in
                    grind basics in
                    let closed = closed-beside after-whole row.node.0 (λ y is. bare-here y (fewer row.node.0 y is)) its
                    (λ h among g. let none = none-its h.number.0 in absurd cc) (is_keyed ended) keys in
                    let unpins : UnpinsNone released ended its = λ m other none.
                    sym (ap (pins m) (filter-whole (λ h. not (its h.number.0)) released.rows (λ h among. ap not (none-its h.number.0)))) ∙ none in
                    record {
                      told = Ok tt;
                      falls = falls-alone ended its stays released (subst (λ rows. IsClosed rows (is_keyed ended) [] its) rows-after closed) unpins
                          (omega arith)
                          (subst (λ c. Alike c u.core) (sym ends-as) alike);
                    }

                stores-blob : WalkStep seen n (waiting ∷ [])
                    (at pinned shelf-written) (Action.Store (Some (identity_of reference)) (Ok key)) (to_set reference through key 0 ∷ [])
                    (at stored shelf-written)
                stores-blob =
                    let (digested, adds) = stores.stores in
                    walk-step pinned stored shelf-written shelf-written _ _ _ (
                      refl,
                      record {
                        all = refl;
                        stored = record {
                          stores = (digested, record { stands_open = adds.stands_open; adds = adds.adds; fails = adds.fails; leaves = alike-self stored });
                          refused = tt;
                        };
                        goes = record { table_stays = same-shelf shelf-written; list_is = refl };
                        refused = tt;
                      },
                    )
                    refl tt state-stored

                keys-cell : WalkStep seen n (to_set reference through key 0 ∷ []) (at stored shelf-written) (Action.SetKey (identity_of reference) (Ok tt))
                    (to_publish reference key 0 ∷ []) (at keyed shelf-written)
                keys-cell = walk-step stored keyed shelf-written shelf-written _ _ _ (
                  refl,
                  record {
                    sets = record { does = inl (loose-is t, sets-key) };
                    goes = record { table_stays = same-shelf shelf-written; list_is = refl };
                    refused = tt;
                  },
                )
                    refl tt state-keyed

                publishes : WalkStep seen n (to_publish reference key 0 ∷ []) (at keyed shelf-written) (Action.Publish (identity_of reference) key 0)
                    (to_release reference key 0 ∷ []) (at keyed shelf-published)
                publishes = walk-step keyed keyed shelf-written shelf-published _ _ _
                    (refl, refl, refl, record { pager_stays = alike-self keyed; table_is = same-shelf shelf-published; list_is = refl })
                    refl tt state-keyed

                releases-cell : WalkStep seen n (to_release reference key 0 ∷ []) (at keyed shelf-published) (Action.Release (identity_of reference)) []
                    (record { pager = u; shelf = shelf-published })
                releases-cell = record {
                  after = record { core = released; shelf = shelf-published; todo = [] };
                  does = record { does = (refl, releases, record { table_stays = same-shelf shelf-published; list_is = refl }) };
                  goes_on = refl;
                  shelf_is = same-shelf shelf-published;
                  ends = worker-ends-so;
                  moves = record { each = λ m y is. inl (fewer m y is); environment = same-environment };
                  holds = record { each = λ m y is. inl (fewer m y is); environment = same-environment };
                  writes = tt;
                  whole = after-whole;
                }

                pub pages-leaf : EntryRun seen s place (WorkerAnswer.Key key) u
                pages-leaf = entry-is-walked row.number row t n _ (WorkerAnswer.Key key) (state begun)
                    (record { pager = u; shelf = shelf-published }) entry kinds starts
                    (worker-goes-on _ _ _ _ _ _ _ _ claims refl
                    (worker-goes-on _ _ _ _ _ _ _ _ pins-cell refl
                    (worker-goes-on _ _ _ _ _ _ _ _ writes-value refl
                    (worker-goes-on _ _ _ _ _ _ _ _ stores-blob refl
                    (worker-goes-on _ _ _ _ _ _ _ _ keys-cell refl
                    (worker-goes-on _ _ _ _ _ _ _ _ publishes refl
                    (worker-ends _ _ _ _ _ _ releases-cell refl)))))))
