-- A leaf that is pinned or left in one call: the state afterwards is that of a load by steps, which begins and ends with a pin, or is dropped. Such a load has
-- a handle of its own, its guard; as the load closes the guard falls, and nothing else.
use Rattle.pagable_tables.proofs.{
  CascadeEnd.ended,
  CascadeStep.{aside, turned, unmixed},
  Counting.{all-kept, kept-more, left-none, of_list},
  HandleTable.found-append,
  LoadEnd.turned-sum,
  OwnedByLoad.{changed-push, none-owned, seen-before},
  RowCounts.{found-among, sum-none},
  SameViews.{alike, alike-on, moved-nobody, named-none, same-cache, still},
  Views.none-named,
  Words.{Alike, ArePlaced, BeginCall, Beginning, Bool, Core, Falls, HandleNumber, HandleRow, HasRoom, Installs, List, LoadNumber, MayEnd, Mode, None, Ok},
  Words.{Option, Owner, Owns, RefCounts, ReleasedSoFar, Some, Tables, ap, append-nil, arith, basics, cases_Bool, cases_eq, changed, core_alone, core_of, false},
  Words.{filter-append, find_row, if◌then◌else◌, inl, inr, is_handle, is_here, is_loose, is_named_by, is_owned_by, is_owned_in, is_pin, is_plain_pin, is_share},
  Words.{left_rows, length, length-append, length-map, moved, nobody, not, of_cell, one, or_else, owner_value, pins, refl, row_of, sharing, subst},
  Words.{sum_by-append, sum_by-cons, sum_by-le-sum_by, sum_by_push, sym, times, with_handle, with_load, with_mode, with_tables, without_load, ℕ, [], ◌&&◌},
  Words.{◌++◌, ◌+◌, ◌==◌, ◌∙◌, ◌∷◌, ◌≡◌, ◌≤◌},
}
use Rattle.pagable_tables.specs.{Core.{IsWhole, StorageView}, HandleTable.room, Leaf.{DropsLeaf, IsLeaf, PinsLeaf, with_numbers}, declared.leaf.Leaf.Leaf}

turned-more : (n q : ℕ) (rows : List HandleRow) → pins n rows ≤ pins n (changed (is_handle q) turned rows)
turned-more n q [] = omega arith
turned-more n q (x ∷ xs) =
    grind (
      basics,
      sum_by-cons (λ h. one (is_pin n h)) x xs,
      sum_by-cons (λ h. one (is_pin n h)) (if is_handle q x then turned x else x)
          (changed (is_handle q) turned xs),
      turned-more n q xs,
    )

shared-pins : (n : ℕ) (rows : List HandleRow) → sharing n rows ≤ pins n rows
shared-pins n rows = sum_by-le-sum_by (λ h. one (is_share n h)) (λ h. one (is_pin n h)) rows (λ h. grind basics)

-- the same has fallen where the state afterwards is told alike
falls-as : {b u v w' : Core} {given : ℕ → Bool} → Falls b u given (Ok tt) v → Alike v w' → Falls b u given (Ok tt) w'
falls-as falls a = grind (basics, alike-on falls.leaves a)

module _ (t t1 : Tables) (storage : StorageView) (was : IsWhole t) (whole : IsWhole t1) (me : Owner) (leaf : Leaf) (is : IsLeaf (core_alone t) me leaf) where
  abbrev w : Core
  w = core_of t storage

  abbrev w' : Core
  w' = core_of t1 storage

  abbrev row : HandleRow
  row = leaf.row

  -- the guard's number
  abbrev g : ℕ
  g = t.ref_counts.last_handle + 1

  abbrev l : LoadNumber
  l = record { 0 = t.last_load + 1 }

  abbrev guard : HandleRow
  guard = row_of g row.node Mode.LooseUnpinned (Owner.Load l)

  abbrev begun : Core
  begun = record (with_load (with_handle w row.node Mode.LooseUnpinned (Owner.Load l)) leaf.key (of_cell row.node leaf.node_type row.number) me) {
    places = w'.places;
  }

  owned : Owns w me row.number is_loose row
  owned = record { live = is.owned.live; own = is.owned.own; as_asked = is.owned.as_asked }

  -- ---- the load begins

  begins : HasRoom w.places w'.places → BeginCall w me row.number (Ok (Beginning.Load l leaf.key)) begun
  begins room =
      let same = alike (record begun { places = w.places }) _ refl (λ n. refl) refl room refl in
      record {
        begins = (row, owned, (is.away, is.keyed, record { above = refl; is_left = is.load_left }, omega arith, (leaf.node_type, is.typed, same)));
        refused = tt;
      }

  opened : begun.loads (w.last.load + 1) ≡ Some (record { owner = me; key = leaf.key; root = of_cell row.node leaf.node_type row.number })
  opened = grind basics

  -- ---- its guard falls

  none-yet : times (is_handle g) w.rows ≡ 0
  none-yet = sum-none (λ h. one (is_handle g h)) w.rows (λ h among. grind (basics, was.core.handles.numbered h among))

  own-none : (q : ℕ) → is_owned_in w (Owner.Load l) q ≡ false
  own-none q = elim (cases_Bool (is_owned_in w (Owner.Load l) q)) [
    | inl own ↦ absurd (none-owned w _ q
        (λ h among of. absurd (omega (arith, was.core.loads.numbered l.0 (was.core.owners_there.loads h l among of)))) own)
    | inr other ↦ other
  ]

  none-at : (o : Option HandleRow) → find_row g w.rows ≡ o → o ≡ None
  none-at None found = refl
  none-at (Some y) found = absurd (let f = found-among g w.rows y found in omega (arith, was.core.handles.numbered y f.0))

  guard-owned : (q : ℕ) → (q == g) ≡ is_owned_in begun (Owner.Load l) q
  unfolding find_row
  guard-owned q =
      let f = found-append q w.rows (guard ∷ []) in
      let s : find_row q (guard ∷ []) ≡ (if is_handle q guard then Some guard else None) = refl in
      let o = own-none q in
      let n : q ≡ g → find_row q w.rows ≡ None = λ same. ap (λ k. find_row k w.rows) same ∙ none-at (find_row g w.rows) refl in
      grind (basics, cases_eq q g, f, s, o, n)

  -- the rows as the load closes have the guard between what else there is afterwards
  module _ (front beside rows : List HandleRow) (last : ℕ) (between : rows ≡ (front ++ guard ∷ []) ++ beside)
      (a : Alike (record (with_numbers w) { rows = front ++ beside; last = record (with_numbers w).last { handle = last } }) w')
      (cache : (kind k : ℕ) → w'.cache kind k ≡ w.cache kind k) (none : times (is_handle g) w'.rows ≡ 0) (more : (n : ℕ) → pins n w.rows ≤ pins n w'.rows) where
    abbrev u : Core
    u = record (without_load begun l) { rows = rows; last = record begun.last { handle = last } }

    abbrev only : ℕ → Bool
    only q = q == g

    abbrev after : RefCounts
    after = record t1.ref_counts { listing_error = None }

    left-u : left_rows only rows ≡ w'.rows
    left-u =
        let apart : times (is_handle g) front + times (is_handle g) beside ≡ 0 =
        omega (arith, sum_by-append (λ h. one (is_handle g h)) front beside, ap (times (is_handle g)) a.rows) in
        ap (left_rows only) between
        ∙ grind (basics, filter-append, append-nil, left-none g front (omega arith), left-none g beside (omega arith), a.rows)

    -- what the guard isn't is as often there as afterwards
    as-after : (p : HandleRow → Bool) → p guard ≡ false → times p rows ≡ times p w'.rows
    as-after p other = ap (times p) between ∙ grind (
      basics,
      sum_by-append (λ h. one (p h)) (front ++ guard ∷ []) beside,
      sum_by_push (λ h. one (p h)) front guard,
      sum_by-append (λ h. one (p h)) front beside,
      a.rows,
    )

    none-listed : times (λ (h : HandleNumber). h.0 == g) w.list ≡ 0
    none-listed = was.core.owners_there.listed g ∙ sum-none (λ h. one (is_handle g h && is_owned_by Owner.List h)) w.rows
        (λ h among. grind (basics, was.core.handles.numbered h among))

    so-far : ReleasedSoFar u u only (not u.closed) after
    so-far = record {
      begins = record {
        open_storage = refl;
        fewer = λ n. omega arith;
        shared = λ n. omega arith;
        uniform = λ n. let m = unmixed t1 whole n in let p = as-after (is_share n) (grind basics) in grind (basics, as-after (is_plain_pin n) (grind basics));
        listed = λ q. let m = whole.core.owners_there.listed q in let s =
            ap (times (λ h. h.0 == q)) a.list in omega (arith, as-after (of_list q) (grind basics));
      };
      gone = only;
      entries = [];
      rows = sym (append-nil _ ∙ left-u);
      list = a.list ∙ sym (append-nil _ ∙ kept-more nobody g _ none-listed ∙ all-kept _);
      last = omega (arith, ap (λ v. v.handle) a.last);
      within = whole.core.handles.within.0;
      places = grind arith;
      cells = λ n there. a.cells n;
      holds = sum-none (λ h. one (only h.number.0 && not (only h.number.0))) rows (λ h among. grind basics);
      least = λ s final bare has closed. has;
      new = tt;
      only = λ n some. absurd (omega arith);
      tells = record {
        all = λ n must. (let p = as-after (is_pin n) (grind basics) in let m = must.pinned in let k = must.unpinned in
            absurd (omega arith));
        not_all = tt;
      };
      few = λ some. absurd (some whole.steady.fits.chain);
    }

    alike-after : Alike (with_tables u after) w'
    alike-after = record {
      rows = refl;
      cells = λ n. refl;
      list = refl;
      cache = same-cache _ w' refl (λ n. refl) cache;
      stored = a.stored;
      closed = a.closed;
      failures = a.failures;
      loads = λ q. grind (basics, cases_eq q (t.last_load + 1), a.loads q, was.core.loads.numbered);
      workers = a.workers;
      last = a.last ∙ ap (λ h. record u.last { handle = h }) (sym (ap (λ v. v.handle) a.last));
      places = grind arith;
    }

    -- what pins nothing afterwards pinned nothing before
    before-is : (n : ℕ) → pins n w'.rows ≡ 0 → (pins n rows ≡ pins n begun.rows) × (sharing n rows ≡ sharing n begun.rows)
    before-is n unpinned =
        let p = as-after (is_pin n) (grind basics) in
        let b : pins n begun.rows ≡ pins n w.rows + one (is_pin n guard) = sum_by_push (λ h. one (is_pin n h)) w.rows guard in
        let z : one (is_pin n guard) ≡ 0 = grind basics in
        let m = more n in
        let s = shared-pins n rows in
        let d = shared-pins n begun.rows in
        (omega arith, omega arith)

    guard-falls : (given : ℕ → Bool) → ((q : ℕ) → is_owned_in begun (Owner.Load l) q ≡ given q) → Falls begun u given (Ok tt) w'
    guard-falls given own = subst (λ s. Falls begun u s (Ok tt) w') (λ i q. (guard-owned q ∙ own q) i)
        (seen-before {b = u} {w = begun} {u = u} _ (grind arith) before-is
        (falls-as (ended so-far (aside _ _ [] _ whole.steady)) alike-after))

  -- ---- it is dropped: only its number and that of its guard are taken

  module _ (taken : w' ≡ with_numbers w) (place : 1 ≤ room t.ref_counts.handles) where
    places-stay : w'.places ≡ w.places
    places-stay = ap (λ v. v.places) taken

    placed-guard : ArePlaced begun
    placed-guard =
        let places = was.core.handles.places in
        let counted = was.steady.sound.counted in
        let more = length-append w.rows (guard ∷ []) in
        rw places-stay (record { rows = omega arith; list = places.1 })

    pub drops-leaf : DropsLeaf w me row leaf.key leaf.node_type w'
    drops-leaf = record {
      begun = begun;
      begins = begins (subst (HasRoom w.places) (sym places-stay) (grind arith));
      opened = opened;
      placed = placed-guard;
      closes = guard-falls w.rows [] begun.rows g (sym (append-nil _))
          (subst (λ rs. Alike (record (with_numbers w) { rows = rs }) w') (sym (append-nil w.rows)) (subst (λ v. Alike v w') taken (still w')))
          (λ kind k. ap (λ v. v.cache kind k) taken) (ap (λ v. times (is_handle g) v.rows) taken ∙ none-yet)
          (λ n. omega (arith, ap (λ v. pins n v.rows) taken)) (is_owned_in begun (Owner.Load l)) (λ q. refl);
    }

  -- ---- it ends with a pin

  module _ (a : Alike (with_handle (with_mode (with_numbers w) row.number Mode.LoosePinned) row.node Mode.Pinned me) w')
      (cache : (kind k : ℕ) → w'.cache kind k ≡ w.cache kind k) where
    abbrev x : HandleRow
    x = row_of (g + 1) row.node Mode.Pinned me

    abbrev turned-rows : List HandleRow
    turned-rows = changed (is_handle row.number.0) turned w.rows

    abbrev ended-rows : List HandleRow
    ended-rows = changed (is_handle row.number.0) turned (moved (is_named_by []) (owner_value row.node.0) begun.rows) ++ x ∷ []

    placed-pin : ArePlaced begun
    placed-pin =
        let rows = ap length a.rows ∙ length-append turned-rows (x ∷ []) in
        let same = length-map w.rows (λ y. if is_handle row.number.0 y then turned y else y) in
        let more = length-append w.rows (guard ∷ []) in
        let places = whole.core.handles.places in
        let list = ap length a.list in
        record { rows = grind basics; list = omega arith }

    away-still : is_here begun row.node.0 ≡ false
    away-still = grind (basics, sum_by_push (λ h. one (is_pin row.node.0 h)) w.rows guard, is.away)

    may : MayEnd begun me l row.node row.number leaf.node_type []
    may = record {
      load = record { owner = me; key = leaf.key; root = of_cell row.node leaf.node_type row.number };
      owned = record { stands_open = grind basics; own = refl };
      of_node = refl;
      good = none-named _ _ [] refl;
    }

    between : ended-rows ≡ (turned-rows ++ guard ∷ []) ++ x ∷ []
    between = ap (λ rs. changed (is_handle row.number.0) turned rs ++ x ∷ []) (moved-nobody _ _)
        ∙ ap (λ rs. rs ++ x ∷ []) (changed-push _ turned _ _
        (omega (arith, was.core.handles.numbered row (found-among row.number.0 w.rows row owned.live).0)))

    none-pinned : times (is_handle g) w'.rows ≡ 0
    none-pinned = ap (times (is_handle g)) a.rows ∙ grind (
      basics,
      sum_by_push (λ h. one (is_handle g h)) turned-rows x,
      turned-sum (λ h. one (is_handle g h)) row.number.0 w.rows (λ y. refl),
      none-yet,
    )

    more-pins : (n : ℕ) → pins n w.rows ≤ pins n w'.rows
    more-pins n = omega
        (arith, turned-more n row.number.0 w.rows, sum_by_push (λ h. one (is_pin n h)) turned-rows x, ap (pins n) a.rows)

    ends : (k : HandleNumber) → k.0 ≡ g + 1 → Installs begun me l row.node row.number k [] w'
    ends k next = record {
      row = row;
      owned = record { live = live-still; own = owned.own; as_asked = owned.as_asked };
      at = refl;
      next = record { above = next; is_left = is.handles_left };
      falls = inl (
        away-still,
        record {
          told = Ok tt;
          falls = guard-falls turned-rows (x ∷ []) ended-rows (g + 1) between a cache none-pinned more-pins
              (λ q. is_owned_in begun (Owner.Load l) q && not (is_named_by [] q))
              (λ q. grind (basics, named-none q));
        },
      );
    }
      where
        live-still : find_row row.number.0 begun.rows ≡ Some row
        live-still = found-append _ _ _ ∙ ap (λ o. or_else o (find_row row.number.0 (guard ∷ []))) owned.live

    pub pins-leaf : (k : HandleNumber) → k.0 ≡ g + 1 → PinsLeaf w me row leaf.key leaf.node_type k w'
    pins-leaf k next = record {
      begun = begun;
      begins = begins (record { handles = a.places.handles; entries = a.places.entries });
      opened = opened;
      placed = placed-pin;
      away = away-still;
      may = may;
      ends = ends k next;
    }
