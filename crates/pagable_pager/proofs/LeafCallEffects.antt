-- The calls by which a leaf is paged out in one call, one after the other: what they leave together.
use Rattle.pagable_pager_spec.specs.{Basics.{Among, Error, HandleNumber, NodeNumber, if_there, is_pinned_kind, one, or_else}, Calls.{CloneCall, ReleaseCall, ScheduleCall, SetKeyCall, TakeCall, moved, row_of, with_handle, with_key}, Cascade.{Falls, is_keyed, is_outside, left_rows, nobody, only_handle}, Events.IsEntry, Kinds.{find_row, held, is_at, is_in_memory, is_loose, is_pin, is_unpinned, pins}, Pager.{IsPagerWhole, PagerState}, Refusals.{handle_fault}, World.{Alike, Cell, Core, Last, SameCache, Values, row_at, usable}, declared.{handle_row.{HandleRow.HandleRow, Owner.Owner}, mode.Mode.Mode}}
use Rattle.pagable_theorems.proofs.{HandlesKept.{among-found, find-both, found-after, once, stands-new}, Trees.{same-number, same_some, self-number}}
use Rattle.pagable_pager.specs.LeafPageOut.{new_entry, with_entry_paged, with_entry_relisted}
use Rattle.pagable_pager.proofs.{ReleasedAlone.{ListStays, UnpinsNone, alone, closed-beside, fell-alone, filter-whole, sum-alike, times-left}, LeafWorkerSteps.{entry-row, list-row}}
use Rattle.std.proofs.{Common.{Bool, Err, List, None, Ok, Option, Result, Some, ap, arith, false, if◌then◌else◌, inl, inr, length, not, refl, subst, suc}, Common.{sym, true, ℕ, [], ◌&&◌, ◌++◌}, Common.{◌+◌, ◌==◌, ◌∙◌, ◌∷◌, ◌≡◌, ◌≤◌}, lemmas.Bool.{Decides.nat_tests, false_from_ne_true}, lemmas.{List.{Edits.length-remove, Sums.{sum_by-cons, sum_by_push}, append-nil}, Option.slice_get_within}}
use Rattle.std.specs.{List.remove, Prelude.{nat_lt}}

ruleset basics = (arith, nat_tests)

pub alike-then : {a b c : Core} → Alike a b → Alike b c → Alike a c
alike-then {a} {b} {c} p q = grind basics

-- ---- what is told alike is told alike after the same change

-- the node that an entry of the cache gives, if it may be used
abbrev used : Core → ℕ → ℕ → Option ℕ
used c kind n = if_there (λ (cell : Cell). if is_pinned_kind kind && not (is_in_memory (pins n c.rows) cell.key) then None else Some n) None (c.cells n)

-- what the cache couldn't give before the change it can't give afterwards
abbrev Fades : Core → Core → Type 0
Fades c d = (kind n : ℕ) → used c kind n ≡ None → used d kind n ≡ None

module _ {a b : Core} (p : Alike a b) (c d : Core) (rows : d.rows ≡ c.rows) (cells : (n : ℕ) → d.cells n ≡ c.cells n) (fades : Fades a c)
    (cache-c : (kind key : ℕ) → c.cache kind key ≡ a.cache kind key) (cache-d : (kind key : ℕ) → d.cache kind key ≡ b.cache kind key) where
  cache-on : SameCache c d
  cache-on = record { gives = gives; only = λ kind key n is. cache-c kind key ∙ p.cache.only kind key n (sym (cache-d kind key) ∙ is) }
    where
      gives : (kind key : ℕ) → usable d kind key ≡ usable c kind key
      gives kind key = at (b.cache kind key) refl (a.cache kind key) refl
        where
          at : (found : Option ℕ) → b.cache kind key ≡ found → (was : Option ℕ) → a.cache kind key ≡ was → usable d kind key ≡ usable c kind key
          at (Some n) e was e2 =
              let same = p.cache.only kind key n e in
              let x = cache-c kind key in
              let y = cache-d kind key in
              let z = cells n in
              let r = ap (pins n) rows in
              grind basics
          at None e (Some n) e2 =
              let g = p.cache.gives kind key in
              let f = fades kind n in
              let x = cache-c kind key in
              let y = cache-d kind key in
              grind basics
          at None e None e2 =
              let x = cache-c kind key in
              let y = cache-d kind key in
              grind basics

pub key-on : {a b : Core} → Alike a b → (node : NodeNumber) (key : ℕ) → Alike (with_key a node key) (with_key b node key)
key-on {a} {b} p node key =
    let cells : (n : ℕ) → (with_key b node key).cells n ≡ (with_key a node key).cells n = λ n. let x = p.cells n in let y = p.cells node.0 in grind basics in
    record {
      rows = p.rows;
      cells = cells;
      list = p.list;
      cache = cache-on p (with_key a node key) (with_key b node key) p.rows cells (λ kind n none. let same = same-number n node.0 in grind basics)
          (λ kind key. refl) (λ kind key. refl);
      stored = p.stored;
      closed = p.closed;
      failures = p.failures;
      loads = p.loads;
      workers = p.workers;
      last = p.last;
      places = p.places;
    }

pins-fewer : (n : ℕ) (given : ℕ → Bool) (rows : List HandleRow) → pins n rows ≡ 0 → pins n (left_rows given rows) ≡ 0
pins-fewer n given [] none = refl
pins-fewer n given (x ∷ xs) none =
    let a = sum_by-cons (λ h. one (is_pin n h)) x xs in
    let b = sum_by-cons (λ h. one (is_pin n h)) x (left_rows given xs) in
    let rest = pins-fewer n given xs (omega arith) in
    grind basics

pub alone-on : {a b : Core} → Alike a b → (given : ℕ → Bool) → Alike (alone a given) (alone b given)
alone-on {a} {b} p given =
    let rows : left_rows given b.rows ≡ left_rows given a.rows = ap (left_rows given) p.rows in
    let cells : (n : ℕ) → (alone b given).cells n ≡ (alone a given).cells n = λ n. let x = p.cells n in let y = ap (held n) rows in grind basics in
    record {
      rows = rows;
      cells = cells;
      list = p.list;
      cache = cache-on p (alone a given) (alone b given) rows cells (λ kind n none. let f = pins-fewer n given a.rows in grind basics)
          (λ kind key. refl) (λ kind key. refl);
      stored = p.stored;
      closed = p.closed;
      failures = p.failures;
      loads = p.loads;
      workers = p.workers;
      last = p.last;
      places = p.places;
    }

pins-push : (n : ℕ) (rows : List HandleRow) (x : HandleRow) → x.mode ≡ Mode.LooseUnpinned → pins n (rows ++ x ∷ []) ≡ pins n rows
pins-push n rows x mode = let a = sum_by_push (λ h. one (is_pin n h)) rows x in grind basics

pub handle-on : {a b : Core} → Alike a b → (node : NodeNumber) (owner : Owner)
    → Alike (with_handle a node Mode.LooseUnpinned owner) (with_handle b node Mode.LooseUnpinned owner)
handle-on {a} {b} p node owner =
    let last : b.last.handle ≡ a.last.handle = ap (λ (l : Last). l.handle) p.last in
    let rows : b.rows ++ row_of (b.last.handle + 1) node Mode.LooseUnpinned owner ∷ [] ≡ a.rows ++ row_of
    (a.last.handle + 1) node Mode.LooseUnpinned owner ∷ [] =
    λ i. p.rows i ++ row_of (last i + 1) node Mode.LooseUnpinned owner ∷ [] in
    record {
      rows = rows;
      cells = p.cells;
      list = p.list;
      cache = cache-on p (with_handle a node Mode.LooseUnpinned owner) (with_handle b node Mode.LooseUnpinned owner) rows p.cells
          (λ kind n none. let f = pins-push n a.rows (row_of (a.last.handle + 1) node Mode.LooseUnpinned owner) refl in grind basics)
          (λ kind key. refl) (λ kind key. refl);
      stored = p.stored;
      closed = p.closed;
      failures = p.failures;
      loads = p.loads;
      workers = p.workers;
      last = ap (λ (l : Last). record l { handle = l.handle + 1 }) p.last;
      places = p.places;
    }

-- the handle moves to the list's end
abbrev listed : Core → HandleNumber → Core
listed c k = record c { rows = moved (only_handle k) Owner.List c.rows; list = c.list ++ k ∷ [] }

pub pins-moved : (n : ℕ) (set : ℕ → Bool) (owner : Owner) (rows : List HandleRow) → pins n (moved set owner rows) ≡ pins n rows
pins-moved n set owner [] = refl
pins-moved n set owner (x ∷ xs) =
    let a = sum_by-cons (λ h. one (is_pin n h)) x xs in
    let b = sum_by-cons (λ h. one (is_pin n h)) (if set x.number.0 then record x { owner = owner } else x) (moved set owner xs) in
    let rest = pins-moved n set owner xs in
    grind basics

pub list-on : {a b : Core} → Alike a b → (k : HandleNumber) → Alike (listed a k) (listed b k)
list-on {a} {b} p k =
    let rows : moved (only_handle k) Owner.List b.rows ≡ moved (only_handle k) Owner.List a.rows = ap (moved (only_handle k) Owner.List) p.rows in
    record {
      rows = rows;
      cells = p.cells;
      list = ap (λ (qs : List HandleNumber). qs ++ k ∷ []) p.list;
      cache = cache-on p (listed a k) (listed b k) rows p.cells (λ kind n none. let f = pins-moved n (only_handle k) Owner.List a.rows in grind basics)
          (λ kind key. refl) (λ kind key. refl);
      stored = p.stored;
      closed = p.closed;
      failures = p.failures;
      loads = p.loads;
      workers = p.workers;
      last = p.last;
      places = p.places;
    }

-- ---- lists of rows without one row

left-moved : (set : ℕ → Bool) (owner : Owner) (rows : List HandleRow) → left_rows set (moved set owner rows) ≡ left_rows set rows
left-moved set owner [] = refl
left-moved set owner (x ∷ xs) = let rest = left-moved set owner xs in grind basics

held-fewer : (n : ℕ) (given : ℕ → Bool) (rows : List HandleRow) → held n (left_rows given rows) ≤ held n rows
held-fewer n given [] = omega arith
held-fewer n given (x ∷ xs) =
    let a = sum_by-cons (λ h. one (is_at n h)) x xs in
    let b = sum_by-cons (λ h. one (is_at n h)) x (left_rows given xs) in
    let rest = held-fewer n given xs in
    grind basics

left-nobody : (rows : List HandleRow) → left_rows nobody rows ≡ rows
left-nobody rows = filter-whole (λ h. true) rows (λ h among. refl)

-- the rows once a handle of a number k that none of them has moved to the list, and the entry's handle is gone
left-relisted : (h k : HandleNumber) (node : NodeNumber) (rows : List HandleRow) → (h.0 == k.0) ≡ false
    → ((y : HandleRow) → Among rows y → (y.number.0 == k.0) ≡ false)
    → left_rows (only_handle h) (moved (only_handle k) Owner.List (moved
    (only_handle h) Owner.Caller rows ++ row_of k.0 node Mode.LooseUnpinned Owner.Caller ∷ []))
    ≡ left_rows (only_handle h) rows ++ row_of k.0 node Mode.LooseUnpinned Owner.List ∷ []
left-relisted h k node [] apart each =
    let self = self-number k.0 in
    let other : (k.0 == h.0) ≡ false = grind basics in
    grind basics
left-relisted h k node (y ∷ ys) apart each =
    let rest = left-relisted h k node ys apart (λ z (i, at). each z (suc i, at)) in
    let here = each y (0, refl) in
    grind basics

-- ---- the entry is taken off the list, by the caller

module _ {N E : Type 0} {v : Values N} (s : PagerState N E) (whole : IsPagerWhole v s) (place : ℕ) (row : HandleRow) (t : ℕ)
    (entry : IsEntry s.core place row.number row t) (bare : (y : N) → s.values row.node.0 ≡ Some y → v.references y ≡ []) where
  abbrev w : Core
  w = s.core

  abbrev pub numbered : Core
  numbered = record w { last = record w.last { handle = w.last.handle + 2; worker = w.last.worker + 1 } }

  abbrev pub taken : Core
  taken = record numbered { rows = moved (only_handle row.number) Owner.Caller w.rows; list = remove w.list place }

  abbrev own-row : HandleRow
  own-row = record row { owner = Owner.Caller }

  pub takes-entry : {w' : Core} (h : HandleNumber) → TakeCall numbered Owner.Caller place (Some h) w' → (h ≡ row.number) × Alike taken w'
  takes-entry {w'} h (listed, alike) =
      let same : h ≡ row.number = same_some _ _ (sym listed ∙ entry.listed) in (
        same,
        subst (λ (k : HandleNumber). Alike (record numbered {
          rows = moved
              (only_handle k) Owner.Caller w.rows;
          list = remove w.list place;
        }) w') same alike,
      )

  module _ (q : PagerState N E) (q-whole : IsPagerWhole v q) (take : Alike taken q.core)
      (fewer : (m : ℕ) (y : N) → q.values m ≡ Some y → s.values m ≡ Some y) where
    pub own-live : row_at q.core row.number ≡ Some own-row
    own-live =
        let self = self-number row.number.0 in
        ap (find_row row.number.0) take.rows
        ∙ found-after (λ (x : HandleRow). only_handle row.number x.number.0) (λ x. record x { owner = Owner.Caller })
        (λ x. refl) row.number.0 w.rows row entry.live
        ∙ ap (λ b. Some (if b then record row { owner = Owner.Caller } else row)) self

    own-loose : is_loose row.mode ≡ true
    own-loose = ap is_loose (entry-row whole.whole entry).2

    q-bare : (y : N) → q.values row.node.0 ≡ Some y → v.references y ≡ []
    q-bare y is = bare y (fewer row.node.0 y is)

    -- a row with the entry's number is the entry's, and the caller's
    own-only : (c : PagerState N E) → IsPagerWhole v c → row_at c.core row.number ≡ Some own-row → (h : HandleRow) → Among c.core.rows h
        → only_handle row.number h.number.0 ≡ true → h ≡ own-row
    own-only c is live h among same = once c.core.rows is.whole.handles.ordered h own-row among (among-found row.number.0 c.core.rows own-row live)
        (same-number h.number.0 row.number.0 same)

    spares-list : (c : PagerState N E) → IsPagerWhole v c → row_at c.core row.number ≡ Some own-row → ListStays c.core (only_handle row.number)
    spares-list c is live k among =
        let (h, there, number, own) = list-row is.whole k among in (
          h,
          there,
          number,
          false_from_ne_true (only_handle row.number h.number.0) (λ same.
              let e = ap (λ (x : HandleRow). x.owner) (own-only c is live h there same) in
              absurd (cc (sym own ∙ e))),
        )

    release-falls : (c : PagerState N E) → row_at c.core row.number ≡ Some own-row → {r : Result (Unit {0}) Error} {w' : Core}
        → ReleaseCall c.core Owner.Caller row.number r w' → Falls c.core c.core (only_handle row.number) r w'
    release-falls c live call = elim call.does [
      | inl refused ↦ let why = refused.why in absurd (grind (basics, live))
      | inr (row2, owns, falls) ↦ falls
    ]

    -- the entry's handle is released
    lets-go : (c : PagerState N E) → IsPagerWhole v c → row_at c.core row.number ≡ Some own-row → ((y : N) → c.values row.node.0 ≡ Some y → v.references y ≡ [])
        → {r : Result (Unit {0}) Error} {w' : Core} → ReleaseCall c.core Owner.Caller row.number r w' → Alike (alone c.core (only_handle row.number)) w'
    lets-go c is live none call =
        let at-node : (h : HandleRow) → Among c.core.rows h → only_handle row.number h.number.0 ≡ true → h.node.0 ≡ row.node.0 = λ h among same.
        ap (λ (x : HandleRow). x.node.0) (own-only c is live h among same) in
        let closed = closed-beside is row.node.0 none (only_handle row.number) at-node (is_keyed c.core) (λ m other. refl) in
        let unpinned : UnpinsNone c.core c.core (only_handle row.number) = λ m other left.
        sym (times-left (is_pin m) (only_handle row.number) c.core.rows
        ∙ sum-alike (λ h. one (is_pin m h && is_outside (only_handle row.number) h)) (λ h. one (is_pin m h)) c.core.rows (λ h among.
        let mode : only_handle row.number h.number.0 ≡ true → h.mode ≡ Mode.LooseUnpinned = λ same.
        ap (λ (x : HandleRow). x.mode) (own-only c is live h among same) ∙ (entry-row whole.whole entry).2 in
        grind basics)) ∙ left in
        fell-alone c.core (only_handle row.number) (spares-list c is live) c.core closed unpinned (release-falls c live call)

    -- ---- the key is set, and the entry released

    module _ (key : ℕ) (told : Result (Unit {0}) Error) (k : PagerState N E) (k-whole : IsPagerWhole v k)
        (k-fewer : (m : ℕ) (y : N) → k.values m ≡ Some y → q.values m ≡ Some y)
        (sets : SetKeyCall q.core Owner.Caller row.number key told k.core) where
      abbrev keyed : Core
      keyed = with_key q.core row.node key

      key-falls : Falls q.core keyed nobody told k.core
      key-falls = elim sets.does [
        | inl refused ↦ let why = refused.why in absurd (grind (basics, own-live))
        | inr (row2, owns, inl (mode, is, alike)) ↦
            let same : row2 ≡ own-row = same_some _ _ (sym owns.live ∙ own-live) in
            let loose = own-loose in
            let m = ap (λ (x : HandleRow). is_loose x.mode) same in
            absurd (cc)
        | inr (row2, owns, inr (mode, falls)) ↦
            let same : row2 ≡ own-row = same_some _ _ (sym owns.live ∙ own-live) in
            subst (λ (x : HandleRow). Falls q.core (with_key q.core x.node key) nobody told k.core) same falls
      ]

      key-set : Alike (alone keyed nobody) k.core
      key-set =
          let stays : ListStays keyed nobody = λ i among. let (h, there, number, own) = list-row q-whole.whole i among in (h, there, number, refl) in
          let closed = closed-beside q-whole row.node.0 q-bare nobody (λ h among g. absurd cc) (is_keyed keyed) (λ m other. grind basics) in
          let unpins : UnpinsNone q.core keyed nobody = λ m other none. sym (ap (pins m) (left-nobody keyed.rows)) ∙ none in
          fell-alone keyed nobody stays q.core closed unpins key-falls

      k-live : row_at k.core row.number ≡ Some own-row
      k-live = ap (find_row row.number.0) (key-set.rows ∙ left-nobody q.core.rows) ∙ own-live

      pub leaves-paged : {told2 : Result (Unit {0}) Error} {w' : Core} → ReleaseCall k.core Owner.Caller row.number told2 w' → Alike
          (with_entry_paged w place row key) w'
      leaves-paged {told2} {w'} releases =
          let goes = lets-go k k-whole k-live (λ y is. q-bare y (k-fewer row.node.0 y is)) releases in
          let all = alike-then (alone-on (alike-then (alone-on (key-on take row.node key) nobody) key-set) (only_handle row.number)) goes in
          let rows : left_rows (only_handle row.number) (left_rows nobody taken.rows) ≡ left_rows (only_handle row.number) w.rows =
          ap (left_rows (only_handle row.number)) (left-nobody taken.rows) ∙ left-moved (only_handle row.number) Owner.Caller w.rows in
          let cells : (m : ℕ) → (alone (alone (with_key taken row.node key) nobody) (only_handle row.number)).cells m ≡
          (with_entry_paged w place row key).cells m = λ m.
          let a = ap (held m) rows in
          let b = ap (held m) (left-nobody taken.rows) in
          let c = held-fewer m (only_handle row.number) taken.rows in
          let d = ap (held m) (left-moved (only_handle row.number) Owner.Caller w.rows) in
          grind basics in
          subst (λ c. Alike c w') (λ i. record (alone (alone (with_key taken row.node key) nobody) (only_handle row.number)) {
            rows = rows i;
            cells = λ m. cells m i;
          }) all

    -- ---- the blob wasn't stored: the entry is released, and no new one is made

    pub leaves-unlisted : {told : Result (Unit {0}) Error} {w' : Core} → ReleaseCall q.core Owner.Caller row.number told w' → Alike
        (with_entry_relisted w place row []) w'
    leaves-unlisted {w' = w'} releases =
        let all = alike-then (alone-on take (only_handle row.number)) (lets-go q q-whole own-live q-bare releases) in
        let rows : left_rows (only_handle row.number) taken.rows ≡ left_rows (only_handle row.number) w.rows ++ [] =
        left-moved (only_handle row.number) Owner.Caller w.rows ∙ sym (append-nil _) in
        let last : w.last.handle + 2 ≡ w.last.handle + 2 + 0 = omega arith in
        subst (λ c. Alike c w') (λ i. record w {
          rows = rows i;
          cells = λ m. if nat_lt 0 (held m (rows i)) then w.cells m else None;
          list = sym (append-nil (remove w.list place)) i;
          last = record w.last { handle = last i; worker = w.last.worker + 1 };
        }) all

    -- ---- or a new one is

    module _ (k : HandleNumber) (c : PagerState N E) (c-whole : IsPagerWhole v c) (clones : CloneCall q.core Owner.Caller row.number (Ok k) c.core) where
      abbrev new : HandleNumber
      new = record { 0 = w.last.handle + 2 + 1 }

      abbrev cloned : Core
      cloned = with_handle q.core row.node Mode.LooseUnpinned Owner.Caller

      q-last : q.core.last.handle ≡ w.last.handle + 2
      q-last = ap (λ (l : Last). l.handle) take.last

      k-is : k ≡ new
      k-is =
          let (row2, live, next, alike) = clones.made in
          let above : k.0 ≡ w.last.handle + 2 + 1 = next.above ∙ ap (λ m. m + 1) q-last in
          λ i. record { 0 = above i }

      clone-is : Alike cloned c.core
      clone-is =
          let (row2, live, next, alike) = clones.made in
          let same : row2 ≡ own-row = same_some _ _ (sym live ∙ own-live) in
          let mode : row2.mode ≡ Mode.LooseUnpinned = ap (λ (x : HandleRow). x.mode) same ∙ (entry-row whole.whole entry).2 in
          let node : row2.node ≡ row.node = ap (λ (x : HandleRow). x.node) same in
          subst (λ m. Alike (with_handle q.core row.node m Owner.Caller) c.core) mode
          (subst (λ (m : NodeNumber). Alike (with_handle q.core m row2.mode Owner.Caller) c.core) node alike)

      row-low : row.number.0 ≤ w.last.handle
      row-low = (whole.whole.handles.numbered row (entry-row whole.whole entry).0).1

      c-live : row_at c.core row.number ≡ Some own-row
      c-live = ap (find_row row.number.0) clone-is.rows
          ∙ find-both row.number.0 q.core.rows (row_of (q.core.last.handle + 1) row.node Mode.LooseUnpinned Owner.Caller ∷ [])
          ∙ ap (λ o. or_else o (find_row row.number.0 (row_of (q.core.last.handle + 1) row.node Mode.LooseUnpinned Owner.Caller ∷ []))) own-live

      clone-row : HandleRow
      clone-row = row_of (q.core.last.handle + 1) row.node Mode.LooseUnpinned Owner.Caller

      clone-live : row_at c.core k ≡ Some clone-row
      unfolding clone-row
      clone-live =
          let stands = stands-new q.core.last.handle q.core.rows clone-row (λ h among. (q-whole.whole.handles.numbered h among).1) refl in
          let number : k.0 ≡ q.core.last.handle + 1 = clones.made.2.above in
          ap (λ m. find_row m c.core.rows) number ∙ ap (find_row (q.core.last.handle + 1)) clone-is.rows ∙ stands.live

      open-still : w.closed ≡ false
      open-still = false_from_ne_true w.closed (λ shut.
          absurd (omega (arith, slice_get_within w.list place row.number entry.listed, ap length (whole.whole.shut shut).0)))

      c-open : c.core.closed ≡ false
      c-open = clone-is.closed ∙ take.closed ∙ open-still

      roomy-list : c.core.places.entries ≤ length c.core.list → ⊥
      roomy-list full =
          let within = slice_get_within w.list place row.number entry.listed in
          let shorter = length-remove w.list place within in
          let a = ap length clone-is.list in
          let b = ap length take.list in
          let c1 = clone-is.places.entries in
          let c2 = take.places.entries in
          let d = whole.whole.handles.places.1 in
          omega arith

      module _ (told : Result (Unit {0}) Error) (l : PagerState N E) (l-whole : IsPagerWhole v l)
          (l-fewer : (m : ℕ) (y : N) → l.values m ≡ Some y → s.values m ≡ Some y)
          (schedules : ScheduleCall c.core Owner.Caller k told l.core) where
        lists : (r : Result (Unit {0}) Error) → ScheduleCall c.core Owner.Caller k r l.core → Alike (listed c.core k) l.core
        unfolding clone-row
        lists (Ok unit) call =
            let (row2, owns, does) = call.moves in
            elim does [
              | inl (still, alike) ↦ alike
              | inr (shut, falls) ↦ let still = c-open in absurd (cc)
            ]
        lists (Err e) call = elim call.refused.why [
          | inl fault ↦ let live = clone-live in absurd (faultless fault)
          | inr (wanting, before, (still, full)) ↦ absurd (roomy-list full)
        ]
          where
            faultless : handle_fault c.core Owner.Caller k is_unpinned ≡ Some e → ⊥
            faultless fault = let live = clone-live in grind basics

        l-live : row_at l.core row.number ≡ Some own-row
        l-live =
            let alike = lists told schedules in
            let other : (row.number.0 == k.0) ≡ false = (let low = row-low in let is = ap (λ (x : HandleNumber). x.0) k-is in grind basics) in
            ap (find_row row.number.0) alike.rows
            ∙ found-after (λ (x : HandleRow). only_handle k x.number.0) (λ x. record x { owner = Owner.List })
            (λ x. refl) row.number.0 c.core.rows own-row c-live
            ∙ ap (λ b. Some (if b then record own-row { owner = Owner.List } else own-row)) other

        pub leaves-relisted : {told2 : Result (Unit {0}) Error} {w' : Core} → ReleaseCall l.core Owner.Caller row.number told2 w'
            → Alike (with_entry_relisted w place row (new_entry w row ∷ [])) w'
        leaves-relisted {w' = w'} releases =
            let goes = lets-go l l-whole l-live (λ y is. bare y (l-fewer row.node.0 y is)) releases in
            let all : Alike (alone (listed (with_handle taken row.node Mode.LooseUnpinned Owner.Caller) k) (only_handle row.number)) w' =
            alike-then (alone-on (alike-then (list-on (alike-then (handle-on take row.node Owner.Caller) clone-is) k) (lists told schedules))
            (only_handle row.number)) goes in
            let now : Alike (alone (listed (with_handle taken row.node Mode.LooseUnpinned Owner.Caller) new) (only_handle row.number)) w' =
            subst (λ (x : HandleNumber). Alike (alone (listed (with_handle taken row.node Mode.LooseUnpinned Owner.Caller) x)
            (only_handle row.number)) w') k-is all in
            let low = row-low in
            let number : w.last.handle + 2 + 1 ≡ w.last.handle + 1 + 1 + 1 = omega arith in
            let rows : left_rows (only_handle row.number) (moved (only_handle new) Owner.List (taken.rows ++ row_of (w.last.handle + 2 + 1) row.node
            Mode.LooseUnpinned Owner.Caller ∷ [])) ≡ left_rows (only_handle row.number) w.rows ++ new_entry w row ∷ [] =
            left-relisted row.number new row.node w.rows (grind basics) (λ y among. let few = (whole.whole.handles.numbered y among).1 in grind basics)
            ∙ ap (λ m. left_rows (only_handle row.number) w.rows ++ row_of m row.node Mode.LooseUnpinned Owner.List ∷ []) number in
            subst (λ d. Alike d w') (λ i. record w {
              rows = rows i;
              cells = λ m. if nat_lt 0 (held m (rows i)) then w.cells m else None;
              list = remove w.list place ++ record { 0 = number i } ∷ [];
              last = record w.last { handle = w.last.handle + 2 + 1; worker = w.last.worker + 1 };
            }) now
