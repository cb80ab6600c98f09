-- A world that agrees with a whole one, or whose rows are changed one by one, stays whole while rows and list have their places.
use Rattle.pagable_tables.proofs.{
  CascadeEnd.{no-entry, owned, passes-left, unlisting},
  Counting.{and-left, of_list},
  HandleTable.found-append,
  RowCounts.{GoOn, HasLike, IsEntry, IsIn, IsNew, IsOld, among-both, among-changed, among-left, among-more, among-one, at-most-sum, at-then, counted},
  RowCounts.{each-changed, entries-listed, entry-is, found-among, found-so, held-some, holder-in, is-in, keeps-whole, keyed_in, loads-stay, once, one-left},
  RowCounts.{ordered-entries, ordered-map, ordered-push, same-rows, stays-old, sum-map, sum-none, there-then, type_in, within-goes},
  SameViews.{found-map, owner-same},
  Words.{Alike, AllPairs, AllPairs-filter, Among, ArcRef, ArePlaced, Bool, Cell, Core, Err, Error, Falls, HandleNumber, HandleRow, IsEntryWhole},
  Words.{IsHandleBefore, IsWhole, List, MakesHandle, MayOwnHandle, MayOwnLoad, Mode, NodeNumber, None, Ok, OpenLoad, Option, OptionalDataKey, Owner, Owns},
  Words.{Result, SameAt, Some, Suits, ap, arith, basics, cases_eq, changed, fallen, false, filter, find_row, greatest, has_key, held, if_there, if◌then◌else◌},
  Words.{inl, inr, is_at, is_handle, is_loose, is_named_by, is_owned_by, is_owned_in, is_owner, is_pin, is_share, is_shared, is_some, is_value_owner},
  Words.{left_rows, length, map, moved, nat_lt, next_node, not, one, option_map, or_else, owner_value, reference_fault, references_fault, refl, row_at, subst},
  Words.{sum_by-append, sum_by_push, sym, times, true, with_handle, with_mode, with_node, with_pin, ℕ, [], ◌&&◌, ◌++◌, ◌+◌, ◌<◌, ◌==◌, ◌∙◌, ◌∷◌, ◌≡◌, ◌≢◌, ◌≤◌},
  Words.◌⊎◌,
}
use Rattle.std.proofs.lemmas.{Bool.not-true, Option.slice_get-map}

-- ---- what loads and workers own is what they owned, or has come since

pub owned-moved : (s : ℕ → Bool) (o a : Owner) (q : ℕ) (rows : List HandleRow) → is_owner a o ≡ false → owned a q (moved s o rows)
    ≡ (owned a q rows && not (s q))
owned-moved s o a q rows other = grind (
  basics,
  found-among q rows,
  found-map (λ x. if s x.number.0 then record x { owner = o } else x) (λ x. grind basics) q
      rows,
)

-- loads and workers give up what they have together
abbrev pub is_giver : Owner → Bool
is_giver (Owner.Load l) = true
is_giver (Owner.Worker v) = true
is_giver _ = false

pub record IsNewer (rows rows' : List HandleRow) (given given' : ℕ) : Type 0 where
  pub last : given ≤ given'
  pub kept : (o : Owner) (q : ℕ) → is_giver o ≡ true → owned o q rows' ≡ true → (owned o q rows ≡ true) ⊎ (given < q)

abbrev pub OnlyNewer : Core → Core → Type 0
OnlyNewer w w' = IsNewer w.rows w'.rows w.last.handle w'.last.handle

pub newer-alike : {w w' : Core} → Alike w w' → OnlyNewer w w'
newer-alike {w} {w'} a = record {
  last = (omega (arith, ap (λ l. l.handle) a.last));
  kept = λ o q gives own. inl (sym (ap (owned o q) a.rows) ∙ own);
}

pub newer-then : {r s t : List HandleRow} {i j k : ℕ} → IsNewer r s i j → IsNewer s t j k → IsNewer r t i k
newer-then p q = grind basics

pub newer-handle : (w : Core) (node : NodeNumber) (mode : Mode) (owner : Owner) → OnlyNewer w (with_handle w node mode owner)
unfolding find_row
newer-handle w node mode owner = record { last = omega arith; kept = λ o q gives own. grind (basics, found-append, found-among) }

pub newer-moved : (w : Core) (s : ℕ → Bool) (o : Owner) → is_giver o ≡ false → OnlyNewer w (record w { rows = moved s o w.rows })
newer-moved w s o other = grind (basics, and-left, owned-moved)

pub owned-mode : (o : Owner) (q : ℕ) (test : HandleRow → Bool) (mode : Mode) (rows : List HandleRow)
    → owned o q (changed test (λ row. record row { mode = mode }) rows) ≡ owned o q rows
owned-mode o q test mode rows = grind (basics, found-map (λ x. if test x then record x { mode = mode } else x) (λ x. grind basics) q rows)

pub newer-falls : {before u w' : Core} {given : ℕ → Bool} {r : Result (Unit {0}) Error} → Falls before u given r w' → OnlyNewer u w'
newer-falls {before} {u} {w'} falls = grind (basics, passes-left, no-entry, unlisting)

-- ---- a world that is told alike

-- the world while its storage is taken to be open, and with room for just what is there
abbrev pub opened : Core → Core
opened w = record w { closed = false }

abbrev pub roomy : Core → Core
roomy w = record w { closed = false; places = record { handles = length w.rows; entries = length w.list } }

module _ {m : Core} (w' : Core) (whole : IsWhole m) (rows : w'.rows ≡ m.rows) (cells : SameAt m.cells w'.cells) (list : w'.list ≡ m.list)
    (cache : (kind key n : ℕ) → w'.cache kind key ≡ Some n → m.cache kind key ≡ Some n) (loads : SameAt m.loads w'.loads)
    (workers : SameAt m.workers w'.workers) (last : w'.last ≡ m.last) where
  pub told-whole : ArePlaced (opened w') → IsWhole (opened w')
  told-whole placed =
      let v : Core = record m { cache = w'.cache; stored = w'.stored; closed = false; failures = w'.failures; places = w'.places } in
      let same : opened w' ≡ v = λ i. record w' {
        rows = rows i;
        cells = λ n. cells n i;
        list = list i;
        closed = false;
        loads = λ l. loads l i;
        workers = λ u. workers u i;
        last = last i;
      } in
      let places : (length m.rows ≤ w'.places.handles) × (length m.list ≤ w'.places.entries) =
      (omega (arith, ap length rows), omega (arith, ap length list)) in
      let known : (kind key n : ℕ) → w'.cache kind key ≡ Some n → IsEntryWhole m kind n = λ kind key n is. whole.cache kind key n (cache kind key n is) in
      subst IsWhole (sym same) (keeps-whole whole (grind (basics, same-rows, whole, is-in whole, loads-stay)))

pub roomy-whole : {w : Core} → IsWhole w → IsWhole (roomy w)
roomy-whole {w} whole = told-whole (roomy w) whole refl (λ n. refl) refl (λ kind key n is. is) (λ l. refl) (λ v. refl) refl
    (record { rows = omega arith; list = omega arith })

pub settles : {m w' : Core} → IsWhole (roomy m) → Alike m w' → ArePlaced (opened w') → IsWhole (opened w')
settles {m} {w'} whole a placed = told-whole {m = roomy m} w' whole a.rows a.cells a.list a.cache.only a.loads a.workers a.last placed

-- What is shown of a call: the world is whole then, and loads and workers own what they owned, or what has come since.
pub record Goes (w w' : Core) : Type 0 where
  pub whole : ArePlaced (opened w') → IsWhole (opened w')
  pub newer : OnlyNewer w w'

pub settled : {w m w' : Core} → Alike m w' → IsWhole (roomy m) → OnlyNewer w m → Goes w w'
settled a whole newer = record { whole = settles whole a; newer = newer-then newer (newer-alike a) }

pub alike-goes : {w w' : Core} → IsWhole (opened w) → Alike w w' → Goes w w'
alike-goes whole a = record { whole = settles (roomy-whole whole) a; newer = newer-alike a }

-- beside each row of the one stands one of the other, of its node, that is Shared or not as it is
pub record AllLike (rows rows' : List HandleRow) : Type 0 where
  pub like : (x : HandleRow) → Among rows x → HasLike rows' x.node.0 (is_shared x.mode)

abbrev pub GoesOn : Core → Core → Type 0
GoesOn before u = AllLike before.rows u.rows

pub stays-on : (w : Core) → GoesOn w w
stays-on w = record { like = λ x among. record { row = x; there = among; at = refl; same = refl } }

-- what w has become on the way of a call
abbrev pub Turns : Core → Core → Type 0
Turns w m = IsWhole (roomy m) × GoesOn w m × OnlyNewer w m

pub unturned : (w : Core) → IsWhole (roomy w) → Turns w w
unturned w whole = (whole, stays-on w, record { last = omega arith; kept = λ o q gives own. inl own })

pub then-on : {a b c : List HandleRow} → AllLike a b → AllLike b c → AllLike a c
then-on p q = record {
  like = λ x among. let y = p.like x among in let z = q.like y.row y.there in
      record { row = z.row; there = z.there; at = z.at ∙ y.at; same = z.same ∙ y.same };
}

-- f is done to some rows, which keep their numbers and nodes
module _ {w : Core} (whole : IsWhole w) (test : HandleRow → Bool) (f : HandleRow → HandleRow) (number : (h : HandleRow) → (f h).number.0 ≡ h.number.0)
    (node : (h : HandleRow) → (f h).node ≡ h.node) (shared : (h : HandleRow) → Among w.rows h → test h ≡ true → is_shared (f h).mode ≡ is_shared h.mode)
    (loose : (h : HandleRow) → Among w.rows h → test h ≡ true → is_loose h.mode ≡ true → is_loose (f h).mode ≡ true) where
  abbrev to : HandleRow → HandleRow
  to x = if test x then f x else x

  to-node : (x : HandleRow) → (to x).node ≡ x.node
  to-node x = each-changed test f (λ y. y.node ≡ x.node) x (λ e. node x) (λ e. refl)

  pub turned-on : GoesOn w (record w { rows = changed test f w.rows })
  turned-on = record {
    like = λ x among. record {
      row = to x;
      there = (among.0, slice_get-map to w.rows among.0 ∙ ap (option_map to) among.1);
      at = ap (λ n. n.0) (to-node x);
      same = each-changed test f (λ y. is_shared y.mode ≡ is_shared x.mode) x (λ e. shared x among e) (λ e. refl);
    };
  }

  pub turned-whole : (list : List HandleNumber) → ((q : ℕ) → times (λ (h : HandleNumber). h.0 == q) list ≡ times (of_list q) (changed test f w.rows))
      → ((x : HandleRow) → Among w.rows x → test x ≡ true → IsIn w (f x).mode (f x).owner)
      → IsWhole (roomy (record w { rows = changed test f w.rows; list = list }))
  turned-whole list listed owners =
      let turned = roomy (record w { rows = changed test f w.rows; list = list }) in
      let on : GoOn w turned = record {
        last = (omega arith, omega arith, omega arith);
        ordered = ordered-map to _ (λ x. grind (basics, number x)) whole.handles.ordered;
        fresh = false;
        rows = λ h among. inl (among-changed test f (IsOld w.rows) _ h among
            (λ x there e. record {
              row = x;
              there = there;
              number = sym (number x);
              node = sym (node x);
              shared = sym (shared x there e);
              loose = loose x there e;
            }) (λ x there e. stays-old there));
        live = λ n. whole.handles.live n ∙ ap (nat_lt 0) (sym (sum-map (λ h. one (is_at n h)) (λ h. one (is_at n h)) to w.rows
            (λ h among. ap (λ k. one (k.0 == n)) (to-node h))));
        typed = λ n t few is. is;
        keyed = λ n like few none. none;
      } in
      let there : (h : HandleRow) → Among turned.rows h → IsIn w h.mode h.owner =
      λ h among. among-changed test f (λ y. IsIn w y.mode y.owner) _ h among owners (λ x there e. is-in whole x there) in
      keeps-whole whole (grind (basics, listed, loads-stay))

  -- where no handle comes to the list or from it
  pub turned-still : ((x : HandleRow) → Among w.rows x → test x ≡ true → is_owned_by Owner.List (f x) ≡ is_owned_by Owner.List x)
      → ((x : HandleRow) → Among w.rows x → test x ≡ true → IsIn w (f x).mode (f x).owner) → IsWhole (roomy (record w { rows = changed test f w.rows }))
  turned-still same owners = turned-whole w.list (λ q. whole.owners_there.listed q
      ∙ sym (sum-map (λ x. one (of_list q x)) (λ x. one (of_list q x)) to _ (λ x among.
      each-changed test f (λ y. one (of_list q y) ≡ one (of_list q x)) x
      (λ e. ap (λ k. one (k == q && is_owned_by Owner.List (f x))) (number x) ∙ ap (λ b. one (is_handle q x && b)) (same x among e)) (λ e. refl)))) owners

-- ---- another mode

pub moded : {w : Core} → IsWhole w → (h : HandleNumber) (row : HandleRow) (mode : Mode) → row_at w h ≡ Some row → is_shared mode ≡ is_shared row.mode
    → (is_loose row.mode ≡ true → is_loose mode ≡ true) → (row.owner ≡ Owner.List → mode ≡ Mode.LooseUnpinned) → Turns w (with_mode w h mode)
moded {w} whole h row mode live shared loose waits =
    let the-row : (x : HandleRow) → Among w.rows x → is_handle h.0 x ≡ true → x ≡ row =
    λ x among is. let a = found-among h.0 w.rows row live in once w.rows whole.handles.ordered x row among a.0 (grind (basics, a.1)) in
    let same : (x : HandleRow) → Among w.rows x → is_handle h.0 x ≡ true → is_shared mode ≡ is_shared x.mode =
    λ x among e. shared ∙ ap (λ y. is_shared y.mode) (sym (the-row x among e)) in
    let loosely : (x : HandleRow) → Among w.rows x → is_handle h.0 x ≡ true → is_loose x.mode ≡ true → is_loose mode ≡ true =
    λ x among e was. loose (ap (λ y. is_loose y.mode) (sym (the-row x among e)) ∙ was) in (
      turned-still whole (is_handle h.0) (λ x. record x { mode = mode }) (λ x. refl) (λ x. refl) same loosely (λ x among e. refl)
          (λ x among e. grind (basics, waits, is-in whole x among, the-row x among e)),
      turned-on whole (is_handle h.0) (λ x. record x { mode = mode }) (λ x. refl) (λ x. refl) same loosely,
      record { last = omega arith; kept = λ o q gives own. inl (sym (owned-mode o q (is_handle h.0) _ _) ∙ own) },
    )

-- ---- a handle comes, under the next number

-- who may hold is neither the list nor a value
pub not-list : (w : Core) (o : Owner) → MayOwnHandle w o → is_owner Owner.List o ≡ false
not-list w o may = grind basics

pub not-a-value : (w : Core) (o : Owner) → MayOwnHandle w o → is_value_owner o ≡ false
not-a-value w o may = grind basics

-- Of a node that is there, or of a new one.
module _ {w : Core} (whole : IsWhole w) (x : HandleRow) (cells : ℕ → Option Cell) (last : ℕ) (number : x.number.0 ≡ w.last.handle + 1)
    (left : w.last.handle < greatest)
    (more : w.last.node ≤ last) (few : last ≤ greatest) (there : is_some (cells x.node.0) ≡ true)
    (same : (n : ℕ) → (n ≢ x.node.0) ⊎ (n ≤ w.last.node) → cells n ≡ w.cells n)
    (like : HasLike w.rows x.node.0 (is_shared x.mode) ⊎ ((w.last.node < x.node.0) × (x.node.0 ≤ last)
    × (is_shared x.mode ≡ true → keyed_in (cells x.node.0) ≡ false)))
    (holder : MayOwnHandle w x.owner) where
  abbrev grown : Core
  grown = roomy (record w { rows = w.rows ++ x ∷ []; cells = cells; last = record w.last { node = last; handle = w.last.handle + 1 } })

  pub grown-whole : IsWhole grown
  grown-whole =
      let come : IsNew w grown (is_shared x.mode) x = record {
        above = omega arith;
        few = omega arith;
        like = elim like [ inl old ↦ inl old | inr new ↦ inr (new.0, new.1, refl, new.2) ];
      } in
      let on : GoOn w grown = record {
        last = (omega arith, more, omega arith);
        ordered = ordered-push _ x (λ y among. omega (arith, whole.handles.numbered y among)) whole.handles.ordered;
        fresh = is_shared x.mode;
        rows = λ h among. elim (among-both _ _ h among) [
          | inl old ↦ inl (stays-old old)
          | inr new ↦ inr (rw (among-one x h new) come)
        ];
        live = λ n. grind (basics, sum_by_push (λ h. one (is_at n h)) w.rows x, same n);
        typed = λ n t given is. sym (ap type_in (same n (inr given))) ∙ is;
        keyed = λ n like given none. ap keyed_in (same n (inr given)) ∙ none;
      } in
      let listed : (q : ℕ) → times (λ h. h.0 == q) w.list ≡ times (of_list q) grown.rows = λ q.
      grind (basics, sum_by_push (λ h. one (of_list q h)) w.rows x, whole.owners_there.listed q, not-list w x.owner holder) in
      let owners : (h : HandleRow) → Among grown.rows h → IsIn w h.mode h.owner = λ h among.
      grind (basics, among-both w.rows (x ∷ []) h among, among-one x h, is-in whole h, holder-in w x.mode x.owner holder) in
      keeps-whole whole (grind (basics, loads-stay))

-- beside the handles that its node has
pub beside : {w : Core} → IsWhole w → (node : NodeNumber) (mode : Mode) (owner : Owner) → HasLike w.rows node.0 (is_shared mode) → MayOwnHandle w owner
    → w.last.handle < greatest
    → Turns w (with_handle w node mode owner)
beside {w} whole node mode owner like holder left = (
  grown-whole whole _ _ _ refl left (omega arith) whole.handles.within.1
      (rw like.at at (there-then whole _ like.there)) (λ n d. refl) (inl like) holder,
  record { like = λ x among. record { row = x; there = among-more _ _ x among; at = refl; same = refl } },
  newer-handle w _ _ _,
)

-- ---- the world is whole once handles have fallen, but for what a closed storage has lost

-- What u has lost of a whole world m before handles fall: owners of the given handles, entries of the list that are given, and what the cache knew.
pub record Loses (m u : Core) (given : ℕ → Bool) : Type 0 where
  pub listed : (q : ℕ) → (times (λ (h : HandleNumber). h.0 == q) u.list ≡ times (of_list q) m.rows)
      ⊎ ((given q ≡ true) × (times (λ (h : HandleNumber). h.0 == q) u.list ≡ 0))
  pub owners : (h : HandleRow) → Among m.rows h → IsIn u h.mode h.owner ⊎ (given h.number.0 ≡ true)
  pub loads : (l : ℕ) (load : OpenLoad) → u.loads l ≡ Some load → (m.loads l ≡ Some load) × MayOwnLoad u load.owner
  pub cache : (kind key n : ℕ) → u.cache kind key ≡ Some n → m.cache kind key ≡ Some n
  pub workers : (v : ℕ) → u.workers v ≡ true → m.workers v ≡ true

module _ {before : Core} (m u : Core) {w' : Core} {given : ℕ → Bool} {r : Result (Unit {0}) Error} (whole : IsWhole (roomy m)) (on : GoesOn before m)
    (lost : Loses m u given)
    (f : Falls before (record u { rows = m.rows; cells = m.cells; last = m.last }) given r w') where
  abbrev after : Core
  after = roomy (fallen (record u { rows = m.rows; cells = m.cells; last = m.last }) f.gone f.entries)

  abbrev left : List HandleRow
  left = left_rows f.gone m.rows

  was : (h : HandleRow) → Among left h → Among m.rows h × (f.gone h.number.0 ≡ false)
  was h among = let a = among-left (λ x. not (f.gone x.number.0)) m.rows h among in (a.0, not-true (f.gone h.number.0) a.1)

  -- a cell with an entry has a handle that isn't Shared
  entered : (n : ℕ) → 0 < held n f.entries → HasLike m.rows n false
  entered n some =
      let must = (f.only n some).0 in
      let (x, among, counts) = counted (λ h. one (is_pin n h)) before.rows must.pinned in
      grind (basics, must.unshared, at-most-sum (λ h. one (is_share n h)) before.rows x among, on.like x among)

  -- what is true of each row that is left, and of each entry
  each-row : (P : HandleRow → Type 0) → ((h : HandleRow) → Among m.rows h → f.gone h.number.0 ≡ false → P h)
      → ((h : HandleRow) → HasLike m.rows h.node.0 false → IsEntry m.last.handle (length f.entries) h → P h) → (h : HandleRow) → Among after.rows h → P h
  each-row P old come h among = elim (among-both _ _ h among) [
    | inl a ↦ let b = was h a in old h b.0 b.1
    | inr a ↦ come h (entered h.node.0 (held-some _ _ h a refl)) (entry-is _ _ h f.new a)
  ]

  there : (n : ℕ) → 0 < held n after.rows → is_some (m.cells n) ≡ true
  there n some =
      let found = counted (λ h. one (is_at n h)) after.rows some in
      rw (at-then n found.0 found.2) at
      (each-row (λ h. is_some (m.cells h.node.0) ≡ true) (λ h old kept. there-then whole h old)
      (λ h like e. rw like.at at (there-then whole _ like.there)) found.0 found.1)

  still-listed : (q : ℕ) → times (λ (h : HandleNumber). h.0 == q) after.list ≡ times (of_list q) after.rows
  still-listed q =
      let none : given q ≡ true → f.gone q ≡ false → times (of_list q) m.rows ≡ 0 = λ is stays. sum-none (λ h. one (of_list q h)) m.rows (λ h among.
      let g = within-goes m.rows given f.gone h f.set.holds among in let o : of_list q h ≡ true → h.number.0 ≡ q =
      λ is. grind basics in grind basics) in
      let kept = one-left (λ (h : HandleNumber). h.0) (λ h. h.0 == q) q (λ h is. grind basics) f.gone (f.gone q) refl u.list in
      let list = sum_by-append (λ (h : HandleNumber). one (h.0 == q)) (filter (λ (h : HandleNumber). not (f.gone h.0)) u.list)
      (map (λ (h : HandleRow). h.number) f.entries) in
      grind (
        basics,
        lost.listed q,
        none,
        entries-listed q m.last.handle f.entries f.new,
        sum_by-append (λ h. one (of_list q h)) left f.entries,
        one-left (λ (h : HandleRow). h.number.0) (of_list q) q (λ h is. grind basics) f.gone (f.gone q) refl m.rows,
      )

  fallen-whole : IsWhole after
  fallen-whole =
      let on : GoOn (roomy m) after = record {
        last = (omega arith, omega arith, omega arith);
        ordered = ordered-entries _ _ _ (λ x among. (whole.handles.numbered x (was x among).0).1) f.new
            (AllPairs-filter IsHandleBefore (λ x. not (f.gone x.number.0)) m.rows whole.handles.ordered);
        fresh = false;
        rows = each-row (λ h. IsOld m.rows h ⊎ IsNew (roomy m) after false h) (λ h old kept. inl (stays-old old))
            (λ h like e. inr (grind (basics, e.above, e.number, e.mode)));
        live = λ n. grind (basics, there);
        typed = λ n t given is. grind basics;
        keyed = λ n like given none. grind basics;
      } in
      keeps-whole whole (record {
        on = on;
        within = let (a, b, c) = whole.handles.within in (f.within, b, c);
        places = (omega arith, omega arith);
        listed = still-listed;
        owners = each-row (λ h. IsIn after h.mode h.owner)
            (λ h old kept. elim (lost.owners h old) [
              | inl there ↦ there
              | inr gives ↦ let g = sym (within-goes _ given f.gone h f.set.holds old gives) ∙ kept in absurd (cc)
            ])
            (λ h like e. rw e.owner e.mode);
        loads = λ l load is. let a = lost.loads l load is in (a.1, inl a.0);
        cache = λ kind key n is. whole.cache kind key n (lost.cache kind key n is);
        workers = λ v is. whole.workers_numbered v (lost.workers v is);
        stands_open = refl;
      })

  -- what is left of a whole world is whole
  pub falls-lost : ArePlaced (opened w') → IsWhole (opened w')
  falls-lost placed = settles fallen-whole f.leaves placed

-- where nothing has gone before
pub falling : {before u w' : Core} {given : ℕ → Bool} {r : Result (Unit {0}) Error} → Falls before u given r w' → Turns before u → Goes before w'
falling {before} {u} falls (whole, on, newer) = record {
  whole = falls-lost u u whole on (record {
    listed = λ q. inl (whole.owners_there.listed q);
    owners = λ h among. inl (is-in whole h among);
    loads = λ l load is. (is, whole.loads.owned l load is);
    cache = λ kind key n is. is;
    workers = λ v is. is;
  }) falls;
  newer = newer-then newer (newer-falls falls);
}

pub lone-falling : {w w' : Core} {given : ℕ → Bool} {r : Result (Unit {0}) Error} → IsWhole (opened w) → Falls w w given r w' → Goes w w'
lone-falling {w} whole falls = falling falls (unturned w (roomy-whole whole))

-- ---- calls by which a handle comes, moves or is pinned, or a node comes, keep the world whole

module _ {w : Core} (whole : IsWhole w) (s : ℕ → Bool) (owner : Owner) where
  pub moved-on : GoesOn w (record w { rows = moved s owner w.rows })
  moved-on = turned-on whole (λ x. s x.number.0) (λ x. record x { owner = owner }) (λ x. refl) (λ x. refl) (λ x among e. refl) (λ x among e was. was)

  -- with the list that fits; the new owner is there
  pub moved-so : (list : List HandleNumber) → ((q : ℕ) → times (λ (h : HandleNumber). h.0 == q) list ≡ times (of_list q) (moved s owner w.rows))
      → ((x : HandleRow) → Among w.rows x → s x.number.0 ≡ true → IsIn w x.mode owner) → IsWhole (roomy (record w { rows = moved s owner w.rows; list = list }))
  moved-so = turned-whole whole (λ x. s x.number.0) (λ x. record x { owner = owner }) (λ x. refl) (λ x. refl) (λ x among e. refl) (λ x among e was. was)

-- to the value of a node, or to one who may hold, where none is the list's
module _ {w : Core} (whole : IsWhole w) (s : ℕ → Bool) (mine : (x : HandleRow) → Among w.rows x → s x.number.0 ≡ true → is_owned_by Owner.List x ≡ false) where
  pub moved-free : (owner : Owner) → is_owner Owner.List owner ≡ false → ((mode : Mode) → IsIn w mode owner)
      → IsWhole (roomy (record w { rows = moved s owner w.rows }))
  moved-free owner other there = turned-still whole (λ x. s x.number.0) (λ x. record x { owner = owner }) (λ x. refl) (λ x. refl) (λ x among e. refl)
      (λ x among e was. was)
      (λ x among e. other ∙ sym (mine x among e)) (λ x among e. there x.mode)

  pub moved-to-value : (n : ℕ) → IsWhole (roomy (record w { rows = moved s (owner_value n) w.rows }))
  moved-to-value n = moved-free (owner_value n) refl (λ mode. tt)

pub makes-goes : {w w' : Core} (node : NodeNumber) (mode : Mode) (owner : Owner) (r : Result HandleNumber Error) → IsWhole (opened w) → Suits w node mode
    → MayOwnHandle w owner
    → MakesHandle w node mode owner r w' → Goes w w'
makes-goes {w} node mode owner (Ok k) whole suits holder makes =
    let like : HasLike w.rows node.0 (is_shared mode) = record {
      row = suits.row;
      there = suits.there;
      at = ap (λ k. k.0) suits.at;
      same = suits.shared;
    } in
    let made = beside whole node mode owner like holder makes.made.0.is_left in settled makes.made.1 made.0 made.2
makes-goes node mode owner (Err e) whole suits holder makes = alike-goes whole makes.refused.stays

pub loose-unshared : (mode : Mode) → is_loose mode ≡ true → is_shared mode ≡ false
loose-unshared mode is = grind basics

-- a loose handle of one who may hold is pinned, and a Pinned one is made
pub pin-comes : {w : Core} (h : HandleNumber) (row : HandleRow) (me : Owner) → IsWhole w → MayOwnHandle w me → Owns w me h is_loose row
    → w.last.handle < greatest
    → Turns w (with_pin w h row.node me)
pin-comes {w} h row me whole holder owns left =
    let loosely = sym (loose-unshared _ owns.as_asked) in
    let (loose, on, newer) = moded whole h row Mode.LoosePinned owns.live loosely (λ loose. refl)
    (λ is. absurd (let f = ap (is_owner Owner.List) (sym is ∙ owns.own) ∙ not-list w me holder in cc)) in
    let like = rw (← loosely) at (on.like row (found-among h.0 w.rows row owns.live).0) in
    let (pinned, more, last) = beside loose row.node Mode.Pinned me like holder left in (pinned, then-on on more, newer-then newer last)

-- ---- references that are good

pub own-of : (w : Core) → AllPairs IsHandleBefore w.rows → (owner : Owner) (x : HandleRow) → Among w.rows x → is_owned_in w owner x.number.0 ≡ true → x.owner
    ≡ owner
own-of w ordered owner x among own = owner-same _ _ (sym (ap (if_there (is_owned_by owner) false) (found-so _ _ x ordered among refl))
    ∙ own)

pub or-none : {X : Type 0} (a b : Option X) → or_else a b ≡ None → (a ≡ None) × (b ≡ None)
or-none x0 b e = grind basics

pub named-mine : (w : Core) (owner : Owner) (seen : List ℕ) (refs : List ArcRef) → references_fault w owner seen refs ≡ None → (q : ℕ) → is_named_by refs q
    ≡ true → is_owned_in w owner q ≡ true
unfolding references_fault is_named_by
named-mine w owner seen [] good q named = absurd (cc)
named-mine w owner seen (r ∷ rs) good q named =
    let parts = or-none (reference_fault w owner seen r) (references_fault w owner (r.handle.0 ∷ seen) rs) good in
    grind (basics, cases_eq r.handle.0 q, named-mine w owner (r.handle.0 ∷ seen) rs parts.1 q, parts.0)

-- what is named is the owner's, so it isn't the list's
pub named-own : (w : Core) → AllPairs IsHandleBefore w.rows → (owner : Owner) (refs : List ArcRef) → references_fault w owner [] refs ≡ None → (x : HandleRow)
    → Among w.rows x
    → is_named_by refs x.number.0 ≡ true → x.owner ≡ owner
named-own w ordered owner refs good x among named = own-of w ordered _ x among (named-mine w _ [] _ good _ named)

pub named-unlisted : {w : Core} → IsWhole w → (owner : Owner) (refs : List ArcRef) → is_owner Owner.List owner ≡ false → references_fault w owner [] refs ≡ None
    → (x : HandleRow)
    → Among w.rows x → is_named_by refs x.number.0 ≡ true → is_owned_by Owner.List x ≡ false
named-unlisted {w} whole owner refs other good x among named = ap (is_owner Owner.List) (named-own w whole.handles.ordered _ _ good x among named)
    ∙ other

-- ---- the node

module _ {w : Core} (whole : IsWhole w) (node_type : ℕ) (key : OptionalDataKey) (refs : List ArcRef) (mode : Mode) (from me : Owner)
    (other : is_owner Owner.List from ≡ false)
    (good : references_fault w from [] refs ≡ None)
    (holder : MayOwnHandle w me) (node_left : w.last.node < greatest) (left : w.last.handle < greatest)
    (unkeyed : is_shared mode ≡ true → has_key key ≡ false) where
  pub born-whole : IsWhole (roomy (with_handle (with_node w node_type key refs) (next_node w) mode me))
  born-whole = grown-whole (moved-to-value whole (is_named_by refs) (named-unlisted whole _ _ other good) _)
      _
      _ _
      refl left (omega arith) (omega arith) (grind basics) (λ n old. grind basics)
      (inr (omega arith, omega arith, λ is. grind (basics, unkeyed is))) holder

pub none-named : (w : Core) (owner : Owner) (refs : List ArcRef) → refs ≡ [] → references_fault w owner [] refs ≡ None
unfolding references_fault
none-named w owner refs is = ap (references_fault w owner []) is
