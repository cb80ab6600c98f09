-- After one handle is removed, handles and nodes agree again.
use Rattle.pagable_pager_spec.proofs.Elements.{sum-none}
use Rattle.pagable_tables.proofs.{
  Counting.{all-kept, and_one, entries-none, of_list, one-le, ones, sum-most, times-left},
  HandleTable.{length-live-le, none-found, only-row, row-le-live},
  RowCounts.{found-among, only-at},
  Words.{AllPairs, Among, ArcRef, Bool, Chain, Core, Counts, Error, Fits, GetsKey, HandleNumber, HandleRow, HasFallen, HasRoom, IsApart, IsBefore, IsClosed},
  Words.{IsSome, IsSoundInCascade, IsWithin, List, Mode, NodeNumber, None, OpenLoad, Option, Owner, Place, RefCounts, ReleasedSoFar, Right, Some, Tables},
  Words.{alive, ap, append-nil, arith, basics, cases_Bool, cases_eq, cell_in, core_of, counts_after_release, counts_at, entry, falls_in, false, filter},
  Words.{find_row, finished_counts, get_or, get_or-le-sum_by, greatest, has_value, held, holds_in, if◌then◌else◌, inl, inr, is_at, is_fallen_by, is_handle},
  Words.{is_keyed, is_last_pin_without_key, is_listed, is_outside, is_owned_by, is_owned_in, is_owner, is_pin, is_pinning, is_plain_pin, is_share, is_shared},
  Words.{is_value_owner, keyed, left_rows, length, live, map, named, nat_lt, next_in, nobody, not, often, one, owner_value, owns, owns_nothing, pins, refl},
  Words.{rows_of, sharing, slice_get, slice_get-get_or, subst, sum_by, sum_by-append, sum_by-cons, sum_by-le-sum_by, sum_by_push, sym, times, true, unpinned},
  Words.{with_key, with_tables, ℕ, [], ◌&&◌, ◌++◌, ◌+◌, ◌-◌, ◌<◌, ◌==◌, ◌∙◌, ◌∷◌, ◌≡◌, ◌≢◌, ◌≤◌, ◌⊎◌},
}
use Rattle.pagable_tables.specs.Core.{IsWhole, StorageView}
use Rattle.pagable_pager_spec.specs.Pager as pager

-- 1 for the handle q that the node's value owns
abbrev pub is_owned : ℕ → ℕ → HandleRow → ℕ
is_owned n q h = owns h n q

-- a chain stands on the next numbers of its own nodes alone
pub chain-frame : (at at' : ℕ → Option Counts) (top : ℕ) (stack : List ℕ) → ((n : ℕ) → 0 < often n stack → next_in (at' n) ≡ next_in (at n))
    → Chain at top stack → Chain at' top stack
chain-frame at at' top [] same h = h
chain-frame at at' top (n ∷ ns) same h =
    let here : next_in (at' n) ≡ next_in (at n) = same n (grind (basics, sum_by-cons (λ x. one (x == n)) n ns)) in
    let rest : Chain at' (next_in (at n)) ns = chain-frame at at' (next_in (at n)) ns
    (λ m some. same m (omega (arith, sum_by-cons (λ x. one (x == m)) n ns))) h.1 in
    (h.0, rw here rest)

pub pin-here : (x : HandleRow) → one (is_pin x.node.0 x) ≡ one (is_pinning x.mode)
pin-here x = grind basics

pub held-here : (x : HandleRow) → one (is_at x.node.0 x) ≡ 1
held-here x = grind basics

in-none : (n : ℕ) (stack : List ℕ) (m : ℕ) → often n stack ≡ 0 → 0 < often m stack → m ≢ n
in-none n stack m none some e = let a = ap (λ k. often k stack) e in absurd (omega arith)

-- one handle less, or one that stays without its pin, and perhaps an entry more
module _ {at at' : ℕ → Option Counts} {refs refs' : ℕ → List ArcRef} {rows : List HandleRow} {top : ℕ} {stack : List ℕ} (rows' : List HandleRow) (x : HandleRow)
    (c : Counts)
    (stays listed : Bool) (k : ℕ)
    (fits : Fits at refs rows top stack (λ n q. is_owned n q x)) (is : at x.node.0 ≡ Some c) (plain : stays ≡ true → (n q : ℕ) → is_owned n q x ≡ 0)
    (leaves : (f : HandleRow → ℕ) → sum_by f rows' + f x ≡ sum_by f rows + (if stays then f (unpinned x) else 0) + (if listed then f (entry k x.node) else 0))
    (here : at' x.node.0 ≡ Some (counts_after_release c (is_pinning x.mode) stays listed top)) (others : (n : ℕ) → n ≢ x.node.0 → at' n ≡ at n)
    (same : (n : ℕ) → refs' n ≡ refs n)
    (some : one (is_pinning x.mode) ≤ c.pins) (live : 1 ≤ c.holds) where
  given-owned : (n q : ℕ) → named q (refs' n) + 0 ≡ sum_by (is_owned n q) rows'
  given-owned n q = grind basics

  given-one : at' 0 ≡ None
  given-one = grind basics

  -- whether the node waits from now on
  abbrev now_falls : Bool
  now_falls = is_fallen_by c (is_pinning x.mode) (c.pins - one (is_pinning x.mode)) ((if stays then c.holds else c.holds - 1) + one listed)

  given-chain : (b : Bool) → now_falls ≡ b → Chain at' (if b then x.node.0 else top) (if b then x.node.0 ∷ stack else stack)
  given-chain x1 e = grind (basics, chain-frame, in-none)

  given-marked : (b : Bool) → now_falls ≡ b → (n : ℕ) → often n (if b then x.node.0 ∷ stack else stack) ≡ one (falls_in (at' n))
  given-marked b0 e n = grind (basics, cases_eq n x.node.0, sum_by-cons (λ y. one (y == n)) x.node.0 stack, fits.marked n, others n)

  given-right : (n : ℕ) → Right (at' n) (refs' n)
  given-right n = grind basics

  pub given-fits : (b : Bool) → now_falls ≡ b → Fits at' refs' rows' (if b then x.node.0 else top) (if b then x.node.0 ∷ stack else stack) owns_nothing
  given-fits b e = grind (basics, given-owned, given-chain, given-marked, given-right, given-one)

pub first-waits : {at : ℕ → Option Counts} {refs : ℕ → List ArcRef} {rows : List HandleRow} {n : ℕ} {ns : List ℕ} {extra : ℕ → ℕ → ℕ}
    → Fits at refs rows n (n ∷ ns) extra → falls_in (at n) ≡ true
first-waits {n = n} {ns} fits = grind (basics, sum_by-cons (λ y. one (y == n)) n ns, fits.marked n)

pub top-stands : (t : RefCounts) (stack : List ℕ) → t.top ≢ 0 → IsSoundInCascade t stack owns_nothing → (ns : List ℕ) × (stack ≡ t.top ∷ ns)
    × IsSoundInCascade t (t.top ∷ ns) owns_nothing
top-stands t [] some w = absurd (some w.fits.chain)
top-stands t (n ∷ ns) some w = let top = sym w.fits.chain.0 in (ns, ap (λ m. m ∷ ns) top, rw top at w)

pub top-there : (t : RefCounts) (stack : List ℕ) → t.top ≢ 0 → IsSoundInCascade t stack owns_nothing → counts_at t.nodes t.top ≡ None → ⊥
top-there t stack some w none = let waits = first-waits (top-stands t _ some w).2.fits in let a = ap falls_in none in absurd (cc)

pub pins-le-held : (n : ℕ) (rows : List HandleRow) → pins n rows ≤ held n rows
pins-le-held n rows = sum_by-le-sum_by (λ h. one (is_pin n h)) (λ h. one (is_at n h)) rows (λ h. grind basics)

-- the first node that waits is done: it is gone, or waits no more
module _ {at at' : ℕ → Option Counts} {refs refs' : ℕ → List ArcRef} {rows : List HandleRow} {n : ℕ} {ns : List ℕ} (c : Counts)
    (fits : Fits at refs rows n (n ∷ ns) owns_nothing) (is : at n ≡ Some c) (here : at' n ≡ finished_counts c) (bare : refs n ≡ [])
    (others : (m : ℕ) → m ≢ n → at' m ≡ at m) (same : (m : ℕ) → refs' m ≡ refs m) (one' : n ≢ 0) where
  once : often n ns ≡ 0
  once = grind (basics, sum_by-cons (λ y. one (y == n)) n ns)

  pub done-gone : has_value (at' n) ≡ false
  done-gone = grind (basics, first-waits fits, fits.right n)

  pub done-fits : Fits at' refs' rows c.next ns owns_nothing
  done-fits =
      let chain : Chain at' c.next ns = chain-frame at at' c.next ns (λ m within. ap next_in (others m (in-none n ns m once within)))
      (subst (λ t. Chain at t ns) (ap next_in is) fits.chain.1) in
      grind (basics, cases_eq, named, pins-le-held n rows, once, sum_by-cons, chain)

-- the last reference of the first node that waits is taken: its row is owned by that node's value
module _ {at at' : ℕ → Option Counts} {refs refs' : ℕ → List ArcRef} {rows : List HandleRow} {n : ℕ} {ns : List ℕ} (p : ArcRef)
    (fits : Fits at refs rows n (n ∷ ns) owns_nothing) (popped : refs n ≡ refs' n ++ p ∷ []) (others : (m : ℕ) → m ≢ n → refs' m ≡ refs m)
    (same : (m : ℕ) → at' m ≡ at m) where
  times-popped : (r : ℕ) → named r (refs n) ≡ named r (refs' n) + one (p.handle.0 == r)
  times-popped r = ap (named r) popped ∙ sum_by_push (λ y. one (y.handle.0 == r)) (refs' n) p

  pub taken-owned : 1 ≤ sum_by (is_owned n p.handle.0) rows
  taken-owned = grind (basics, fits.owned n p.handle.0, times-popped p.handle.0)

  pub taken-there : 1 ≤ times (is_handle p.handle.0) rows
  taken-there = let a = taken-owned in omega (
    arith,
    sum_by-le-sum_by (is_owned n p.handle.0) (λ h. one (is_handle p.handle.0 h)) rows
        (λ h. grind basics),
  )

  -- where the row is that one, the tables fit but for it
  pub taken-fits : (x : HandleRow) → ((m r : ℕ) → is_owned m r x ≡ one (n == m && p.handle.0 == r)) → Fits at' refs' rows n (n ∷ ns) (λ m r. is_owned m r x)
  taken-fits x owner =
      let right : (m : ℕ) → Right (at' m) (refs' m) = λ m. grind (
        basics,
        cases_eq m n,
        first-waits fits,
        fits.right m,
      ) in
      grind (basics, cases_eq, named, times-popped, chain-frame, right)

pub fits-same : {at at' : ℕ → Option Counts} {refs refs' : ℕ → List ArcRef} {rows : List HandleRow} {top : ℕ} {stack : List ℕ}
    → Fits at refs rows top stack owns_nothing
    → ((m : ℕ) → at' m ≡ at m) → ((m : ℕ) → refs' m ≡ refs m) → Fits at' refs' rows top stack owns_nothing
fits-same fits same refs-same = grind (basics, named, chain-frame)

pub fallen : {at : ℕ → Option Counts} {refs : ℕ → List ArcRef} {rows : List HandleRow} {n : ℕ} {ns : List ℕ} → Fits at refs rows n (n ∷ ns) owns_nothing
    → HasFallen at rows n
fallen {n = n} fits = grind (basics, first-waits fits, fits.right n, fits.pinned n, fits.holding n)

pub ruleset landing = (basics, cases_eq)

-- ---- a handle comes to a live node or to another owner, and nothing falls

pub no-value : (n : ℕ) (o : Owner) → is_value_owner o ≡ false → is_owner (owner_value n) o ≡ false
no-value n x1 e = grind basics

pub owned-by-none : (n q : ℕ) (x : HandleRow) → is_value_owner x.owner ≡ false → is_owned n q x ≡ 0
owned-by-none n q x e = grind (basics, no-value n x.owner e)

pub not-zero : (at : ℕ → Option Counts) (n : ℕ) (c : Counts) → at 0 ≡ None → at n ≡ Some c → 0 ≢ n
not-zero at n c none is z = absurd (let a = ap at z ∙ is in cc (a, none))

module _ {at at' : ℕ → Option Counts} {refs refs' : ℕ → List ArcRef} {rows : List HandleRow} {top : ℕ} (x : HandleRow) (c : Counts)
    (fits : Fits at refs rows top [] owns_nothing) (is : at x.node.0 ≡ Some c)
    (here : at' x.node.0 ≡ Some (record c { pins = c.pins + one (is_pinning x.mode); holds = c.holds + 1 }))
    (others : (n : ℕ) → n ≢ x.node.0 → at' n ≡ at n) (same : (n : ℕ) → refs' n ≡ refs n) (owner : is_value_owner x.owner ≡ false) where
  pub come-fits : Fits at' refs' (rows ++ x ∷ []) top [] owns_nothing
  come-fits = record {
    pinned = λ n. grind (basics, cases_eq, sum_by_push, pin-here);
    holding = λ n. grind (basics, cases_eq, sum_by_push, held-here);
    owned = λ n q. grind (basics, named, sum_by_push, owned-by-none);
    chain = fits.chain;
    marked = λ n. grind (basics, cases_eq);
    right = λ n. grind (basics, cases_eq n x.node.0, fits.right n);
    from_one = others 0 (not-zero at x.node.0 c fits.from_one is) ∙ fits.from_one;
  }

pub some-held : (o : Option Counts) → 0 < holds_in o → IsSome o
some-held x0 h = grind basics

-- the counts of a node that is there
pub counts-there : (o : Option Counts) → IsSome o → (y : Counts) × (o ≡ Some y)
counts-there (Some y) h = (y, refl)
counts-there None h = cc

pub held-few : (n : ℕ) (rows : List HandleRow) → held n rows ≤ length rows
held-few n rows = omega (arith, ones rows, sum_by-le-sum_by (λ h. one (is_at n h)) (λ h. 1) rows (λ h. one-le (is_at n h)))

-- The handle of the row x is loose and pins its node from now on.
abbrev pub turned : HandleRow → HandleRow
turned x = record x { mode = Mode.LoosePinned }

module _ {at at' : ℕ → Option Counts} {refs refs' : ℕ → List ArcRef} {rows rows' : List HandleRow} {top : ℕ} (x : HandleRow) (c : Counts)
    (fits : Fits at refs rows top [] owns_nothing) (is : at x.node.0 ≡ Some c)
    (sums : (f : HandleRow → ℕ) → sum_by f rows' + f x ≡ sum_by f rows + f (turned x))
    (here : at' x.node.0 ≡ Some (record c { pins = c.pins + one (not (is_pinning x.mode)) }))
    (others : (n : ℕ) → n ≢ x.node.0 → at' n ≡ at n) (same : (n : ℕ) → refs' n ≡ refs n) where
  pub set_loose_pinned-fits : Fits at' refs' rows' top [] owns_nothing
  set_loose_pinned-fits = grind (basics, cases_eq, pin-here, named, not-zero at x.node.0 c fits.from_one is)

abbrev pub owned-by : Owner → HandleRow → HandleRow
owned-by owner x = record x { owner = owner }

-- what the list has is there
module _ (list : List HandleNumber) (ss : List Place) (i : ℕ) (h : HandleNumber) (lt : i < length list) (is : h ≡ get_or list i h)
    (listed : times (λ (x : HandleNumber). x.0 == h.0) list ≡ times (of_list h.0) (live ss)) where
  some-entry : 1 ≤ times (of_list h.0) (live ss)
  some-entry = grind (basics, get_or-le-sum_by)

  pub entry-lives : find_row h.0 (live ss) ≡ None → ⊥
  entry-lives none = absurd (omega (
    arith,
    none-found h.0 (live ss) none,
    sum_by-le-sum_by (λ r. one (of_list h.0 r)) (λ r. one (is_handle h.0 r)) (live ss) (grind basics),
    some-entry,
  ))

  pub entry-unvalued : (place : ℕ) (row : HandleRow) → AllPairs IsBefore ss → slice_get ss place ≡ Some (alive row) → row.number ≡ h → is_value_owner row.owner
      ≡ false
  entry-unvalued place row ordered at number = grind (basics, only-row, some-entry)

-- what is counted at a node whose handle is there
pub ruleset counting = (basics, row-le-live, held-here, pins-le-held, held-few, length-live-le, some-held, slice_get-get_or)

-- ---- where handles begin to be given up: nothing has gone so far

-- why a cell isn't listed is told aside
pub aside : (t : RefCounts) (u : Option Error) (stack : List ℕ) (extra : ℕ → ℕ → ℕ) → IsSoundInCascade t stack extra
    → IsSoundInCascade (record t { listing_error = u }) stack extra
aside t u stack extra w = record { sound = w.sound; next = w.next; fits = w.fits; worked = w.worked }

-- a handle that no value owns weighs nothing there
pub unowned : (t : RefCounts) (x : HandleRow) (stack : List ℕ) → is_value_owner x.owner ≡ false → IsSoundInCascade t stack owns_nothing
    → IsSoundInCascade t stack (owns x)
unowned t x stack plain w = record { sound = w.sound; next = w.next; fits = grind (basics, owned-by-none, w.fits); worked = w.worked }

share-plain : (n : ℕ) (rows : List HandleRow) → sharing n rows + times (is_plain_pin n) rows ≤ held n rows
share-plain n [] = omega arith
share-plain n (x ∷ xs) = grind (
  basics,
  sum_by-cons (λ h. one (is_share n h)) x xs,
  sum_by-cons (λ h. one (is_plain_pin n h)) x xs,
  sum_by-cons (λ h. one (is_at n h)) x xs,
  share-plain n xs,
)

pub unmixed : (t : Tables) → IsWhole t → (n : ℕ) → (sharing n (rows_of t.ref_counts) ≡ 0)
    ⊎ (times (is_plain_pin n) (rows_of t.ref_counts) ≡ 0)
unmixed t w n = grind (basics, share-plain n (rows_of t.ref_counts), w.core.handles.uniform n)

pub none-within : (s : ℕ → Bool) (rows : List HandleRow) → IsWithin rows nobody s
none-within s rows = sum-none (λ h. one (nobody h.number.0 && not (s h.number.0))) rows (λ h among. refl)

-- nothing has gone so far of a world that has as many handles of each kind as the world before, whoever owns them
abbrev pub begun : (before w : Core) (lists : Bool) (t : RefCounts) → lists ≡ not w.closed
    → ((p : HandleRow → Bool) → ((x : HandleRow) (o : Owner) → p (record x { owner = o }) ≡ p x) → times p w.rows ≡ times p before.rows)
    → ((n : ℕ) → (sharing n before.rows ≡ 0) ⊎ (times (is_plain_pin n) before.rows ≡ 0))
    → ((q : ℕ) → times (λ (h : HandleNumber). h.0 == q) w.list ≤ times (of_list q) w.rows)
    → rows_of t ≡ w.rows → t.list.items ≡ w.list → t.last_handle ≡ w.last.handle → t.last_handle ≤ greatest
    → HasRoom w.places (with_tables w t).places
    → ((n : ℕ) → cell_in (counts_at t.nodes n) ≡ w.cells n) → t.listing_error ≡ None → ReleasedSoFar before w nobody lists t
begun before w lists t e many unmixed listed rows list last within places cells told = record {
  begins = record {
    open_storage = e;
    fewer = λ n. omega (arith, many (is_pin n) (λ x o. refl));
    shared = λ n. omega (arith, many (is_share n) (λ x o. refl));
    uniform = λ n. elim (unmixed n) [ inl none ↦ inl none | inr none ↦ inr (many (is_plain_pin n) (λ x o. refl) ∙ none) ];
    listed = listed;
  };
  gone = nobody;
  entries = [];
  rows = rows ∙ sym (append-nil _ ∙ all-kept w.rows);
  list = list ∙ sym (append-nil _ ∙ all-kept w.list);
  last = omega arith;
  within = within;
  places = places;
  cells = λ n there. cells n;
  holds = none-within nobody w.rows;
  least = λ s final bare has closed. none-within s w.rows;
  new = tt;
  only = λ n some. absurd (omega arith);
  tells = rw told (record {
    all = λ n must. let a = must.pinned in let b = must.unpinned in let c = many (is_pin n) (λ x o. refl) in let d = ap (pins n) rows in absurd (omega arith);
    not_all = tt;
  });
  few = λ some. omega (arith, ap length rows);
}

-- nothing has gone of a whole world, nor of the one with other loads and workers
abbrev pub begun-less : (t : Tables) (loads : ℕ → Option OpenLoad) (workers : ℕ → Bool) (storage : StorageView) (lists : Bool) → IsWhole t → lists
    ≡ not storage.closed
    → ReleasedSoFar (core_of t storage) (record (core_of t storage) { loads = loads; workers = workers }) nobody lists
    (record t.ref_counts { listing_error = None })
begun-less t loads workers storage lists w e =
    begun (core_of t storage) (record (core_of t storage) { loads = loads; workers = workers }) lists (record t.ref_counts { listing_error = None })
    e (λ p own. refl) (unmixed t w) (λ q. omega (arith, w.core.owners_there.listed q)) refl refl refl w.core.handles.within.0
    (grind arith) (λ n. refl) refl

abbrev pub begun-whole : (t : Tables) (storage : StorageView) (lists : Bool) → IsWhole t → lists ≡ not storage.closed
    → ReleasedSoFar (core_of t storage) (core_of t storage) nobody lists (record t.ref_counts { listing_error = None })
begun-whole t storage lists w e = let c = core_of t storage in begun-less t c.loads c.workers storage lists w e

-- cells are listed exactly while the storage is open
pub opened-view : (s : StorageView) → s.closed ≡ false → s ≡ record s { closed = false }
opened-view s is = ap (λ c. record s { closed = c }) is

pub closed-is : {lists closed : Bool} → lists ≡ not closed → closed ≡ not lists
closed-is {lists} {closed} e = grind basics

-- ---- what is known of handles and cells once a handle has gone: what still counts, which handle is a last pin, and why an entry did not come. And the list gives up all that it owns

-- what is outside the one set is outside the other, or between them
cut : (f : HandleRow → Bool) (gone s : ℕ → Bool) (rows : List HandleRow) → times (λ h. f h && not (s h.number.0)) rows
    ≤ times (λ h. f h && not (gone h.number.0)) rows + times (λ h. gone h.number.0 && not (s h.number.0)) rows
cut f gone s rows = grind (basics, sum-most)

module _ {before w : Core} {given : ℕ → Bool} {lists : Bool} {t : RefCounts} (f : ReleasedSoFar before w given lists t) where
  pub counted : (p : HandleRow → Bool) → times p (rows_of t) ≡ times (λ h. p h && not (f.gone h.number.0)) w.rows + times p f.entries
  counted p = ap (times p) f.rows ∙ sum_by-append (λ h. one (p h)) (left_rows f.gone w.rows) f.entries
      ∙ ap (λ k. k + times p f.entries) (times-left p f.gone w.rows)

  -- what no new entry is, is in the tables no more often than at first
  pub no-more : (p : HandleRow → Bool) → ((h : HandleRow) → h.mode ≡ Mode.LooseUnpinned → h.owner ≡ Owner.List → p h ≡ false)
      → times p (rows_of t) ≤ times p w.rows
  no-more p none = grind (basics, sum_by-append, entries-none, times-left, sum_by-le-sum_by)

module _ {before w : Core} {given : ℕ → Bool} {lists : Bool} {t : RefCounts} (f : ReleasedSoFar before w given lists t) (s : ℕ → Bool)
    (within : IsWithin w.rows f.gone s) where
  -- no handle outside the set is left that the value owned
  pub forced : (final : List HandleRow) (n : ℕ) → (held n (rows_of t) ≡ 0 → held n final ≡ 0)
      → HasFallen (counts_at t.nodes) (rows_of t) n
      → IsClosed w.rows (is_keyed w) final s
      → times (λ h. is_owned_by (owner_value n) h && is_outside s h) (rows_of t) ≡ 0
  forced final n bare down closed =
      let none = closed n (grind (
        basics,
        pins-le-held,
        cases_Bool (is_keyed w n),
        counted f (is_pin n),
        cut (is_pin n) f.gone s w.rows,
        counted f (is_at n),
        cut (is_at n) f.gone s w.rows,
        f.cells n,
      )) in
      let a = counted f (λ h. is_owned_by (owner_value n) h && is_outside s h) in
      let b = entries-none (λ h. is_owned_by (owner_value n) h && is_outside s h) (λ h mode owner. grind (basics, pins-le-held)) _
      _ f.new in
      omega (
        arith,
        sum_by-le-sum_by (λ h. one ((is_owned_by (owner_value n) h && is_outside s h) && not (f.gone h.number.0)))
            (λ h. one (is_owned_by (owner_value n) h && is_outside s h))
            w.rows (λ h. grind (basics, pins-le-held)),
      )

-- what a listing handle is: the last pin of a cell without a key
pub listing-is : (c : Counts) (m : Mode) → is_last_pin_without_key c m ≡ true → (is_pinning m ≡ true) × (is_shared m ≡ false) × (c.pins ≡ 1)
    × (nat_lt 0 c.key ≡ false)
listing-is c m e = grind basics

pub which : (listed wanted : Bool) → ((listed ≡ true) ⊎ (wanted ≡ false)) ⊎ ((listed ≡ false) × (wanted ≡ true))
which listed wanted = grind basics

pub no-entries : (es : List HandleRow) → ((n : ℕ) → 0 < held n es → ⊥) → es ≡ []
no-entries [] none = refl
no-entries (h ∷ hs) none = absurd (none h.node.0 (grind (basics, sum_by-cons (λ x. one (is_at h.node.0 x)) h hs)))

-- where nothing of a list is kept, one handle less keeps nothing
none-kept : (gone : ℕ → Bool) (q : ℕ) (list : List HandleNumber) → filter (λ (h : HandleNumber). not (gone h.0)) list ≡ []
    → filter (λ (h : HandleNumber). not (and_one gone q h.0)) list ≡ filter (λ (h : HandleNumber). not (gone h.0)) list
none-kept gone q [] none = refl
none-kept gone q (x ∷ xs) none = grind (basics, none-kept gone q xs)

module _ {before w : Core} {given : ℕ → Bool} {lists : Bool} {t : RefCounts} (f : ReleasedSoFar before w given lists t) (shut : lists ≡ false) where
  pub none-came : f.entries ≡ []
  none-came = no-entries _ (λ n some. let a = closed-is f.begins.open_storage ∙ ap not shut in
      let b = (f.only n some).0.stands_open in absurd (cc))

  -- a handle goes apart from a list that has no entry
  pub entry-apart : (q : ℕ) → t.list.items ≡ [] → IsApart before w given lists t f q
  entry-apart q empty =
      let list = f.list ∙ ap (λ es. filter (λ h. not (f.gone h.0)) w.list ++ map (λ h. h.number) es) none-came ∙ append-nil _ in
      record { unentered = ap (times (is_handle q)) none-came; kept = none-kept f.gone q w.list (sym list ∙ empty) }

pub owned-listed : {w : Core} → pager.IsWhole w → (q : ℕ) → is_owned_in w Owner.List q ≡ is_listed w q
owned-listed {w} whole q =
    let its = λ (h : HandleRow) (there : Among w.rows h). only-at (λ y. one (of_list q y)) _ h whole.handles.ordered there in
    grind (basics, sum_by-le-sum_by, none-found q w.rows, found-among q w.rows, whole.owners_there.listed q)

-- ---- a node gets a key: handles and nodes fit again, and nothing else has gone or come so far

module _ {at at' : ℕ → Option Counts} {refs refs' : ℕ → List ArcRef} {rows : List HandleRow} {top : ℕ} (n : ℕ) (c : Counts) (key : ℕ)
    (fits : Fits at refs rows top [] owns_nothing)
    (is : at n ≡ Some c) (some : 0 < key)
    (here : at' n ≡ Some (keyed c key top)) (others : (m : ℕ) → m ≢ n → at' m ≡ at m) (same : (m : ℕ) → refs' m ≡ refs m) where
  pub key-fits : (b : Bool) → (c.pins == 0) ≡ b → Fits at' refs' rows (if b then n else top) (if b then n ∷ [] else []) owns_nothing
  key-fits b e =
      let right : (m : ℕ) → Right (at' m) (refs' m) = λ m. grind (basics, cases_eq m n, fits.marked, fits.right) in
      grind (basics, cases_eq, named, right, not-zero at n c fits.from_one is)

module _ (T : Tables) (storage : StorageView) (lists : Bool) (whole : IsWhole T) (opened : lists ≡ not storage.closed) (node : NodeNumber) (key : ℕ)
    (new : RefCounts) where
  abbrev old : Core
  old = core_of T storage

  pub keyed-on : new ≡ record T.ref_counts { listing_error = None; nodes = new.nodes; top = new.top }
      → GetsKey (counts_at T.ref_counts.nodes) (counts_at new.nodes) node.0 key
      → ReleasedSoFar old (with_key old node key) nobody lists new
  keyed-on same cells = rw same
      (begun old (with_key old node key) lists (record T.ref_counts { listing_error = None; nodes = new.nodes; top = new.top }) opened (λ p own. refl)
      (unmixed T whole)
      (λ q. omega (arith, whole.core.owners_there.listed q)) refl refl refl whole.core.handles.within.0
      (grind arith) cells refl)
