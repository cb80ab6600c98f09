-- When no node is dying any more, exactly the handles that had to be removed are, and the values of the finished nodes are dropped.
use Rattle.pagable_pager_spec.proofs.Elements.{at-most-sum, sum-none}
use Rattle.pagable_tables.proofs.{
  CascadeStep.{closed-is, counted, forced, listing-is, no-more, which},
  Counting.{and_one, entries-more, entries-none, gives-sums, kept-more, left-more, left-none, none-entered, none-listed, of_list, one-le, ones, sum-most},
  Counting.with-entry,
  HandleTable.found-append,
  SameViews.same-cache,
  Words.{Alike, AreNewEntries, Begins, Bool, CantList, Cell, Core, Counts, DropsValues, Error, Falls, HandleNumber, HandleRow, HasFallen, HasPlaces, IsApart},
  Words.{IsClosed, IsLeast, IsListRefusal, IsSoundInCascade, IsWithin, List, LoadNumber, MustList, NodeNumber, NodeRow, None, NumberTable, Option, Owner},
  Words.{RefCounts, ReleasedSoFar, ReleasesWithoutCascade, Result, Some, Steps, TellsListing, ValueStays, and_parts, ap, append-nil, append_assoc, arith},
  Words.{basics, cases_Bool, cases_eq, cell_in, counts_at, entries_of, entry, fallen, falls_in, false, filter, filter-append, find_row, has_value, held},
  Words.{if◌then◌else◌, inl, inr, is_at, is_handle, is_keyed, is_last_pin_without_key, is_owned_by, is_owned_in, is_owner, is_pin, is_plain_pin, is_share},
  Words.{is_shared, is_some, is_value_owner, left_rows, length, length-append, live, map-append, not, one, or_else, owner_value, owns, owns_nothing, passes_in},
  Words.{pins, pins_in, refl, result_of_listing, rows_of, sum_by, sum_by-cons, sum_by-le-sum_by, sym, times, true, valued, with_tables, ℕ, [], ◌&&◌, ◌++◌, ◌+◌},
  Words.{◌<◌, ◌==◌, ◌||◌, ◌∙◌, ◌∷◌, ◌≡◌, ◌≢◌, ◌≤◌, ◌⊎◌},
}

pub none-falls-in : (t : RefCounts) → IsSoundInCascade t [] owns_nothing → (n : ℕ) → falls_in (counts_at t.nodes n) ≡ false
none-falls-in t w n = grind (basics, w.fits.marked n)

none-owned : (n : ℕ) (rows : List HandleRow) → ((q : ℕ) → sum_by (λ h. owns h n q) rows ≡ 0) → times (is_owned_by (owner_value n)) rows ≡ 0
none-owned n rows none = sum-none (λ h. one (is_owned_by (owner_value n) h)) rows
    (λ h among. grind (basics, none h.number.0, at-most-sum (λ x. owns x n h.number.0) rows h among))

module _ {before w : Core} {given : ℕ → Bool} {lists : Bool} {t : RefCounts} (f : ReleasedSoFar before w given lists t)
    (whole : IsSoundInCascade t [] owns_nothing) where
  pub closed : IsClosed w.rows (is_keyed w) f.entries f.gone
  closed n lost =
      let fell : HasFallen (counts_at t.nodes) (rows_of t) n =
      grind (basics, entries-none, cases_Bool (is_keyed w n), counted f (is_pin n), counted f (is_at n)) in
      omega (
        arith,
        counted f (is_owned_by (owner_value n)),
        none-owned n (rows_of t)
            (λ q. grind (basics, entries-none, whole.fits)),
      )

  -- what the world says of a cascade
  pub ended : Falls before w given (result_of_listing t.listing_error) (with_tables w t)
  ended =
      let set : IsLeast w.rows (is_keyed w) f.entries given f.gone =
      record { holds = f.holds; closed = closed; least = λ s has is. f.least s f.entries (λ n none. omega (arith, counted f (is_at n))) has is } in
      let leaves : Alike (fallen w f.gone f.entries) (with_tables w t) = grind (basics, none-falls-in, same-cache, live, fallen) in
      grind (basics, leaves)

pub valued-le : (rows : List HandleRow) → valued rows ≤ length rows
valued-le rows = omega
    (arith, ones rows, sum_by-le-sum_by (λ h. one (is_value_owner h.owner)) (λ h. 1) rows (λ h. one-le (is_value_owner h.owner)))

pub none-falls : (t : RefCounts) (stack : List ℕ) → IsSoundInCascade t stack owns_nothing → t.top ≡ 0 → IsSoundInCascade t [] owns_nothing
none-falls t [] w z = w
none-falls t (n ∷ ns) w z = absurd (let m = w.fits.marked n in grind (basics, sum_by-cons (λ m. one (m == n)) n ns, w.fits.chain.0, w.fits.from_one))

-- the value that a node had is there or gone, and it is there exactly where the node has it, unless the node falls
abbrev pub Lasting : {X : Type 0} → Option Counts → Option X → Option X → Type 0
Lasting o old now = ((now ≡ old) ⊎ (now ≡ None)) × (falls_in o ≡ false → is_some now ≡ has_value o)

pub lasts-on : {X : Type 0} (done : Bool) (o o' : Option Counts) (old now now' : Option X) → now' ≡ (if done then None else now)
    → (done ≡ false → ValueStays o o')
    → (done ≡ true → has_value o' ≡ false) → Lasting o old now → Lasting o' old now'
lasts-on done o o' old now now' is stays gone l = grind basics

module _ {X : Type 0} where
  pub drops-still : (t : RefCounts) (values : ℕ → Option X) → IsSoundInCascade t [] owns_nothing
      → DropsValues (counts_at t.nodes) values (counts_at t.nodes) values
  drops-still t values w = record { left = λ kept n. (inl refl, kept n (none-falls-in t w n)) }

  pub drops-then : {at at1 at2 : ℕ → Option Counts} {old mid new : ℕ → Option X} → DropsValues at old at1 mid → DropsValues at1 mid at2 new
      → DropsValues at old at2 new
  drops-then {old = old} {mid} {new} a b = grind basics

  -- what takes no value comes first
  pub stays-first : {at at1 at2 : ℕ → Option Counts} {old new : ℕ → Option X} → ((n : ℕ) → ValueStays (at n) (at1 n)) → DropsValues at1 old at2 new
      → DropsValues at old at2 new
  stays-first stays b = record { left = λ kept. b.left (λ k falls. let s = stays k falls in kept k s.0 ∙ sym s.1) }

pub ruleset falls = (basics, valued-le, none-falls-in, none-falls)

pub ruleset dropping = (basics, drops-then)

-- ---- what has gone so far, after one step of a cascade, and after a handle that is given; which cells must be listed then, and what is told of it

list-kept : (gone : ℕ → Bool) (q : ℕ) (rows : List HandleRow) (list : List HandleNumber) → times (λ (h : HandleNumber). h.0 == q) list ≤ times (of_list q) rows
    → times (λ h. of_list q h && not (gone h.number.0)) rows ≡ 0
    → filter (λ (h : HandleNumber). not (and_one gone q h.0)) list ≡ filter (λ (h : HandleNumber). not (gone h.0)) list
list-kept gone q rows list listed none = grind (basics, sum_by-le-sum_by, kept-more)

-- a handle that the list doesn't own may go apart from it
unlisted-apart : {before w : Core} {given : ℕ → Bool} {lists : Bool} {t new : RefCounts} {nodes : NumberTable NodeRow} {stack : List ℕ} {x : HandleRow}
    (f : ReleasedSoFar before w given lists t)
    → ReleasesWithoutCascade (record t { nodes = nodes }) stack x false lists new → is_owned_by Owner.List x ≡ false
    → IsApart before w given lists t f x.number.0
unlisted-apart {w = w} {t = t} {x = x} f g owner =
    let none = none-listed g.leaves owner in
    record {
      unentered = none-entered x.number.0 w.last.handle (rows_of t) (left_rows f.gone w.rows) f.entries f.rows f.new none;
      kept = list-kept f.gone x.number.0 w.rows w.list (f.begins.listed x.number.0) (omega (arith, counted f (of_list x.number.0)));
    }

pub gives-fewer : {old new : RefCounts} {stack : List ℕ} {x : HandleRow} {lists : Bool} → ReleasesWithoutCascade old stack x false lists new
    → length (rows_of new) ≤ length (rows_of old)
gives-fewer {old} {new} g = omega (arith, gives-sums g (λ h. 1), ones (rows_of old), ones (rows_of new), one-le g.listed)

-- the same is asked and told where other rows are as many, and other cells are left
must-as : {before w w' : Core} {n : ℕ} (rows : List HandleRow) (cells : ℕ → Option Cell) → MustList before w w' n
    → MustList before (record w { rows = rows }) (record w' { cells = cells }) n
must-as rows cells m = record { pinned = m.pinned; unpinned = m.unpinned; unkeyed = m.unkeyed; unshared = m.unshared; stands_open = m.stands_open }

tells-as : {before w w' : Core} {entries : List HandleRow} (rows : List HandleRow) (cells : ℕ → Option Cell) → length rows ≡ length w.rows
    → (r : Result (Unit {0}) Error)
    → TellsListing before w entries r w' → TellsListing before (record w { rows = rows }) entries r (record w' { cells = cells })
tells-as rows cells long x4 tells = grind (basics, must-as)

-- A handle has gone, or it stays without its pin; then an entry may have come.
module _ {before w : Core} {given : ℕ → Bool} {lists stays : Bool} {t new : RefCounts} {nodes : NumberTable NodeRow} {stack : List ℕ} {x : HandleRow}
    (f : ReleasedSoFar before w given lists t)
    (g : ReleasesWithoutCascade (record t { nodes = nodes }) stack x stays lists new) (counts : (n : ℕ) → counts_at nodes n ≡ counts_at t.nodes n)
    (pinned : (n : ℕ) → pins_in (counts_at t.nodes n) ≡ pins n (rows_of t)) (few : length (rows_of t) ≤ length w.rows) where
  abbrev entries : List HandleRow
  entries = f.entries ++ entries_of g.listed (t.last_handle + 1) x.node

  is : counts_at t.nodes x.node.0 ≡ Some g.counts
  is = sym (counts x.node.0) ∙ g.is

  left : (n : ℕ) → pins n (rows_of new) + one (is_pin n x) ≡ pins n (rows_of t)
  left n = grind (basics, gives-sums g (λ h. one (is_pin n h)))

  here : (p : HandleRow → Bool) → one (p x) ≤ times p (rows_of t)
  here p = g.leaves.there (λ h. one (p h))

  last : new.last_handle ≡ t.last_handle + one g.listed
  last = omega (arith, ap (λ h. h.last_handle) g.same)

  added : new.list.items ≡ t.list.items ++ (if g.listed then record { 0 = t.last_handle + 1 } ∷ [] else [])
  added = ap (λ h. h.list.items) g.same ∙ g.comes.comes.list

  abbrev wanted : Bool
  wanted = lists && is_last_pin_without_key g.counts x.mode

  one-pin : wanted ≡ true → pins x.node.0 (rows_of t) ≡ 1
  one-pin want = sym (pinned x.node.0) ∙ ap pins_in is ∙ (listing-is g.counts _ (and_parts lists (is_last_pin_without_key g.counts x.mode) want).1).2

  none-held : wanted ≡ true → held x.node.0 f.entries ≡ 0
  none-held want = grind (basics, one-pin)

  -- the last pin of a cell without a key has gone
  new-must : wanted ≡ true → MustList before w (with_tables w new) x.node.0
  new-must want =
      let l = listing-is g.counts x.mode (and_parts lists (is_last_pin_without_key g.counts x.mode) want).1 in
      let n = x.node.0 in
      let pinned = no-more f (is_pin n) (λ h mode owner. grind basics) in
      grind (
        basics,
        closed-is,
        one-pin want,
        left n,
        f.begins.fewer n,
        here (is_plain_pin n),
        f.begins.uniform n,
        no-more f (is_plain_pin n) (λ h mode owner. grind basics),
      )

  -- a cell must be listed: its last pin had gone before, or it has gone now
  must-before : (n : ℕ) → MustList before w (with_tables w new) n → MustList before w (with_tables w t) n ⊎ ((n ≡ x.node.0) × (wanted ≡ true))
  must-before n must =
      grind (
        basics,
        cases_Bool (is_pin n x),
        here (is_share n),
        left n,
        must.unshared,
        must.unpinned,
        is,
        no-more f (is_share n) (λ h mode owner. grind (basics, ap is_shared mode)),
      )

  must-kept : (n : ℕ) → MustList before w (with_tables w t) n → MustList before w (with_tables w new) n
  must-kept n m = let a = left n in let b = m.unpinned in record {
    pinned = m.pinned;
    unpinned = omega arith;
    unkeyed = m.unkeyed;
    unshared = m.unshared;
    stands_open = m.stands_open;
  }

  held-more : (n : ℕ) → held n entries ≡ held n f.entries + (if g.listed then one (is_at n (entry (t.last_handle + 1) x.node)) else 0)
  held-more n = with-entry (λ h. one (is_at n h)) f.entries g.listed (t.last_handle + 1) x.node

  -- the new entry is of no cell that nothing pinned
  other : (n : ℕ) → pins n (rows_of t) ≡ 0 → (if g.listed then one (is_at n (entry (t.last_handle + 1) x.node)) else 0) ≡ 0
  other n z = grind (basics, one-pin, g.comes.only)

  only-more : (n : ℕ) → 0 < held n entries → MustList before w (with_tables w new) n × (held n entries ≡ 1)
  only-more n some = grind (basics, held-more, new-must, must-kept, none-held)

  told : TellsListing before w entries (result_of_listing new.listing_error) (with_tables w new)
  told = by t.listing_error refl f.tells
    where
      kept : (u : Option Error) → t.listing_error ≡ u → (g.listed ≡ true) ⊎ (wanted ≡ false) → new.listing_error ≡ u
      kept u is s = ap (λ h. h.listing_error) g.same ∙ g.comes.told s ∙ is

      late : (u : Option Error) → t.listing_error ≡ u → g.listed ≡ false → wanted ≡ true → (e : Error)
          × CantList (record t { handles = g.left; nodes = nodes }) e
          × (new.listing_error ≡ or_else u (Some e))
      late u is none want = let y = g.comes.why none want in (
        y.0,
        y.1,
        ap (λ h. h.listing_error) g.same ∙ y.2
            ∙ ap (λ u. or_else u (Some y.0)) is,
      )

      by : (u : Option Error) → t.listing_error ≡ u → TellsListing before w f.entries (result_of_listing u) (with_tables w t)
          → TellsListing before w entries (result_of_listing new.listing_error) (with_tables w new)
      by (Some e) is tells =
          let a = tells.not_all in
          let so : new.listing_error ≡ Some e = elim (which _ _) [ inl s ↦ kept (Some e) is s | inr n ↦ (late (Some e) is n.0 n.1).2 ] in
          rw so (record {
            all = tt;
            not_all = (
              a.0,
              must-kept a.0 a.1,
              omega (arith, held-more a.0, other a.0 a.1.unpinned),
              grind (basics, a.3, last, added, length-append),
            );
          })
      by None is tells = elim (which _ _) [
        | inl s ↦ rw (kept None is s) (record {
          all = λ n must. grind (basics, tells.all n, held-more, must-before, other, cases_Bool g.listed, entry, none-held);
          not_all = tt;
        })
        | inr (none, want) ↦
            let y = late None is none want in
            let l = ap (λ b. if b then one (is_at x.node.0 (entry (t.last_handle + 1) x.node)) else 0) none in
            let fewer : length (live g.left.places.items) ≤ length w.rows =
            omega (arith, g.leaves.sums (λ h. 1), ones (live g.left.places.items), ones (rows_of t), one-le stays) in
            let why : IsListRefusal w (with_tables w new) y.0 = grind (basics, last, added, length-append, fewer, y.1) in
            rw y.2 (record { all = tt; not_all = (x.node.0, new-must want, omega (arith, held-more x.node.0, none-held want), why) })
      ]

  pub entered-on : (rows : List HandleRow) → length rows ≡ length w.rows → (given' gone : ℕ → Bool) → Begins before (record w { rows = rows }) lists
      → live g.left.places.items ≡ left_rows gone rows ++ f.entries
      → filter (λ (q : HandleNumber). not (gone q.0)) w.list ≡ filter (λ (q : HandleNumber). not (f.gone q.0)) w.list → IsWithin rows given' gone
      → ((s : ℕ → Bool) (final : List HandleRow) → ((n : ℕ) → held n (rows_of new) ≡ 0 → held n final ≡ 0) → IsWithin rows given' s
      → IsClosed rows (is_keyed w) final s → IsWithin rows gone s)
      → (new.top ≢ 0 → length (rows_of new) ≤ length rows) → ReleasedSoFar before (record w { rows = rows }) given' lists new
  entered-on rows long given' gone begins rest kept holds least few' = record {
    begins = begins;
    gone = gone;
    entries = entries;
    rows = ap rows_of g.same ∙ g.comes.comes.rows ∙ ap (λ r. r ++ entries_of g.listed (t.last_handle + 1) x.node) rest
        ∙ append_assoc (left_rows gone rows) f.entries (entries_of g.listed (t.last_handle + 1) x.node);
    list = grind (basics, map-append, added, append_assoc);
    last = grind (basics, last, length-append);
    within = grind (basics, last, g.comes.comes.left, f.within);
    places = let p : HasPlaces t new = grind basics in grind (arith, f.places);
    cells = λ n there. let s = g.cells n there in s.1 ∙ ap cell_in (counts n) ∙ f.cells n (sym (ap is_some (counts n)) ∙ s.0);
    holds = holds;
    least = least;
    new = grind (basics, entries-more, append-nil, f.last, f.new);
    only = λ n some. let o = only-more n some in (must-as _ (λ n. cell_in (counts_at new.nodes n)) o.0, o.1);
    tells = tells-as _ (λ n. cell_in (counts_at new.nodes n)) long _ told;
    few = few';
  }

module _ {before w : Core} {given : ℕ → Bool} {lists : Bool} {t new : RefCounts} {nodes : NumberTable NodeRow} {stack : List ℕ} {x : HandleRow}
    (given' : ℕ → Bool) (f : ReleasedSoFar before w given lists t)
    (g : ReleasesWithoutCascade (record t { nodes = nodes }) stack x false lists new) (counts : (n : ℕ) → counts_at nodes n ≡ counts_at t.nodes n)
    (pinned : (n : ℕ) → pins_in (counts_at t.nodes n) ≡ pins n (rows_of t)) (few : length (rows_of t) ≤ length w.rows)
    (apart : IsApart before w given lists t f x.number.0) where
  one-goes : IsWithin w.rows given' (and_one f.gone x.number.0) → ((s : ℕ → Bool) (final : List HandleRow)
      → ((n : ℕ) → held n (rows_of new) ≡ 0 → held n final ≡ 0) → IsWithin w.rows given' s → IsClosed w.rows (is_keyed w) final s
      → IsWithin w.rows (and_one f.gone x.number.0) s) → ReleasedSoFar before w given' lists new
  one-goes holds least = entered-on f g counts pinned few _ refl _ _ f.begins
      (grind (
        basics,
        filter-append,
        left-more f.gone x.number.0 w.rows,
        left-none x.number.0 f.entries,
        g.leaves.becomes.rows,
        f.rows,
        apart.unentered,
      )) apart.kept holds least
      (λ falls. omega (arith, gives-fewer g))

none-comes : {old new : RefCounts} {stack : List ℕ} {x : HandleRow} {lists : Bool} → ReleasesWithoutCascade old stack x false lists new → (m : ℕ)
    → held m (rows_of old) ≡ 0
    → held m (rows_of new) ≡ 0
none-comes g m none = grind (basics, gives-sums g (λ h. one (is_at m h)))

with-one : (gone s : ℕ → Bool) (q : ℕ) (rows : List HandleRow) → s q ≡ true → IsWithin rows gone s → IsWithin rows (and_one gone q) s
with-one gone s q rows is within = grind basics

-- the least set, over the whole step
least-more : {before w : Core} {given : ℕ → Bool} {lists : Bool} {t new : RefCounts} {nodes : NumberTable NodeRow} {stack : List ℕ} {x : HandleRow} {n : ℕ}
    (f : ReleasedSoFar before w given lists t)
    → ReleasesWithoutCascade (record t { nodes = nodes }) stack x false lists new → x.owner ≡ owner_value n
    → HasFallen (counts_at t.nodes) (rows_of t) n
    → (s : ℕ → Bool) (final : List HandleRow) → ((m : ℕ) → held m (rows_of new) ≡ 0 → held m final ≡ 0) → IsWithin w.rows given s
    → IsClosed w.rows (is_keyed w) final s → IsWithin w.rows (and_one f.gone x.number.0) s
least-more {w = w} {t = t} {x = x} {n} f g owner fell s final bare has closed =
    let bare-before : (m : ℕ) → held m (rows_of t) ≡ 0 → held m final ≡ 0 = λ m none. bare m (none-comes g m none) in
    let rest = f.least s final bare-before has closed in
    let none = forced f s rest final n (bare-before n) fell closed in
    with-one f.gone s x.number.0 w.rows (let own : is_owned_by (owner_value n) x ≡ (n == n) = ap (λ o. is_owner (owner_value n) o) owner in
    grind basics) rest

-- one handle more on both sides, or on the right
pub within-less : (a b c d : ℕ → Bool) (rows : List HandleRow) → ((r : ℕ) → one (a r && not (b r)) ≤ one (c r && not (d r))) → IsWithin rows c d
    → IsWithin rows a b
within-less a b c d rows less is = grind (basics, sum_by-le-sum_by)

pub steps-on : {before w : Core} {given : ℕ → Bool} {lists : Bool} {t new : RefCounts} {stack : List ℕ} {r : Option NodeNumber}
    → ReleasedSoFar before w given lists t
    → IsSoundInCascade t stack owns_nothing → t.top ≢ 0 → Steps t stack lists r new → ReleasedSoFar before w given lists new
steps-on {before} {w} {given} {lists} {t} {new} f falling some s = elim s.what [
  | inl done ↦ let stay = s.cells in rw done.1 (grind (basics, tells-as, must-as))
  | inr (x, n, is, by) ↦
      let g : ReleasesWithoutCascade (record t { nodes = by.popped.nodes }) by.stack x false lists new =
      rw by.same at by.gives in
      one-goes given f g by.counts falling.fits.pinned (f.few some) (unlisted-apart f g (ap (is_owner Owner.List) by.owner))
      (within-less given (and_one f.gone x.number.0) given f.gone w.rows (λ r. grind basics) f.holds) (least-more f g by.owner by.fallen)
]

-- a handle is given that the list doesn't own, or one apart from the list
pub gives-on : {before w : Core} {given : ℕ → Bool} {lists : Bool} {t new : RefCounts} {stack : List ℕ} {x : HandleRow}
    → (f : ReleasedSoFar before w given lists t)
    → ((n : ℕ) → pins_in (counts_at t.nodes n) ≡ pins n (rows_of t)) → (is_owned_by Owner.List x ≡ false)
    ⊎ IsApart before w given lists t f x.number.0
    → length (rows_of t) ≤ length w.rows → ReleasesWithoutCascade t stack x false lists new
    → ReleasedSoFar before w (and_one given x.number.0) lists new
gives-on {w = w} {given} {t = t} {x = x} f pinned free few g =
    one-goes {nodes = t.nodes} (and_one given x.number.0) f g (λ n. refl) pinned few
    (elim free [ inl other ↦ unlisted-apart {nodes = t.nodes} f g other | inr apart ↦ apart ])
    (within-less (and_one given x.number.0) (and_one f.gone x.number.0) given f.gone w.rows (λ r. grind basics) f.holds)
    (λ s final bare has closed.
    let rest = f.least s final (λ n none. bare n (none-comes g n none)) (within-less given s (and_one given x.number.0) s w.rows
    (λ r. grind basics) has) closed in
    grind (basics, sum-most, has, rest))

pub gives-unlisted : {t new : RefCounts} {stack : List ℕ} {x : HandleRow} {lists : Bool} → lists ≡ false → ReleasesWithoutCascade t stack x false lists new
    → new.list.items
    ≡ t.list.items
gives-unlisted {t} {new} shut g = grind (basics, append-nil)

-- ---- what was given is told by another set. Handles of a load that are left are those that it had and that haven't gone

-- a set that has what was given, and no more but what has gone
pub regiven : {before w : Core} {given given' : ℕ → Bool} {lists : Bool} {t : RefCounts} (f : ReleasedSoFar before w given lists t)
    → ((r : ℕ) → given' r ≡ true → (given r || f.gone r) ≡ true) → ((r : ℕ) → given r ≡ true → given' r ≡ true) → ReleasedSoFar before w given' lists t
regiven {w = w} {given} {given'} {t = t} f less more =
    let least : (s : ℕ → Bool) (final : List HandleRow) → ((n : ℕ) → held n (rows_of t) ≡ 0 → held n final ≡ 0) → IsWithin w.rows given' s
    → IsClosed w.rows (is_keyed w) final s → IsWithin w.rows f.gone s =
    λ s final bare has closed. f.least s final bare (within-less given s given' s w.rows (λ r. grind (basics, within-less, more r)) has)
    closed in
    grind (basics, within-less)

-- whether this one owns the handle of this number
abbrev pub owned : Owner → ℕ → List HandleRow → Bool
owned o q rows = passes_in (is_owned_by o) rows q

pub unlisting : (o : Owner) → is_owner o Owner.List ≡ false → (h : HandleRow) → h.owner ≡ Owner.List → is_owned_by o h ≡ false
unlisting o other h is = ap (is_owner o) is ∙ other

module _ (test : HandleRow → Bool) (q : ℕ) where
  pub passes-here : (x : HandleRow) (xs : List HandleRow) → passes_in test (x ∷ xs) q ≡ (if is_handle q x then test x else passes_in test xs q)
  unfolding find_row
  passes-here x xs = grind basics

  pub passes-none : passes_in test [] q ≡ false
  unfolding find_row
  passes-none = refl

  pub no-entry : ((h : HandleRow) → h.owner ≡ Owner.List → test h ≡ false) → (last : ℕ) (entries : List HandleRow) → AreNewEntries last entries
      → passes_in test entries q ≡ false
  no-entry none last [] new = passes-none
  no-entry none last (x ∷ xs) new = grind (basics, passes-none, passes-here, no-entry none (last + 1) xs new.3)

  pub found-left : (gone : ℕ → Bool) (rows : List HandleRow) → passes_in test (left_rows gone rows) q ≡ (not (gone q) && passes_in test rows q)
  found-left gone [] = grind (basics, passes-none)
  found-left gone (x ∷ xs) = grind (basics, passes-here, found-left gone xs)

  pub found-first : (rows more : List HandleRow) → passes_in test more q ≡ false → passes_in test (rows ++ more) q ≡ passes_in test rows q
  found-first rows more none = grind (basics, found-append q rows more)

  pub passes-left : (gone : ℕ → Bool) (entries rows : List HandleRow) → passes_in test entries q ≡ false → passes_in test (left_rows gone rows ++ entries) q
      ≡ (not (gone q) && passes_in test rows q)
  passes-left gone entries rows none = found-first (left_rows gone rows) entries none ∙ found-left gone rows

-- of what passes and isn't an entry, what hasn't gone is there
pub passes-so-far : {before w : Core} {given : ℕ → Bool} {lists : Bool} {t : RefCounts} (f : ReleasedSoFar before w given lists t) (test : HandleRow → Bool)
    → ((h : HandleRow) → h.owner ≡ Owner.List → test h ≡ false) → (q : ℕ)
    → passes_in test (rows_of t) q ≡ (not (f.gone q) && passes_in test w.rows q)
passes-so-far {w = w} f test none q = ap (λ rows. passes_in test rows q) f.rows
    ∙ passes-left test q f.gone _ w.rows (no-entry test q none _ _ f.new)

-- what was given and this handle, if the load owned it
abbrev pub and_owned : Core → LoadNumber → (ℕ → Bool) → ℕ → ℕ → Bool
and_owned w l given n q = given q || (q == n && is_owned_in w (Owner.Load l) q)

pub given-none : {before w : Core} {given : ℕ → Bool} {lists : Bool} {t : RefCounts} (l : LoadNumber) (n : ℕ) → ReleasedSoFar before w given lists t
    → owned (Owner.Load l) n (rows_of t) ≡ false → ReleasedSoFar before w (and_owned w l given n) lists t
given-none l n f none =
    let left = passes-so-far f (is_owned_by (Owner.Load l)) (unlisting (Owner.Load l) refl) n in
    regiven f (λ r e. grind (basics, cases_eq r n)) (λ r e. grind basics)

pub given-one : {before w : Core} {given : ℕ → Bool} {lists : Bool} {t new : RefCounts} (l : LoadNumber) (n : ℕ) → ReleasedSoFar before w given lists t
    → owned (Owner.Load l) n (rows_of t) ≡ true → ReleasedSoFar before w (and_one given n) lists new
    → ReleasedSoFar before w (and_owned w l given n) lists new
given-one {w = w} l n f some g =
    let mine : is_owned_in w (Owner.Load l) n ≡ true =
    (and_parts (not (f.gone n)) _ (sym (passes-so-far f (is_owned_by (Owner.Load l)) (unlisting (Owner.Load l) refl) n) ∙ some)).1 in
    regiven g (λ r e. grind basics) (λ r e. grind basics)
