-- A node is inserted, and its value becomes the owner of its references' handles; and a pinned node without a value gets one, with its references.
use Rattle.pagable_tables.proofs.{
  CallsKeepWhole.may-hold,
  CascadeEnd.{found-first, passes-here, passes-none},
  CascadeStep.{begun, held-here, is_owned, owned-by, owned-by-none, pin-here, turned, unmixed},
  Counting.{and-left, there-is},
  OwnedByLoad.{moved-times, no-load, not-named, owned-given, seen-before, stays-pinned, updated-by},
  RowCounts.{among-map, at-most-sum, found-among, once, only-at, ordered-map, sum-map, sum-none},
  SameViews.fault-by,
  Views.{moved-to-value, named-mine, named-own, named-unlisted, not-a-value, or-none, owned-mode, owned-moved},
  Words.{Alike, AllPairs, Among, ArcRef, Bool, Core, Counts, Ending, Error, Falls, Fits, HandleNumber, HandleRow, Installs, IsHandleBefore, IsReady, Last},
  Words.{List, LoadNumber, LoadRow, MayEnd, MayOwnLoad, Mode, NodeNumber, None, OnlyRoom, Option, Owner, Places, RefCounts, ReleasedSoFar, Result, Right, Some},
  Words.{Tables, ap, arith, basics, cases_eq, cell_in, changed, core_alone, core_of, counts_at, false, find_row, has_value, has_value_once_loaded},
  Words.{if◌then◌else◌, inl, inr, is_at, is_handle, is_in, is_named_by, is_owned_by, is_owned_in, is_pin, is_pinning, is_plain_pin, is_share, is_value_owner},
  Words.{length, live, load_at, load_in, map, moved, named, nobody, not, one, option_map, owner_value, owns_nothing, pins, reference_fault, references_fault},
  Words.{refl, row_of, rows_of, sharing, subst, sum_by, sum_by-cons, sum_by_push, sym, times, true, vec_capacity, with_handle, with_mode, with_pin},
  Words.{with_tables, without_load, ℕ, [], ◌&&◌, ◌++◌, ◌+◌, ◌<◌, ◌==◌, ◌∙◌, ◌∷◌, ◌≡◌, ◌≢◌, ◌≤◌, ◌⊎◌},
}
use Rattle.pagable_tables.specs.Core.{IsWhole, StorageView}
use Rattle.std.specs.VecDeque.{deque_capacity}

unseen : (w : Core) (me : Owner) (seen : List ℕ) (rs : List ArcRef) → references_fault w me seen rs ≡ None → (q : ℕ) → is_named_by rs q ≡ true → is_in seen q
    ≡ false
unfolding references_fault is_named_by is_in
unseen w me seen [] fit q is = absurd (cc)
unseen w me seen (r ∷ rs) fit q is = grind (basics, unseen w me (r.handle.0 ∷ seen) rs (or-none (reference_fault w me seen r) _ fit).1 q)

once-named : (w : Core) (me : Owner) (seen : List ℕ) (rs : List ArcRef) → references_fault w me seen rs ≡ None → (q : ℕ) → named q rs ≡ one (is_named_by rs q)
unfolding references_fault is_named_by is_in
once-named w me seen [] fit q = refl
once-named w me seen (r ∷ rs) fit q =
    let rest = (or-none _ _ fit).1 in
    grind (
      basics,
      sum_by-cons (λ x. one (x.handle.0 == q)) r rs,
      once-named w me (r.handle.0 ∷ seen) rs rest q,
      unseen w me (r.handle.0 ∷ seen) rs rest q,
    )

-- handles that are pinned and handles that move do so in any order
pub moved-turned : (s : ℕ → Bool) (o : Owner) (q : ℕ) (x : HandleRow) (rows : List HandleRow) → s x.number.0 ≡ false
    → moved s o (changed (is_handle q) turned rows ++ x ∷ []) ≡ changed (is_handle q) turned (moved s o rows) ++ x ∷ []
moved-turned s o q x [] spared = grind basics
moved-turned s o q x (y ∷ ys) spared = grind (basics, moved-turned s o q x ys spared)

pub turned-sum : (f : HandleRow → ℕ) (q : ℕ) (rows : List HandleRow) → ((x : HandleRow) → f (turned x) ≡ f x) → sum_by f (changed (is_handle q) turned rows)
    ≡ sum_by f rows
turned-sum f q rows same = grind (basics, sum-map)

module _ (w : Core) (me : Owner) (rs : List ArcRef) (ordered : AllPairs IsHandleBefore w.rows) (fit : references_fault w me [] rs ≡ None)
    (unvalued : is_value_owner me ≡ false) where
  module _ (n : ℕ) where
    abbrev to : HandleRow → HandleRow
    to h = if is_named_by rs h.number.0 then owned-by (owner_value n) h else h

    named-free : (h : HandleRow) → Among w.rows h → is_named_by rs h.number.0 ≡ true → is_value_owner h.owner ≡ false
    named-free h among is = ap is_value_owner (named-own w ordered me rs fit h among is) ∙ unvalued

    pub others-own : (m q : ℕ) → m ≢ n → sum_by (is_owned m q) (map to w.rows) ≡ sum_by (is_owned m q) w.rows
    others-own m q other = grind (basics, sum-map, owned-by, owned-by-none, named-free)

    abbrev both : ℕ → HandleRow → ℕ
    both q h = one (is_handle q h && is_named_by rs q)

    sum-both : (q : ℕ) (b : Bool) → is_named_by rs q ≡ b → sum_by (both q) w.rows ≡ one b
    sum-both q true is =
        let (row, live, own) = there-is (is_owned_by me) _ (named-mine w me [] rs fit q is) in
        let (there, number) = found-among q w.rows row live in
        grind (basics, only-at (both q) w.rows row ordered there (λ x other. grind basics))
    sum-both q false is = sum-none (both q) w.rows (λ h among. grind basics)

    pub own-own : (q : ℕ) → sum_by (is_owned n q) w.rows ≡ 0 → sum_by (is_owned n q) (map to w.rows) ≡ named q rs
    own-own q before =
        sum-map (is_owned n q) (both q) to _ (λ h among. grind (basics, at-most-sum (is_owned n q) w.rows h among))
        ∙ sum-both q (is_named_by rs q) refl ∙ sym (once-named w me [] rs fit q)

  module _ {at at' : ℕ → Option Counts} {refs refs' : ℕ → List ArcRef} {top : ℕ} (x : HandleRow) (c : Counts) (fits : Fits at refs w.rows top [] owns_nothing)
      (owner : x.owner ≡ me)
      (new : c ≡ record c { pins = one (is_pinning x.mode); holds = 1; is_dying = false; next = 0 })
      (bare : (c.key ≡ 0) ⊎ (rs ≡ []) ⊎ (is_pinning x.mode ≡ true))
      (real : 0 < x.node.0) (free : at x.node.0 ≡ None)
      (here : at' x.node.0 ≡ Some c) (others : (q : ℕ) → q ≢ x.node.0 → at' q ≡ at q) (refers : refs' x.node.0 ≡ rs)
      (same : (q : ℕ) → q ≢ x.node.0 → refs' q ≡ refs q) where
    abbrev n : ℕ
    n = x.node.0

    abbrev given-rows : List HandleRow
    given-rows = moved (is_named_by rs) (owner_value n) w.rows

    abbrev rows' : List HandleRow
    rows' = given-rows ++ x ∷ []

    owned-here : (q : ℕ) → named q (refs' n) + owns_nothing n q ≡ sum_by (is_owned n q) rows'
    owned-here q =
        let bare : refs n ≡ [] = subst (λ o. Right o (refs n)) free (fits.right n) in let none = ap (named q) bare in
        let before : sum_by (is_owned n q) w.rows ≡ 0 = omega arith in
        grind (basics, sum_by_push, own-own n q before, ap (named q) refers)

    pub born-fits : Fits at' refs' rows' top [] owns_nothing
    born-fits = record {
      pinned = λ m. grind (
        basics,
        cases_eq,
        pin-here,
        sum_by_push (λ h. one (is_pin m h)) given-rows x,
        moved-times (is_pin m) (is_named_by rs) (owner_value n) w.rows (λ h. refl),
      );
      holding = λ m. grind (
        basics,
        cases_eq,
        held-here,
        sum_by_push (λ h. one (is_at m h)) given-rows x,
        moved-times (is_at m) (is_named_by rs) (owner_value n) w.rows (λ h. refl),
      );
      owned = λ m q. let free = owned-by-none m q x (ap is_value_owner owner ∙ unvalued) in
          grind (basics, cases_eq, owned-here q, sum_by_push (is_owned m q) given-rows x, free, same m, others-own n m q);
      chain = fits.chain;
      marked = λ m. grind (basics, cases_eq, ap (λ d. d.is_dying) new);
      right = λ m. grind (basics, cases_eq m n, new, bare, fits.right m);
      from_one = others 0 (λ z. absurd (omega arith)) ∙ fits.from_one;
    }

  -- The world before the pins, and after them the tables; the handles are the value's then.
  module _ (n : ℕ) (none : (q : ℕ) → sum_by (is_owned n q) w.rows ≡ 0) (h : ℕ) (x : HandleRow) (free : is_value_owner x.owner ≡ false)
      (spared : is_named_by rs x.number.0 ≡ false)
      {at : ℕ → Option Counts} {refs refs' : ℕ → List ArcRef} {top : ℕ}
      (fits : Fits at refs (changed (is_handle h) turned w.rows ++ x ∷ []) top [] owns_nothing)
      (pinned : 0 < pins n (changed (is_handle h) turned w.rows ++ x ∷ [])) (refers : refs' n ≡ rs) (same : (q : ℕ) → q ≢ n → refs' q ≡ refs q) where
    abbrev before : List HandleRow
    before = changed (is_handle h) turned w.rows ++ x ∷ []

    abbrev joined-rows : List HandleRow
    joined-rows = moved (is_named_by rs) (owner_value n) before

    pub joined-fits : Fits at refs' joined-rows top [] owns_nothing
    joined-fits = record {
      pinned = λ m. fits.pinned m ∙ sym (moved-times (is_pin m) (is_named_by rs) (owner_value n) before (λ y. refl));
      holding = λ m. fits.holding m ∙ sym (moved-times (is_at m) (is_named_by rs) (owner_value n) before (λ y. refl));
      owned = λ m q.
          let was : sum_by (is_owned m q) before ≡ sum_by (is_owned m q) w.rows = grind (basics, sum_by_push, turned-sum, owned-by-none) in
          let is : sum_by (is_owned m q) joined-rows ≡ sum_by (is_owned m q) (moved (is_named_by rs) (owner_value n) w.rows) =
          grind (basics, moved-turned, sum_by_push, turned-sum, owned-by-none) in
          grind (basics, cases_eq, is, was, own-own n q (none q), others-own n m q);
      chain = fits.chain;
      marked = fits.marked;
      right = λ m. grind (basics, cases_eq);
      from_one = fits.from_one;
    }

-- ---- a load of a cell ends with a pin, and gives up what it still owns. The pin stays, so that cells are listed as of the world before

pub references-placed : (w : Core) (places : Places) (owner : Owner) (seen : List ℕ) (refs : List ArcRef)
    → references_fault (record w { places = places }) owner seen refs ≡ references_fault w owner seen refs
references-placed w places = fault-by w (record w { places = places })

pub ready-owner : {t : Tables} {me : Owner} {l : LoadNumber} {node_type : ℕ} {refs : List ArcRef} {e : Ending} → IsWhole t
    → IsReady (core_alone t) me l node_type refs e → MayOwnLoad (core_alone t) me
ready-owner {l = l} whole r = rw r.may.owned.own at (whole.core.loads.owned l.0 r.may.load r.may.owned.stands_open)

-- Of other nodes the same handles pin, and are Shared.
module _ (h : HandleNumber) (node : NodeNumber) (rows : List HandleRow) (of : (y : HandleRow) → Among rows y → is_handle h.0 y ≡ true → y.node ≡ node) (n : ℕ)
    (other : (node.0 == n) ≡ false) where
  other-same : (pins n (changed (is_handle h.0) turned rows) ≡ pins n rows) × (sharing n (changed (is_handle h.0) turned rows) ≡ sharing n rows)
  other-same = (grind (basics, sum-map, of), grind (basics, sum-map, of))

row-of : (rows : List HandleRow) → AllPairs IsHandleBefore rows → (row : HandleRow) → find_row row.number.0 rows ≡ Some row → (z : HandleRow) → Among rows z
    → is_handle row.number.0 z ≡ true
    → z.node ≡ row.node
row-of rows ordered row found z among is = grind (basics, once rows ordered z row among, found-among row.number.0 rows row found)

-- t1 is t with the pins; then the handles that the references name move to the node's value, and what the load still owns goes.
module _ (t t1 : Tables) (storage : StorageView) (lists : Bool) (was : IsWhole t) (whole : IsWhole t1) (e : lists ≡ not storage.closed) (row : HandleRow)
    (found : find_row row.number.0 (rows_of t.ref_counts) ≡ Some row) (me : Owner) (may : MayOwnLoad (core_alone t) me) (l : LoadNumber)
    (rs : List ArcRef)
    (good : references_fault (core_alone t) (Owner.Load l) [] rs ≡ None)
    (a : Alike (with_handle (with_mode (core_of t storage) row.number Mode.LoosePinned) row.node Mode.Pinned me) (core_of t1 storage))
    (same : t1 ≡ record t { ref_counts = t1.ref_counts }) where
  abbrev s : ℕ → Bool
  s = is_named_by rs

  abbrev o : Owner
  o = owner_value row.node.0

  abbrev w : Core
  w = core_of t storage

  abbrev x : HandleRow
  x = row_of (t.ref_counts.last_handle + 1) row.node Mode.Pinned me

  abbrev rows0 : List HandleRow
  rows0 = moved s o w.rows

  abbrev mid : List HandleRow
  mid = changed (is_handle row.number.0) turned rows0

  abbrev u : Core
  u = with_pin (record (without_load w l) { rows = rows0 }) row.number row.node me

  abbrev given : ℕ → Bool
  given q = is_owned_in w (Owner.Load l) q && not (s q)

  of : (y : HandleRow) → Among rows0 y → is_handle row.number.0 y ≡ true → y.node ≡ row.node
  of y among is = grind (basics, row-of, among-map (λ z. if s z.number.0 then record z { owner = o } else z) w.rows y among)

  come : moved s o (rows_of t1.ref_counts) ≡ u.rows
  come = ap (moved s o) a.rows ∙ moved-turned s o _ x _ (not-named _ l rs was.core.handles good _
      (omega arith))

  as-moved : (f : HandleRow → Bool) → ((y : HandleRow) → f (record y { owner = o }) ≡ f y) → times f u.rows ≡ times f (rows_of t1.ref_counts)
  as-moved f keeps = ap (times f) (sym come) ∙ moved-times f s o (rows_of t1.ref_counts) keeps

  module _ (k : RefCounts) (rows : rows_of k ≡ moved s o (rows_of t1.ref_counts)) (list : k.list ≡ t1.ref_counts.list)
      (last : k.last_handle ≡ t1.ref_counts.last_handle)
      (capacity : vec_capacity k.handles.places ≡ vec_capacity t1.ref_counts.handles.places)
      (cells : (n : ℕ) → cell_in (counts_at k.nodes n) ≡ cell_in (counts_at t1.ref_counts.nodes n)) where
    begun-pinned : ReleasedSoFar u u nobody lists (record k { listing_error = None })
    begun-pinned = begun u u lists (record k { listing_error = None }) e (λ p own. refl)
        (λ n. grind (basics, unmixed t1 whole n, as-moved (is_share n) (λ y. refl), as-moved (is_plain_pin n) (λ y. refl)))
        (λ q.
        let had = (moved-to-value was.core s (named-unlisted was.core (Owner.Load l) rs refl good) row.node.0).owners_there.listed q in
        grind (
          basics,
          turned-sum (λ (h : HandleRow). one (is_handle q h && is_owned_by Owner.List h)) row.number.0 rows0 (λ y. refl),
          had,
          sum_by_push (λ (h : HandleRow). one (is_handle q h && is_owned_by Owner.List h)) mid x,
        ))
        (rows ∙ come) (ap (λ v. v.items) list ∙ a.list) (last ∙ ap (λ (v : Last). v.handle) a.last)
        (omega arith)
        (record { handles = (omega arith); entries = (omega (arith, ap deque_capacity list)) })
        (λ n. cells n ∙ a.cells n) refl

    owned-pinned : (q : ℕ) → is_owned_in u (Owner.Load l) q ≡ given q
    owned-pinned q = grind (basics, cases_eq, found-first, no-load, passes-here, passes-none, owned-mode, owned-moved)

    ordered : AllPairs IsHandleBefore u.rows
    ordered = grind (basics, come, ordered-map)

    as-before : {w' : Core} {r : Result (Unit {0}) Error} → Falls u u given r w' → Falls w u given r w'
    as-before {w'} {r} falls = seen-before {b = u} {w = w} {u = u} u.places (grind arith) (λ n none.
        let kept = owned-given (Owner.Load l) (t.ref_counts.last_handle + 1) was.core.handles in
        let plain = not-a-value (core_alone t) me (may-hold (core_alone t) me may) in let stays =
        stays-pinned (record w { rows = mid }) x refl ordered plain (grind (basics, and-left)) falls n none in
        let more = sum_by_push (λ y. one (is_pin n y)) mid x in
        let z : one (is_pin n x) ≡ 0 = (omega arith) in
        let other : (row.node.0 == n) ≡ false = grind basics in (
          stays.0 ∙ (other-same row.number row.node rows0 of n other).0 ∙ moved-times (is_pin n) s o w.rows (λ y. refl),
          stays.1 ∙ (other-same row.number row.node rows0 of n other).1 ∙ moved-times (is_share n) s o w.rows (λ y. refl),
        )) falls

    -- what gives up all that a load owns does it here
    pub ended : (since until : ℕ) (new : RefCounts) (loads : ℕ → Option LoadRow) (r : Result (Unit {0}) Error)
        → ((before v : Core) → ReleasedSoFar before v nobody lists (record k { listing_error = None }) → length (rows_of k) ≤ length v.rows
        → ((q : ℕ) → is_owned_in v (Owner.Load l) q ≡ true → (since < q) × (q ≤ until)) → Falls before v (is_owned_in v (Owner.Load l)) r (with_tables v new))
        → ((q : ℕ) → is_owned_in w (Owner.Load l) q ≡ true → (since < q) × (q ≤ until)) → loads l.0 ≡ None → ((q : ℕ) → q ≢ l.0 → loads q ≡ load_at t1.loads q)
        → Falls w u given r (record (core_of (record t1 { ref_counts = new }) storage) { loads = λ q. option_map load_in (loads q) })
    ended since until new loads r gives within gone others =
        let falls = gives u u begun-pinned (omega (arith, ap length (rows ∙ come)))
        (λ q own. within q (and-left (is_owned_in w (Owner.Load l) q) _ (sym (owned-pinned q) ∙ own))) in
        grind (
          basics,
          cases_eq,
          as-before (subst (λ g. Falls u u g r (with_tables u new)) (λ i q. owned-pinned q i) falls),
          updated-by (option_map load_in) gone
              (λ q other. others q other ∙ ap (λ v. load_at v.loads q) same),
        )

-- t1 is t with the pins
module _ (t t1 : Tables) (storage : StorageView) (row : HandleRow) (me : Owner)
    (a : Alike (with_handle (with_mode (core_of t storage) row.number Mode.LoosePinned) row.node Mode.Pinned me) (core_of t1 storage)) where
  pub pins-here : 0 < pins row.node.0 (rows_of t1.ref_counts)
  pins-here = grind (basics, sum_by_push, live)

  -- whose value is in memory then, where the pinned cell has got one
  pub has-come : IsWhole t → IsWhole t1 → find_row row.number.0 (rows_of t.ref_counts) ≡ Some row → (n : ℕ)
      → has_value (counts_at t1.ref_counts.nodes n) ≡ has_value_once_loaded (counts_at t.ref_counts.nodes) row.node n
  has-come was whole found n =
      let rows = rows_of t.ref_counts in
      let same = λ (other : (row.node.0 == n) ≡ false). (other-same _ _ _ (row-of _ was.core.handles.ordered row found) n other).0 in
      grind (basics, cases_eq n row.node.0, pins-here, sum_by_push, same, a.rows, a.cells n, was.steady.fits.pinned n, whole.steady.fits.pinned n)

-- what is true with more places is true without them
pub may-wider : {w v : Core} {me : Owner} {l : LoadNumber} {node : NodeNumber} {h : HandleNumber} {t : ℕ} {refs : List ArcRef} → OnlyRoom w v
    → MayEnd v me l node h t refs → MayEnd w me l node h t refs
may-wider {w} {v} {me} {l} {node} {h} {t} {refs} wider may = grind (basics, references-placed)

pub installs-wider : {w v w' : Core} {me : Owner} {l : LoadNumber} {node : NodeNumber} {h k : HandleNumber} {refs : List ArcRef} → OnlyRoom w v
    → Installs v me l node h k refs w' → Installs w me l node h k refs w'
installs-wider {w} {v} {w'} {me} {l} {node} {h} {k} {refs} wider installs =
    let i : Installs (record w { places = v.places }) me l node h k refs w' = rw wider.same at installs in
    let before : Core = record w { places = v.places } in
    let given : Core = record (without_load w l) { rows = moved (is_named_by refs) (owner_value node.0) w.rows } in
    record {
      row = i.row;
      owned = record { live = i.owned.live; own = i.owned.own; as_asked = i.owned.as_asked };
      at = i.at;
      next = record { above = i.next.above; is_left = i.next.is_left };
      falls = elim i.falls [
        | inl (away, f) ↦ inl (
          away,
          record {
            told = f.told;
            falls = seen-before {b = before} {w = w} {u = with_pin given h node me} _ wider.more
                (λ n none. (refl, refl)) f.falls;
          },
        )
        | inr (here, f) ↦ inr (
          here,
          record {
            told = f.told;
            falls = seen-before {b = before} {w = w} {u = with_pin (without_load w l) h node me} _
                wider.more (λ n none. (refl, refl)) f.falls;
          },
        )
      ];
    }
