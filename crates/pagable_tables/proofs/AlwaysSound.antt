-- Whole tables pass the check of `soundness.rt`, together with values that are in memory where they have to be.
use Rattle.pagable_pager_spec.proofs.Elements.{at-most-sum, counted, sum-none}
use Rattle.pagable_tables.proofs.{
  RowCounts.{at-then, only-at, there-then},
  Words.{Among, ArcRef, Bool, Cell, Counts, HandleNumber, HandleRow, IsEntryWhole, List, LoadRow, NodeNumber, None, Option, OptionalDataKey, Owner, Place},
  Words.{Right, Some, Tables, ap, arith, basics, cell_in, core_alone, counts_at, falls_in, false, has_key, has_value, held, holds_in, if_there},
  Words.{if◌then◌else◌, is_at, is_handle, is_owned_by, is_owner, is_pin, is_same, is_share, is_shared_kind, is_some, is_unpinned, key_in, length, live},
  Words.{load_at, load_in, named, nat_lt, not, often, one, option_map, owner_value, pins, pins_in, refl, refs_at, row_by, rows_of, sharing, subst, suc},
  Words.{sum_by-cons, sym, times, true, type_of, zero, ℕ, [], ◌&&◌, ◌+◌, ◌<◌, ◌==◌, ◌∙◌, ◌∷◌, ◌≡◌, ◌||◌, ◌⊎◌},
}
use Rattle.pagable_tables.specs.{
  Core.IsWhole,
  Soundness.{agree, are_counts_sound, are_handles_sound, are_nodes_sound, are_places_sound, are_references_owned, at_node, is_cache_entry_sound},
  Soundness.{is_cache_sound, is_entry_sound, is_known_to_owner, is_list_sound, is_node_sound, is_owned_once, is_place_sound, is_row_sound, pins_node},
  Soundness.shares_node,
  ValuesKept.AreKept,
  declared.number_table.NumberTable.NumberTable,
}
use Rattle.std.proofs.lemmas.Map.Entries.{hash_map_get_place}
use Rattle.std.specs.{Cmp.IsEquivalence, HashMap.IsUnique, List.list_all, Prelude.{count_by, nat_le}}

-- ---- tests

both : (a b : Bool) → a ≡ true → b ≡ true → (a && b) ≡ true
both a b x y = grind basics

equal : (a b : ℕ) → a ≡ b → (a == b) ≡ true
equal a b e = grind basics

at-least : (a b : ℕ) → a < suc b → nat_le a b ≡ true
at-least a b e = grind basics

one-true : (b : Bool) → b ≡ true → one b ≡ 1
one-true b e = grind basics

one-none : (b : Bool) → 0 ≡ one b → b ≡ false
one-none b e = grind basics

agrees : (a b : Bool) → a ≡ b → agree a b ≡ true
agrees true b e = sym e
agrees false b e = ap not (sym e)

-- a value is in memory, in both spellings
same-tests : (p k : ℕ) → (nat_lt 0 p || not (nat_lt 0 k)) ≡ (nat_le 1 p || k == 0)
same-tests p k = grind basics

no-key : (key : ℕ) → has_key (key_in key) ≡ false → key ≡ 0
no-key zero e = refl
no-key (suc key) e = absurd (cc)

some-load : (o : Option LoadRow) → is_some (option_map load_in o) ≡ true → is_some o ≡ true
some-load None e = e
some-load (Some row) e = refl

some-cell : (o : Option Counts) → is_some (cell_in o) ≡ true → is_some o ≡ true
some-cell None e = e
some-cell (Some c) e = refl

same-equiv : IsEquivalence is_same
same-equiv = record {
  refl = λ x. grind basics;
  symm = λ x y. grind basics;
  congr = λ x y z e. grind basics;
}

-- ---- lists

all-so : {X : Type 0} (test : X → Bool) (xs : List X) → ((x : X) → Among xs x → test x ≡ true) → list_all test xs ≡ true
all-so test [] h = refl
all-so test (x ∷ xs) h = both _ _ (h x (zero, refl)) (all-so test xs (λ y among. h y (suc among.0, among.1)))

at-head : (b : Bool) (x : HandleRow) (xs : List HandleRow) → b ≡ true → Among (if b then x ∷ xs else xs) x
at-head true x xs e = (zero, refl)
at-head false x xs e = absurd (cc)

behind : (b : Bool) (x y : HandleRow) (xs : List HandleRow) → Among xs y → Among (if b then x ∷ xs else xs) y
behind true x y xs among = (suc among.0, among.1)
behind false x y xs among = among

live-among : (ss : List Place) (p : Place) → Among ss p → p.is_live ≡ true → Among (live ss) p.row
live-among [] p (i, is) lives = absurd (cc)
live-among (s ∷ ss) p (zero, is) lives =
    let same : s ≡ p = cc in
    subst (λ x. Among (live (s ∷ ss)) x.row) same (at-head s.is_live s.row (live ss) (ap (λ x. x.is_live) same ∙ lives))
live-among (s ∷ ss) p (suc i, is) lives = behind s.is_live s.row p.row (live ss) (live-among ss p (i, is) lives)

-- live places that pass a test, and dead ones, counted
count-live : (test : HandleRow → Bool) (ss : List Place) → count_by (λ p. p.is_live && test p.row) ss ≡ times test (live ss)
count-live test [] = refl
count-live test (s ∷ ss) = grind (
  basics,
  count-live test ss,
  sum_by-cons (λ p. one (p.is_live && test p.row)) s ss,
  sum_by-cons (λ h. one (test h)) s.row (live ss),
)

count-dead : (ss : List Place) → count_by (λ p. not p.is_live) ss + length (live ss) ≡ length ss
count-dead [] = refl
count-dead (s ∷ ss) = grind (basics, count-dead ss, sum_by-cons (λ p. one (not p.is_live)) s ss)

counts-sound : (places : List Place) (n : ℕ) (here : Bool) (c : Counts) → c.pins ≡ pins n (live places) → c.holds ≡ held n (live places)
    → c.is_dying ≡ false → 0 < c.holds → here ≡ (nat_lt 0 c.pins || not (nat_lt 0 c.key))
    → (sharing n (live places) ≡ 0) ⊎ (sharing n (live places) ≡ held n (live places))
    → (0 < sharing n (live places) → c.key ≡ 0) → are_counts_sound places n here c ≡ true
unfolding are_counts_sound
counts-sound places n here c pinned holding alive some is uniform unkeyed =
    let pinning : (c.pins == count_by (pins_node n) places) ≡ true = equal _ _ (pinned ∙ sym (count-live (is_pin n) places)) in
    let holds : (c.holds == count_by (at_node n) places) ≡ true = equal _ _ (holding ∙ sym (count-live (is_at n) places)) in
    let lives : (nat_le 1 c.holds && not c.is_dying) ≡ true = both _ _ (at-least 1 c.holds (omega arith)) (ap not alive) in
    let valued : agree here (nat_le 1 c.pins || c.key == 0) ≡ true = agrees _ _ (is ∙ same-tests c.pins c.key) in
    let shares = count-live (is_share n) places in
    let alike : (count_by (shares_node n) places == 0 || (count_by (shares_node n) places == c.holds && c.key == 0)) ≡ true =
    grind (basics, shares, uniform, unkeyed) in
    both _ _ (both _ _ (both _ _ pinning holds) lives) (both _ _ valued alike)

module _ {t : Tables} (whole : IsWhole t) where
  -- ---- rows

  -- one row is the handle's and its owner's, if some is
  once-owned : (o : Owner) (q : ℕ) → 0 < times (λ h. is_handle q h && is_owned_by o h) (rows_of t.ref_counts)
      → times (λ h. is_handle q h && is_owned_by o h) (rows_of t.ref_counts) ≡ 1
  once-owned o q some =
      let r = counted (λ h. one (is_handle q h && is_owned_by o h)) (rows_of t.ref_counts) some in
      let same = only-at (λ h. one (is_handle q h && is_owned_by o h)) (rows_of t.ref_counts) r.0 whole.core.handles.ordered r.1
      (λ x other. grind (basics, r.2)) in
      grind (basics, same, r.2)

  owned-once : (o : Owner) (q : ℕ) → 0 < times (λ h. is_handle q h && is_owned_by o h) (rows_of t.ref_counts)
      → is_owned_once t.ref_counts.handles.places.items o q ≡ true
  owned-once o q some =
      equal _ 1 (count-live (λ h. is_handle q h && is_owned_by o h) t.ref_counts.handles.places.items ∙ once-owned o q some)

  -- a live row is its owner's, once
  row-owned : (h : HandleRow) → Among (rows_of t.ref_counts) h → (o : Owner) → is_owned_by o h ≡ true
      → times (λ x. is_handle h.number.0 x && is_owned_by o x) (rows_of t.ref_counts) ≡ 1
  row-owned h among o is =
      let mine = one-true (is_handle h.number.0 h && is_owned_by o h) (both _ _ (equal h.number.0 h.number.0 refl) is) in
      once-owned o h.number.0
      (omega (arith, mine, at-most-sum (λ x. one (is_handle h.number.0 x && is_owned_by o x)) (rows_of t.ref_counts) h among))

  known : (h : HandleRow) → Among (rows_of t.ref_counts) h → (o : Owner) → h.owner ≡ o → is_known_to_owner t h o ≡ true
  known h among Owner.Caller e = refl
  known h among (Owner.Value n) e =
      let mine : is_owned_by (owner_value n.0) h ≡ true = subst (λ o. is_owner (owner_value n.0) o ≡ true) (sym e) (equal n.0 n.0 refl) in
      let once : named h.number.0 (refs_at t.ref_counts.nodes n.0) ≡ 1 =
      omega (arith, row-owned h among (owner_value n.0) mine, whole.steady.fits.owned n.0 h.number.0) in
      equal _ 1 once
  known h among Owner.List e =
      let mine : is_owned_by Owner.List h ≡ true = subst (λ o. is_owner Owner.List o ≡ true) (sym e) refl in
      let once : times (λ (q : HandleNumber). q.0 == h.number.0) t.ref_counts.list.items ≡ 1 =
      whole.core.owners_there.listed h.number.0 ∙ row-owned h among Owner.List mine in
      both _ _ (ap is_unpinned (whole.core.owners_there.waiting h among e)) (equal _ 1 once)
  known h among (Owner.Load l) e = some-load (load_at t.loads l.0) (whole.core.owners_there.loads h l among e)
  known h among (Owner.Worker v) e = whole.core.owners_there.workers h v.0 among e

  row-sound : (h : HandleRow) → Among (rows_of t.ref_counts) h → is_row_sound t h ≡ true
  row-sound h among =
      let (low, high) = whole.core.handles.numbered h among in
      both _ _ (both _ _ (at-least 1 h.number.0 (omega arith)) (at-least h.number.0 t.ref_counts.last_handle (omega arith)))
      (both _ _ (some-cell (counts_at t.ref_counts.nodes h.node.0) (there-then whole.core h among)) (known h among h.owner refl))

  place-sound : (p : Place) → Among t.ref_counts.handles.places.items p → (b : Bool) → p.is_live ≡ b → (not b || is_row_sound t p.row) ≡ true
  place-sound p among true lives = row-sound p.row (live-among t.ref_counts.handles.places.items p among lives)
  place-sound p among false dead = refl

  pub places-sound : are_places_sound t ≡ true
  unfolding are_places_sound
  places-sound = all-so (is_place_sound t) t.ref_counts.handles.places.items (λ p among. place-sound p among p.is_live refl)

  pub handles-sound : are_handles_sound t ≡ true
  handles-sound =
      let dead : count_by (λ (p : Place). not p.is_live) t.ref_counts.handles.places.items ≡ t.ref_counts.handles.dead =
      omega (arith, count-dead t.ref_counts.handles.places.items, whole.steady.sound.counted) in
      both _ _ places-sound (equal _ _ dead)

  -- ---- the list

  entry-owned : (q : HandleNumber) → Among t.ref_counts.list.items q → is_owned_once t.ref_counts.handles.places.items Owner.List q.0 ≡ true
  entry-owned q among =
      let there = at-most-sum (λ (h : HandleNumber). one (h.0 == q.0)) t.ref_counts.list.items q among in
      owned-once Owner.List q.0 (omega (arith, one-true (q.0 == q.0) (equal q.0 q.0 refl), there, whole.core.owners_there.listed q.0))

  pub list-sound : is_list_sound t ≡ true
  unfolding is_list_sound
  list-sound = all-so (λ (q : HandleNumber). is_owned_once t.ref_counts.handles.places.items Owner.List q.0) t.ref_counts.list.items entry-owned

  -- ---- the cache

  shares-so : (kind n : ℕ) → IsEntryWhole (core_alone t) kind n → (h : HandleRow) → Among (rows_of t.ref_counts) h → h.node.0 ≡ n → (b : Bool)
      → is_shared_kind kind ≡ b
      → nat_le 1 (sharing n (rows_of t.ref_counts)) ≡ b
  shares-so kind n is h among at true e =
      let mine = one-true (is_share n h) (both _ _ (equal _ _ at) (is.shares h among at ∙ e)) in
      at-least 1 (sharing n (rows_of t.ref_counts)) (omega (arith, mine, at-most-sum (λ x. one (is_share n x)) (rows_of t.ref_counts) h among))
  shares-so kind n is h among at false e =
      ap (nat_le 1) (sum-none (λ x. one (is_share n x)) (rows_of t.ref_counts) (λ x there. grind (basics, is.shares x there)))

  entry-sound : (kind n : ℕ) → IsEntryWhole (core_alone t) kind n → (o : Option Counts) → counts_at t.ref_counts.nodes n ≡ o
      → is_cache_entry_sound t kind n o ≡ true
  entry-sound kind n is None e = let given = is.given in at-least n t.last_node (omega arith)
  entry-sound kind n is (Some c) e =
      let given = is.given in
      let there : is_some (cell_in (counts_at t.ref_counts.nodes n)) ≡ true = ap (λ o. is_some (cell_in o)) e in
      let lives : 0 < held n (rows_of t.ref_counts) = grind (basics, there, whole.core.handles.live n) in
      let r = counted (λ h. one (is_at n h)) (rows_of t.ref_counts) lives in
      let shares = shares-so kind n is r.0 r.1 (at-then n r.0 r.2) (is_shared_kind kind) refl in
      let typed : c.node_type ≡ type_of kind =
      is.typed c.node_type (ap (λ o. if_there (λ (cell : Cell). Some cell.node_type) None (cell_in o)) e) in
      both _ _ (at-least n t.last_node (omega arith)) (both _ _ (equal _ _ typed)
      (agrees _ _ (ap (nat_le 1) (count-live (is_share n) t.ref_counts.handles.places.items) ∙ shares)))

  cached-sound : IsUnique is_same t.cache → (e : (ℕ × ℕ) × NodeNumber) → Among t.cache.entries e → is_entry_sound t e ≡ true
  cached-sound unique ((kind, key), n) (i, is) =
      let found = hash_map_get_place same-equiv t.cache i (kind, key) n unique is in
      entry-sound kind n.0 (whole.core.cache kind key n.0 (ap (option_map (λ (m : NodeNumber). m.0)) found)) (counts_at t.ref_counts.nodes n.0) refl

  pub cache-sound : IsUnique is_same t.cache → is_cache_sound t ≡ true
  unfolding is_cache_sound
  cache-sound unique = all-so (is_entry_sound t) t.cache.entries (cached-sound unique)

  -- ---- nodes

  references-owned : (n : ℕ) → are_references_owned t n ≡ true
  unfolding are_references_owned
  references-owned n = all-so (λ (r : ArcRef). is_owned_once t.ref_counts.handles.places.items (owner_value n) r.handle.0)
      (refs_at t.ref_counts.nodes n) (λ r among.
      let there = at-most-sum (λ (x : ArcRef). one (x.handle.0 == r.handle.0)) (refs_at t.ref_counts.nodes n) r among in
      let mine = one-true (r.handle.0 == r.handle.0) (equal r.handle.0 r.handle.0 refl) in
      owned-once (owner_value n) r.handle.0 (omega (arith, mine, there, whole.steady.fits.owned n r.handle.0)))

  pub none-dying : t.ref_counts.top ≡ 0
  none-dying = whole.steady.fits.chain

  module _ {X : Type 0} (values : NumberTable X) (kept : AreKept (counts_at t.ref_counts.nodes) (row_by values)) where
    node-sound : (n : ℕ) (o : Option Counts) → counts_at t.ref_counts.nodes n ≡ o → is_node_sound t n (is_some (row_by values n)) o ≡ true
    node-sound n None e =
        let here = subst (λ o. falls_in o ≡ false → is_some (row_by values n) ≡ has_value o) e (kept n) in
        ap not (here refl)
    node-sound n (Some c) e =
        let f = whole.steady.fits in
        let pinned : c.pins ≡ pins n (rows_of t.ref_counts) = subst (λ o. pins_in o ≡ pins n (rows_of t.ref_counts)) e (f.pinned n) in
        let holding : c.holds ≡ held n (rows_of t.ref_counts) = subst (λ o. holds_in o ≡ held n (rows_of t.ref_counts)) e (f.holding n) in
        let alive : c.is_dying ≡ false = one-none c.is_dying (subst (λ o. often n [] ≡ one (falls_in o)) e (f.marked n)) in
        let right = subst (λ o. Right o (refs_at t.ref_counts.nodes n)) e (f.right n) in
        let some : 0 < c.holds = grind (basics, right, alive) in
        let here = subst (λ o. falls_in o ≡ false → is_some (row_by values n) ≡ has_value o) e (kept n) alive in
        both _ _ (counts-sound t.ref_counts.handles.places.items n (is_some (row_by values n)) c pinned holding alive some here
        (whole.core.handles.uniform n)
        (λ shared. no-key c.key
        (subst (λ o. has_key (if_there (λ (cell : Cell). cell.key) OptionalDataKey.None (cell_in o)) ≡ false) e (whole.core.handles.unkeyed n shared))))
        (references-owned n)

    pub nodes-sound : (n : ℕ) → are_nodes_sound t values n ≡ true
    unfolding are_nodes_sound
    nodes-sound zero = refl
    nodes-sound (suc n) = both _ _ (node-sound (suc n) (counts_at t.ref_counts.nodes (suc n)) refl) (nodes-sound n)

pub ruleset sound = (handles-sound, list-sound, cache-sound, none-dying, nodes-sound)
