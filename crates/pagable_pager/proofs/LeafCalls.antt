-- Cells that are pinned without a load's row: the load with the same effect keeps the pager's invariant as it begins, is given up, or ends.
use Rattle.pagable_pager.proofs.{HeldByEnds.ends-held, Invariant.{here-in, here-told, in-step, whole-over}}
use Rattle.pagable_pager.specs.{
  Leaf.{LeafBegun, LeafDropped, LeafPinned},
  View.{IsPager, PagerView, Storages, ValuesByNode, pager_core, pager_state, storage_view, value_in, with_value},
}
use Rattle.pagable_pager_spec.specs.{
  Basics.{one, updated},
  Calls.row_of,
  Kinds.{is_pin, pins},
  LoadCalls.{BeginCall, Installs, MayEnd},
  Pager.{IsCellOf, IsPagerWhole, PagerState, ValueCall},
  World.{Core, Values, is_here, of_cell},
  declared.{handle_row.Owner.Owner, mode.Mode.Mode, pinning.Beginning.Beginning},
}
use Rattle.pagable_tables.proofs.{CallsKeepWhole.begin-whole, Views.opened}
use Rattle.pagable_tables.specs.{
  Core.{ArePlaced, Does, IsWhole, OwnLaterHandles, StorageView, core_of},
  EndingLoads.has_value_once_loaded,
  Leaf.{DropsLeaf, IsLeaf, PinsLeaf},
  Nodes.{counts_at, has_value},
  declared.{leaf.Leaf.Leaf, tables.Tables.Tables},
}
use Rattle.pagable_theorems.proofs.ValuesOwned.{begins, installed_away, load_closed, spared}
use Rattle.pagable_value_spec.specs.declared.numbers.{HandleNumber.HandleNumber, LoadNumber.LoadNumber}
use Rattle.std.proofs.{Common.{None, Ok, Some, ap, arith, if◌then◌else◌, inl, refl, sym, true, ℕ, [], ◌&&◌, ◌+◌, ◌∙◌, ◌≡◌}, lemmas.{Bool.{Decides.nat_tests, cases_eq}, List.Sums.sum_by_push}}
use Rattle.std.specs.Prelude.{is_some, ◌⊎◌}

module _ {N S E H K V : Type 0} {tells : Storages S E N H K V} {says : E → Values N} {p : PagerView N S E} (is : IsPager tells says p) where
  abbrev w : Core
  w = pager_core tells p

  -- the state with this core
  abbrev at-core : Core → PagerState N E
  at-core b = record (pager_state tells p) { core = b }

  begun-whole : (b : Core) (h : HandleNumber) (l : LoadNumber) (key : ℕ) → BeginCall w Owner.Caller h (Ok (Beginning.Load l key)) b → ArePlaced b
      → IsPagerWhole (says p.environment) (at-core b)
  begun-whole b h l key call placed =
      let (row, owns, (away, keyed, next, left, (t, typed, a))) = call.begins in
      spared is.state (begins is.state.whole (Ok (Beginning.Load l key)) call) (λ n. refl) (record {
        counted = λ n. is.state.counted n ∙ (let rows = ap (pins n) a.rows in
            let more = sum_by_push (λ x. one (is_pin n x)) w.rows (row_of (w.last.handle + 1) row.node Mode.LooseUnpinned (Owner.Load l)) in
            grind (arith, nat_tests));
        whole = whole-over (opened b) b (begin-whole Owner.Caller h is.state.whole tt call (record { rows = placed.rows; list = placed.list }));
      })

  leaf-begun : (leaf : Leaf) (b : Core) (l : LoadNumber) → BeginCall w Owner.Caller leaf.row.number (Ok (Beginning.Load l leaf.key)) b
      → b.loads l.0 ≡ Some (record { owner = Owner.Caller; key = leaf.key; root = of_cell leaf.row.node leaf.node_type leaf.row.number }) → ArePlaced b
      → LeafBegun (says p.environment) (pager_state tells p) leaf l (at-core b)
  leaf-begun leaf b l call open_load placed = record {
    begins = record {
      step = call;
      moves = record { each = λ n x has. inl has; environment = refl };
      whole = begun-whole b leaf.row.number l leaf.key call placed;
    };
    opened = open_load;
  }

  -- a load that is given up
  module _ (t : Tables) (values : ValuesByNode N) (sames : (n : ℕ) → value_in values n ≡ value_in p.values n) (leaf : Leaf)
      (does : Does p.tables (λ w w'. DropsLeaf w Owner.Caller leaf.row leaf.key leaf.node_type w') t)
      (same : t ≡ record p.tables {
        ref_counts = record p.tables.ref_counts { last_handle = p.tables.ref_counts.last_handle + 1 };
        last_load = p.tables.last_load + 1;
      }) where
    abbrev given : PagerView N S E
    given = record p { tables = t; values = values }

    drops : DropsLeaf w Owner.Caller leaf.row leaf.key leaf.node_type (pager_core tells given)
    drops = does.does (storage_view tells p.storage)

    kept : (n : ℕ) → value_in values n ≡ (if is_some ((pager_core tells given).cells n)
        && is_here (pager_core tells given) n then value_in p.values n else None)
    kept n =
        let e = is.state.valued n in
        let cells = ap (λ (u : Tables). (core_of u (storage_view tells p.storage)).cells n) same in
        let here = ap (λ (u : Tables). is_here (core_of u (storage_view tells p.storage)) n) same in
        let is-same = sames n in
        grind (arith, nat_tests)

    pub given-so : IsPager tells says given
    given-so = in-step given does.whole (does.later is.later) (λ right. load_closed {s = at-core drops.begun} {s' = pager_state tells given}
        (begun-whole drops.begun leaf.row.number _ leaf.key drops.begins drops.placed) (record { swept = kept; right = right }) _ drops.closes)

    pub given-told : LeafDropped (says p.environment) (pager_state tells p) leaf (pager_state tells given)
    given-told = record {
      l = record { 0 = w.last.load + 1 };
      mid = at-core drops.begun;
      begun = leaf-begun leaf drops.begun (record { 0 = w.last.load + 1 }) drops.begins drops.opened drops.placed;
      closes = record { step = drops.closes; moves = record { each = λ n x has. inl (sym (sames n) ∙ has); environment = refl }; whole = given-so.state };
    }

  -- a load that ends with a value
  module _ (t : Tables) (values : ValuesByNode N) (leaf : Leaf) (x : N) (k : HandleNumber) (found : IsLeaf w Owner.Caller leaf)
      (typed : (says p.environment).node_type x ≡ leaf.node_type)
      (bare : (says p.environment).references x ≡ []) (ends : (storage : StorageView)
      → PinsLeaf (core_of p.tables storage) Owner.Caller leaf.row leaf.key leaf.node_type k (core_of t storage))
      (come : (n : ℕ) → has_value (counts_at t.ref_counts.nodes n) ≡ has_value_once_loaded (counts_at p.tables.ref_counts.nodes) leaf.row.node n)
      (whole : IsWhole t)
      (later : OwnLaterHandles t)
      (placed : (n : ℕ) → value_in values n ≡ with_value true leaf.row.node.0 x (value_in p.values) n) where
    abbrev after : PagerView N S E
    after = record p { tables = t; values = values }

    abbrev w' : Core
    w' = pager_core tells after

    abbrev v : Values N
    v = says p.environment

    abbrev l : LoadNumber
    l = record { 0 = w.last.load + 1 }

    leaf-ends : PinsLeaf w Owner.Caller leaf.row leaf.key leaf.node_type k w'
    leaf-ends = ends (storage_view tells p.storage)

    abbrev mid : PagerState N E
    mid = at-core leaf-ends.begun

    mid-whole : IsPagerWhole v mid
    mid-whole = begun-whole leaf-ends.begun leaf.row.number l leaf.key leaf-ends.begins leaf-ends.placed

    may : MayEnd leaf-ends.begun Owner.Caller l leaf.row.node leaf.row.number (v.node_type x) (v.references x)
    may = rw (typed, bare) leaf-ends.may

    installs : Installs leaf-ends.begun Owner.Caller l leaf.row.node leaf.row.number k (v.references x) w'
    installs = rw bare leaf-ends.ends

    swept : (n : ℕ) → value_in values n ≡ (if is_some (w'.cells n) && is_here w' n then updated leaf.row.node.0 (Some x) (value_in p.values) n else None)
    swept n =
        let here = here-told (counts_at t.ref_counts.nodes n) w' n refl (sym (whole.steady.fits.pinned n)) in
        let was = is.state.valued n ∙ here-in is n in
        let comes = come n in
        let is-placed = placed n in
        grind (arith, nat_tests, cases_eq)

    pub pinned-so : IsPager tells says after
    pinned-so = in-step after whole later (λ right. installed_away {s = mid} {s' = pager_state tells after} mid-whole may installs leaf-ends.away
        (record { swept = swept; right = right }))

    comes : (n : ℕ) (y : N) → value_in values n ≡ Some y → (value_in p.values n ≡ Some y) ⊎ ((value_in p.values n ≡ None) × ((y ≡ x) × IsCellOf mid.core l n))
    comes n y some =
        let cell : leaf.row.node.0 ≡ n → IsCellOf mid.core l n = λ m.
        record {
          load = may.load;
          node = leaf.row.node;
          t = v.node_type x;
          h = leaf.row.number;
          open_load = may.owned.stands_open;
          root = may.of_node;
          is = m;
        } in
        let none : value_in p.values leaf.row.node.0 ≡ None = (let a = is.state.valued leaf.row.node.0 in let b = found.away in grind (arith, nat_tests)) in
        let s = placed n in
        grind (arith, nat_tests, cases_eq)

    pub pinned-told : LeafPinned v (pager_state tells p) leaf x k (pager_state tells after)
    pinned-told = record {
      l = l;
      mid = mid;
      begun = leaf-begun leaf leaf-ends.begun l leaf-ends.begins leaf-ends.opened leaf-ends.placed;
      ends = record {
        step = record { installs = (leaf.row.node, leaf.row.number, may, installs); refused = tt };
        moves = record { each = comes; environment = refl };
        whole = pinned-so.state;
      };
    }

    pub pinned-held : ValueCall (pager_state tells after) k (Ok (Some x))
    unfolding leaf-ends pinned-told
    pinned-held =
        let none : value_in p.values leaf.row.node.0 ≡ None = (let a = is.state.valued leaf.row.node.0 in let b = found.away in grind (arith, nat_tests)) in
        ends-held Owner.Caller (λ n is. absurd (cc)) l x (v.node_type x) (v.references x) k mid-whole pinned-so.state pinned-told.ends.step pinned-told.ends.moves none
