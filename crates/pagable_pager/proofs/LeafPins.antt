-- What the pager's calls tell of a leaf is told of its pin's load, and these calls, one after the other, are a run of a pin.
use Rattle.pagable_load.proofs.PinsAndReads.{begun_is}
use Rattle.pagable_load.specs.{Decoding.IsReadAs, PinStart.is_unpinned_at}
use Rattle.pagable_pager.proofs.LeafRuns.{pins-run, refused-run, root-fails, root-pins, wanting-run}
use Rattle.pagable_pager.specs.{
  Leaf.{LeafBegun, LeafDropped, LeafFetched, LeafLoads, LeafPinned, LeafUnbegun},
  View.{AsksStorage, ChangesOnlyStorage, ChangesOnlyTables, IsPager, PagerView, Storages, ValuesByNode, pager_core, pager_state, storage_view, value_in},
}
use Rattle.pagable_pager_spec.specs.{Access.{PinRun, load-is-refused}, Basics.{Blob, SameAt}, Calls.{FetchCall, with_handle}, LoadCalls.BeginCall, Pager.{IsPagerWhole, PagerState}, World.{Core, Values, is_here, of_cell, type_at}, declared.{handle_row.{HandleRow.HandleRow, Owner.Owner}, mode.Mode.Mode, pinning.Beginning.Beginning}}
use Rattle.pagable_tables.proofs.SameViews.{alike-on, room-alike}
use Rattle.pagable_tables.specs.{
  Core.{Does, OnlyRoom, StorageView, core_alone, core_of, no_blobs},
  HandleTable.room,
  Leaf.IsLeaf,
  declared.{leaf.Leaf.Leaf, tables.Tables.Tables},
}
use Rattle.pagable_theorems.proofs.{LoadProgress.row-pins, Trees.same_some, ValuesOwned.pinned-here}
use Rattle.pagable_value_spec.specs.declared.{error.Error.Error, numbers.{HandleNumber.HandleNumber, LoadNumber.LoadNumber}}
use Rattle.std.proofs.{Common.{Err, IfErr, List, Ok, Result, Some, ap, arith, false, inl, inr, refl, subst, sym, true, ℕ, [], ◌∙◌, ◌≡◌, ◌≤◌}, lemmas.Bool.Decides.nat_tests}
use Rattle.std.specs.Prelude.{length}
use Rattle.pagable_pager_spec.specs.Pager as pager

-- ---- what the pager's calls are told by

pub not-begun : {N S E H K V : Type 0} {tells : Storages S E N H K V} {says : E → Values N} {p : PagerView N S E} → IsPager tells says p
    → (t : Tables) {h : HandleNumber} {e : Error} → IsPager tells says (record p { tables = t })
    → BeginCall (pager_core tells p) Owner.Caller h (Err e) (pager_core tells (record p { tables = t }))
    → PinRun (says p.environment) (pager_state tells p) h (Err e) (pager_state tells (record p { tables = t }))
not-begun {tells = tells} {p = p} was t {e = e} is call = load-is-refused e (pager_state tells (record p { tables = t }))
    (record { step = call; moves = record { each = λ n x has. inl has; environment = refl }; whole = is.state })

-- what follows of each error
pub err-map : {X E : Type 0} (r : Result X E) {P Q : E → Type 0} → ((e : E) → P e → Q e) → IfErr r P → IfErr r Q
err-map (Ok x) f p = p
err-map (Err e) f p = f e p

-- a leaf stays one while rows, cells and numbers stay
leaf-alike : {w w1 : Core} {leaf : Leaf} → w1.rows ≡ w.rows → SameAt w.cells w1.cells → w1.last ≡ w.last → IsLeaf w Owner.Caller leaf
    → IsLeaf w1 Owner.Caller leaf
leaf-alike rows cells last is = grind (arith, nat_tests, rows, cells, last)

-- what was found is so once the storage was asked
pub leaf-after : {N S E : Type 0} {p q : PagerView N S E} {t : Tables} {leaf : Leaf} → p ≡ q → q.tables ≡ t
    → ((storage : StorageView) → IsLeaf (core_of t storage) Owner.Caller leaf)
    → IsLeaf (core_alone p.tables) Owner.Caller leaf
leaf-after {N} {S} {E} {leaf = leaf} viewed same found = rw (← (ap (λ (x : PagerView N S E). x.tables) viewed ∙ same)) at (found no_blobs)

pub leaf-asked : {N S E H K V : Type 0} (tells : Storages S E N H K V) (q : PagerView N S E) {t : Tables} {leaf : Leaf} → q.tables ≡ t
    → ((storage : StorageView) → IsLeaf (core_of t storage) Owner.Caller leaf)
    → IsLeaf (pager_core tells q) Owner.Caller leaf
leaf-asked tells q {leaf = leaf} same found =
    rw (← same) at (found (storage_view tells q.storage))

pub pager-in : {N S E H K V : Type 0} {tells : Storages S E N H K V} {says : E → Values N} {p q : PagerView N S E} → p ≡ q → IsPager tells says p
    → IsPager tells says q
pager-in {tells = tells} {says = says} viewed is = rw viewed at is

pub asked-in : {N S E H K V : Type 0} {tells : Storages S E N H K V} {o p q : PagerView N S E} {makes : Core → Core → Type 0} → p ≡ q
    → AsksStorage tells o makes q → AsksStorage tells o makes p
asked-in {tells = tells} {o = o} {makes = makes} viewed asks = rw (← viewed) at asks

unpinned-so : {w : Core} {leaf : Leaf} → pager.IsWhole w → IsLeaf w Owner.Caller leaf → is_unpinned_at w leaf.row.number ≡ true
unpinned-so whole is = let live = is.owned.live in let away = is.away in grind (arith, nat_tests, pinned-here, row-pins)

module _ {N S E H K V : Type 0} {tells : Storages S E N H K V} {says : E → Values N} {p p1 : PagerView N S E} (is : IsPager tells says p)
    (is1 : IsPager tells says p1)
    (t0 : Tables) (room : Does p.tables OnlyRoom t0) (leaf : Leaf)
    (found : (storage : StorageView) → IsLeaf (core_of t0 storage) Owner.Caller leaf) (r : Result Blob Error)
    (asks : FetchCall (pager_core tells (record p { tables = t0 })) leaf.key r (pager_core tells p1))
    (only : ChangesOnlyStorage (record p { tables = t0 }) p1) where
  fetched : FetchCall (pager_core tells p) leaf.key r (pager_core tells p1)
  fetched =
      let wider = room-alike (room.does (record (storage_view tells p.storage) { failures = tells.failed p1.storage })) in
      record { asked = record { fails = asks.asked.fails; leaves = alike-on wider asks.asked.leaves }; found = asks.found; refused = asks.refused }

  sames : (n : ℕ) → value_in p1.values n ≡ value_in p.values n
  sames n = ap (λ (values : ValuesByNode N). value_in values n) only.values

  leaf-still : IsLeaf (pager_core tells p) Owner.Caller leaf
  leaf-still =
      let a = room-alike (room.does (storage_view tells p.storage)) in
      leaf-alike (sym a.rows) (λ n. sym (a.cells n)) (sym a.last) (found (storage_view tells p.storage))

  pub fetch-told : (blob : Blob) → r ≡ Ok blob → LeafFetched (says p.environment) (pager_state tells p) leaf blob (pager_state tells p1)
  fetch-told blob of_blob = record {
    fetched = record {
      step = rw of_blob at fetched;
      moves = record { each = λ n x has. inl (sym (sames n) ∙ has); environment = only.environment };
      whole = subst (λ e. IsPagerWhole (says e) (pager_state tells p1)) only.environment is1.state;
    };
    values = sames;
    unpinned = unpinned-so is.state.whole leaf-still;
  }

  pub fetch-refused : (e : Error) (u : PagerState N E) → r ≡ Err e → LeafDropped (says p1.environment) (pager_state tells p1) leaf u
      → PinRun (says p.environment) (pager_state tells p) leaf.row.number (Err e) u
  fetch-refused e u of_error d =
      let dropped : LeafDropped (says p.environment) (pager_state tells p1) leaf u =
      subst (λ e. LeafDropped (says e) (pager_state tells p1) leaf u) only.environment d in
      refused-run (says p.environment) (pager_state tells p) (pager_state tells p1) dropped.mid leaf dropped.l r fetched sames only.environment dropped.begun e
      u
      of_error dropped.closes

-- ---- one after the other, a pin's run

module _ {N E : Type 0} {v : Values N} {s s1 u : PagerState N E} {leaf : Leaf} {blob : Blob} (f : LeafFetched v s leaf blob s1) where
  pub pinned-run : {x : N} {k : HandleNumber} → IsReadAs v leaf.node_type blob [] x → v.references x ≡ [] → LeafPinned v s1 leaf x k u
      → PinRun v s leaf.row.number (Ok k) u
  pinned-run {x} {k} read bare p = pins-run v s s1 p.mid leaf p.l (Ok blob) f.fetched.step f.values f.fetched.moves.environment p.begun blob refl x k u read
      bare p.ends

  pub dropped-run : LeafDropped v s1 leaf u → PinRun v s leaf.row.number (Err Error.OutOfMemory) u
  dropped-run d = wanting-run v s s1 d.mid leaf d.l (Ok blob) f.fetched.step f.values f.fetched.moves.environment d.begun blob refl u d.closes

  pub unbegun-run : LeafUnbegun v s1 leaf u → PinRun v s leaf.row.number (Err Error.OutOfMemory) u
  unbegun-run d =
      let a = d.stays.step in
      let g = f.fetched.step in
      let again : FetchCall s.core leaf.key (Ok blob) d.between.core = record {
        asked = record {
          fails = rw (← a.failures) at g.asked.fails;
          leaves = rw (← a.failures) at (alike-on g.asked.leaves a);
        };
        found = g.found;
        refused = tt;
      } in
      wanting-run v s d.between d.dropped.mid leaf d.dropped.l (Ok blob) again (λ n. d.same n ∙ f.values n)
      (d.stays.moves.environment ∙ f.fetched.moves.environment) d.dropped.begun blob refl u d.dropped.closes

  pub loads-pinned : {k : HandleNumber} → LeafLoads v s1 leaf blob (Ok k) u → PinRun v s leaf.row.number (Ok k) u
  loads-pinned {k} d =
      let (l, mid, b, run) = d.pinned in
      root-pins v s s1 mid leaf l (Ok blob) f.fetched.step f.values f.fetched.moves.environment b blob refl k u run

  pub loads-refused : {e : Error} → LeafLoads v s1 leaf blob (Err e) u → PinRun v s leaf.row.number (Err e) u
  loads-refused {e} d = elim d.refused [
    | inl (l, mid, b, run) ↦ root-fails v s s1 mid leaf l (Ok blob) f.fetched.step f.values f.fetched.moves.environment b blob refl e u run
    | inr (is, wanting) ↦ rw (← is) at (unbegun-run wanting)
  ]

-- ---- a load of the cell that begins by itself, or is refused

begun-leaf : {w w' : Core} {leaf : Leaf} {l : LoadNumber} {key : ℕ} → IsLeaf w Owner.Caller leaf
    → BeginCall w Owner.Caller leaf.row.number (Ok (Beginning.Load l key)) w'
    → (key ≡ leaf.key) × (w'.loads l.0 ≡ Some (record { owner = Owner.Caller; key = leaf.key; root = of_cell leaf.row.node leaf.node_type leaf.row.number }))
begun-leaf {w} {w'} {leaf} {l} {key} is call =
    let (row, owns, (away, keyed, next, left, (t, typed, a))) = call.begins in
    let same : row ≡ leaf.row = same_some _ _ (sym owns.live ∙ is.owned.live) in
    let key-is : key ≡ leaf.key = (let k = is.keyed in grind (arith, nat_tests)) in
    let type-is : t ≡ leaf.node_type = same_some _ _ (sym typed ∙ ap (λ (r : HandleRow). type_at w r.node.0) same ∙ is.typed) in
    let opened = begun_is (with_handle w row.node Mode.LooseUnpinned (Owner.Load l)) w' l key (of_cell row.node t leaf.row.number) Owner.Caller next.above a in
    (key-is, opened ∙ ap Some (λ i. record { owner = Owner.Caller; key = key-is i; root = of_cell (same i).node (type-is i) leaf.row.number }))

pub in-memory-never : {w w' : Core} {leaf : Leaf} → IsLeaf w Owner.Caller leaf → BeginCall w Owner.Caller leaf.row.number (Ok Beginning.InMemory) w' → ⊥
in-memory-never {w} {w'} {leaf} is call =
    let (row, owns, (here, a)) = call.begins in
    let same : row ≡ leaf.row = same_some _ _ (sym owns.live ∙ is.owned.live) in
    let away = is.away in
    let there = sym (ap (λ (r : HandleRow). is_here w r.node.0) same) ∙ here in
    let never : true ≡ false = sym there ∙ away in
    absurd cc

pub begin-told : {N S E H K V : Type 0} {tells : Storages S E N H K V} {says : E → Values N} {p : PagerView N S E} → IsPager tells says p → (t : Tables)
    → IsPager tells says (record p { tables = t }) → (leaf : Leaf) {l : LoadNumber} {key : ℕ}
    → IsLeaf (pager_core tells p) Owner.Caller leaf → BeginCall (pager_core tells p) Owner.Caller leaf.row.number (Ok (Beginning.Load l key))
    (pager_core tells (record p { tables = t }))
    → LeafBegun (says p.environment) (pager_state tells p) leaf l (pager_state tells (record p { tables = t }))
begin-told {tells = tells} {p = p} was t after leaf {l} {key} is call =
    let b = begun-leaf is call in
    record {
      begins = record {
        step = subst (λ k. BeginCall (pager_core tells p) Owner.Caller leaf.row.number (Ok (Beginning.Load l k)) (pager_core tells (record p { tables = t })))
            b.0
            call;
        moves = record { each = λ n x has. inl has; environment = refl };
        whole = after.state;
      };
      opened = b.1;
    }

module _ {N S E H K V : Type 0} {tells : Storages S E N H K V} {says : E → Values N} {p p1 : PagerView N S E} (is : IsPager tells says p)
    (is1 : IsPager tells says p1)
    (leaf : Leaf) (e : Error)
    (found : IsLeaf (pager_core tells p) Owner.Caller leaf) (call : BeginCall (pager_core tells p) Owner.Caller leaf.row.number (Err e) (pager_core tells p1))
    (only : ChangesOnlyTables p p1) where
  pub unbegun-leaf : IsLeaf (core_alone p1.tables) Owner.Caller leaf
  unbegun-leaf = let a = call.refused.stays in leaf-alike a.rows a.cells a.last found

  pub unbegun-place : 1 ≤ room p.tables.ref_counts.handles → 1 ≤ room p1.tables.ref_counts.handles
  unbegun-place place =
      let a = call.refused.stays in
      let rows = ap (λ (rs : List HandleRow). length rs) a.rows in
      let c = is.tables.steady.sound.counted in
      let d = is1.tables.steady.sound.counted in
      let more = a.places.handles in
      omega arith

  pub unbegun-told : {u : PagerState N E} → LeafDropped (says p1.environment) (pager_state tells p1) leaf u
      → LeafUnbegun (says p.environment) (pager_state tells p) leaf u
  unbegun-told {u} d = record {
    between = pager_state tells p1;
    stays = record {
      step = call.refused.stays;
      moves = record {
        each = λ n x has. inl (rw only.values at has);
        environment = only.environment;
      };
      whole = subst (λ e. IsPagerWhole (says e) (pager_state tells p1)) only.environment is1.state;
    };
    same = λ n. ap (λ (values : ValuesByNode N). value_in values n) only.values;
    dropped = subst (λ e. LeafDropped (says e) (pager_state tells p1) leaf u) only.environment d;
  }
