-- What the pager's calls leave that page out a leaf of the list, and the worker's run with the same result.
use Rattle.pagable_load.specs.WorkerCalls.{PagesLeaf}
use Rattle.pagable_pager.proofs.{
  LeafCallEffects.{leaves-paged, leaves-relisted, leaves-unlisted, own-live, pins-moved, taken, takes-entry},
  LeafWorker.{begun-whole, cloned-whole, pinned-keyed, pinned-stored, pinned-whole},
  LeafWorkerSteps.{entry-row, fails-leaf, pages-leaf},
}
use Rattle.pagable_pager.specs.{
  LeafPageOut.{AreNewFor, IsBareAt, WritesLeaf, new_entry, with_entry_paged, with_entry_relisted},
  View.{AddsNoValue, AsksStorage, Calls, CallsKeepingInvariant, ChangesOnlyTables, PagerView, Storages, pager_core, pager_state, storage_view, value_in},
}
use Rattle.pagable_pager_spec.specs.{
  Basics.{Blob, Error},
  Calls.{CloneCall, ReleaseCall, ScheduleCall, SetKeyCall, StoreCall, TakeCall},
  Cascade.only_handle,
  Kinds.{HasKinds, is_loose, pins},
  Pager.{IsPagerWhole, PagerState},
  World.{Alike, Core, Last, Values, digest, row_at},
  declared.{events.WorkerAnswer.WorkerAnswer, handle_row.{HandleRow.HandleRow, Owner.Owner}},
}
use Rattle.pagable_tables.specs.{
  Core.core_of,
  LeafEntry.{IsLeafEntry, with_worker_numbers},
  declared.leaf_entry.LeafEntry.LeafEntry,
}
use Rattle.pagable_theorems.proofs.ValuesOwned.{IsShut, Rests}
use Rattle.pagable_value_spec.specs.{Merkle.blob_of, declared.numbers.{HandleNumber.HandleNumber, NodeNumber.NodeNumber}}
use Rattle.std.proofs.{Common.{Err, List, Ok, Result, Some, ap, arith, false, if◌then◌else◌, inl, inr, length, refl, subst, sym, true, ℕ, [], ◌<◌, ◌∙◌, ◌∷◌, ◌≡◌}, lemmas.{Bool.{Decides.nat_tests, false_from_ne_true}, List.length-map, Option.slice_get_within}}

ruleset basics = (arith, nat_tests)

-- no value comes or goes where numbers are taken
pub takes-numbers : {w w' : Core} → IsShut w → w' ≡ with_worker_numbers w → Rests w w'
takes-numbers {w} {w'} shut is = subst (λ c. Rests w c) (sym is) (record {
  spares = record {
    owns = λ n. record {
      typed = λ p t e. e;
      spares = record { each = λ q row own s. let few = s.given in record { live = s.live; only = s.only; given = omega arith } };
      owned = λ h among own. among;
    };
    holds = λ n. refl;
  };
  shut = shut;
})

module _ {N S E H K V : Type 0} (tells : Storages S E N H K V) (says : E → Values N) (p : PagerView N S E)
    (well : IsPagerWhole (says p.environment) (pager_state tells p)) (place : ℕ)
    (entry : LeafEntry) (leaf : IsLeafEntry (pager_core tells p) place entry) where
  abbrev v : Values N
  v = says p.environment

  abbrev s : PagerState N E
  s = pager_state tells p

  abbrev row : HandleRow
  row = entry.row

  -- ---- the calls

  pub within : place < length s.core.list
  within = slice_get_within s.core.list place row.number leaf.listed.listed

  module _ (bare : IsBareAt v s row.node.0) (p2 : PagerView N S E) (h : HandleNumber)
      (takes : Calls ChangesOnlyTables tells p (λ w w'. TakeCall (with_worker_numbers w) Owner.Caller place (Some h) w') p2)
      (whole : IsPagerWhole (says p2.environment) (pager_state tells p2)) where
    environment-is : p2.environment ≡ p.environment
    environment-is = takes.only.environment

    storage-is : p2.storage ≡ p.storage
    storage-is = takes.only.storage

    q-whole : IsPagerWhole v (pager_state tells p2)
    q-whole = subst (λ e. IsPagerWhole (says e) (pager_state tells p2)) environment-is whole

    fewer : (m : ℕ) (y : N) → value_in p2.values m ≡ Some y → value_in p.values m ≡ Some y
    fewer m y held = ap (λ values. value_in values m) (sym takes.only.values) ∙ held

    took : (h ≡ row.number) × Alike (taken s well place row entry.node_type leaf.listed bare) (pager_core tells p2)
    took = takes-entry s well place row entry.node_type leaf.listed bare h takes.step

    -- the entry's handle is the caller's
    pub taken-live : (r : HandleRow) × (row_at (pager_core tells p2) h ≡ Some r) × (r.node ≡ row.node)
    taken-live =
        let live = own-live s well place row entry.node_type leaf.listed bare (pager_state tells p2) q-whole took.1 fewer in
        (record row { owner = Owner.Caller }, ap (row_at (pager_core tells p2)) took.0 ∙ live, refl)

    pub taken-pins : (m : ℕ) → pins m (pager_core tells p2).rows ≡ pins m s.core.rows
    taken-pins m = ap (pins m) took.1.rows ∙ pins-moved m (only_handle row.number) Owner.Caller s.core.rows

    -- how many pin the cell
    pub pins-before : (count : ℕ) → ((r : HandleRow) → row_at (pager_core tells p2) h ≡ Some r → count ≡ pins r.node.0 (pager_core tells p2).rows)
        → count ≡ pins row.node.0 s.core.rows
    pins-before count counts =
        let (r, live, at) = taken-live in
        counts r live ∙ ap (λ (m : NodeNumber). pins m.0 (pager_core tells p2).rows) at ∙ taken-pins row.node.0

    -- a clone can be made
    pub clone-never-fails : {e : Error} {w' : Core} → CloneCall (pager_core tells p2) Owner.Caller h (Err e) w' → ⊥
    clone-never-fails {e} call =
        let (r, live, at) = taken-live in
        let last = ap (λ (l : Last). l.handle) took.1.last in
        let left = leaf.handles_left in
        elim call.refused.why [
          | inl fault ↦ grind basics
          | inr (wanting, before, full) ↦
              let rows = ap (λ (rs : List HandleRow). length rs) took.1.rows in
              let same = length-map s.core.rows (λ x. if only_handle row.number x.number.0 then record x { owner = Owner.Caller } else x) in
              let more = took.1.places.handles in
              let room = leaf.room in
              omega arith
        ]

    less : {p3 : PagerView N S E} → AddsNoValue p2 p3 → AddsNoValue p p3
    less only = record {
      values = λ m y held. fewer m y (only.values m y held);
      storage = only.storage ∙ storage-is;
      environment = only.environment ∙ environment-is;
    }

    less-then : {p3 p4 : PagerView N S E} → AddsNoValue p2 p3 → AddsNoValue p3 p4 → AddsNoValue p p4
    less-then a b = less (record {
      values = λ m y held. a.values m y (b.values m y held);
      storage = b.storage ∙ a.storage;
      environment = b.environment ∙ a.environment;
    })

    -- the key is set, and the entry released
    module _ (key : ℕ) (told told2 : Result (Unit {0}) Error) (p3 p4 : PagerView N S E)
        (sets : CallsKeepingInvariant tells says p2 (λ w w'. SetKeyCall w Owner.Caller h key told w') p3)
        (releases : CallsKeepingInvariant tells says p3 (λ w w'. ReleaseCall w Owner.Caller h told2 w') p4) where
      pub finish-leaves : Alike (with_entry_paged s.core place row key) (pager_core tells p4)
      finish-leaves =
          let whole3 = subst (λ e. IsPagerWhole (says e) (pager_state tells p3)) environment-is sets.called.whole in
          leaves-paged s well place row entry.node_type leaf.listed bare (pager_state tells p2) q-whole took.1 fewer key told (pager_state tells p3)
          whole3 (λ m y held. sets.only.values m y held)
          (subst (λ (k : HandleNumber). SetKeyCall (pager_core tells p2) Owner.Caller k key told (pager_core tells p3)) took.0 sets.called.step)
          (subst (λ (k : HandleNumber). ReleaseCall (pager_core tells p3) Owner.Caller k told2 (pager_core tells p4)) took.0 releases.called.step)

      pub finish-only : AddsNoValue p p4
      finish-only = less-then sets.only releases.only

    -- the entry is released, and the cell is pinned elsewhere
    module _ (told : Result (Unit {0}) Error) (p3 : PagerView N S E) (pinned : 0 < pins row.node.0 s.core.rows)
        (releases : CallsKeepingInvariant tells says p2 (λ w w'. ReleaseCall w Owner.Caller h told w') p3) where
      pub unlist-leaves : (entries : List HandleRow) × AreNewFor s.core row entries
          × Alike (with_entry_relisted s.core place row entries) (pager_core tells p3)
      unlist-leaves = (
        [],
        inr (pinned, refl),
        leaves-unlisted s well place row entry.node_type leaf.listed bare (pager_state tells p2) q-whole took.1 fewer
            (subst (λ (k : HandleNumber). ReleaseCall (pager_core tells p2) Owner.Caller k told (pager_core tells p3)) took.0 releases.called.step),
      )

      pub unlist-only : AddsNoValue p p3
      unlist-only = less releases.only

    -- a clone of it goes to the list's end, and the entry is released
    module _ (k : HandleNumber) (p3 : PagerView N S E) (clones : Calls ChangesOnlyTables tells p2 (λ w w'. CloneCall w Owner.Caller h (Ok k) w') p3)
        (whole3 : IsPagerWhole (says p3.environment) (pager_state tells p3)) (told told2 : Result (Unit {0}) Error) (p4 p5 : PagerView N S E)
        (unpinned : pins row.node.0 s.core.rows ≡ 0)
        (schedules : CallsKeepingInvariant tells says p3 (λ w w'. ScheduleCall w Owner.Caller k told w') p4)
        (releases : CallsKeepingInvariant tells says p4 (λ w w'. ReleaseCall w Owner.Caller h told2 w') p5) where
      clone-only : AddsNoValue p2 p3
      clone-only = record {
        values = λ m y held. ap (λ values. value_in values m) (sym clones.only.values) ∙ held;
        storage = clones.only.storage;
        environment = clones.only.environment;
      }

      pub relist-leaves : (entries : List HandleRow) × AreNewFor s.core row entries
          × Alike (with_entry_relisted s.core place row entries) (pager_core tells p5)
      relist-leaves =
          let same : p3.environment ≡ p.environment = clones.only.environment ∙ environment-is in
          let c-whole = subst (λ e. IsPagerWhole (says e) (pager_state tells p3)) same whole3 in
          let l-whole = subst (λ e. IsPagerWhole (says e) (pager_state tells p4)) same schedules.called.whole in (
            new_entry s.core row ∷ [],
            inl (unpinned, refl),
            leaves-relisted s well place row entry.node_type leaf.listed bare (pager_state tells p2) q-whole took.1 fewer k (pager_state tells p3) c-whole
                (subst (λ (j : HandleNumber). CloneCall (pager_core tells p2) Owner.Caller j (Ok k) (pager_core tells p3)) took.0 clones.step)
                told (pager_state tells p4) l-whole (λ m y held. fewer m y (clone-only.values m y (schedules.only.values m y held))) schedules.called.step
                (subst (λ (j : HandleNumber). ReleaseCall (pager_core tells p4) Owner.Caller j told2 (pager_core tells p5)) took.0 releases.called.step),
          )

      pub relist-only : AddsNoValue p p5
      relist-only = less-then (record {
        values = λ m y held. clone-only.values m y (schedules.only.values m y held);
        storage = schedules.only.storage ∙ clone-only.storage;
        environment = schedules.only.environment ∙ clone-only.environment;
      }) releases.only

  -- ---- the worker's run

  module _ (kinds : HasKinds entry.node_type) (blob : Blob) (written : WritesLeaf v s row.node.0 blob) (p1 : PagerView N S E) where
    pub leaf-bare : IsBareAt v s row.node.0
    leaf-bare y held =
        let same : Some y ≡ Some written.x = sym held ∙ written.held in
        let e : y ≡ written.x = cc in
        ap v.references e ∙ written.writes.bare

    abbrev w : Core
    w = s.core

    abbrev asked-core : Core
    asked-core = record w { stored = tells.stored p1.storage; failures = tells.failed p1.storage }

    stands-open : w.closed ≡ false
    stands-open = false_from_ne_true w.closed (λ shut.
        absurd (omega (arith, slice_get_within w.list place row.number leaf.listed.listed, ap length (well.whole.shut shut).0)))

    loose : is_loose row.mode ≡ true
    loose = ap is_loose (entry-row well.whole leaf.listed).2

    module _ {r : Result ℕ Error} (asks : AsksStorage tells p (λ w w'. StoreCall (digest v) w blob r w') p1) where
      core-is : pager_core tells p1 ≡ asked-core
      core-is = λ i. record (core_of (asks.only.tables i) (storage_view tells p.storage)) {
        stored = tells.stored p1.storage;
        failures = tells.failed p1.storage;
        closed = asks.closed i;
      }

      -- what was found is so once the storage was asked
      pub leaf-asked : IsLeafEntry (pager_core tells p1) place entry
      leaf-asked = subst (λ c. IsLeafEntry c place entry) (sym core-is) (record {
        listed = record { listed = leaf.listed.listed; live = leaf.listed.live; typed = leaf.listed.typed };
        unkeyed = leaf.unkeyed;
        worker_left = leaf.worker_left;
        handles_left = leaf.handles_left;
        room = leaf.room;
      })

      pub bare-asked : IsBareAt (says p1.environment) (pager_state tells p1) row.node.0
      bare-asked = subst (λ e. IsBareAt (says e) (pager_state tells p1) row.node.0) (sym asks.only.environment)
          (λ y held. leaf-bare y (ap (λ values. value_in values row.node.0) (sym asks.only.values) ∙ held))

      module _ (u : PagerView N S E) (only : AddsNoValue p1 u) (whole : IsPagerWhole (says u.environment) (pager_state tells u))
          (stores : StoreCall (digest v) w blob r (pager_core tells p1)) where
        environment-after : u.environment ≡ p.environment
        environment-after = only.environment ∙ asks.only.environment

        u-whole : IsPagerWhole v (pager_state tells u)
        u-whole = subst (λ e. IsPagerWhole (says e) (pager_state tells u)) environment-after whole

        u-fewer : (m : ℕ) (y : N) → value_in u.values m ≡ Some y → value_in p.values m ≡ Some y
        u-fewer m y held = ap (λ values. value_in values m) (sym asks.only.values) ∙ only.values m y held

        stores-so : StoreCall (digest v) w (blob_of blob.bytes []) r asked-core
        stores-so = subst (λ b. StoreCall (digest v) w b r asked-core) written.writes.is (subst (λ c. StoreCall (digest v) w blob r c) core-is stores)

        pub page-out-run : (key : ℕ) → r ≡ Ok key → Alike (with_entry_paged (pager_core tells p1) place row key) (pager_core tells u)
            → PagesLeaf v s place (WorkerAnswer.Key key) (pager_state tells u)
        page-out-run key told alike = record {
          h = row.number;
          has = record { row = row; listed = leaf.listed.listed; live = leaf.listed.live; keyed = leaf.unkeyed };
          pages = λ well.
              pages-leaf v s well place row entry.node_type leaf.listed leaf.worker_left leaf.handles_left leaf.unkeyed
              (begun-whole w well.whole place row leaf.listed.listed leaf.listed.live loose stands-open leaf.handles_left leaf.room)
              (cloned-whole w well.whole place row leaf.listed.listed leaf.listed.live loose stands-open leaf.handles_left leaf.room)
              (pinned-whole w well.whole place row leaf.listed.listed leaf.listed.live loose stands-open leaf.handles_left leaf.room)
              written.x written.held written.writes.bare blob.bytes written.writes.form (tells.stored p1.storage) (tells.failed p1.storage)
              (pinned-stored w well.whole place row leaf.listed.listed leaf.listed.live loose stands-open leaf.handles_left leaf.room
              (tells.stored p1.storage) (tells.failed p1.storage))
              key
              (pinned-keyed w well.whole place row leaf.listed.listed leaf.listed.live loose stands-open leaf.handles_left leaf.room
              (tells.stored p1.storage) (tells.failed p1.storage) key)
              kinds (rw told at stores-so) (pager_state tells u) u-whole
              (subst (λ c. Alike (with_entry_paged c place row key) (pager_core tells u)) core-is alike) u-fewer environment-after;
        }

        pub failure-run : (e : Error) → r ≡ Err e → (entries : List HandleRow) → AreNewFor (pager_core tells p1) row entries
            → Alike (with_entry_relisted (pager_core tells p1) place row entries) (pager_core tells u)
            → PagesLeaf v s place (WorkerAnswer.Failed e) (pager_state tells u)
        failure-run e told entries are alike = record {
          h = row.number;
          has = record { row = row; listed = leaf.listed.listed; live = leaf.listed.live; keyed = leaf.unkeyed };
          pages = λ well.
              fails-leaf v s well place row entry.node_type leaf.listed leaf.worker_left leaf.handles_left leaf.unkeyed
              (begun-whole w well.whole place row leaf.listed.listed leaf.listed.live loose stands-open leaf.handles_left leaf.room)
              (cloned-whole w well.whole place row leaf.listed.listed leaf.listed.live loose stands-open leaf.handles_left leaf.room)
              (pinned-whole w well.whole place row leaf.listed.listed leaf.listed.live loose stands-open leaf.handles_left leaf.room)
              written.x written.held written.writes.bare blob.bytes written.writes.form (tells.stored p1.storage) (tells.failed p1.storage)
              (pinned-stored w well.whole place row leaf.listed.listed leaf.listed.live loose stands-open leaf.handles_left leaf.room
              (tells.stored p1.storage) (tells.failed p1.storage))
              entries (subst (λ c. AreNewFor c row entries) core-is are) e kinds (rw told at stores-so) (pager_state tells u) u-whole
              (subst (λ c. Alike (with_entry_relisted c place row entries) (pager_core tells u)) core-is alike) u-fewer environment-after;
        }
