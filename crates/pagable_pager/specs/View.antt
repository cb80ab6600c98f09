-- What contracts see of a pager and its open loads, and the core that they derive from it.
use Rattle.either.specs.declared.Either.{Either}
use Rattle.pagable_codec.specs.{
  declared.{env.Env.Ghosts as Environments, hash.KeyHash.Ghosts as Hashes, nodes.NodeSet.Ghosts as Nodes},
}
pub use Rattle.pagable_core.specs.declared.storage.traits.PagableStorage.{Ghosts as Storages}
use Rattle.pagable_load.specs.AccessView.{values_at}
use Rattle.pagable_pager_spec.specs.{
  Access.MakesCall,
  Basics.{Blob, updated},
  Events.{IsEntry, with_entry_taken, with_worker},
  Kinds.{HasKinds, loose_kind},
  LoadCalls.{Given, from_cache, from_store},
  Pager.{IsCellOf, IsNewNode, IsPagerWhole, Moves, PagerState},
  Refusals.OwnsLoad,
  World.{Alike, Core, OpenLoad, Root, Values, of_cell, of_key},
  declared.{calls.FetchTarget.FetchTarget, handle_row.{HandleRow.HandleRow, Owner.Owner}},
}
use Rattle.pagable_tables.specs.{
  Core.{OwnLaterHandles, StorageView, core_of},
  Nodes.{counts_at, pins_in},
  NumberTable.row_by,
  declared.{number_table.NumberTable.NumberTable, tables.Tables.Tables},
}
use Rattle.pagable_value_spec.specs.Blob.{key_of}
use Rattle.pagable_value_spec.specs.declared.{
  numbers.{ArcRef.ArcRef, HandleNumber.HandleNumber, LoadNumber.LoadNumber, WorkerNumber.WorkerNumber},
}
use Rattle.std.specs.{
  Arc.arc_value,
  Global.Global,
  Option.option_map,
  Prelude.{Bool, IsTrue, List, None, Option, Some, false, true, ℕ, ◌+◌, ◌≡◌},
  declared.sync.Arc.Arc,
}
use Rattle.pagable_tables.specs.Core as tables

abbrev pub ValuesByNode : Type 0 → Type 0
ValuesByNode N = NumberTable (Arc N Global)

-- the tables, the values in memory by the numbers of their nodes, the storage, and the environment
pub record PagerView (N S E : Type 0) : Type 0 where
  pub tables : Tables
  pub values : ValuesByNode N
  pub storage : S
  pub environment : E

-- the value of a node
abbrev pub value_in : {N : Type 0} → ValuesByNode N → ℕ → Option N
value_in values n = option_map arc_value (row_by values n)

-- the values, with x at the node n if it comes
abbrev pub with_value : {N : Type 0} → Bool → ℕ → N → (ℕ → Option N) → ℕ → Option N
with_value true n x values = updated n (Some x) values
with_value false n x values = values

-- what a storage has stored, whether it is closed, and how often it failed
abbrev pub storage_view : {S E N H K V : Type 0} → Storages S E N H K V → S → StorageView
storage_view tells s = record { stored = tells.stored s; closed = tells.is_closed s; failures = tells.failed s }

-- the pager's core; below: with counts, values and environment
abbrev pub pager_core : {N S E H K V : Type 0} → Storages S E N H K V → PagerView N S E → Core
pager_core tells p = core_of p.tables (storage_view tells p.storage)

abbrev pub pager_state : {N S E H K V : Type 0} → Storages S E N H K V → PagerView N S E → PagerState N E
pager_state tells p = record {
  core = pager_core tells p;
  counts = λ n. pins_in (counts_at p.tables.ref_counts.nodes n);
  values = value_in p.values;
  environment = p.environment;
}

-- a relation of the pager's states before and after a call, over the values of its environment
abbrev pub Between : {N S E H K V : Type 0} → Nodes N E N H K V → Environments E N H K V → Hashes H
    → Storages S E N H K V → PagerView N S E → PagerView N S E
    → (Values N → PagerState N E → PagerState N E → Type 0) → Type 0
Between nodes environments hashes tells old new relates = relates
    (values_at nodes environments hashes old.environment) (pager_state tells old) (pager_state tells new)

-- the same, if the storage is honest after the call
abbrev pub BetweenIfHonest : {N S E H K V : Type 0} → Nodes N E N H K V → Environments E N H K V → Hashes H
    → Storages S E N H K V → PagerView N S E → PagerView N S E
    → (Values N → PagerState N E → PagerState N E → Type 0) → Type 0
BetweenIfHonest nodes environments hashes tells old new relates = IsTrue (tells.is_honest new.storage)
    → Between nodes environments hashes tells old new relates

-- no value comes into memory but x, at a new node; or at the node of the load's cell
abbrev pub BringsAtNewNode : {N S E H K V : Type 0} → Storages S E N H K V → N → PagerView N S E → PagerView N S E
    → Type 0
BringsAtNewNode tells x old new = Moves (λ n y. (y ≡ x) × IsNewNode (pager_core tells old) n) (pager_state tells old)
    (pager_state tells new)

abbrev pub BringsToCell : {N S E H K V : Type 0} → Storages S E N H K V → LoadNumber → N → PagerView N S E
    → PagerView N S E → Type 0
BringsToCell tells l x old new = Moves (λ n y. (y ≡ x) × IsCellOf (pager_core tells old) l n) (pager_state tells old)
    (pager_state tells new)

-- The tables satisfy their invariant; the handles that loads and workers own are in their ranges; and the core
-- satisfies the invariant for the environment's values.
pub record IsPager {N S E H K V : Type 0} (tells : Storages S E N H K V) (says : E → Values N)
    (p : PagerView N S E) : Type 0 where
  pub tables : tables.IsWhole p.tables
  pub later : OwnLaterHandles p.tables
  pub state : IsPagerWhole (says p.environment) (pager_state tells p)

-- values, storage and environment are the same
pub record ChangesOnlyTables {N S E : Type 0} (old new : PagerView N S E) : Type 0 where
  pub values : new.values ≡ old.values
  pub storage : new.storage ≡ old.storage
  pub environment : new.environment ≡ old.environment

-- tables, values and environment are the same
pub record ChangesOnlyStorage {N S E : Type 0} (old new : PagerView N S E) : Type 0 where
  pub tables : new.tables ≡ old.tables
  pub values : new.values ≡ old.values
  pub environment : new.environment ≡ old.environment

-- storage and environment are the same, and each value that is in memory was there before
pub record AddsNoValue {N S E : Type 0} (old new : PagerView N S E) : Type 0 where
  pub values : (n : ℕ) (x : N) → value_in new.values n ≡ Some x → value_in old.values n ≡ Some x
  pub storage : new.storage ≡ old.storage
  pub environment : new.environment ≡ old.environment

-- the environment is the same, and each value that is in memory was there before
pub record FewerValues {N S E : Type 0} (old new : PagerView N S E) : Type 0 where
  pub values : (n : ℕ) (x : N) → value_in new.values n ≡ Some x → value_in old.values n ≡ Some x
  pub environment : new.environment ≡ old.environment

-- values and environment are the same
pub record SameValues {N S E : Type 0} (old new : PagerView N S E) : Type 0 where
  pub values : new.values ≡ old.values
  pub environment : new.environment ≡ old.environment

-- what a load's fetch returns, with the blob viewed by `see`
abbrev pub from_cache_or_store : {B : Type 0} → (B → Blob) → Either HandleNumber B → Given
from_cache_or_store see (Either.Left k) = from_cache k
from_cache_or_store see (Either.Right blob) = from_store (see blob)

-- a fetch of the load's own blob never returns a handle of the cache's
abbrev pub FitsWant : {B : Type 0} → FetchTarget → Either HandleNumber B → Type 0
FitsWant FetchTarget.Root (Either.Left k) = ⊥
FitsWant want given = Unit {0}

-- the hash of a blob that a load has fetched is the load's own key, or the key that was asked for
abbrev pub IsNamedFor : {B : Type 0} → (List ℕ → List ℕ) → (B → Blob) → Core → LoadNumber → FetchTarget
    → Either HandleNumber B → Type 0
IsNamedFor hash see w l want (Either.Left k) = Unit {0}
IsNamedFor hash see w l FetchTarget.Root (Either.Right b) = (load : OpenLoad) × (w.loads l.0 ≡ Some load)
    × (key_of hash (see b) ≡ load.key)
IsNamedFor hash see w l (FetchTarget.Nested kind key) (Either.Right b) = key_of hash (see b) ≡ key

-- whether the owner is the caller, or a worker at work
abbrev pub may_call : Core → Owner → Bool
may_call w Owner.Caller = true
may_call w (Owner.Worker v) = w.workers v.0
may_call w _ = false

-- the same workers are at work, and the storage is closed exactly if it was
pub record KeepsWorkers (w w' : Core) : Type 0 where
  pub workers : w'.workers ≡ w.workers
  pub closed : w'.closed ≡ w.closed

-- a call's step in the core, and what it leaves unchanged
pub record Calls {N S E H K V : Type 0} (Only : PagerView N S E → PagerView N S E → Type 0)
    (tells : Storages S E N H K V) (old : PagerView N S E) (makes : Core → Core → Type 0)
    (new : PagerView N S E) : Type 0 where
  pub step : makes (pager_core tells old) (pager_core tells new)
  pub only : Only old new

-- A call of the storage: its step in the core, if the storage is honest afterwards. In any case nothing else
-- changes, the storage is closed exactly if it was, and a storage that is honest afterwards was honest before.
pub record AsksStorage {N S E H K V : Type 0} (tells : Storages S E N H K V) (old : PagerView N S E)
    (makes : Core → Core → Type 0) (new : PagerView N S E) : Type 0 where
  pub step : IsTrue (tells.is_honest new.storage) → makes (pager_core tells old) (pager_core tells new)
  pub honest : IsTrue (tells.is_honest new.storage) → IsTrue (tells.is_honest old.storage)
  pub closed : tells.is_closed new.storage ≡ tells.is_closed old.storage
  pub only : ChangesOnlyStorage old new

-- each name stands for what it stood for, and durably for what it durably stood for, if the storage is honest afterwards
abbrev pub SameNames : {S E N H K V : Type 0} → Storages S E N H K V → S → S → Type 0
SameNames tells old new = IsTrue (tells.is_honest new) → (tells.roots new ≡ tells.roots old)
    × (tells.roots_flushed new ≡ tells.roots_flushed old)

-- a call that brings no value into memory, and keeps the pager's invariant
pub record CallsKeepingInvariant {N S E H K V : Type 0} (tells : Storages S E N H K V) (says : E → Values N)
    (old : PagerView N S E) (makes : Core → Core → Type 0) (new : PagerView N S E) : Type 0 where
  pub called : MakesCall (says old.environment) (makes (pager_core tells old)) (pager_state tells old)
      (pager_state tells new)
  pub only : AddsNoValue old new

-- ---- what an open load reads

-- the type of the cell's value, if it is a load of a cell
abbrev pub type_of_root : Root → Option ℕ
type_of_root (of_cell node t h) = Some t
type_of_root of_key = None

-- an open load of the caller's reads this key, for a cell of this type or for the caller
pub record ReadsAs (w : Core) (l : LoadNumber) (key : ℕ) (t : Option ℕ) : Type 0 where
  pub load : OpenLoad
  pub owned : OwnsLoad w Owner.Caller l load
  pub key_is : load.key ≡ key
  pub type_is : type_of_root load.root ≡ t

-- the entry at this place moves to a new worker, as a loose reference to its cell
pub record TakesEntry (w : Core) (place : ℕ) (n : WorkerNumber) (r : ArcRef) (w' : Core) : Type 0 where
  pub h : HandleNumber
  pub row : HandleRow
  pub type : ℕ
  pub entry : IsEntry w place h row type
  pub kinds : HasKinds type
  pub is : r ≡ record { kind = record { 0 = loose_kind type }; node = row.node; handle = h }
  pub next : n.0 ≡ w.last.worker + 1
  pub leaves : Alike (with_worker (with_entry_taken w place h n)) w'
