-- What each call of a counted storage adds to the counts, by its answer.
use Rattle.futures.specs.declared.task.Poll.{Poll}
use Rattle.futures.specs.declared.task.Poll.TheVariants.{Pending, Ready}
use Rattle.pagable_core.specs.{
  Data.blob_of,
  declared.storage.{data.PagableData.PagableData, storage_counts.StorageCounts.StorageCounts},
}
use Rattle.pagable_value_spec.specs.declared.error.Error.{Error}
use Rattle.std.specs.{
  Arc.arc_value,
  Global.Global,
  Prelude.{Err, Ok, Result, length, min, ℕ, ◌+◌, ◌-◌, ◌^◌},
  declared.sync.Arc.Arc,
}

-- the counts before anything was asked
abbrev pub nothing_counted : StorageCounts
nothing_counted = record {
  fetches = 0;
  fetched_bytes = 0;
  failed_fetches = 0;
  stores = 0;
  stored_bytes = 0;
  failed_stores = 0;
  flushes = 0;
  failed_flushes = 0;
}

-- a count raised by so many, up to the greatest one
abbrev pub raised : ℕ → ℕ → ℕ
raised count by = min (count + by) (2 ^ 64 - 1)

-- the answer of a fetch
abbrev pub Fetched : Type 0
Fetched = Result (Arc PagableData Global) Error

-- one fetched blob and its bytes, or one failed fetch
abbrev pub with_fetch : Fetched → StorageCounts → StorageCounts
with_fetch (Ok found) counts = record counts {
  fetches = raised counts.fetches 1;
  fetched_bytes = raised counts.fetched_bytes (length (blob_of (arc_value found)).bytes);
}
with_fetch (Err _) counts = record counts { failed_fetches = raised counts.failed_fetches 1 }

-- a poll that is ready counts as its fetch, and a pending one as nothing
abbrev pub with_poll : Poll Fetched → StorageCounts → StorageCounts
with_poll (Ready answer) counts = with_fetch answer counts
with_poll Pending counts = counts

-- one stored blob of so many bytes, or one failed store
abbrev pub with_store : ℕ → Result ℕ Error → StorageCounts → StorageCounts
with_store bytes (Ok _) counts = record counts {
  stores = raised counts.stores 1;
  stored_bytes = raised counts.stored_bytes bytes;
}
with_store bytes (Err _) counts = record counts { failed_stores = raised counts.failed_stores 1 }

-- one flush, or one failed flush
abbrev pub with_flush : Result (Unit {0}) Error → StorageCounts → StorageCounts
with_flush (Ok _) counts = record counts { flushes = raised counts.flushes 1 }
with_flush (Err _) counts = record counts { failed_flushes = raised counts.failed_flushes 1 }
