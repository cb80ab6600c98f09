-- Loads and workers by their numbers, and cached nodes by kind and key.
use Rattle.indexmap.specs.IndexMap.{IndexMap, get}
use Rattle.pagable_tables.specs.declared.{load_table.LoadRow.LoadRow, tables.HandleRange.HandleRange}
use Rattle.pagable_value_spec.specs.declared.numbers.NodeNumber.{NodeNumber}
use Rattle.std.specs.{Option.option_map_or, Prelude.{Bool, Option, nat_eq, ℕ, ◌&&◌}}

-- ---- loads, workers and the cache as functions of numbers and keys

-- whether kind and key are the same
abbrev pub is_same : ℕ × ℕ → ℕ × ℕ → Bool
is_same x y = nat_eq x.0 y.0 && nat_eq x.1 y.1

module _ {S : Type 0} where
  abbrev pub load_at : IndexMap ℕ LoadRow S → ℕ → Option LoadRow
  load_at loads l = get nat_eq loads l

  abbrev pub cached_at : IndexMap (ℕ × ℕ) NodeNumber S → ℕ → ℕ → Option NodeNumber
  cached_at cache kind key = get is_same cache (kind, key)

  abbrev pub worker_at : IndexMap ℕ HandleRange S → ℕ → Option HandleRange
  worker_at workers v = get nat_eq workers v

  -- an unknown worker may own any handle
  abbrev pub reach_at : IndexMap ℕ HandleRange S → ℕ → HandleRange
  reach_at workers v = option_map_or (λ reach. reach) (worker_at workers v) (record { since = 0; beside = 0 })
