-- Nodes by their numbers: the counts of each, the references of its value, and whether it has one.
use Rattle.pagable_pager_spec.specs.World.{Cell}
use Rattle.pagable_tables.specs.{
  NumberTable.row_by,
  declared.{nodes.{Counts.Counts, NodeRow.NodeRow}, number_table.NumberTable.NumberTable},
}
use Rattle.pagable_value_spec.specs.declared.{
  data_key.OptionalDataKey.OptionalDataKey,
  numbers.{ArcRef.ArcRef, NodeNumber.NodeNumber},
}
use Rattle.std.specs.{
  Option.{option_map, option_map_or},
  Prelude.{Bool, List, None, Option, Some, false, if◌then◌else◌, is_some, nat_lt, not, suc, zero, ℕ, [], ◌||◌},
}

abbrev pub counts_at : NumberTable NodeRow → ℕ → Option Counts
counts_at nodes n = option_map (λ (r : NodeRow). r.counts) (row_by nodes n)

abbrev pub refs_at : NumberTable NodeRow → ℕ → List ArcRef
refs_at nodes n = option_map_or (λ (r : NodeRow). r.references.items) (row_by nodes n) []

-- the node, if it is there
abbrev pub living : (ℕ → Option Counts) → Option NodeNumber → Option NodeNumber
living at None = None
living at (Some n) = if is_some (at n.0) then Some n else None

-- at least the number of the node's handles that workers own
abbrev pub most_worker_handles_at : NumberTable NodeRow → ℕ → ℕ
most_worker_handles_at nodes n = option_map_or (λ (r : NodeRow). r.worker_bound) (row_by nodes n) 0

-- the references, if they are to be added
abbrev pub coming : Bool → List ArcRef → List ArcRef
coming comes refs = if comes then refs else []

-- ---- the counts of a node, in the midst of a cascade too

abbrev pub pins_in : Option Counts → ℕ
pins_in None = 0
pins_in (Some c) = c.pins

abbrev pub holds_in : Option Counts → ℕ
holds_in None = 0
holds_in (Some c) = c.holds

abbrev pub falls_in : Option Counts → Bool
falls_in None = false
falls_in (Some c) = c.is_dying

abbrev pub next_in : Option Counts → ℕ
next_in None = 0
next_in (Some c) = c.next

-- the key of this number, if it is one
abbrev pub key_in : ℕ → OptionalDataKey
key_in zero = OptionalDataKey.None
key_in (suc n) = OptionalDataKey.Some (suc n)

-- a node by its type and key
abbrev pub cell_in : Option Counts → Option Cell
cell_in None = None
cell_in (Some c) = Some (record { node_type = c.node_type; key = key_in c.key })

-- whether the value of a node that isn't dying is in memory: a handle pins the node, or it has no key
abbrev pub has_value : Option Counts → Bool
has_value None = false
has_value (Some c) = nat_lt 0 c.pins || not (nat_lt 0 c.key)
