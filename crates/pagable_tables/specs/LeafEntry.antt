-- Page-outs of leaves in one call: entries of the list whose cells have no key, and the numbers that a worker takes.
use Rattle.pagable_pager_spec.specs.{
  Events.IsEntry,
  World.{Core, greatest, key_at},
}
use Rattle.pagable_tables.specs.declared.leaf_entry.LeafEntry.{LeafEntry}
use Rattle.pagable_value_spec.specs.declared.data_key.OptionalDataKey.{OptionalDataKey}
use Rattle.std.specs.Prelude.{length, ℕ, ◌+◌, ◌<◌, ◌≡◌, ◌≤◌}

-- the numbers of a worker and of two handles are taken
abbrev pub with_worker_numbers : Core → Core
with_worker_numbers w = record w {
  last = record w.last { handle = w.last.handle + 2; worker = w.last.worker + 1 };
}

-- the cell of the entry at this place has no key, numbers are left for a worker and three handles, and there is room
-- for two handles
pub record IsLeafEntry (w : Core) (place : ℕ) (entry : LeafEntry) : Type 0 where
  pub listed : IsEntry w place entry.row.number entry.row entry.node_type
  pub unkeyed : key_at w entry.row.node.0 ≡ OptionalDataKey.None
  pub worker_left : w.last.worker < greatest
  pub handles_left : w.last.handle + 2 < greatest
  pub room : length w.rows + 2 ≤ w.places.handles
