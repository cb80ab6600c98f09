-- Loads of leaves in one call: what a load by steps leaves that begins, gets its blob and ends, or is dropped.
use Rattle.pagable_pager_spec.specs.{
  Kinds.is_loose,
  LoadCalls.{BeginCall, Installs, LoadCloses, MayEnd},
  Refusals.Owns,
  World.{Core, greatest, is_here, key_at, of_cell, type_at},
  declared.{handle_row.{HandleRow.HandleRow, Owner.Owner}, pinning.Beginning.Beginning},
}
use Rattle.pagable_tables.specs.{Core.ArePlaced, declared.leaf.Leaf.Leaf}
use Rattle.pagable_value_spec.specs.{
  declared.{data_key.OptionalDataKey.OptionalDataKey, numbers.HandleNumber.HandleNumber},
}
use Rattle.std.specs.Prelude.{Ok, Some, false, ℕ, [], ◌+◌, ◌<◌, ◌≡◌}

-- the numbers of a load and of its handle are taken
abbrev pub with_numbers : Core → Core
with_numbers w = record w { last = record w.last { handle = w.last.handle + 1; load = w.last.load + 1 } }

-- the cell of a loose handle that `me` owns has no value in memory, and numbers are left for a load, its handle and a
-- pin
pub record IsLeaf (w : Core) (me : Owner) (leaf : Leaf) : Type 0 where
  pub owned : Owns w me leaf.row.number is_loose leaf.row
  pub away : is_here w leaf.row.node.0 ≡ false
  pub keyed : key_at w leaf.row.node.0 ≡ OptionalDataKey.Some leaf.key
  pub typed : type_at w leaf.row.node.0 ≡ Some leaf.node_type
  pub load_left : w.last.load < greatest
  pub handles_left : w.last.handle + 1 < greatest

-- A load of the cell begins, and ends with a value without references, by which the handle is pinned.
pub record PinsLeaf (w : Core) (me : Owner) (row : HandleRow) (key type : ℕ) (k : HandleNumber)
    (w' : Core) : Type 0 where
  pub begun : Core
  pub begins : BeginCall w me row.number (Ok (Beginning.Load (record { 0 = w.last.load + 1 }) key)) begun
  pub opened : begun.loads (w.last.load + 1) ≡ Some (record {
    owner = me;
    key = key;
    root = of_cell row.node type row.number;
  })
  pub placed : ArePlaced begun
  pub away : is_here begun row.node.0 ≡ false
  pub may : MayEnd begun me (record { 0 = w.last.load + 1 }) row.node row.number type []
  pub ends : Installs begun me (record { 0 = w.last.load + 1 }) row.node row.number k [] w'

-- A load of the cell begins, and is dropped.
pub record DropsLeaf (w : Core) (me : Owner) (row : HandleRow) (key type : ℕ) (w' : Core) : Type 0 where
  pub begun : Core
  pub begins : BeginCall w me row.number (Ok (Beginning.Load (record { 0 = w.last.load + 1 }) key)) begun
  pub opened : begun.loads (w.last.load + 1) ≡ Some (record {
    owner = me;
    key = key;
    root = of_cell row.node type row.number;
  })
  pub placed : ArePlaced begun
  pub closes : LoadCloses begun (record { 0 = w.last.load + 1 }) (Ok tt) w'
