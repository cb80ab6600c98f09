-- Whether handles, nodes, list, cache, loads, workers and values agree, as `soundness.rt` computes it.
use Rattle.pagable_pager_spec.specs.{
  Basics.{is_shared_kind, type_of},
  Kinds.{is_at, is_handle, is_owned_by, is_pin, is_share, is_unpinned, owner_value},
  declared.handle_row.{HandleRow.HandleRow, Owner.Owner},
}
use Rattle.pagable_tables.specs.{
  Indexes.{load_at, worker_at},
  Nodes.{counts_at, refs_at},
  NumberTable.row_by,
  declared.{nodes.Counts.Counts, number_table.NumberTable.NumberTable, place.Place.Place, tables.Tables.Tables},
}
use Rattle.pagable_value_spec.specs.declared.numbers.{ArcRef.ArcRef, HandleNumber.HandleNumber, NodeNumber.NodeNumber}
use Rattle.std.specs.{
  List.list_all,
  Prelude.{Bool, List, None, Option, Some, count_by, false, is_some, nat_le, not, suc, true, zero, ℕ, ◌&&◌, ◌==◌, ◌||◌},
}

-- whether a place is live and has a handle of the node; a pin of it; a Shared one of it; this owner's handle
abbrev pub at_node : ℕ → Place → Bool
at_node n p = p.is_live && is_at n p.row

abbrev pub pins_node : ℕ → Place → Bool
pins_node n p = p.is_live && is_pin n p.row

abbrev pub shares_node : ℕ → Place → Bool
shares_node n p = p.is_live && is_share n p.row

abbrev pub owned_at : ℕ → Owner → Place → Bool
owned_at q owner p = p.is_live && (is_handle q p.row && is_owned_by owner p.row)

-- exactly one live place has this handle and owner
abbrev pub is_owned_once : List Place → Owner → ℕ → Bool
is_owned_once places owner q = count_by (owned_at q owner) places == 1

-- the owner of the handle has it: a value names it once in its references, the list once in its entries, unpinned; a
-- load is open, a worker runs
abbrev pub is_known_to_owner : Tables → HandleRow → Owner → Bool
is_known_to_owner t h Owner.Caller = true
is_known_to_owner t h (Owner.Value n) = count_by (λ (r : ArcRef). r.handle.0 == h.number.0)
    (refs_at t.ref_counts.nodes n.0) == 1
is_known_to_owner t h Owner.List = is_unpinned h.mode && (count_by (λ (q : HandleNumber). q.0 == h.number.0)
    t.ref_counts.list.items == 1)
is_known_to_owner t h (Owner.Load l) = is_some (load_at t.loads l.0)
is_known_to_owner t h (Owner.Worker v) = is_some (worker_at t.workers v.0)

-- a live handle has a number that was given out and a node that exists, and its owner has it
abbrev pub is_row_sound : Tables → HandleRow → Bool
is_row_sound t h = (nat_le 1 h.number.0 && nat_le h.number.0 t.ref_counts.last_handle)
    && (is_some (counts_at t.ref_counts.nodes h.node.0) && is_known_to_owner t h h.owner)

abbrev pub is_place_sound : Tables → Place → Bool
is_place_sound t p = not p.is_live || is_row_sound t p.row

-- both are true, or neither
abbrev pub agree : Bool → Bool → Bool
agree true b = b
agree false b = not b

-- A node counts its handles and its pins, has a handle and isn't dying; its value is in memory exactly if a handle pins
-- it or it has no key; and if one handle is Shared, all are, and it has no key.
unfoldable pub are_counts_sound : List Place → ℕ → Bool → Counts → Bool
are_counts_sound places n here c =
    ((c.pins == count_by (pins_node n) places && c.holds == count_by (at_node n) places)
    && (nat_le 1 c.holds && not c.is_dying))
    && (agree here (nat_le 1 c.pins || c.key == 0) && (count_by (shares_node n) places == 0
    || (count_by (shares_node n) places == c.holds && c.key == 0)))

-- its value owns each handle that its references name
unfoldable pub are_references_owned : Tables → ℕ → Bool
are_references_owned t n = list_all (λ (r : ArcRef). is_owned_once t.ref_counts.handles.places.items
    (owner_value n) r.handle.0) (refs_at t.ref_counts.nodes n)

-- counts and references are sound; a node that doesn't exist has no value
abbrev pub is_node_sound : Tables → ℕ → Bool → Option Counts → Bool
is_node_sound t n here (Some c) = are_counts_sound t.ref_counts.handles.places.items n here c
    && are_references_owned t n
is_node_sound t n here None = not here

-- each of the nodes up to a number
unfoldable pub are_nodes_sound : {X : Type 0} → Tables → NumberTable X → ℕ → Bool
are_nodes_sound t values zero = true
are_nodes_sound t values (suc n) = is_node_sound t (suc n) (is_some (row_by values (suc n)))
    (counts_at t.ref_counts.nodes (suc n)) && are_nodes_sound t values n

-- A node that is cached under a kind has a number that was given out; while it lives it has the kind's type, and Shared
-- handles exactly if the kind is that of shared nodes.
abbrev pub is_cache_entry_sound : Tables → ℕ → ℕ → Option Counts → Bool
is_cache_entry_sound t kind n None = nat_le n t.last_node
is_cache_entry_sound t kind n (Some c) = nat_le n t.last_node
    && (c.node_type == type_of kind && agree (nat_le 1 (count_by (shares_node n) t.ref_counts.handles.places.items))
    (is_shared_kind kind))

abbrev pub is_entry_sound : Tables → (ℕ × ℕ) × NodeNumber → Bool
is_entry_sound t e = is_cache_entry_sound t e.0.0 e.1.0 (counts_at t.ref_counts.nodes e.1.0)

-- handles, with the dead places counted; the list, and the cache
unfoldable pub are_places_sound : Tables → Bool
are_places_sound t = list_all (is_place_sound t) t.ref_counts.handles.places.items

abbrev pub are_handles_sound : Tables → Bool
are_handles_sound t = are_places_sound t && (count_by (λ (p : Place). not p.is_live) t.ref_counts.handles.places.items
    == t.ref_counts.handles.dead)

unfoldable pub is_list_sound : Tables → Bool
is_list_sound t = list_all (λ (q : HandleNumber). is_owned_once t.ref_counts.handles.places.items Owner.List q.0)
    t.ref_counts.list.items

unfoldable pub is_cache_sound : Tables → Bool
is_cache_sound t = list_all (is_entry_sound t) t.cache.entries

-- handles, list, cache and nodes are sound, none is dying
unfoldable pub is_sound : {X : Type 0} → Tables → NumberTable X → Bool
is_sound t values = (are_handles_sound t && (is_list_sound t && is_cache_sound t))
    && (t.ref_counts.top == 0 && are_nodes_sound t values t.last_node)
