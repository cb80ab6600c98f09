-- Printed by pagable_derive: change the declaration instead.
-- The types of `Store` in the order of their numbers, and which one a node is of.
use Rattle.declared_types.specs.{
  Types.{change_encoding, choice_encoding, part_encoding, table_encoding},
  declared.{change.Change.Change, store.StoreNode.StoreNode},
}
use Rattle.pagable_nodes.specs.{Cases.{CaseOf, Cases, FieldsOf, case, in_case, no_more}, NodeCases.fields_at}
use Rattle.pagable_traits.specs.HeldValues.{Beside, holding_beside, pairs_beside}
use Rattle.std.specs.{Arc.arc_value, Prelude.{Option, false, true, ℕ}}
use Rattle.declared_types.specs.declared.change.Change.TheVariants as change_variants
use Rattle.declared_types.specs.declared.store.StoreNode.TheVariants as node_variants

abbrev pub store_types : Cases
store_types = case part_encoding (case choice_encoding (case table_encoding (case change_encoding no_more)))

abbrev pub store_case : StoreNode → CaseOf store_types
store_case (node_variants.Part x) = in_case store_types 0 (arc_value x)
store_case (node_variants.Choice x) = in_case store_types 1 (arc_value x)
store_case (node_variants.Table x) = in_case store_types 2 (arc_value x)
store_case (node_variants.Change x) = in_case store_types 3 (arc_value x)

-- the value in a node, if the node is of the type with this number
abbrev pub store_held : (t : ℕ) → StoreNode → Option (FieldsOf store_types t)
store_held t (node_variants.Part x) = fields_at store_types t 0 (arc_value x)
store_held t (node_variants.Choice x) = fields_at store_types t 1 (arc_value x)
store_held t (node_variants.Table x) = fields_at store_types t 2 (arc_value x)
store_held t (node_variants.Change x) = fields_at store_types t 3 (arc_value x)

-- what values hold beside their references: the values that these refer to
abbrev pub change_beside : Beside StoreNode Change
change_beside change_variants.Cleared = λ r y. Unit {0}
change_beside (change_variants.Counted first) = λ r y. Unit {0}
change_beside (change_variants.Replaced first second) = pairs_beside (holding_beside 0 true (store_held 0))
    (holding_beside 2 false (store_held 2)) (first, second)

abbrev pub store_beside : Beside StoreNode StoreNode
store_beside (node_variants.Part x) = λ r y. Unit {0}
store_beside (node_variants.Choice x) = λ r y. Unit {0}
store_beside (node_variants.Table x) = λ r y. Unit {0}
store_beside (node_variants.Change x) = change_beside (arc_value x)
