-- Printed by pagable_derive: change the declaration instead.
-- The types of `History` in the order of their numbers, and which one a node is of.
use Rattle.history.specs.{
  Types.{commit_encoding, file_encoding, folder_encoding},
  declared.{folder.Folder.Folder, history.HistoryNode.HistoryNode},
}
use Rattle.pagable_nodes.specs.{
  Cases.{CaseOf, Cases, FieldsOf, case, in_case, no_more},
  HeldFields.{fields_beside, four_beside, many_beside},
  NodeCases.fields_at,
}
use Rattle.pagable_traits.specs.HeldValues.{Beside, holding_beside, only_references}
use Rattle.std.specs.{Arc.arc_value, Prelude.{Option, false, ℕ}}
use Rattle.history.specs.declared.history.HistoryNode.TheVariants as node_variants

abbrev pub history_types : Cases
history_types = case commit_encoding (case file_encoding (case folder_encoding no_more))

abbrev pub history_case : HistoryNode → CaseOf history_types
history_case (node_variants.Commit x) = in_case history_types 0 (arc_value x)
history_case (node_variants.File x) = in_case history_types 1 (arc_value x)
history_case (node_variants.Folder x) = in_case history_types 2 (arc_value x)

-- the value in a node, if the node is of the type with this number
abbrev pub history_held : (t : ℕ) → HistoryNode → Option (FieldsOf history_types t)
history_held t (node_variants.Commit x) = fields_at history_types t 0 (arc_value x)
history_held t (node_variants.File x) = fields_at history_types t 1 (arc_value x)
history_held t (node_variants.Folder x) = fields_at history_types t 2 (arc_value x)

-- what values hold beside their references: the values that these refer to
abbrev pub folder_beside : Beside HistoryNode Folder
folder_beside = fields_beside (λ x. (x.name, x.added_in, x.readme, x.files))
    (four_beside only_references only_references (holding_beside 1 false (history_held 1))
    (many_beside only_references))

abbrev pub history_beside : Beside HistoryNode HistoryNode
history_beside (node_variants.Commit x) = λ r y. Unit {0}
history_beside (node_variants.File x) = λ r y. Unit {0}
history_beside (node_variants.Folder x) = folder_beside (arc_value x)
