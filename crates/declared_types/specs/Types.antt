-- Printed by pagable_derive: change the declaration instead.
-- How the values of each type are encoded.
use Rattle.declared_types.specs.declared.{change.Change.Change, choice.Choice.Choice, part.Part.Part, table.Table.Table}
use Rattle.pagable_nodes.specs.{
  Cases.{CaseOf, Cases, case, in_case, no_more, one_of},
  Collections.sorted_map,
  Encoding.{Encoding, empty, fields, four, holding, many, number, one, optional, text, two},
  Tags.tagged_one_of,
}
use Rattle.pagable_value_spec.specs.Keys.{text_order}
use Rattle.std.specs.{Int.w64, Prelude.{List, [], false, true, ℕ, ◌∷◌}}
use Rattle.declared_types.specs.declared.choice.Choice.TheVariants as choice_variants
use Rattle.declared_types.specs.declared.change.Change.TheVariants as change_variants

abbrev pub part_encoding : Encoding Part
part_encoding = fields (λ x. (x.number, x.label, x.next, x.choice)) (four (number w64) text (optional (one 1)) (one 4))

-- the fields of each case, and which case a value of `Choice` has
abbrev pub choice_cases : Cases
choice_cases = case empty (case (number w64) (case (two text (one 1)) no_more))

abbrev pub choice_case : Choice → CaseOf choice_cases
choice_case choice_variants.Nothing = in_case choice_cases 0 tt
choice_case (choice_variants.Count first) = in_case choice_cases 1 first
choice_case (choice_variants.Named first second) = in_case choice_cases 2 (first, second)

abbrev pub choice_encoding : Encoding Choice
choice_encoding = one_of choice_cases choice_case

abbrev pub table_encoding : Encoding Table
table_encoding = fields (λ x. (x.parts, x.counts)) (two (many (one 1)) (sorted_map text_order text (number w64)))

-- the fields of each case, and which case a value of `Change` has
abbrev pub change_cases : Cases
change_cases = case empty
    (case (sorted_map text_order text (number w64))
    (case (two (holding {T = Part} {sort = 1} 0 true) (holding {T = Table} {sort = 0} 2 false)) no_more))

abbrev pub change_case : Change → CaseOf change_cases
change_case change_variants.Cleared = in_case change_cases 0 tt
change_case (change_variants.Counted first) = in_case change_cases 1 first
change_case (change_variants.Replaced first second) = in_case change_cases 2 (first, second)

-- the tags of the cases: Cleared, Counted, Replaced
abbrev pub change_tags : List (List ℕ)
change_tags = (67 ∷ 108 ∷ 101 ∷ 97 ∷ 114 ∷ 101 ∷ 100 ∷ []) ∷ (67 ∷ 111 ∷ 117 ∷ 110 ∷ 116 ∷ 101 ∷ 100 ∷ []) ∷
    (82 ∷ 101 ∷ 112 ∷ 108 ∷ 97 ∷ 99 ∷ 101 ∷ 100 ∷ []) ∷ []

abbrev pub change_encoding : Encoding Change
change_encoding = tagged_one_of change_cases change_tags change_case
