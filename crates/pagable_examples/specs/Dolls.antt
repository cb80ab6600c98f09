-- How dolls are encoded, and what they hold.
use Rattle.pagable_examples.specs.declared.doll.Doll.{Doll, out-Doll}
use Rattle.pagable_nodes.specs.{
  Encoding.{Encoding, fields, holding, optional},
  Nodes.one_held,
  declared.one_node.OneNode.OneNode,
}
use Rattle.pagable_traits.specs.HeldValues.{Beside, holding_beside, options_beside}
use Rattle.std.specs.Prelude.{false}

abbrev pub doll_encoding : Encoding Doll
doll_encoding = fields (λ d. (out-Doll d).inner) (optional (holding 0 false))

-- beside its reference a doll holds the smaller one
abbrev pub doll_beside : Beside (OneNode Doll) Doll
doll_beside d = options_beside (holding_beside 0 false one_held) (out-Doll d).inner
