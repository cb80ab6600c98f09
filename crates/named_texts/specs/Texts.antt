-- What the nodes of texts mean, and how they are encoded.
use Rattle.named_texts.specs.declared.text.TextNode.{TextNode}
use Rattle.pagable_value_spec.specs.{
  Meaning.Meaning,
  References.{SameReferences, references_in},
  Shape.{Shape, text},
  declared.numbers.ArcRef.ArcRef,
}
use Rattle.std.proofs.Common.{arith}
use Rattle.std.specs.{
  Arc.arc_value,
  Prelude.{None, Option, Some, String, refl, suc, zero, ℕ, [], ◌<◌, ◌^◌, ◌≡◌},
  String.string_bytes,
  declared.alloc.Global.Global,
}
use Rattle.pagable_value_spec.specs.Meaning as meanings

-- the one type of texts has the number 0
abbrev pub shape_of : ℕ → Option Shape
shape_of zero = Some text
shape_of (suc n) = None

abbrev pub text_of : TextNode → Meaning ArcRef
text_of n = meanings.text (string_bytes (arc_value n.0))

-- a text refers to nothing
pub texts_refer : (n : TextNode) (m : Meaning ArcRef) → m ≡ text_of n → SameReferences [] (references_in m)
unfolding references_in
texts_refer n m is test = rw is refl

-- every node holds a text
abbrev pub text_in : TextNode → Option (String Global)
text_in n = Some (arc_value n.0)

pub number_is_small : 0 < 2 ^ 30
number_is_small = omega arith
