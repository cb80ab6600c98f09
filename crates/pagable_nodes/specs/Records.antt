-- What records mean and refer to.
use Rattle.pagable_nodes.specs.{
  Encoding.{Encoding, fields, many, number, one, text, two},
  declared.records.Record.Record,
}
use Rattle.pagable_traits.specs.{ReadBack.IsReadableThroughout, declared.raw_ref.RawRef.RawRef}
use Rattle.pagable_value_spec.specs.Shape.{Shape}
use Rattle.std.specs.{Global.Vec, Int.w32, Prelude.{List, ℕ, ◌≡◌}, String.string_bytes}

abbrev pub record_encoding : Encoding Record
record_encoding = fields (λ r. (r.tag, (r.text, r.refs))) (two (number w32) (two text (many (one 1))))

pub record_is_read : (parts : ℕ → Shape) → IsReadableThroughout parts record_encoding.shape
record_is_read = record_encoding.is_read

-- the record of these fields
pub record IsRecord (tag : ℕ) (content : List ℕ) (refs : Vec (RawRef 1)) (r : Record) : Type 0 where
  pub tag_is : r.tag ≡ tag
  pub text_is : string_bytes r.text ≡ content
  pub refs_are : r.refs ≡ refs
