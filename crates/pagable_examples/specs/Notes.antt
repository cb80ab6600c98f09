-- How notes are encoded and what they mean.
use Rattle.pagable_examples.specs.declared.note.Note.{Note}
use Rattle.pagable_nodes.specs.Encoding.{Encoding, fields, number, one, optional, text, three}
use Rattle.pagable_traits.specs.ReadBack.{IsReadableThroughout}
use Rattle.pagable_value_spec.specs.Shape.{Shape}
use Rattle.std.specs.{Int.w64, Prelude.ℕ}

abbrev pub note_encoding : Encoding Note
note_encoding = fields (λ n. (n.time, n.text, n.about)) (three (number w64) text (optional (one 1)))

pub note_is_read : (parts : ℕ → Shape) → IsReadableThroughout parts note_encoding.shape
note_is_read = note_encoding.is_read
