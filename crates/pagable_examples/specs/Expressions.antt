-- What expressions mean, and how they are encoded.
use Rattle.pagable_examples.specs.declared.expression.Expression.{Expression, Number, Sum'}
use Rattle.pagable_traits.specs.Clauses.{Piece}
use Rattle.pagable_value_spec.specs.{
  Cursor.Is,
  Meaning.{Meaning, failure, number, pair, success},
  Outcomes.IsOutOfMemory,
  Shape.{Shape, both, nested, outcome, unsigned},
  Writing.{Refused, WritesSome, nesting},
  declared.{error.Error.Error, numbers.ArcRef.ArcRef},
}
use Rattle.std.specs.{Int.w64, Prelude.{Err, Ok, Result, ℕ, ◌≡◌}}

-- a number, or two expressions, each one level deeper
abbrev pub variant_shape : Shape
variant_shape = outcome (unsigned w64) (both (nested 0) (nested 0))

-- every part is an expression
abbrev pub nodes : ℕ → Shape
nodes part = variant_shape

abbrev pub of_expression : Expression → Meaning ArcRef
of_expression (Number n) = success (number n)
of_expression (Sum' p left q right) = failure (pair (of_expression left) (of_expression right))

-- the encoding of a value with this meaning in a shape, if every part is an expression
abbrev pub written : (Meaning ArcRef → Type 0) → Shape → Piece
written M s = record {
  wrote = λ n. WritesSome M (nesting n.levels nodes) s;
  lacks = λ n. Refused M (nesting n.levels nodes) s;
}

abbrev pub expression_form : Expression → Shape → Piece
expression_form x s = written (Is of_expression x) s

-- the sum of two, or no memory
abbrev pub IsSum : Expression → Expression → Result Expression Error → Type 0
IsSum x y (Ok sum) = of_expression sum ≡ failure (pair (of_expression x) (of_expression y))
IsSum x y (Err e) = IsOutOfMemory e
