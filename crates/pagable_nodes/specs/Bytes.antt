-- Values that are written to bytes alone and read from bytes alone.
use Rattle.pagable_core.specs.Context.{nothing}
use Rattle.pagable_value_spec.specs.{
  Cursor.{Answer, GivesSome, handles_at},
  Meaning.Meaning,
  Reading.{Rest, read},
  Shape.Shape,
  Writing.{Out, WritesSome, nesting},
  declared.{error.Error.Error, numbers.ArcRef.ArcRef},
}
use Rattle.std.specs.Prelude.{List, Result, ℕ, [], ◌≡◌}

-- the bytes are a form of a meaning that refers to nothing
pub record IsFormOf (M : Meaning ArcRef → Type 0) (parts : ℕ → Shape) (s : Shape) (bytes : List ℕ) : Type 0 where
  pub out : Out
  pub wrote : WritesSome M (nesting 0 parts) s nothing out
  pub is : bytes ≡ out.bytes
  pub bare : out.refs ≡ []

abbrev pub alone : List ℕ → Rest Answer
alone bytes = record { bytes = bytes; refs = [] }

-- the result of reading from the start of the bytes, without references, and what reading leaves
pub record ReadsAtStart {X : Type 0} (causes : Error → Type 0) (means : X → Meaning ArcRef → Type 0) (parts : ℕ → Shape)
    (s : Shape) (bytes : List ℕ) (r : Result X Error) : Type 0 where
  pub after : Rest Answer
  pub gives : GivesSome causes means after r (read (handles_at 0 parts) s (alone bytes))
