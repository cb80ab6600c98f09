-- The contracts of writing each item that an iterator yields, and of listing the references in each; `next` says what the
-- iterator yields between two states.
use Rattle.pagable_traits.specs.{Clauses.Piece, Meanings.Means}
use Rattle.pagable_value_spec.specs.{
  BasicValues.{length_form, longest},
  Composite.MeanAll,
  Lengths.long_or_memory,
  Meaning.{Meaning, sequence},
  References.references_in,
  Shape.Shape,
  Writing.{Nesting, Out, Refused, WritesSomeAll, added},
  declared.{error.Error.Error, numbers.ArcRef.ArcRef},
}
use Rattle.std.specs.{
  Iterator.{Drains, YieldsThen},
  Prelude.{List, Option, Some, map, ℕ, [], ◌++◌, ◌≡◌, ◌≤◌, ◌⊎◌},
}

-- the iterator yielded these items and then no more, and each was written
pub record WritesEach {W T : Type 0} (next : W → Option T → W → Type 0) (M : Means T) (walk : W)
    (n : Nesting) (s : Shape) (old new : Out) : Type 0 where
  pub xs : List T
  pub all : Drains next walk xs
  pub wrote : WritesSomeAll (MeanAll M xs) n s old new

-- the count was written, and then each item
pub record WritesCounted {W T : Type 0} (next : W → Option T → W → Type 0) (M : Means T) (walk : W)
    (count : ℕ) (n : Nesting) (s : Shape) (old new : Out) : Type 0 where
  pub within : count ≤ longest
  pub each : WritesEach next M walk n s (added old (length_form count) []) new

-- writing an item that the iterator yields fails
pub record RefusedAmong {W T : Type 0} (next : W → Option T → W → Type 0) (M : Means T) (walk : W)
    (n : Nesting) (s : Shape) (e : Error) : Type 0 where
  pub before : List T
  pub x : T
  pub after : W
  pub yields : YieldsThen next walk before (Some x) after
  pub refused : Refused (M x) n s e

-- the count or an item fails
abbrev pub RefusedCounted : {W T : Type 0} → (W → Option T → W → Type 0) → Means T → W → ℕ
    → Nesting → Shape → Error → Type 0
RefusedCounted next M walk count n s e = long_or_memory count e ⊎ RefusedAmong next M walk n s e

-- the forms of the items that an iterator yields; and those behind their count
abbrev pub yielded_forms : {W T : Type 0} → (W → Option T → W → Type 0) → Means T
    → W → Shape → Piece
yielded_forms next M walk s = record {
  wrote = λ n. WritesEach next M walk n s;
  lacks = λ n. RefusedAmong next M walk n s;
}

abbrev pub counted_forms : {W T : Type 0} → (W → Option T → W → Type 0) → Means T → W → ℕ → Shape
    → Piece
counted_forms next M walk count s = record {
  wrote = λ n. WritesCounted next M walk count n s;
  lacks = λ n. RefusedCounted next M walk count n s;
}

-- the iterator yielded these items and then no more, and their references were appended
pub record ListsEach {W T : Type 0} (next : W → Option T → W → Type 0) (meaning : T → Meaning ArcRef) (walk : W)
    (old new : List ArcRef) : Type 0 where
  pub xs : List T
  pub all : Drains next walk xs
  pub is : new ≡ old ++ references_in (sequence (map meaning xs))
