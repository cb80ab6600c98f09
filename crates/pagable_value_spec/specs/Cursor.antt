-- The position of a deserializer in its input, and what a reader of values owes.
use Rattle.pagable_value_spec.specs.{
  Meaning.Meaning,
  Reading.{Context, Look, Rest},
  Shape.Shape,
  declared.{error.Error.Error, numbers.{ArcRef.ArcRef, PagableCursor.PagableCursor}},
}
use Rattle.std.specs.Prelude.{Err, Ok, Option, Result, Some, drop, length, ℕ, ◌≡◌, ◌≤◌, ◌⊎◌}

-- what a look-up returns for one place of the list of references, by the kind as which the reference is read
abbrev pub Answer : Type 0
Answer = ℕ → Result ArcRef Error

abbrev pub answer_at : Look Answer ArcRef
answer_at kind answer = answer kind

-- how values that hold handles are read: each reference is looked up at its place
abbrev pub handles_at : ℕ → (ℕ → Shape) → Context Answer ArcRef
handles_at levels parts = record { levels = levels; look = answer_at; parts = parts }

-- the deserializer's whole input, the reference at each place with the node that is lent there (if any), and the
-- position
pub record InputState (N : Type 0) : Type 0 where
  pub whole : Rest Answer
  pub lent : ℕ → Option (ArcRef × N)
  pub cursor : PagableCursor

abbrev pub rest_at : {N : Type 0} → InputState N → Rest Answer
rest_at s = record { bytes = drop s.cursor.byte_pos s.whole.bytes; refs = drop s.cursor.arc_index s.whole.refs }

-- a position that is past neither end
pub record IsWithin (whole : Rest Answer) (cursor : PagableCursor) : Type 0 where
  pub bytes : cursor.byte_pos ≤ length whole.bytes
  pub refs : cursor.arc_index ≤ length whole.refs

-- Input and lent nodes are the same; the position isn't before the old one, nor past an end if the old one wasn't.
pub record MovesOn {N : Type 0} (old new : InputState N) : Type 0 where
  pub whole : new.whole ≡ old.whole
  pub lent : new.lent ≡ old.lent
  pub bytes : old.cursor.byte_pos ≤ new.cursor.byte_pos
  pub refs : old.cursor.arc_index ≤ new.cursor.arc_index
  pub within : IsWithin old.whole old.cursor → IsWithin new.whole new.cursor

-- the node is lent with the reference, at some place; below: no other node is lent with it at any place
abbrev pub IsLent : {N : Type 0} → InputState N → ArcRef → N → Type 0
IsLent s r y = (place : ℕ) × (s.lent place ≡ Some (r, y))

abbrev pub IsOnlyLent : {N : Type 0} → InputState N → ArcRef → N → Type 0
IsOnlyLent {N} s r y = (place : ℕ) (z : N) → s.lent place ≡ Some (r, z) → z ≡ y

-- if no node but y was lent with a reference, the value holds y's value beside the reference
pub record HoldsLentValues {X N : Type 0} (s : InputState N) (beside : X → ArcRef → N → Type 0) (x : X) : Type 0 where
  pub each : (r : ArcRef) (y : N) → IsOnlyLent s r y → beside x r y

-- reading returns one of the meanings, and leaves `after`
pub record Gave {Y R : Type 0} (M : Y → Type 0) (after : R) (read : Result (Y × R) Error) : Type 0 where
  pub m : Y
  pub is : M m
  pub gave : read ≡ Ok (m, after)

-- The function returned a value with the meaning that reading gives, and reading leaves `after`. Or its error is the
-- first fault that reading meets (also of a reference's look-up), or one of the type's own causes.
abbrev pub GivesSome : {X Y R : Type 0} → (Error → Type 0) → (X → Y → Type 0) → R → Result X Error
    → Result (Y × R) Error → Type 0
GivesSome own means after (Ok x) read = Gave (means x) after read
GivesSome own means after (Err e) read = (read ≡ Err e) ⊎ own e

abbrev pub SomeMeaning : (Meaning ArcRef → Type 0) → Type 0
SomeMeaning M = (m : Meaning ArcRef) × M m

-- this meaning and no other
abbrev pub Is : {X : Type 0} → (X → Meaning ArcRef) → X → Meaning ArcRef → Type 0
Is meaning x m = m ≡ meaning x
