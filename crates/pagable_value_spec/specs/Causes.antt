-- An error that a reader may add of its own is no fault of the input; an error of a writer is one that writers may
-- return.
use Rattle.pagable_value_spec.specs.{
  Outcomes.{IsOutOfMemory, deep_or, either, json_causes, long_or, memory_or, no_own_causes},
  Refusals.{is_own_reading, may_refuse_writing},
  declared.error.Error.Error,
}
use Rattle.std.proofs.Common.{arith, subst, sym}
use Rattle.std.specs.Prelude.{refl, true, ◌≡◌}

pub never_is_own_reading : (e : Error) → no_own_causes e → is_own_reading e ≡ true
never_is_own_reading e h = absurd h

pub never_may_refuse_writing : (e : Error) → no_own_causes e → may_refuse_writing e ≡ true
never_may_refuse_writing e h = absurd h

pub memory_is_own_reading : (e : Error) → IsOutOfMemory e → is_own_reading e ≡ true
memory_is_own_reading e h = let P : Error → Type 0 = λ x. is_own_reading x ≡ true in subst P (sym h) refl

pub memory_may_refuse_writing : (e : Error) → IsOutOfMemory e → may_refuse_writing e ≡ true
memory_may_refuse_writing e h = let P : Error → Type 0 = λ x. may_refuse_writing x ≡ true in subst P (sym h) refl

pub memory_or_is_own_reading : (own : Error → Type 0) → ((e : Error) → own e → is_own_reading e ≡ true) → (e : Error)
    → memory_or own e → is_own_reading e ≡ true
memory_or_is_own_reading own is e h = grind (arith, memory_is_own_reading, is)

pub memory_or_may_refuse_writing : (own : Error → Type 0) → ((e : Error) → own e → may_refuse_writing e ≡ true)
    → (e : Error) → memory_or own e → may_refuse_writing e ≡ true
memory_or_may_refuse_writing own is e h = grind (arith, memory_may_refuse_writing, is)

pub either_is_own_reading : (first second : Error → Type 0) → ((e : Error) → first e → is_own_reading e ≡ true)
    → ((e : Error) → second e → is_own_reading e ≡ true) → (e : Error) → either first second e → is_own_reading e ≡ true
either_is_own_reading first second is_first is_second e h = grind (arith, is_first, is_second)

pub either_may_refuse_writing : (first second : Error → Type 0) → ((e : Error) → first e → may_refuse_writing e ≡ true)
    → ((e : Error) → second e → may_refuse_writing e ≡ true) → (e : Error) → either first second e
    → may_refuse_writing e ≡ true
either_may_refuse_writing first second is_first is_second e h = grind (arith, is_first, is_second)

pub long_or_may_refuse_writing : (part : Error → Type 0) → ((e : Error) → part e → may_refuse_writing e ≡ true)
    → (e : Error) → long_or part e → may_refuse_writing e ≡ true
long_or_may_refuse_writing part may e h = grind (arith, may)

pub deep_or_may_refuse_writing : (part : Error → Type 0) → ((e : Error) → part e → may_refuse_writing e ≡ true)
    → (e : Error) → deep_or part e → may_refuse_writing e ≡ true
deep_or_may_refuse_writing part may e h = grind (arith, may)

-- for a text
pub text_may_refuse_writing : (e : Error) → long_or IsOutOfMemory e → may_refuse_writing e ≡ true
text_may_refuse_writing = long_or_may_refuse_writing IsOutOfMemory memory_may_refuse_writing

pub json_may_refuse_writing : (e : Error) → json_causes e → may_refuse_writing e ≡ true
json_may_refuse_writing e h = grind (arith, memory_may_refuse_writing)
