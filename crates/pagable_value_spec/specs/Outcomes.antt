-- What a reader or writer in code may return, compared with what the definitions say of the value.
use Rattle.pagable_value_spec.specs.declared.error.Error.{Error}
use Rattle.std.specs.Prelude.{Err, List, Ok, Result, ◌++◌, ◌≡◌, ◌⊎◌}

-- A function's result, seen by view, is what reading gives. If it fails, the error is the first fault that reading
-- meets, or one of the function's own causes.
abbrev pub MatchesReading : {X Y : Type 0} → (Error → Type 0) → (X → Y) → Result X Error → Result Y Error → Type 0
MatchesReading own view (Ok x) read = read ≡ Ok (view x)
MatchesReading own view (Err e) read = (read ≡ Err e) ⊎ own e

-- The causes that a reader may have of its own, and the causes by which a writer may fail. Here: none
abbrev pub no_own_causes : Error → Type 0
no_own_causes e = ⊥

abbrev pub IsOutOfMemory : Error → Type 0
IsOutOfMemory e = e ≡ Error.OutOfMemory

-- OutOfMemory, or a cause of the parts
abbrev pub memory_or : (Error → Type 0) → Error → Type 0
memory_or part e = (e ≡ Error.OutOfMemory) ⊎ part e

-- a cause of one of two parts
abbrev pub either : (Error → Type 0) → (Error → Type 0) → Error → Type 0
either first second e = first e ⊎ second e

-- TooLong (for what has a length), or a cause of the rest; below: TooDeep (for what enters a level)
abbrev pub long_or : (Error → Type 0) → Error → Type 0
long_or part e = (e ≡ Error.TooLong) ⊎ part e

abbrev pub deep_or : (Error → Type 0) → Error → Type 0
deep_or part e = (e ≡ Error.TooDeep) ⊎ part e

-- a JSON value may fail with TooLong, TooDeep, JsonNumber or OutOfMemory
abbrev pub json_causes : Error → Type 0
json_causes e = long_or (deep_or (λ f. (f ≡ Error.JsonNumber) ⊎ IsOutOfMemory f)) e

-- new is old with more at its end
abbrev pub Extends : {X : Type 0} → List X → List X → Type 0
Extends {X} old new = (added : List X) × (new ≡ old ++ added)
