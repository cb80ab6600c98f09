-- What a look-up in a session's map returns.
use Rattle.std.specs.Prelude.{IsSome, None, Option, Some, ◌≡◌}

-- None if the map has no value, and otherwise a clone of its value
abbrev pub IsCloneOf : {V : Type 0} → (V → V → Type 0) → Option V → Option V → Type 0
IsCloneOf is_clone None None = Unit {0}
IsCloneOf is_clone (Some x) (Some y) = is_clone x y
IsCloneOf is_clone _ _ = ⊥

-- What a failed call hands back of the value that it was to insert: that value, if it was made already; None if the key
-- had a value, so that none was made.
abbrev pub IsHandedBack : {V : Type 0} → (V → Type 0) → Option V → Option V → Type 0
IsHandedBack made old None = IsSome old
IsHandedBack made old (Some x) = (old ≡ None) × made x
