-- What typed references return is what their storage has returned.
use Rattle.pagable_traits.specs.Erased.{IsInserted, IsPinOfClone}
use Rattle.pagable_value_spec.specs.declared.numbers.HandleNumber.{HandleNumber}
use Rattle.std.specs.Prelude.{Option, Some, ◌≡◌}

-- numbers that were returned for a node that holds the value
pub is_inserted : {N T : Type 0} (held : N → Option T) (value : T) (returned : N → Type 0) (n : N) → held n ≡ Some value → returned n
    → IsInserted held value returned
is_inserted held value returned n holds inserted = record { node = n; holds = holds; inserted = inserted }

-- a pin by a clone
pub is_pin_of_clone : (clones pins : HandleNumber → HandleNumber → Type 0) (handle clone pin : HandleNumber) → clones handle clone → pins clone pin
    → IsPinOfClone clones pins handle pin
is_pin_of_clone clones pins handle clone pin cloned pinned = record { clone = clone; cloned = cloned; pinned = pinned }

pub ruleset made = (is_inserted, is_pin_of_clone)
