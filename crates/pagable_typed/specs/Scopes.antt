-- Handles that differ.
use Rattle.pagable_value_spec.specs.declared.numbers.HandleNumber.{HandleNumber}
use Rattle.std.specs.Prelude.{Bool, not, ◌==◌}

abbrev pub is_other : HandleNumber → HandleNumber → Bool
is_other h k = not (k.0 == h.0)
