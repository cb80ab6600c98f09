-- Why writing a length fails.
use Rattle.pagable_value_spec.specs.{BasicValues.longest, Outcomes.IsOutOfMemory, declared.error.Error.Error}
use Rattle.std.specs.Prelude.{ℕ, ◌<◌, ◌≡◌, ◌≤◌, ◌⊎◌}

-- TooLong if the length is above the greatest, and otherwise OutOfMemory
abbrev pub long_or_memory : ℕ → Error → Type 0
long_or_memory len e = ((longest < len) × (e ≡ Error.TooLong)) ⊎ ((len ≤ longest) × IsOutOfMemory e)
