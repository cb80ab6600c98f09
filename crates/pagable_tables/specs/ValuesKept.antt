-- The value of each node is dropped when it has to be.
use Rattle.pagable_tables.specs.{Nodes.{falls_in, has_value}, declared.nodes.Counts.Counts}
use Rattle.std.specs.Prelude.{None, Option, false, is_some, ℕ, ◌≡◌, ◌⊎◌}

-- A node that isn't dying has its value exactly while a handle pins it or it has no key.
abbrev pub AreKept : {X : Type 0} → (ℕ → Option Counts) → (ℕ → Option X) → Type 0
AreKept at values = (n : ℕ) → falls_in (at n) ≡ false → is_some (values n) ≡ has_value (at n)

-- each of the old values is kept or dropped, and kept exactly if its node has a value
abbrev pub AreLeft : {X : Type 0} → (ℕ → Option Counts) → (ℕ → Option X) → (ℕ → Option X) → Type 0
AreLeft at old new = (n : ℕ) → ((new n ≡ old n) ⊎ (new n ≡ None)) × (is_some (new n) ≡ has_value (at n))

-- the value of each node is dropped when it has to be, if each node had its value before
pub record DropsValues {X : Type 0} (at : ℕ → Option Counts) (old : ℕ → Option X) (at' : ℕ → Option Counts)
    (new : ℕ → Option X) : Type 0 where
  pub left : AreKept at old → AreLeft at' old new
