-- Causes of a node's reading.
use Rattle.std.proofs.Common.{inl, inr, ◌⊎◌}

-- a cause of a value's own is one of its node's
pub or_memory : {A B C : Type 0} → A ⊎ C → A ⊎ (B ⊎ C)
or_memory (inl a) = inl a
or_memory (inr c) = inr (inr c)
