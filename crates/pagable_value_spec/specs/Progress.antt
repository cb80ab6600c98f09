-- A reader of bytes: all its bytes, and how many of them it has read.
use Rattle.std.specs.Prelude.{List, drop, length, ℕ, ◌≡◌, ◌≤◌}

pub record ReaderState : Type 0 where
  pub all : List ℕ
  pub position : ℕ

-- the bytes that are not read yet
abbrev pub left : ReaderState → List ℕ
left t = drop t.position t.all

-- The bytes are the same, and the position is between the old one and the end.
pub record MovesForward (old new : ReaderState) : Type 0 where
  pub all : new.all ≡ old.all
  pub forward : old.position ≤ new.position
  pub within : new.position ≤ length new.all
