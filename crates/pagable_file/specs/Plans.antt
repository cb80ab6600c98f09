-- The keys that a walk over blobs visits, in order.
use Rattle.pagable_file.specs.Copies.{HasCopied, KeySet}
use Rattle.std.specs.{List.{AllByRecursion, Contains}, Prelude.{List, ℕ, ◌++◌, ◌≡◌}}

-- each key that is planned stands in the order
abbrev pub IsTracked : List ℕ → KeySet → Type 0
IsTracked order planned = (key : ℕ) → HasCopied planned key → Contains order key

-- Visits of these keys were planned: each of them stands in the order, behind the old keys come only such, and all that is planned is tracked.
pub record Plans (keys old new : List ℕ) (planned : KeySet) : Type 0 where
  pub came : List ℕ
  pub is : new ≡ old ++ came
  pub only : AllByRecursion (Contains keys) came
  pub all : AllByRecursion (Contains new) keys
  pub tracked : IsTracked new planned
