-- How much a reason keeps of a text that says why a call fails.
use Rattle.pagable_value_spec.specs.declared.reason.Reason.{Reason}
use Rattle.std.specs.{Prelude.{List, false, length, take, true, ℕ, [], ◌++◌, ◌<◌, ◌∷◌, ◌≡◌, ◌≤◌}, Str.IsCharBoundary}

-- the bytes of the text that a reason holds
abbrev pub kept_of : Reason → List ℕ
kept_of r = take r.length r.bytes

-- How a text that is too long is cut: its first bytes, up to the last boundary of a character within 59 bytes, and two
-- dots.
pub record IsCut (text kept : List ℕ) : Type 0 where
  pub count : ℕ
  pub few : count ≤ 59
  pub boundary : IsCharBoundary text count
  pub last : (i : ℕ) → count < i → i ≤ 59 → IsCharBoundary text i → ⊥
  pub is : kept ≡ take count text ++ (46 ∷ 46 ∷ [])

-- A reason keeps a text of up to 61 bytes whole, cuts a longer one, and records which it did.
pub record IsKept (text : List ℕ) (r : Reason) : Type 0 where
  pub whole : length text ≤ 61 → (kept_of r ≡ text) × (r.is_cut ≡ false)
  pub cut : 61 < length text → IsCut text (kept_of r) × (r.is_cut ≡ true)
