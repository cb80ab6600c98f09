-- UTF-8 as a test, and how large the number without a sign is that stands for one with a sign.
use Rattle.pagable_value_spec.specs.Numbers.{zigzag}
use Rattle.std.proofs.{
  Common.{FitsSigned, List, arith, false, ℕ, ℤ, ◌<◌, ◌^◌, ◌≡◌},
  lemmas.{Bool.false_from_ne_true, Str.{IsUtf8-from_is_utf8, chars-nil, chars_past_char, is_utf8-from_IsUtf8}},
}
use Rattle.std.specs.{Int.{w16, w32}, Str.{IsUtf8, is_utf8}}

pub not_utf8 : (bs : List ℕ) → (IsUtf8 bs → ⊥) → is_utf8 bs ≡ false
not_utf8 bs h = false_from_ne_true (is_utf8 bs) (λ e. h (IsUtf8-from_is_utf8 bs e))

pub ruleset utf8_tests = (not_utf8, is_utf8-from_IsUtf8)

pub ruleset char_steps = (utf8_tests, chars_past_char, chars-nil)

pub zigzag_below-16 : (z : ℤ) → FitsSigned w16 z → zigzag z < 2 ^ 16
zigzag_below-16 x0 f = grind (arith, f.sfits)

pub zigzag_below-32 : (z : ℤ) → FitsSigned w32 z → zigzag z < 2 ^ 32
zigzag_below-32 x0 f = grind (arith, f.sfits)

pub ruleset zigzag_bounds = (zigzag_below-16, zigzag_below-32)
