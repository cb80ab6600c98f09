-- The first digits of a key.
use Rattle.blobctl.specs.declared.find.FirstDigits.{FirstDigits}
use Rattle.pagable_value_spec.specs.Blob.{Blob}
use Rattle.std.specs.{
  Int.{swap_bytes, w128},
  Prelude.{Bool, IsSome, IsTrue, List, Option, length, nat_lt, ℕ, ◌&&◌, ◌*◌, ◌+◌, ◌/◌, ◌==◌, ◌^◌, ◌≡◌},
  Str.Parse.{digits_value, without_leading_plus},
}

-- these digits are a word's
pub record HasDigits (word : List ℕ) (digits : FirstDigits) : Type 0 where
  pub number : digits.number ≡ digits_value 16 (without_leading_plus word)
  pub rest : digits.rest + 4 * length word ≡ 128

-- a key, which is shown from its lowest byte on, begins with the digits
abbrev pub begins : FirstDigits → ℕ → Bool
begins digits key = nat_lt digits.rest 128 && (swap_bytes w128 key / 2 ^ digits.rest == digits.number)

-- the key begins with the digits, and no other one of a blob does
pub record IsOnly (blobs : ℕ → Option Blob) (digits : FirstDigits) (key : ℕ) : Type 0 where
  pub is : IsTrue (begins digits key)
  pub only : (other : ℕ) → IsSome (blobs other) → IsTrue (begins digits other) → other ≡ key

-- the key is the only one of a blob that begins with a word's digits
abbrev pub IsNamed : (ℕ → Option Blob) → List ℕ → ℕ → Type 0
IsNamed blobs word key = (digits : FirstDigits) × HasDigits word digits × IsOnly blobs digits key
