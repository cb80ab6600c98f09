-- Whole numbers as bytes: the parts of the postcard wire format on varints and on integers with a sign.
use Rattle.pagable_value_spec.specs.{ReadSteps.◌>>=◌, declared.error.Error.Error}
use Rattle.std.specs.{
  Int.{Width, w128, w16, w32, w64, w8},
  Prelude.{Err, List, Ok, Result, if◌then◌else◌, nat_le, nat_lt, negsuc, pos, suc, zero, ℕ, ℤ, [], ◌%◌, ◌*◌, ◌++◌, ◌+◌},
  Prelude.{◌-◌, ◌/◌, ◌<◌, ◌==◌, ◌^◌, ◌∷◌, ◌≡◌},
}
use mir.Val.{bits, hbits}

-- what a reader of bytes returns: a value and the bytes after it
abbrev pub Read : Type 0 → Type 0
Read A = Result (A × List ℕ) Error

abbrev pub byte_at : List ℕ → Read ℕ
byte_at [] = Err Error.UnexpectedEnd
byte_at (b ∷ rest) = Ok (b, rest)

-- The shortest varint of a number (postcard, Varint Encoded Integers): seven bits a byte, low bits first; at most
-- `more` bytes with the top bit set, and then one without.
unfoldable pub varint : ℕ → ℕ → List ℕ
varint zero n = n ∷ []
varint (suc more) n = if nat_lt n 128 then n ∷ [] else (128 + n % 128) ∷ varint more (n / 128)

-- What a varint at the front reads as (postcard, Maximum Encoded Length): after `more` bytes with the top bit set the
-- next byte is the last, and it is at most `last`. Encodings longer than needed are accepted.
unfoldable pub varint_at : ℕ → ℕ → List ℕ → Read ℕ
varint_at more last [] = Err Error.UnexpectedEnd
varint_at zero last (b ∷ rest) = if nat_le b last then Ok (b, rest) else Err Error.BadVarint
varint_at (suc more) last (b ∷ rest) = if nat_lt b 128 then Ok
    (b, rest) else (varint_at more last rest >>= λ high. Ok (b - 128 + 128 * high.0, high.1))

-- every number that varint_at can read is below this
unfoldable pub varint_limit : ℕ → ℕ → ℕ
varint_limit zero last = last + 1
varint_limit (suc more) last = 128 * varint_limit more last

-- new is old followed by the number's varint, for any `more` that is enough for the number
pub record AppendsVarint (old new : List ℕ) (number : ℕ) : Type 0 where
  pub appends : (more : ℕ) → number < varint_limit more 127 → new ≡ old ++ varint more number

-- how many bytes with the top bit set a varint may have, by the width
abbrev pub more_of : Width → ℕ
more_of w8 = 0
more_of w16 = 2
more_of w32 = 4
more_of w64 = 9
more_of w128 = 18

-- how large the last byte of a varint with that many bytes may be
abbrev pub last_of : Width → ℕ
last_of w8 = 255
last_of w16 = 3
last_of w32 = 15
last_of w64 = 1
last_of w128 = 3

-- a number of 8 bits is its byte; others are varints
abbrev pub unsigned_form : Width → ℕ → List ℕ
unsigned_form w8 n = n ∷ []
unsigned_form w n = varint (more_of w) n

abbrev pub unsigned_at : Width → List ℕ → Read ℕ
unsigned_at w8 bytes = byte_at bytes
unsigned_at w bytes = varint_at (more_of w) (last_of w) bytes

-- numbers of this width are below 2 ^ bits
abbrev pub bound : Width → ℕ
bound w = 2 ^ bits w

-- postcard, Signed Integer Encoding: n becomes 2n, and -n - 1 becomes 2n + 1
abbrev pub zigzag : ℤ → ℕ
zigzag (pos n) = 2 * n
zigzag (negsuc n) = 2 * n + 1

abbrev pub from_zigzag : ℕ → ℤ
from_zigzag n = if n % 2 == 0 then pos (n / 2) else negsuc (n / 2)

-- the number without a sign that encodes one with a sign: two's complement for 8 bits, otherwise zigzag
abbrev pub unsigned_of : Width → ℤ → ℕ
unsigned_of w8 (pos n) = n
unsigned_of w8 (negsuc n) = 255 - n
unsigned_of w z = zigzag z

abbrev pub signed_from : Width → ℕ → ℤ
signed_from w8 n = if nat_lt n 128 then pos n else negsuc (255 - n)
signed_from w n = from_zigzag n

-- numbers with a sign are from -half up to half - 1, where half is 2 ^ hbits
abbrev pub IsSigned : Width → ℤ → Type 0
IsSigned w (pos n) = n < 2 ^ hbits w
IsSigned w (negsuc n) = n < 2 ^ hbits w

abbrev pub signed_form : Width → ℤ → List ℕ
signed_form w z = unsigned_form w (unsigned_of w z)

abbrev pub signed_at : Width → List ℕ → Read ℤ
signed_at w bytes = unsigned_at w bytes >>= λ n. Ok (signed_from w n.0, n.1)
