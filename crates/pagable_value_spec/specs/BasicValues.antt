-- Flags, lengths, texts, byte arrays, characters and durations as bytes: postcard's bool, seq, string, byte array and
-- char, and serde's Duration.
use Rattle.pagable_value_spec.specs.{
  Numbers.{Read, unsigned_at, unsigned_form},
  ReadSteps.◌>>=◌,
  declared.error.Error.Error,
}
use Rattle.std.specs.{
  Char.encode_utf8,
  Int.{w32, w64},
  Prelude.{Bool, Err, List, Ok, drop, false, if◌then◌else◌, length, nat_le, nat_lt, suc, take, true, zero, ℕ, [], ◌%◌},
  Prelude.{◌++◌, ◌+◌, ◌/◌, ◌^◌, ◌∷◌},
  Str.{chars, is_utf8},
}

-- postcard, bool
abbrev pub bool_form : Bool → List ℕ
bool_form false = 0 ∷ []
bool_form true = 1 ∷ []

unfoldable pub bool_at : List ℕ → Read Bool
bool_at [] = Err Error.UnexpectedEnd
bool_at (zero ∷ rest) = Ok (false, rest)
bool_at (suc zero ∷ rest) = Ok (true, rest)
bool_at (suc (suc b) ∷ rest) = Err Error.BadBool

-- the greatest length of a text or a list: a limit of this port
abbrev pub longest : ℕ
longest = 4294967295

-- a length is a `usize`, which has 64 bits
abbrev pub length_form : ℕ → List ℕ
length_form n = unsigned_form w64 n

-- reads a length; TooLong if it is above the greatest
unfoldable pub length_at : List ℕ → Read ℕ
length_at bytes = unsigned_at w64 bytes >>= λ n. if nat_le n.0 longest then Ok n else Err Error.TooLong

-- the first n bytes
abbrev pub bytes_at : ℕ → List ℕ → Read (List ℕ)
bytes_at n bytes = if nat_lt (length bytes) n then Err Error.UnexpectedEnd else Ok (take n bytes, drop n bytes)

-- postcard, string: the length in bytes, and the bytes
abbrev pub text_form : List ℕ → List ℕ
text_form t = length_form (length t) ++ t

-- a text: the faults in order are those of its length, too few bytes, and bytes that aren't UTF-8
unfoldable pub text_at : List ℕ → Read (List ℕ)
text_at bytes = length_at bytes >>= λ n. bytes_at n.0 n.1 >>= λ t. if is_utf8 t.0 then Ok t else Err Error.BadUtf8

-- postcard, byte array: the length in bytes, and the bytes
abbrev pub byte_array_form : List ℕ → List ℕ
byte_array_form bytes = length_form (length bytes) ++ bytes

-- a byte array: the faults in order are those of its length, and too few bytes
unfoldable pub byte_array_at : List ℕ → Read (List ℕ)
byte_array_at bytes = length_at bytes >>= λ n. bytes_at n.0 n.1

abbrev pub char_form : ℕ → List ℕ
char_form c = text_form (encode_utf8 c)

-- the only character of a list; BadChar for none or several
abbrev pub one_char : List ℕ → List ℕ → Read ℕ
one_char [] rest = Err Error.BadChar
one_char (c ∷ []) rest = Ok (c, rest)
one_char (c ∷ d ∷ cs) rest = Err Error.BadChar

-- a character is read as a text: the text's faults come first, then BadChar if it isn't one character
unfoldable pub char_at : List ℕ → Read ℕ
char_at bytes = text_at bytes >>= λ t. one_char (chars t.0) t.1

abbrev pub nanos_of_second : ℕ
nanos_of_second = 1000000000

abbrev pub duration_form : ℕ → ℕ → List ℕ
duration_form seconds nanos = unsigned_form w64 seconds ++ unsigned_form w32 nanos

-- whole seconds among the nanoseconds are added to the seconds; BadDuration if 64 bits don't hold the sum
abbrev pub carried : ℕ → ℕ → List ℕ → Read (ℕ × ℕ)
carried seconds nanos rest = let total = seconds + nanos / nanos_of_second in
    if nat_lt total (2 ^ 64) then Ok ((total, nanos % nanos_of_second), rest) else Err Error.BadDuration

unfoldable pub duration_at : List ℕ → Read (ℕ × ℕ)
duration_at bytes = unsigned_at w64 bytes >>= λ s. unsigned_at w32 s.1 >>= λ n. carried s.0 n.0 n.1
