-- The text of a key: its bytes as hex digits, low bytes first, so the digest's first byte stands first.
use Rattle.hex.specs.Hex.{decode_sized, encode_lower}
use Rattle.hex.specs.declared.error.FromHexError.{FromHexError}
use Rattle.pagable_value_spec.specs.declared.data_key.KeyTextError.{KeyTextError}
use Rattle.pagable_value_spec.specs.declared.data_key.KeyTextError.TheVariants.{NotHex, Zero}
use Rattle.std.specs.Int.{from_le_bytes, to_le_bytes, w128}
use Rattle.std.specs.Prelude.{Err, List, Ok, Result, if◌then◌else◌, ℕ, ◌==◌}

-- the text of a key
abbrev pub key_text : ℕ → List ℕ
key_text key = encode_lower (to_le_bytes w128 key)

-- a number as a key
abbrev pub as_key : ℕ → Result ℕ KeyTextError
as_key number = if number == 0 then Err Zero else Ok number

-- the key of decoded bytes
abbrev pub key_of_bytes : Result (List ℕ) FromHexError → Result ℕ KeyTextError
key_of_bytes (Ok bytes) = as_key (from_le_bytes w128 bytes)
key_of_bytes (Err _) = Err NotHex

-- the key that a text names
abbrev pub named_key : List ℕ → Result ℕ KeyTextError
named_key text = key_of_bytes (decode_sized text 16)
