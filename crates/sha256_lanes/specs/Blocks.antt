-- The blocks of a message with its padding.
use Rattle.sha2.specs.Sha256.{padded_message}
use Rattle.std.specs.Prelude.{List, drop, length, take, ℕ, ◌%◌, ◌*◌, ◌+◌, ◌/◌, ◌≡◌}

-- how many blocks a message of n bytes has with its padding
abbrev pub block_count : ℕ → ℕ
block_count n = (n + 8) / 64 + 1

-- a block of the message with its padding
abbrev pub block_of : List ℕ → ℕ → List ℕ
block_of m number = take 64 (drop (number * 64) (padded_message m))

-- the tail begins with what follows the whole blocks of the message, padding and all
abbrev pub IsTail : List ℕ → List ℕ → Type 0
IsTail m tail = take ((length m % 64 + 8) / 64 * 64 + 64) tail ≡ drop (length m / 64 * 64) (padded_message m)
