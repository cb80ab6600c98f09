-- Many messages, hashed four at a time: which are done, and which wait.
use Rattle.sha2.specs.Sha256.{sha256}
use Rattle.sha256_lanes.specs.Blocks.{block_count}
use Rattle.std.specs.Prelude.{List, length, map, slice_index, slice_index_or, take, ℕ, [], ◌+◌, ◌<◌, ◌≡◌, ◌⊎◌}
use denote.Ref.{Bor}

-- the first n bytes of the digest of a text
abbrev pub front_of_digest : ℕ → List ℕ → List ℕ
front_of_digest n text = take n (sha256 text)

-- what the messages are
abbrev pub texts_of : List (Bor (List ℕ)) → List (List ℕ)
texts_of messages = map (λ message. message.now) messages

-- the message at this place has its digest there
abbrev pub IsDone : ℕ → List (List ℕ) → List (List ℕ) → ℕ → Type 0
IsDone n texts digests q = slice_index_or digests q [] ≡ front_of_digest n (slice_index_or texts q [])

-- what was done stays done
abbrev pub KeepsDone : ℕ → List (List ℕ) → List (List ℕ) → List (List ℕ) → Type 0
KeepsDone n texts old new = (q : ℕ) → IsDone n texts old q → IsDone n texts new q

-- the first places of a row are those of messages that have this many blocks
abbrev pub IsRow : List (List ℕ) → ℕ → List ℕ → ℕ → Type 0
IsRow texts count row waiting = (k : ℕ) → k < waiting → (slice_index row k < length texts)
    × (block_count (length (slice_index_or texts (slice_index row k) [])) ≡ count)

-- the message at this place waits in the row
abbrev pub IsWaiting : List ℕ → ℕ → ℕ → Type 0
IsWaiting row waiting q = (k : ℕ) × (k < waiting) × (slice_index row k ≡ q)

-- the message at this place is done, or waits in the row
abbrev pub IsSettled : ℕ → List (List ℕ) → List (List ℕ) → List ℕ → ℕ → ℕ → Type 0
IsSettled n texts digests row waiting q = IsDone n texts digests q ⊎ IsWaiting row waiting q

-- Each row has fewer than four waiting, and row r those of r + 1 blocks.
abbrev pub AreRows : List (List ℕ) → List (List ℕ) → List ℕ → Type 0
AreRows texts rows waiting = (r : ℕ) → r < 16 → (slice_index waiting r < 4)
    × IsRow texts (r + 1) (slice_index_or rows r []) (slice_index waiting r)

-- the message at this place is done, or waits in one of the rows
abbrev pub IsSettledIn : ℕ → List (List ℕ) → List (List ℕ) → List (List ℕ) → List ℕ → ℕ → Type 0
IsSettledIn n texts digests rows waiting q = IsDone n texts digests q
    ⊎ ((r : ℕ) × (r < 16) × IsWaiting (slice_index_or rows r []) (slice_index waiting r) q)
