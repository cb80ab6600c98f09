-- The entries of a cache: what the blobs of some roots say.
use Rattle.blobctl.specs.Shown.{View}
use Rattle.blobctl.specs.declared.entry.EntryFacts.{EntryFacts}
use Rattle.pagable_value_spec.specs.Blob.{Blob}
use Rattle.std.specs.{
  Int.{from_le_bytes, w32, w64},
  Char.to_ascii_lowercase,
  Prelude.{IsSome, List, None, Option, Some, codes, drop, if◌then◌else◌, length, map, nat_lt, take, ℕ, ◌++◌, ◌≡◌},
}

-- what bytes say, if there are at least 12: a status of 4, a time of 8, low bytes first, and the content
unfoldable pub entry_in : List ℕ → Option (EntryFacts × List ℕ)
entry_in bytes = if nat_lt (length bytes) 12 then None
    else Some (record { status = from_le_bytes w32 (take 4 bytes); time = from_le_bytes w64 (take 8 (drop 4 bytes)) }, drop 12 bytes)

-- the name of a digest's root
abbrev pub name_of_digest : List ℕ → List ℕ
name_of_digest digest = codes "cache/" ++ map to_ascii_lowercase digest

-- what a blob says, if there is one
abbrev pub entry_of : Option Blob → Option (EntryFacts × List ℕ)
entry_of None = None
entry_of (Some blob) = entry_in blob.bytes

-- what the blob of a key says, if there is one
abbrev pub entry_under : View → Option ℕ → Option (EntryFacts × List ℕ)
entry_under view None = None
entry_under view (Some key) = entry_of (view.blob key)

-- the first is there, and is the second
abbrev pub IsSomeOf : {X : Type 0} → Option X → Option X → Type 0
IsSomeOf one other = (one ≡ other) × IsSome one

-- the entry of a digest, if the cache has one
abbrev pub entry_at : View → List ℕ → Option (EntryFacts × List ℕ)
entry_at view digest = entry_under view (view.key (name_of_digest digest))
