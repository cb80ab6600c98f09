-- The entry of a digest, as it is put and found.
use Rattle.blobctl.specs.{Entries.{IsSomeOf, entry_at, entry_in, name_of_digest}, Shown.View}
use Rattle.blobctl.specs.declared.entry.EntryFacts.{EntryFacts}
use Rattle.pagable_core.specs.Roots.{Sets}
use Rattle.pagable_value_spec.specs.Blob.{Blob}
use Rattle.std.proofs.{
  Common.{Bool, IsSome, List, None, Option, Some, arith, false, length, refl, ℕ, ◌++◌, ◌<◌, ◌^◌, ◌≡◌},
  lemmas.{Bool.Decides.nat_tests, Nat.{from_le_bytes-to_le_bytes_4, from_le_bytes-to_le_bytes_8}, Slice.Eq.bytes_eq-Decides},
}
use Rattle.std.specs.{Int.{to_le_bytes, w32, w64}, Prelude.nat_lt}

-- an entry is read back from its bytes
pub entry_back : (facts : EntryFacts) (content bytes : List ℕ) → bytes ≡ to_le_bytes w32 facts.status ++ (to_le_bytes w64 facts.time ++ content)
    → facts.status < 2 ^ 32 → facts.time < 2 ^ 64 → entry_in bytes ≡ Some (facts, content)
unfolding entry_in
entry_back facts content bytes is status time =
    let long : nat_lt (length (to_le_bytes w32 facts.status ++ (to_le_bytes w64 facts.time ++ content))) 12 ≡ false = grind (arith, nat_tests) in
    rw (is, long, from_le_bytes-to_le_bytes_4 facts.status status, from_le_bytes-to_le_bytes_8 facts.time time) refl

-- what is read of a root's blob is the entry of the digest
pub found_entry : (old mid : View) (digest name : List ℕ) (key : ℕ) (blob : Blob) → name ≡ name_of_digest digest → mid ≡ old
    → Some key ≡ old.key name → mid.blob key ≡ Some blob → IsSome (entry_in blob.bytes) → IsSomeOf (entry_at old digest) (entry_in blob.bytes)
found_entry old mid digest name key blob called same root there some =
    let named : old.key (name_of_digest digest) ≡ Some key = cc in
    let stored : old.blob key ≡ Some blob = cc in
    let is : entry_at old digest ≡ entry_in blob.bytes = rw (named, stored) refl in
    (is, rw is some)

-- a blob that was stored, and that the digest's root was set to, is the entry
pub put_entry : (mid new : View) (digest name : List ℕ) (key : ℕ) (blob : Blob) (facts : EntryFacts) (content : List ℕ) → name ≡ name_of_digest digest
    → mid.blob key ≡ Some blob → new.blob ≡ mid.blob → Sets name (Some key) mid.key new.key → entry_in blob.bytes ≡ Some (facts, content)
    → entry_at new digest ≡ Some (facts, content)
put_entry mid new digest name key blob facts content called stored same sets says =
    let own : new.key name ≡ Some key = rw (sets name, (bytes_eq-Decides name name).1 refl) refl in
    let named : new.key (name_of_digest digest) ≡ Some key = cc in
    let there : new.blob key ≡ Some blob = cc in
    rw (named, there, says) refl
