-- Weighing one more byte, and what the preimage of a blob is made of.
use Rattle.pagable_core.specs.{Data.{IsWeighed, key_of_digest}, declared.storage.weigh.WeighHash.WeighHash}
use Rattle.pagable_value_spec.specs.Blob.{preimage, weight}
use Rattle.std.proofs.{
  Common.{List, ap, append_assoc, arith, get_or, length, length-append, map, refl, sym, take, ℕ, [], ◌%◌, ◌*◌, ◌++◌, ◌+◌, ◌<◌, ◌^◌, ◌∙◌, ◌∷◌, ◌≡◌},
  Math.Nat.{add-mod-mod, mod-add-mod},
  lemmas.{List.{flat_map_more, take_more}, Nat.mul-mod_first, Simd.map-map},
}
use Rattle.std.specs.{Int.{to_le_bytes, w128, w64}, List.flat_map}

pub weight-more : (i b : ℕ) (bs : List ℕ) → weight i (bs ++ b ∷ []) ≡ weight i bs + (i + length bs) * b
unfolding weight
weight-more i b [] = grind arith
weight-more i b (c ∷ bs) = grind (arith, weight-more (i + 1) b bs)

-- one more byte
pub is_weighed_more : (old new : WeighHash) (came : List ℕ) (b : ℕ) → IsWeighed old came → new.sum ≡ (old.sum + (old.place * b) % 2 ^ 128) % 2 ^ 128 → new.place
    ≡ (old.place + 1) % 2 ^ 128 → IsWeighed new (came ++ b ∷ [])
is_weighed_more old new came b h sum place =
    let next : 1 + length came ≡ length came + 1 = omega arith in
    record {
      place = rw (place, h.place, mod-add-mod (length came + 1) (2 ^ 128) 1, length-append came (b ∷ [])) refl;
      sum = rw (sum, h.place, h.sum, mul-mod_first, mod-add-mod, add-mod-mod, weight-more 1 b came, next) refl;
    }

-- a run of bytes, one after another
pub take_next : (bytes : List ℕ) (i b : ℕ) (front : List ℕ) → i < length bytes → b ≡ get_or bytes i 0 → front ++ take (i + 1) bytes ≡ (front ++ take i bytes)
    ++ b ∷ []
take_next bytes i b front h is = rw (take_more bytes i 0 h, ← is) (sym (append_assoc front (take i bytes) (b ∷ [])))

-- the count, the bytes and the keys are the preimage
pub preimage_is : (bytes keys : List ℕ) → (to_le_bytes w64 (length keys) ++ bytes) ++ flat_map (to_le_bytes w128) keys
    ≡ preimage (record { bytes = bytes; keys = keys })
unfolding preimage
preimage_is bytes keys = append_assoc (to_le_bytes w64 (length keys)) bytes (flat_map (to_le_bytes w128) keys)

-- one key more
pub continues : (f : ℕ → List ℕ) (keys : List ℕ) (i key : ℕ) (front more : List ℕ) → i < length keys → key ≡ get_or keys i key → more ≡ f key
    → (front ++ flat_map f (take i keys)) ++ more ≡ front ++ flat_map f (take (i + 1) keys)
continues f keys i key front more h is e = rw (e, take_more keys i key h, ← is) (flat_map_more f front (take i keys) key)

-- the keys of many blobs, from the hashes of their preimages
pub keys-follow : {B P M : Type 0} (digest : List ℕ → List ℕ) (pre : B → List ℕ) (own : P → List ℕ) (lent : M → List ℕ) (blobs : List B) (preimages : List P)
    (messages : List M) (digests : List (List ℕ)) (keys : List ℕ) → map own preimages ≡ map pre blobs → map lent messages ≡ map own preimages
    → digests ≡ map (λ m. digest (lent m)) messages → keys ≡ map key_of_digest digests → keys ≡ map (λ b. key_of_digest (digest (pre b))) blobs
keys-follow digest pre own lent blobs preimages messages digests keys own-is lent-is hashed read =
    read ∙ ap (map key_of_digest) hashed ∙ map-map key_of_digest (λ m. digest (lent m)) messages
    ∙ sym (map-map (λ bytes. key_of_digest (digest bytes)) lent messages) ∙ ap (map (λ bytes. key_of_digest (digest bytes))) (lent-is ∙ own-is)
    ∙ map-map (λ bytes. key_of_digest (digest bytes)) pre blobs
