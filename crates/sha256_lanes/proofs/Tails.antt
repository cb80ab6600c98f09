-- The padding of a message, and the block that a place of it belongs to.
use Rattle.sha2.specs.Sha256.{padded_message, padding}
use Rattle.sha256_lanes.specs.Blocks.{IsTail, block_count, block_of}
use Rattle.std.proofs.{
  Common.{
    List,
    ap,
    append_assoc,
    arith,
    drop,
    length,
    length-append,
    length-drop,
    refl,
    replicate,
    slice_set,
    suc,
    sym,
    take,
    ℕ,
    ◌%◌,
    ◌*◌,
    ◌++◌,
    ◌+◌,
    ◌-◌,
    ◌/◌,
    ◌<◌,
    ◌^◌,
    ◌∙◌,
    ◌∷◌,
    ◌≡◌,
    ◌≤◌,
  },
  Math.Seq.{set-append_seam, take-append-add},
  lemmas.{
    List.{drop-append-le, drop-drop, drop-take, length-replicate, take-append-le, take-replicate, take-take},
    Slice.take-put_mid,
  },
}
use Rattle.std.specs.Int.{to_be_bytes, w64}
use borrow.Rule.Slice.PartMut.{put_mid}

length_padding : (n : ℕ) → length (padding n) ≡ (119 - n % 64) % 64 + 9
length_padding n =
    let end : length (to_be_bytes w64 (n * 8 % 2 ^ 64)) ≡ 8 = refl in
    let zeros = length-replicate {A = ℕ} ((119 - n % 64) % 64) 0 in
    let both = length-append (0x80 ∷ replicate ((119 - n % 64) % 64) 0) (to_be_bytes w64 (n * 8 % 2 ^ 64)) in
    omega (arith, end, zeros, both)

-- a message with its padding is whole blocks
pub length_padded : (m : List ℕ) → length (padded_message m) ≡ block_count (length m) * 64
length_padded m = omega (arith, length-append m (padding (length m)), length_padding (length m))

pub blocks_of_padded : (m : List ℕ) → length (padded_message m) / 64 ≡ block_count (length m)
blocks_of_padded m = omega (arith, length_padded m)

-- a block that lies within the message
pub block_within : (m : List ℕ) (number : ℕ) → number < length m / 64 → take 64 (drop (number * 64) m) ≡ block_of m number
block_within m number h =
    let fits : 64 ≤ length (drop (number * 64) m) = omega (arith, length-drop (number * 64) m) in
    sym (rw (drop-append-le (number * 64) m (padding (length m)) (omega arith)) (take-append-le 64 (drop (number * 64) m) (padding (length m)) fits))

-- a block that lies in the tail
pub block_of_tail : (m tail : List ℕ) (number : ℕ) → IsTail m tail → length m / 64 ≤ number → number < block_count (length m)
    → take 64 (drop (64 * (number - length m / 64)) tail) ≡ block_of m number
block_of_tail m tail number is low high =
    let start : ℕ = length m / 64 * 64 in
    let on : ℕ = 64 * (number - length m / 64) in
    let left : ℕ = (length m % 64 + 8) / 64 * 64 + 64 - on in
    let whole : (length m % 64 + 8) / 64 * 64 + 64 ≡ on + left = omega arith in
    let there : number * 64 ≡ start + on = omega arith in
    let part : take left (drop on tail) ≡ drop on (drop start (padded_message m)) = sym (drop-take on left tail) ∙ ap (drop on) (rw whole at is) in
    sym (take-take 64 left (drop on tail) (omega arith)) ∙ ap (take 64) (part ∙ drop-drop on start (padded_message m) ∙ rw there refl)

-- the padding, written behind the last bytes of the message
pub tail_is : (m xs zs be : List ℕ) (rest end k : ℕ) → rest ≡ length m % 64 → end ≡ (rest + 8) / 64 * 64 + 64 → xs ≡ drop (length m - rest) m
    → zs ≡ replicate (128 - rest) 0 → be ≡ to_be_bytes w64 (length m * 8 % 2 ^ 64) → IsTail m (put_mid (end - 8) k (slice_set (xs ++ zs) rest 0x80) be)
tail_is m xs zs be rest end k er ee ex ez eb =
    let z : ℕ = (119 - length m % 64) % 64 in
    let n : ℕ = 127 - rest in
    let more : 128 - rest ≡ suc n = omega arith in
    let zeros : zs ≡ 0 ∷ replicate n 0 = ez ∙ rw more refl in
    let start : length m - rest ≡ length m / 64 * 64 = omega arith in
    let last : xs ≡ drop (length m / 64 * 64) m = rw start at ex in
    let long : length xs ≡ rest = omega (arith, ap length ex, length-drop (length m - rest) m) in
    let set : slice_set (xs ++ zs) rest 0x80 ≡ xs ++ 0x80 ∷ replicate n 0 =
    rw zeros (ap (λ (i : ℕ). slice_set (xs ++ 0 ∷ replicate n 0) i 0x80) (sym long) ∙ set-append_seam xs 0 (replicate n 0) 0x80) in
    let room : length (xs ++ 0x80 ∷ replicate n 0) ≡ 128 =
    omega (arith, length-append xs (0x80 ∷ replicate n 0), length-replicate {A = ℕ} n 0) in
    let eight : length be ≡ 8 = rw eb refl in
    let front : take (end - 8) (xs ++ 0x80 ∷ replicate n 0) ≡ xs ++ 0x80 ∷ replicate z 0 =
    let at : end - 8 ≡ length xs + suc z = omega arith in
    rw at (take-append-add xs (0x80 ∷ replicate n 0) (suc z)) ∙ ap (λ (ys : List ℕ). xs ++ 0x80 ∷ ys) (take-replicate z n 0 (omega arith)) in
    let whole : (length m % 64 + 8) / 64 * 64 + 64 ≡ end = omega arith in
    rw (whole, set, take-put_mid (end - 8) k (xs ++ 0x80 ∷ replicate n 0) be end (omega arith) (omega arith), front)
    (append_assoc xs (0x80 ∷ replicate z 0) be ∙ rw (eb, last) (sym (drop-append-le (length m / 64 * 64) m (padding (length m)) (omega arith))))
