-- The sums of rotations and shifts by xor, with shifts that share their work.
use Rattle.std.proofs.{
  Common.{
    add-zero,
    ap,
    arith,
    bit_or,
    bit_xor,
    pow-add,
    pow_pos,
    refl,
    shr-shr,
    subst,
    sym,
    ℕ,
    ◌%◌,
    ◌*◌,
    ◌+◌,
    ◌/◌,
    ◌<◌,
    ◌^◌,
    ◌∙◌,
    ◌≡◌,
  },
  Math.Nat.mul_assoc,
  lemmas.Nat.{
    mod-pow-add,
    mod_low,
    mul-mod_first,
    or_comm,
    or_shifted,
    shl-shr,
    shr_below,
    xor_block,
    xor_comm,
    xor_mod,
    xor_shr,
  },
}
use Rattle.std.specs.Int.Bits.{xor_zero_l, xor_zero_r}
use lib.Bits.{xor_assoc}

-- two pairs under xor, paired the other way
swap_pairs : (a b c d : ℕ) → bit_xor (bit_xor a b) (bit_xor c d) ≡ bit_xor (bit_xor a c) (bit_xor b d)
swap_pairs a b c d =
    xor_assoc a b (bit_xor c d) ∙ ap (bit_xor a) (sym (xor_assoc b c d) ∙ ap (λ (y : ℕ). bit_xor y d) (xor_comm b c) ∙ xor_assoc c b d)
    ∙ sym (xor_assoc a c (bit_xor b d))

-- three under xor, from the last one
reversed : (a b c : ℕ) → bit_xor (bit_xor c b) a ≡ bit_xor (bit_xor a b) c
reversed a b c = xor_comm (bit_xor c b) a ∙ ap (bit_xor a) (xor_comm c b) ∙ sym (xor_assoc a b c)

xor_above : (a k b : ℕ) → b < 2 ^ k → bit_xor (a * 2 ^ k) b ≡ a * 2 ^ k + b
xor_above a k b low =
    let zeros : a * 2 ^ k + 0 ≡ a * 2 ^ k = omega arith in
    let none : 0 * 2 ^ k + b ≡ b = omega arith in
    let both : bit_xor (a * 2 ^ k + 0) (0 * 2 ^ k + b) ≡ bit_xor a 0 * 2 ^ k + bit_xor 0 b = xor_block k a 0 0 b (pow_pos k) low in
    sym (λ i. bit_xor (zeros i) (none i)) ∙ both ∙ rw (xor_zero_r a, xor_zero_l b) refl

module _ (w : ℕ) where
  -- a shift to the left goes through xor
  xor_shl : (a b k : ℕ) → bit_xor a b * 2 ^ k % 2 ^ w ≡ bit_xor (a * 2 ^ k % 2 ^ w) (b * 2 ^ k % 2 ^ w)
  xor_shl a b k =
      let za : a * 2 ^ k + 0 ≡ a * 2 ^ k = omega arith in
      let zb : b * 2 ^ k + 0 ≡ b * 2 ^ k = omega arith in
      let zz : bit_xor a b * 2 ^ k + bit_xor 0 0 ≡ bit_xor a b * 2 ^ k = add-zero (bit_xor a b * 2 ^ k) in
      let both : bit_xor (a * 2 ^ k + 0) (b * 2 ^ k + 0) ≡ bit_xor a b * 2 ^ k + bit_xor 0 0 = xor_block k a b 0 0 (pow_pos k) (pow_pos k) in
      ap (λ (n : ℕ). n % 2 ^ w) (sym zz ∙ sym both ∙ (λ i. bit_xor (za i) (zb i))) ∙ xor_mod (a * 2 ^ k) (b * 2 ^ k) w

  shl_shl : (n j k : ℕ) → n * 2 ^ j % 2 ^ w * 2 ^ k % 2 ^ w ≡ n * 2 ^ (j + k) % 2 ^ w
  shl_shl n j k =
      mul-mod_first (n * 2 ^ j) (2 ^ k) (2 ^ w)
      ∙ ap (λ (m : ℕ). m % 2 ^ w) (mul_assoc n (2 ^ j) (2 ^ k) ∙ ap (λ (m : ℕ). n * m) (sym (pow-add 2 j k)))

  -- the two parts of a rotation share no bit
  rotation_is_xor : (n k j : ℕ) → k + j ≡ w → n < 2 ^ w → bit_xor (n / 2 ^ k) (n * 2 ^ j % 2 ^ w) ≡ bit_or (n / 2 ^ k) (n * 2 ^ j % 2 ^ w)
  rotation_is_xor n k j e fits =
      let clear : n * 2 ^ j % 2 ^ j ≡ 0 = ap (λ (x : ℕ). x % 2 ^ j) (sym (add-zero _)) ∙ mod_low n j 0 (pow_pos j) in
      let low : n * 2 ^ j % 2 ^ w ≡ n % 2 ^ k * 2 ^ j =
      ap (λ (i : ℕ). n * 2 ^ j % 2 ^ i) (sym e) ∙ mod-pow-add (n * 2 ^ j) k j ∙ rw (shl-shr n j, clear) (add-zero _) in
      let turned : w ≡ j + k = omega arith in
      let high : n / 2 ^ k < 2 ^ j = shr_below n j k (subst (λ (i : ℕ). n < 2 ^ i) turned fits) in
      rw low
      (xor_comm (n / 2 ^ k) (n % 2 ^ k * 2 ^ j) ∙ xor_above (n % 2 ^ k) j (n / 2 ^ k) high
      ∙ sym (or_shifted (n % 2 ^ k) j (n / 2 ^ k) high) ∙ or_comm (n % 2 ^ k * 2 ^ j) (n / 2 ^ k))

  -- three shifts to the right, each inside the one before
  shifts_right : (x a p q : ℕ) → bit_xor (bit_xor (x / 2 ^ q) x / 2 ^ p) x / 2 ^ a
      ≡ bit_xor (bit_xor (x / 2 ^ (q + p + a)) (x / 2 ^ (p + a))) (x / 2 ^ a)
  shifts_right x a p q =
      xor_shr (bit_xor (x / 2 ^ q) x / 2 ^ p) x a
      ∙ ap (λ (y : ℕ). bit_xor y (x / 2 ^ a))
      (ap (λ (y : ℕ). y / 2 ^ a) (xor_shr (x / 2 ^ q) x p) ∙ xor_shr (x / 2 ^ q / 2 ^ p) (x / 2 ^ p) a
      ∙ (λ i. bit_xor ((ap (λ (y : ℕ). y / 2 ^ a) (shr-shr x q p) ∙ shr-shr x (q + p) a) i) (shr-shr x p a i)))

  -- two shifts to the left, each inside the one before
  shifts_left : (x q r : ℕ) → bit_xor (x * 2 ^ q % 2 ^ w) x * 2 ^ r % 2 ^ w ≡ bit_xor (x * 2 ^ (q + r) % 2 ^ w) (x * 2 ^ r % 2 ^ w)
  shifts_left x q r = xor_shl (x * 2 ^ q % 2 ^ w) x r ∙ ap (λ (y : ℕ). bit_xor y (x * 2 ^ r % 2 ^ w)) (shl_shl x q r)

  -- three
  shifts_left_three : (x p q r : ℕ) → bit_xor (bit_xor (x * 2 ^ p % 2 ^ w) x * 2 ^ q % 2 ^ w) x * 2 ^ r % 2 ^ w
      ≡ bit_xor (bit_xor (x * 2 ^ (p + q + r) % 2 ^ w) (x * 2 ^ (q + r) % 2 ^ w)) (x * 2 ^ r % 2 ^ w)
  shifts_left_three x p q r =
      xor_shl (bit_xor (x * 2 ^ p % 2 ^ w) x * 2 ^ q % 2 ^ w) x r
      ∙ ap (λ (y : ℕ). bit_xor y (x * 2 ^ r % 2 ^ w))
      (ap (λ (y : ℕ). y * 2 ^ r % 2 ^ w) (shifts_left x p q) ∙ xor_shl (x * 2 ^ (p + q) % 2 ^ w) (x * 2 ^ q % 2 ^ w) r
      ∙ (λ i. bit_xor (shl_shl x (p + q) r i) (shl_shl x q r i)))

  -- the xor of three rotations, of which the first is by a, the second by p more and the third by q more
  pub three_rotations : (x a p q r : ℕ) → a + (p + q + r) ≡ w → x < 2 ^ w
      → bit_xor (bit_xor (bit_xor (x / 2 ^ q) x / 2 ^ p) x / 2 ^ a) (bit_xor (bit_xor (x * 2 ^ p % 2 ^ w) x * 2 ^ q % 2 ^ w) x * 2 ^ r % 2 ^ w)
      ≡ bit_xor (bit_xor (bit_or (x / 2 ^ a) (x * 2 ^ (p + q + r) % 2 ^ w)) (bit_or (x / 2 ^ (p + a)) (x * 2 ^ (q + r) % 2 ^ w)))
      (bit_or (x / 2 ^ (q + p + a)) (x * 2 ^ r % 2 ^ w))
  three_rotations x a p q r whole fits =
      let ra : ℕ = x / 2 ^ a in
      let rb : ℕ = x / 2 ^ (p + a) in
      let rc : ℕ = x / 2 ^ (q + p + a) in
      let la : ℕ = x * 2 ^ (p + q + r) % 2 ^ w in
      let lb : ℕ = x * 2 ^ (q + r) % 2 ^ w in
      let lc : ℕ = x * 2 ^ r % 2 ^ w in
      (λ i. bit_xor ((shifts_right x a p q ∙ reversed ra rb rc) i) (shifts_left_three x p q r i))
      ∙ swap_pairs (bit_xor ra rb) rc (bit_xor la lb) lc ∙ ap (λ (y : ℕ). bit_xor y (bit_xor rc lc)) (swap_pairs ra rb la lb)
      ∙ (λ i. bit_xor (bit_xor (rotation_is_xor x a (p + q + r) whole fits i) (rotation_is_xor x (p + a) (q + r) (omega arith) fits i))
      (rotation_is_xor x (q + p + a) r (omega arith) fits i))

  -- the xor of two rotations, by p and by p + q more than a, and a shift by a
  pub two_rotations : (x a p q r : ℕ) → p + a + (q + r) ≡ w → x < 2 ^ w
      → bit_xor (bit_xor (bit_xor (x / 2 ^ q) x / 2 ^ p) x / 2 ^ a) (bit_xor (x * 2 ^ q % 2 ^ w) x * 2 ^ r % 2 ^ w)
      ≡ bit_xor (bit_xor (bit_or (x / 2 ^ (p + a)) (x * 2 ^ (q + r) % 2 ^ w)) (bit_or (x / 2 ^ (q + p + a)) (x * 2 ^ r % 2 ^ w))) (x / 2 ^ a)
  two_rotations x a p q r whole fits =
      let ra : ℕ = x / 2 ^ a in
      let rb : ℕ = x / 2 ^ (p + a) in
      let rc : ℕ = x / 2 ^ (q + p + a) in
      let lb : ℕ = x * 2 ^ (q + r) % 2 ^ w in
      let lc : ℕ = x * 2 ^ r % 2 ^ w in
      (λ i. bit_xor ((shifts_right x a p q ∙ ap (λ (y : ℕ). bit_xor y ra) (xor_comm rc rb)) i) (shifts_left x q r i))
      ∙ xor_assoc (bit_xor rb rc) ra (bit_xor lb lc) ∙ ap (bit_xor (bit_xor rb rc)) (xor_comm ra (bit_xor lb lc))
      ∙ sym (xor_assoc (bit_xor rb rc) (bit_xor lb lc) ra) ∙ ap (λ (y : ℕ). bit_xor y ra) (swap_pairs rb rc lb lc)
      ∙ (λ i. bit_xor (bit_xor (rotation_is_xor x (p + a) (q + r) whole fits i) (rotation_is_xor x (q + p + a) r (omega arith) fits i)) ra)
