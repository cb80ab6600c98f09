-- A key is read back from its text.
use Rattle.hex.proofs.HexLemmas.{decode_sized-encode_lower}
use Rattle.hex.specs.Hex.{IsBytes}
use Rattle.pagable_value_spec.specs.KeyText.{as_key, key_of_bytes, key_text, named_key}
use Rattle.std.proofs.{Common.{Ok, ap, arith, refl, suc, sym, zero, ℕ, ◌%◌, ◌*◌, ◌+◌, ◌/◌, ◌<◌, ◌^◌, ◌∙◌, ◌≡◌}, Math.Nat.{div-div-eq-div-mul, mod-add-div, mod-lt, pow-suc}, lemmas.Bool.Decides.nat_tests}
use Rattle.std.specs.Int.{byte_at, byte_worth, bytes_low_first, from_le_bytes, sum_through, to_le_bytes, w128}

-- the rest by m, and the rest of the quotient, make the rest by 256 m
split : (n m r t a b : ℕ) → a + m * (r + 256 * t) ≡ n → b + m * 256 * t ≡ n → a + r * m ≡ b
split n m r t a b h g = omega arith

-- the bytes of a number up to this one are its rest
lows : (n k : ℕ) → sum_through (λ i. byte_worth i (byte_at i n)) k ≡ n % 256 ^ suc k
lows n zero = refl
lows n (suc k) =
    let m = 256 ^ suc k in
    let q = n / m in
    let quotient : q % 256 + 256 * (q / 256) ≡ q = mod-add-div q 256 in
    let whole : n % m + m * (q % 256 + 256 * (q / 256)) ≡ n = ap (λ x. n % m + m * x) quotient ∙ mod-add-div n m in
    let next : n % (m * 256) + m * 256 * (q / 256) ≡ n = ap (λ x. n % (m * 256) + m * 256 * x) (div-div-eq-div-mul n m 256) ∙ mod-add-div n (m * 256) in
    ap (λ x. x + q % 256 * m) (lows n k) ∙ split n m (q % 256) (q / 256) (n % m) (n % (m * 256)) whole next ∙ ap (λ x. n % x) (sym (pow-suc 256 (suc k)))

read_back : (n : ℕ) → n < 2 ^ 128 → from_le_bytes w128 (to_le_bytes w128 n) ≡ n
read_back n fits = lows n 15 ∙ omega arith

byte : (at n : ℕ) → byte_at at n < 256
byte zero n = mod-lt n (omega arith)
byte (suc at) n = mod-lt (n / 256 ^ suc at) (omega arith)

are_bytes : (at count n : ℕ) → IsBytes (bytes_low_first at count n)
are_bytes at zero n i = omega arith
are_bytes at (suc count) n zero = byte at n
are_bytes at (suc count) n (suc i) = are_bytes (suc at) count n i

nonzero : (n : ℕ) → 0 < n → as_key n ≡ Ok n
nonzero n above = grind (arith, nat_tests)

pub reads_back : (key : ℕ) → 0 < key → key < 2 ^ 128 → named_key (key_text key) ≡ Ok key
reads_back key above fits =
    ap key_of_bytes (decode_sized-encode_lower (to_le_bytes w128 key) 16 refl (are_bytes 0 16 key)) ∙ ap as_key (read_back key fits) ∙ nonzero key above
