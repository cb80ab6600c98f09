-- A number of sixteen bytes is read back.
use Rattle.std.proofs.Common.{◌≡◌, refl, sym, ◌∙◌, ap, ℕ, zero, suc, ◌+◌, ◌*◌, ◌/◌, ◌%◌, ◌<◌, ◌^◌, arith}
use Rattle.std.proofs.Math.Nat.{div-div-eq-div-mul, mod-add-div, pow-suc}
use Rattle.std.specs.Int.{byte_at, byte_worth, from_le_bytes, sum_through, to_le_bytes, w128}

-- the rest by m, and the rest of the quotient, make the rest by 256 m
split : (n m r t a b : ℕ) → a + m * (r + 256 * t) ≡ n → b + m * 256 * t ≡ n → a + r * m ≡ b
split n m r t a b h g = omega arith

-- the bytes of a number up to this one are its rest
lows : (n k : ℕ) → sum_through (λ i. byte_worth i (byte_at i n)) k ≡ n % 256 ^ suc k
lows n zero = refl
lows n (suc k) =
    let m = 256 ^ suc k in
    let q = n / m in
    let quotient : q % 256 + 256 * (q / 256) ≡ q = mod-add-div q 256 in
    let whole : n % m + m * (q % 256 + 256 * (q / 256)) ≡ n = ap (λ x. n % m + m * x) quotient ∙ mod-add-div n m in
    let next : n % (m * 256) + m * 256 * (q / 256) ≡ n = ap (λ x. n % (m * 256) + m * 256 * x) (div-div-eq-div-mul n m 256) ∙ mod-add-div n (m * 256) in
    ap (λ x. x + q % 256 * m) (lows n k) ∙ split n m (q % 256) (q / 256) (n % m) (n % (m * 256)) whole next ∙ ap (λ x. n % x) (sym (pow-suc 256 (suc k)))

pub read_back : (n : ℕ) → n < 2 ^ 128 → from_le_bytes w128 (to_le_bytes w128 n) ≡ n
read_back n fits = lows n 15 ∙ omega arith
