-- The codes of Keys tell meanings apart: no two have the same code, and no code is a prefix of another's.
use Rattle.pagable_value_spec.specs.{
  Keys.code,
  Meaning.{Meaning, followed, integer, pair, pattern, reference, text, variant},
  Numbers.zigzag,
}
use Rattle.std.proofs.{Common.{List, ap, append_assoc, arith, length, refl, sym, ℕ, ℤ, [], ◌++◌, ◌∙◌, ◌∷◌, ◌≡◌}, lemmas.Bool.Decides.nat_tests}

pub same-integer : (y z : ℤ) → zigzag y ≡ zigzag z → y ≡ z
same-integer x0 x1 e = grind (arith, nat_tests)

-- if two lists are equal and their fronts are equally long, the fronts are equal, and so are the rests
pub cut : (xs ys u v : List ℕ) → length xs ≡ length ys → xs ++ u ≡ ys ++ v → (xs ≡ ys) × (u ≡ v)
cut [] [] u v l e = (refl, e)
cut (x ∷ xs) (y ∷ ys) u v l e = let rest = cut xs ys u v (omega arith) (cc) in (cc, rest.1)
cut xs ys u v l e = absurd (omega arith)

-- no code is a prefix of another meaning's
code-apart : (a b : Meaning ⊥) (x y : List ℕ) → code a ++ x ≡ code b ++ y → (a ≡ b) × (x ≡ y)
unfolding code
code-apart (integer m) (integer n) x y e = (ap integer (same-integer m n (cc)), cc)
code-apart (text s) (text t) x y e = let parts = cut s t x y (cc) (cc) in (ap text parts.0, parts.1)
code-apart (pattern s) (pattern t) x y e = let parts = cut s t x y (cc) (cc) in (ap pattern parts.0, parts.1)
code-apart (pair a b) (pair c d) x y e =
    let tails : (code a ++ code b) ++ x ≡ (code c ++ code d) ++ y = cc in
    let first = code-apart a c (code b ++ x) (code d ++ y)
    (sym (append_assoc (code a) (code b) x) ∙ tails ∙ append_assoc (code c) (code d) y) in
    let second = code-apart b d x y first.1 in
    (cc, second.1)
code-apart (variant m a) (variant n b) x y e = let part = code-apart a b x y (cc) in (cc, part.1)
code-apart (reference a) b x y e = absurd a
code-apart (followed k a) (followed l b) x y e = let part = code-apart a b x y (cc) in (cc, part.1)
code-apart a (reference b) x y e = absurd b
code-apart a b x y e = (cc, cc)

-- meanings with one code are one meaning
pub one-meaning : (a b : Meaning ⊥) → code a ≡ code b → a ≡ b
one-meaning a b e = (code-apart a b [] [] (ap (λ (c : List ℕ). c ++ []) e)).0
