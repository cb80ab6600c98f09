-- What static bytes mean, and the tag of cats.
use Rattle.pagable_value_spec.specs.{Canonical.HasNoReference, Meaning.{Meaning, number, sequence}}
use Rattle.std.proofs.{Common.ap, lemmas.Slice.Eq.bytes_eq-Decides}
use Rattle.std.specs.{Borrow.Bor, Prelude.{IsTrue, List, map, refl, ℕ, [], ◌∷◌, ◌≡◌}, Str.bytes_eq}

-- "Cat"
abbrev pub cat : List ℕ
cat = 67 ∷ 97 ∷ 116 ∷ []

abbrev pub of_numbers : List ℕ → Meaning ⊥
of_numbers bytes = sequence (map number bytes)

numbers-apart : (xs ys : List ℕ) → of_numbers xs ≡ of_numbers ys → xs ≡ ys
numbers-apart [] [] e = refl
numbers-apart (x ∷ xs) (y ∷ ys) e = let rest : of_numbers xs ≡ of_numbers ys = cc in let same =
    numbers-apart xs ys rest in cc
numbers-apart _ _ e = cc

-- two lists of static bytes have equal meanings exactly if they are equal
pub meets_equal : (x y : Bor (List ℕ)) → IsTrue (bytes_eq x.now y.now) → of_numbers x.now ≡ of_numbers y.now
meets_equal x y same = ap of_numbers ((bytes_eq-Decides x.now y.now).0 same)

pub is_equal : (x y : Bor (List ℕ)) → of_numbers x.now ≡ of_numbers y.now → IsTrue (bytes_eq x.now y.now)
is_equal x y same = (bytes_eq-Decides x.now y.now).1 (numbers-apart x.now y.now same)

pub numbers_refer_to_nothing : (xs : List ℕ) → HasNoReference (of_numbers xs)
unfolding HasNoReference
numbers_refer_to_nothing [] = tt
numbers_refer_to_nothing (x ∷ xs) = (tt, numbers_refer_to_nothing xs)
