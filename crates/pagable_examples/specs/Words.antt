-- What static texts and bytes mean.
use Rattle.pagable_value_spec.specs.{Canonical.HasNoReference, Meaning.{Meaning, number, sequence, text}}
use Rattle.std.proofs.{Common.ap, lemmas.Slice.Eq.bytes_eq-Decides}
use Rattle.std.specs.{Borrow.Bor, Prelude.{IsTrue, List, map, refl, ℕ, [], ◌∷◌, ◌≡◌}, Str.bytes_eq}

abbrev pub of_text : List ℕ → Meaning ⊥
of_text bytes = text bytes

abbrev pub of_numbers : List ℕ → Meaning ⊥
of_numbers bytes = sequence (map number bytes)

-- two values have equal meanings exactly if their bytes are equal
module _ (means : List ℕ → Meaning ⊥) (x y : Bor (List ℕ)) where
  pub meets_equal : IsTrue (bytes_eq x.now y.now) → means x.now ≡ means y.now
  meets_equal same = ap means ((bytes_eq-Decides x.now y.now).0 same)

  pub is_equal : ((xs ys : List ℕ) → means xs ≡ means ys → xs ≡ ys) → means x.now ≡ means y.now
      → IsTrue (bytes_eq x.now y.now)
  is_equal apart same = (bytes_eq-Decides x.now y.now).1 (apart x.now y.now same)

pub texts_apart : (xs ys : List ℕ) → of_text xs ≡ of_text ys → xs ≡ ys
texts_apart xs ys e = cc

pub numbers_apart : (xs ys : List ℕ) → of_numbers xs ≡ of_numbers ys → xs ≡ ys
numbers_apart [] [] e = refl
numbers_apart (x ∷ xs) (y ∷ ys) e = let rest : of_numbers xs ≡ of_numbers ys = cc in let same =
    numbers_apart xs ys rest in cc
numbers_apart _ _ e = cc

pub text_refers_to_nothing : (xs : List ℕ) → HasNoReference (of_text xs)
unfolding HasNoReference
text_refers_to_nothing xs = tt

pub numbers_refer_to_nothing : (xs : List ℕ) → HasNoReference (of_numbers xs)
unfolding HasNoReference
numbers_refer_to_nothing [] = tt
numbers_refer_to_nothing (x ∷ xs) = (tt, numbers_refer_to_nothing xs)
