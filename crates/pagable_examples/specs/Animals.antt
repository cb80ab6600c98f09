-- The tags of animals, and the body under each tag.
use Rattle.pagable_examples.specs.declared.animal.{Animal.Animal, AnimalReader.AnimalReader}
use Rattle.pagable_traits.specs.Meanings.{Meanings}
use Rattle.pagable_value_spec.specs.{
  CarriedTypes.of_tagged,
  Cursor.Is,
  Meaning.{Meaning, none, number},
  Shape.{Shape, nothing, unsigned},
  Tagged.MeansTagged,
  declared.numbers.ArcRef.ArcRef,
}
use Rattle.std.specs.{Int.w8, Prelude.{List, cond, refl, ℕ, [], ◌∷◌}, Str.bytes_eq}
use Rattle.pagable_examples.specs.declared.animal.Animal.TheVariants as animals
use Rattle.pagable_examples.specs.declared.animal.AnimalReader.TheVariants as readers

-- "Cat" and "Dog"
abbrev pub cat : List ℕ
cat = 67 ∷ 97 ∷ 116 ∷ []

abbrev pub dog : List ℕ
dog = 68 ∷ 111 ∷ 103 ∷ []

abbrev pub tag_of : Animal → List ℕ
tag_of (animals.Dog age) = dog
tag_of _ = cat

-- a dog's body is its age, and a cat's is empty
abbrev pub written : List ℕ → Shape
written tag = cond (bytes_eq tag dog) (unsigned w8) nothing

abbrev pub body_of : Animal → Meaning ArcRef
body_of animals.Cat = none
body_of (animals.OldCat lives) = number lives
body_of (animals.Dog age) = number age

abbrev pub animal_means : Meanings Animal
animal_means = record {
  of = λ x. MeansTagged (tag_of x) (Is body_of x);
  meaning = λ x. of_tagged (tag_of x) (body_of x);
  is = λ x. record { body = body_of x; is_body = refl; is = refl };
}

abbrev pub tag_of_reader : AnimalReader → List ℕ
tag_of_reader readers.Dog = dog
tag_of_reader _ = cat

abbrev pub grammar_of : AnimalReader → Shape
grammar_of readers.Cat = nothing
grammar_of _ = unsigned w8
