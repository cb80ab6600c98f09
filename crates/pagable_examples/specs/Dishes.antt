-- A dish means its name and then its weight: so it has one meaning and may be a key, and it is read back.
use Rattle.pagable_examples.specs.declared.dish.Dish.{Dish}
use Rattle.pagable_traits.specs.{
  Meanings.{AreSingle, Meanings, exactly, pairs, seen_by},
  ReadBack.{IsReadableThroughout, basic_is_read, two_is_read},
}
use Rattle.pagable_value_spec.specs.{Meaning.{number, text}, Shape.{Shape, both, text as text_shape, unsigned}}
use Rattle.std.specs.{Int.w16, Prelude.{refl, ℕ}, String.string_bytes}

abbrev pub dish_means : Meanings Dish
dish_means = seen_by (λ d. (d.name, d.grams)) (pairs (exactly (λ s. text (string_bytes s))) (exactly number))

pub dish_single : AreSingle dish_means
dish_single d m h = rw (h.is, h.is_first, h.is_second) refl

pub dish_is_read : (parts : ℕ → Shape) → IsReadableThroughout parts (both text_shape (unsigned w16))
dish_is_read parts = two_is_read (refl, refl) (basic_is_read tt) (basic_is_read tt)
