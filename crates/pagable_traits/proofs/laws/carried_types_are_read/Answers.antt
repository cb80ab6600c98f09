use Rattle.pagable_traits.specs.ReadBack.{basic_is_read, hash_map_is_read, over_is_read, two_is_read}
use Rattle.std.specs.Prelude.{refl}
use Rattle.pagable_traits.proofs.laws.carried_types_are_read.Goals as goal

pub returns-clause-numbers : goal.returns-clause-numbers
returns-clause-numbers g c e = (
  basic_is_read tt,
  (
    basic_is_read tt,
    (
      basic_is_read tt,
      (
        basic_is_read tt,
        (basic_is_read tt, (basic_is_read tt, (basic_is_read tt, (basic_is_read tt, (basic_is_read tt, (basic_is_read tt, (basic_is_read tt, tt))))))),
      ),
    ),
  ),
)

pub returns-clause-basic : goal.returns-clause-basic
returns-clause-basic g c e = (
  basic_is_read tt,
  (
    basic_is_read tt,
    (
      basic_is_read tt,
      (basic_is_read tt, (basic_is_read tt, (basic_is_read tt, (basic_is_read tt, (basic_is_read tt, tt))))),
    ),
  ),
)

pub returns-clause-one_part : goal.returns-clause-one_part
returns-clause-one_part g c e t = (
  over_is_read refl t,
  (
    over_is_read refl t,
    (over_is_read refl t, (over_is_read refl t, (over_is_read refl t, (over_is_read refl t, tt)))),
  ),
)

pub returns-clause-sets : goal.returns-clause-sets
returns-clause-sets g c e = (λ k. over_is_read refl k, λ h. over_is_read refl h)

pub returns-clause-two_parts : goal.returns-clause-two_parts
returns-clause-two_parts g c e t x = (two_is_read (refl, refl) t x, (two_is_read (refl, refl) t x, (two_is_read (refl, refl) t (over_is_read refl x), tt)))

pub returns-clause-maps : goal.returns-clause-maps
returns-clause-maps g c e t = (λ k. two_is_read (refl, refl) k t, λ h. (two_is_read (refl, refl) h t, (hash_map_is_read h t, tt)))
