-- What the values of a type may mean, made of what their parts may mean.
use Rattle.pagable_value_spec.specs.{
  CarriedTypes.{of_hash_map, of_option, of_result},
  Composite.{MeansList, MeansOption, MeansPair, MeansResult, list_is_meaning, list_single, option_is_meaning},
  Composite.{option_single, pair_is_meaning, pair_single, result_is_meaning},
  Cursor.{Is, SomeMeaning},
  Hashed.{MeansHashMap, hash_map_is_meaning},
  Meaning.{Meaning, pair, sequence},
  declared.numbers.ArcRef.ArcRef,
}
use Rattle.std.specs.Prelude.{List, Option, Result, map, refl, ◌≡◌}

-- what each value of the type may mean
abbrev pub Means : Type 0 → Type 1
Means X = X → Meaning ArcRef → Type 0

-- the meanings that a value may have, and one of them: the only one, or any if no contract knows its content
pub record Meanings (X : Type 0) : Type 1 where
  pub of : Means X
  pub meaning : X → Meaning ArcRef
  pub is : (x : X) → of x (meaning x)

-- a value means something
abbrev pub some : {X : Type 0} (M : Meanings X) (x : X) → SomeMeaning (M.of x)
some M x = (M.meaning x, M.is x)

-- no value has a second meaning
abbrev pub AreSingle : {X : Type 0} → Meanings X → Type 0
AreSingle {X} M = (x : X) (m : Meaning ArcRef) → M.of x m → m ≡ M.meaning x

-- this meaning alone
abbrev pub exactly : {X : Type 0} → (X → Meaning ArcRef) → Meanings X
exactly meaning = record { of = Is meaning; meaning = meaning; is = λ x. refl }

-- the meanings of what the value is seen as
abbrev pub seen_by : {X Y : Type 0} → (X → Y) → Meanings Y → Meanings X
seen_by view M = record { of = λ x. M.of (view x); meaning = λ x. M.meaning (view x); is = λ x. M.is (view x) }

abbrev pub options : {T : Type 0} → Meanings T → Meanings (Option T)
options M = record { of = MeansOption M.of; meaning = of_option M.meaning; is = option_is_meaning M.of M.meaning M.is }

abbrev pub results : {T X : Type 0} → Meanings T → Meanings X → Meanings (Result T X)
results M N = record {
  of = MeansResult M.of N.of;
  meaning = of_result M.meaning N.meaning;
  is = result_is_meaning M.of N.of M.meaning N.meaning M.is N.is;
}

abbrev pub lists : {T : Type 0} → Meanings T → Meanings (List T)
lists M = record {
  of = MeansList M.of;
  meaning = λ xs. sequence (map M.meaning xs);
  is = list_is_meaning M.of M.meaning M.is;
}

abbrev pub pairs : {A B : Type 0} → Meanings A → Meanings B → Meanings (A × B)
pairs M N = record {
  of = MeansPair M.of N.of;
  meaning = λ p. pair (M.meaning p.0) (N.meaning p.1);
  is = pair_is_meaning M.of N.of M.meaning N.meaning M.is N.is;
}

abbrev pub hash_maps : {K V : Type 0} → Meanings K → Meanings V → Meanings (List (K × V))
hash_maps M N = record {
  of = MeansHashMap M.of N.of;
  meaning = λ xs. of_hash_map
      (map (λ x. (M.meaning x.0, N.meaning x.1)) xs);
  is = hash_map_is_meaning M.of N.of M.meaning N.meaning M.is N.is;
}

pub options_single : {T : Type 0} (M : Meanings T) → AreSingle M → AreSingle (options M)
options_single M s = option_single M.of M.meaning s

pub lists_single : {T : Type 0} (M : Meanings T) → AreSingle M → AreSingle (lists M)
lists_single M s = list_single M.of M.meaning s

pub pairs_single : {A B : Type 0} (M : Meanings A) (N : Meanings B) → AreSingle M → AreSingle N → AreSingle (pairs M N)
pairs_single M N s t = pair_single M.of N.of M.meaning N.meaning s t
