-- Hash maps: what they mean, and what a map holds after one more entry. The order of their entries is open.
use Rattle.pagable_value_spec.specs.{
  CarriedTypes.of_hash_map,
  Composite.{MeanAll, MeansPair, items_are_meanings, items_single, pair_is_meaning, pair_single},
  Keys.Entry,
  Meaning.{Meaning, entry, pair},
  declared.numbers.ArcRef.ArcRef,
}
use Rattle.std.proofs.{Common.{sym, ◌∙◌}, lemmas.Simd.map-map}
use Rattle.std.specs.{
  List.IsDistinct,
  Map.{keys_of, lookup, set_value},
  Prelude.{Bool, IsPermutation, List, MatchOption, map, refl, [], ◌∷◌, ◌≡◌},
}

-- The map after an entry was put in, no key twice: the value of a key that was there is replaced; with a new key, all
-- entries may be in any order.
abbrev pub PutsAnywhere : {K V : Type 0} → (K → K → Bool) → List (K × V) → K × V → List (K × V) → Type 0
PutsAnywhere eq old e new = IsDistinct eq (keys_of new)
    × MatchOption (lookup (eq e.0) old) (IsPermutation (e ∷ old) new) (λ _. new ≡ set_value (eq e.0) old e.1)

-- a hash map means the map of its keys' and values' meanings, whatever the order of its entries
pub record MeansHashMap {K V : Type 0} (M : K → Meaning ArcRef → Type 0) (N : V → Meaning ArcRef → Type 0)
    (xs : List (K × V)) (m : Meaning ArcRef) : Type 0 where
  pub es : List (Entry ArcRef)
  pub each : MeanAll (MeansPair M N) xs (map entry es)
  pub is : m ≡ of_hash_map es

pub hash_map_is_meaning : {K V : Type 0} (M : K → Meaning ArcRef → Type 0) (N : V → Meaning ArcRef → Type 0)
    (f : K → Meaning ArcRef) (g : V → Meaning ArcRef) → ((x : K) → M x (f x)) → ((y : V) → N y (g y))
    → (xs : List (K × V))
    → MeansHashMap M N xs (of_hash_map (map (λ x. (f x.0, g x.1)) xs))
hash_map_is_meaning M N f g is_first is_second xs =
    let each = items_are_meanings (MeansPair M N) (λ x. pair (f x.0) (g x.1))
    (pair_is_meaning M N f g is_first is_second) xs in
    record { es = map (λ x. (f x.0, g x.1)) xs; each = rw map-map each; is = refl }

same_entries : (es fs : List (Entry ArcRef)) → map entry es ≡ map entry fs → es ≡ fs
same_entries [] [] e = refl
same_entries (x ∷ es) (y ∷ fs) e = let rest = same_entries es fs (cc) in let first : x.0 ≡ y.0 =
    cc in let second : x.1 ≡ y.1 = cc in λ i. (first i, second i) ∷ rest i
same_entries _ _ e = cc

pub hash_map_single : {K V : Type 0} (M : K → Meaning ArcRef → Type 0) (N : V → Meaning ArcRef → Type 0)
    (f : K → Meaning ArcRef) (g : V → Meaning ArcRef) → ((x : K) (m : Meaning ArcRef) → M x m → m ≡ f x)
    → ((y : V) (m : Meaning ArcRef) → N y m → m ≡ g y)
    → (xs : List (K × V)) (m : Meaning ArcRef) → MeansHashMap M N xs m → m ≡ of_hash_map (map (λ x. (f x.0, g x.1)) xs)
hash_map_single M N f g single_first single_second xs m means =
    let each = items_single (MeansPair M N) (λ x. pair (f x.0) (g x.1)) (pair_single M N f g single_first single_second)
    xs (map entry means.es) means.each in
    let same = same_entries means.es (map (λ x. (f x.0, g x.1)) xs)
    (each ∙ sym (map-map entry (λ x. (f x.0, g x.1)) xs)) in
    rw (means.is, same) refl
