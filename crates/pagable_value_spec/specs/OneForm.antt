-- What holds throughout a composite shape if it holds throughout its parts: no meaning has two forms, and keys hold no
-- reference.
use Rattle.pagable_value_spec.specs.{
  Canonical.{IsCanonical, IsReadable, LiesIn, Throughout},
  Keyed.{RefersToNothing, throughout-alone, throughout-over, throughout-two},
  Shape.{Shape, array, both, duration, flag, json, letter, list, nothing, optional, outcome, pattern, placed_map},
  Shape.{placed_set, run, signed, sorted_map, sorted_set, text, unsigned},
}
use Rattle.std.proofs.Common.{arith}
use Rattle.std.specs.Prelude.{ℕ, ◌≡◌}

-- made of no other shape, and no reference, numbered part or static value
abbrev pub IsBasic : Shape → Type 0
IsBasic nothing = Unit {0}
IsBasic (unsigned w) = Unit {0}
IsBasic (signed w) = Unit {0}
IsBasic flag = Unit {0}
IsBasic text = Unit {0}
IsBasic letter = Unit {0}
IsBasic duration = Unit {0}
IsBasic pattern = Unit {0}
IsBasic json = Unit {0}
IsBasic _ = ⊥

-- an optional value, list, array or set over this shape
abbrev pub IsOver : Shape → Shape → Type 0
IsOver s (optional t) = t ≡ s
IsOver s (list t) = t ≡ s
IsOver s (array n t) = t ≡ s
IsOver s (sorted_set order t) = t ≡ s
IsOver s (placed_set t) = t ≡ s
IsOver s _ = ⊥

-- an outcome, a pair or a map, but no hash map, over these two
abbrev pub IsOfTwo : Shape → Shape → Shape → Type 0
IsOfTwo s t (outcome u v) = (u ≡ s) × (v ≡ t)
IsOfTwo s t (both u v) = (u ≡ s) × (v ≡ t)
IsOfTwo s t (sorted_map order u v) = (u ≡ s) × (v ≡ t)
IsOfTwo s t (placed_map u v) = (u ≡ s) × (v ≡ t)
IsOfTwo s t _ = ⊥

-- A holds of each of these: being canonical, being readable, and lying in the sets
pub record Follows (A : (Shape → Type 0) → Type 0) (nodes parts : ℕ → Type 0) : Type 0 where
  pub canonical : A IsCanonical
  pub readable : A IsReadable
  pub lies : A (LiesIn nodes parts)

module _ (nodes parts : ℕ → Type 0) where
  pub basic-follows : (s : Shape) → IsBasic s → Follows (λ P. P s) nodes parts
  unfolding IsCanonical IsReadable LiesIn
  basic-follows x0 h = grind (arith)

  pub over-follows : (s whole : Shape) → IsOver s whole → Follows (λ P. P s → P whole) nodes parts
  unfolding IsCanonical IsReadable LiesIn
  over-follows s x1 e = grind (arith)

  pub two-follows : (s t whole : Shape) → IsOfTwo s t whole → Follows (λ P. P s → P t → P whole) nodes parts
  unfolding IsCanonical IsReadable LiesIn
  two-follows s t x2 e = grind (arith)

-- every number: any part is allowed
abbrev pub any : ℕ → Type 0
any n = Unit {0}

-- no meaning of the shape, or of any part of its values in one blob, has two forms
abbrev pub HasOneFormThroughout : (ℕ → Shape) → Shape → Type 0
HasOneFormThroughout parts s = Throughout IsCanonical parts s

pub basic_has_one_form : {parts : ℕ → Shape} {s : Shape} → IsBasic s → HasOneFormThroughout parts s
basic_has_one_form {parts} {s} h = throughout-alone IsCanonical parts s (basic-follows any any s h).canonical
    (λ those. (basic-follows any those s h).lies)

pub over_has_one_form : {parts : ℕ → Shape} {s whole : Shape} → IsOver s whole → HasOneFormThroughout parts s
    → HasOneFormThroughout parts whole
over_has_one_form {parts} {s} {whole} e h = throughout-over IsCanonical parts s whole
    (over-follows any any s whole e).canonical (λ those. (over-follows any those s whole e).lies) h

pub two_has_one_form : {parts : ℕ → Shape} {s t whole : Shape} → IsOfTwo s t whole → HasOneFormThroughout parts s
    → HasOneFormThroughout parts t → HasOneFormThroughout parts whole
two_has_one_form {parts} {s} {t} {whole} e h k = throughout-two IsCanonical parts s t whole
    (two-follows any any s t whole e).canonical (λ those. (two-follows any those s t whole e).lies) h k

pub run_has_one_form : {parts : ℕ → Shape} {s : Shape} → HasOneFormThroughout parts s
    → HasOneFormThroughout parts (run s)
unfolding IsCanonical LiesIn
run_has_one_form {parts} {s} h = throughout-over IsCanonical parts s (run s) (λ c. c) (λ those l. l) h

-- ---- no value of the shape holds a reference

pub basic_refers_to_nothing : {parts : ℕ → Shape} {s : Shape} → IsBasic s → RefersToNothing parts s
basic_refers_to_nothing {parts} {s} h = throughout-alone (LiesIn (λ n. ⊥) any) parts s
    (basic-follows (λ n. ⊥) any s h).lies (λ those. (basic-follows any those s h).lies)

pub over_refers_to_nothing : {parts : ℕ → Shape} {s whole : Shape} → IsOver s whole → RefersToNothing parts s
    → RefersToNothing parts whole
over_refers_to_nothing {parts} {s} {whole} e h = throughout-over (LiesIn (λ n. ⊥) any) parts s whole
    (over-follows (λ n. ⊥) any s whole e).lies (λ those. (over-follows any those s whole e).lies) h

pub two_refers_to_nothing : {parts : ℕ → Shape} {s t whole : Shape} → IsOfTwo s t whole → RefersToNothing parts s
    → RefersToNothing parts t → RefersToNothing parts whole
two_refers_to_nothing {parts} {s} {t} {whole} e h k = throughout-two _ parts s t whole
    (two-follows (λ n. ⊥) any s t whole e).lies (λ those. (two-follows any those s t whole e).lies) h k
