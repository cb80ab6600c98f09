-- Why the forms of the carried types are read back.
use Rattle.pagable_value_spec.specs.{
  Canonical.{IsReadable, LiesIn, Throughout},
  Keyed.{throughout-alone, throughout-over, throughout-two},
  OneForm.{IsBasic, IsOfTwo, IsOver, any, basic-follows, over-follows, two-follows},
  Shape.{Shape, hash_map},
}
use Rattle.std.specs.{List.AllByRecursion, Prelude.{List, ℕ}}

-- the forms of the shape, and those of all parts of its values in one blob, are read back
abbrev pub IsReadableThroughout : (ℕ → Shape) → Shape → Type 0
IsReadableThroughout parts s = Throughout IsReadable parts s

pub basic_is_read : {parts : ℕ → Shape} {s : Shape} → IsBasic s → IsReadableThroughout parts s
basic_is_read {parts} {s} h = throughout-alone IsReadable parts s (basic-follows any any s h).readable
    (λ those. (basic-follows any those s h).lies)

pub over_is_read : {parts : ℕ → Shape} {s whole : Shape} → IsOver s whole → IsReadableThroughout parts s
    → IsReadableThroughout parts whole
over_is_read {parts} {s} {whole} e h = throughout-over IsReadable parts s whole
    (over-follows any any s whole e).readable (λ those. (over-follows any those s whole e).lies) h

pub two_is_read : {parts : ℕ → Shape} {s t whole : Shape} → IsOfTwo s t whole → IsReadableThroughout parts s
    → IsReadableThroughout parts t → IsReadableThroughout parts whole
two_is_read {parts} {s} {t} {whole} e h k = throughout-two IsReadable parts s t whole
    (two-follows any any s t whole e).readable (λ those. (two-follows any those s t whole e).lies) h k

pub hash_map_is_read : {parts : ℕ → Shape} {s t : Shape} → IsReadableThroughout parts s → IsReadableThroughout parts t
    → IsReadableThroughout parts (hash_map s t)
unfolding IsReadable LiesIn
hash_map_is_read {parts} {s} {t} h k = throughout-two IsReadable parts s t (hash_map s t) (λ c d. (c, d))
    (λ those l m. (l, m)) h k

-- each of these shapes is read throughout
abbrev pub AreRead : (ℕ → Shape) → List Shape → Type 0
AreRead parts shapes = AllByRecursion (IsReadableThroughout parts) shapes
