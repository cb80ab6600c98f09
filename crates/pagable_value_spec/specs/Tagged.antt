-- Values that are written as a tag and a body: what they mean, and which registration of a tag counts.
use Rattle.pagable_value_spec.specs.{
  Canonical.{HasNoCase, IsReadable, Throughout},
  CarriedTypes.of_tagged,
  Meaning.Meaning,
  Shape.Shape,
  declared.numbers.ArcRef.ArcRef,
}
use Rattle.std.specs.{List.slice_get, Prelude.{List, Some, false, map, true, ℕ, ◌<◌, ◌≡◌, ◌⊎◌}, Str.bytes_eq}

-- a tagged value means its tag with what the body means
pub record MeansTagged (tag : List ℕ) (M : Meaning ArcRef → Type 0) (m : Meaning ArcRef) : Type 0 where
  pub body : Meaning ArcRef
  pub is_body : M body
  pub is : m ≡ of_tagged tag body

-- the shapes that the readers read in an environment, by their tags
abbrev pub grammars : {F V : Type 0} → (F → V → Shape) → V → List (List ℕ × F) → List (List ℕ × Shape)
grammars grammar e readers = map (λ r. (r.0, grammar r.1 e)) readers

-- the reader that was registered last for this tag
pub record IsLastFor {F : Type 0} (tag : List ℕ) (readers : List (List ℕ × F)) (f : F) : Type 0 where
  pub place : ℕ
  pub stands : slice_get readers place ≡ Some (tag, f)
  pub last : (j : ℕ) (r : List ℕ × F) → place < j → slice_get readers j ≡ Some r → bytes_eq tag r.0 ≡ false

-- no reader was registered for this tag
abbrev pub NoneFor : {F : Type 0} → List ℕ → List (List ℕ × F) → Type 0
NoneFor {F} tag readers = (j : ℕ) (r : List ℕ × F) → slice_get readers j ≡ Some r → bytes_eq tag r.0 ≡ false

abbrev pub HasDistinctTags : List (List ℕ × Shape) → Type 0
HasDistinctTags registrations = (i j : ℕ) (r s : List ℕ × Shape) → slice_get registrations i ≡ Some r
    → slice_get registrations j ≡ Some s → bytes_eq r.0 s.0 ≡ true → i ≡ j

-- Each tag is registered with what is written under it, unless that has no case; and each registered reader reads what
-- is written under its tag, of which each form can be read.
pub record ReadsWhatIsWritten (parts : ℕ → Shape) (written : List ℕ → Shape)
    (registrations : List (List ℕ × Shape)) : Type 0 where
  pub each : (i : ℕ) (tag : List ℕ) (s : Shape) → slice_get registrations i ≡ Some (tag, s) → (s ≡ written tag)
      × Throughout IsReadable parts s
  pub all : (tag : List ℕ) → HasNoCase (written tag) ⊎ ((i : ℕ) × (slice_get registrations i ≡ Some (tag, written tag)))
