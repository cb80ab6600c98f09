-- An enum with tags is encoded as the tag of its case, a text, and then the fields of the case.
use Rattle.pagable_codec.specs.declared.{
  deserializer.PagableDeserializer.Ghosts as Deserializers,
  env.Env.Ghosts as Environments,
}
use Rattle.pagable_nodes.specs.{
  Cases.{CaseOf, Cases, case, each_case, is_case, no_more, reads_of, shape_of, writes_of},
  Encoding.Encoding,
}
use Rattle.pagable_traits.specs.{
  Clauses.Reads,
  OwnCauses.{reads_memory_or, writes_long_or, writes_memory_or},
  ReadBack.IsReadableThroughout,
  Refers.ListsInOrder,
}
use Rattle.pagable_value_spec.specs.{
  Canonical.{HasNoCase, IsCanonical, IsReadable, LiesIn, Throughout, Within, unwritten},
  CarriedTypes.of_tagged,
  Form.{case-form, tagged-form},
  Meaning.{Meaning, text as text_meaning},
  OneForm.HasOneFormThroughout,
  Outcomes.IsOutOfMemory,
  Reading.read,
  References.references_in,
  Shape.{Shape, tagged, text as text_shape},
  Tagged.MeansTagged,
  declared.{error.Error.Error, numbers.ArcRef.ArcRef},
}
use Rattle.std.proofs.Common.{inl, inr}
use Rattle.std.specs.{
  Prelude.{Bool, List, Result, cond, false, refl, suc, true, zero, ℕ, [], ◌∷◌, ◌≡◌, ◌⊎◌},
  Str.bytes_eq,
}

-- the place of a tag among the tags, or how many there are if it is none of them
abbrev pub tag_place : List (List ℕ) → List ℕ → ℕ
tag_place [] tag = 0
tag_place (t ∷ ts) tag = cond (bytes_eq tag t) 0 (suc (tag_place ts tag))

abbrev pub tag_at : List (List ℕ) → ℕ → List ℕ
tag_at [] n = []
tag_at (t ∷ ts) zero = t
tag_at (t ∷ ts) (suc n) = tag_at ts n

abbrev pub lacks_tag : List (List ℕ) → List ℕ → Bool
lacks_tag [] tag = true
lacks_tag (t ∷ ts) tag = cond (bytes_eq t tag) false (lacks_tag ts tag)

-- one tag for each case, and no two that are equal
abbrev pub are_tags : Cases → List (List ℕ) → Bool
are_tags no_more [] = true
are_tags no_more (t ∷ ts) = false
are_tags (case a more) [] = false
are_tags (case a more) (t ∷ ts) = cond (lacks_tag ts t) (are_tags more ts) false

abbrev pub has_tag : Cases → List (List ℕ) → List ℕ → Bool
has_tag all tags tag = is_case all (tag_place tags tag)

-- the shape of the fields of the case with this tag
abbrev pub body_of_tag : Cases → List (List ℕ) → List ℕ → Shape
body_of_tag all tags tag = shape_of all (tag_place tags tag)

abbrev pub known_or_unwritten : (List ℕ → Bool) → (List ℕ → Shape) → List ℕ → Shape
known_or_unwritten known body tag = cond (known tag) (body tag) unwritten

unfoldable pub tagged_shape : Cases → List (List ℕ) → Shape
tagged_shape all tags = tagged (known_or_unwritten (has_tag all tags) (body_of_tag all tags)) (has_tag all tags)
    (body_of_tag all tags)

-- ---- what holds of the body under each tag holds of the enum

known-in-order : (parts : ℕ → Shape) (s : Shape) (is : Bool) → ListsInOrder parts s
    → ListsInOrder parts (cond is s unwritten)
known-in-order parts s true h left m b k f = h left m b k f
known-in-order parts s false h left _ _ _ (case-form _ _ _ _ n m b k lt is f) = cc

module _ (known : List ℕ → Bool) (body : List ℕ → Shape) where
  abbrev whole : Shape
  whole = tagged (known_or_unwritten known body) known body

  tags-in-order : (parts : ℕ → Shape) → ((tag : List ℕ) → ListsInOrder parts (body tag)) → ListsInOrder parts whole
  unfolding references_in
  tags-in-order parts each left _ _ _ (tagged-form _ _ _ _ tag m b k u le f) =
      known-in-order parts (body tag) (known tag) (each tag) left m b k f

  written-too : (P : Shape → Type 0) → P unwritten → (tag : List ℕ) → P (body tag) → P (known_or_unwritten known body tag)
  written-too P none tag h = by (known tag)
    where
      by : (is : Bool) → P (cond is (body tag) unwritten)
      by true = h
      by false = none

  throughout-tags : (P : Shape → Type 0) (parts : ℕ → Shape) → (((tag : List ℕ) → P (body tag)) → P whole)
      → ((tag : List ℕ) → Throughout P parts (body tag)) → Throughout P parts whole
  unfolding LiesIn Within
  throughout-tags P parts all each = record { within = within }
    where
      within : (steps : ℕ) → Within P parts steps whole
      within zero = all (λ tag. (each tag).within zero)
      within (suc steps) = (
        all (λ tag. ((each tag).within (suc steps)).0),
        (
          (λ tag. written-too (LiesIn (λ n. Unit {0}) (λ n. Within P parts steps (parts n))) (λ n is. tt) tag
              ((each tag).within (suc steps)).1),
          λ tag is. ((each tag).within (suc steps)).1,
        ),
      )

  tags-have-one-form : (parts : ℕ → Shape) → ((tag : List ℕ) → HasOneFormThroughout parts (body tag))
      → HasOneFormThroughout parts whole
  unfolding IsCanonical
  tags-have-one-form parts each = throughout-tags IsCanonical parts
      (λ h. ((λ tag. written-too IsCanonical (λ n is. tt) tag (h tag)), λ tag is. h tag)) each

  tags-are-read : (parts : ℕ → Shape) → ((tag : List ℕ) → IsReadableThroughout parts (body tag))
      → IsReadableThroughout parts whole
  unfolding IsReadable
  tags-are-read parts each = throughout-tags IsReadable parts
      (λ h. ((λ tag. registered tag (known tag) refl), λ tag is. h tag)) each
    where
      registered : (tag : List ℕ) (is : Bool) → known tag ≡ is → HasNoCase (known_or_unwritten known body tag)
          ⊎ ((known tag ≡ true) × (body tag ≡ known_or_unwritten known body tag))
      registered tag true e = inr (e, rw e refl)
      registered tag false e = inl (rw e (λ n. refl))

module _ (all : Cases) (tags : List (List ℕ)) (parts : ℕ → Shape) where
  pub tagged_in_order : ListsInOrder parts (tagged_shape all tags)
  unfolding tagged_shape
  tagged_in_order = tags-in-order (has_tag all tags) (body_of_tag all tags) parts
      (λ tag. each_case (ListsInOrder parts) (λ T a. a.in_order parts) all (tag_place tags tag))

  pub tagged_has_one_form : HasOneFormThroughout parts (tagged_shape all tags)
  unfolding tagged_shape
  tagged_has_one_form = tags-have-one-form (has_tag all tags) (body_of_tag all tags) parts
      (λ tag. each_case (HasOneFormThroughout parts) (λ T a. a.one_form parts) all (tag_place tags tag))

  pub tagged_is_read : IsReadableThroughout parts (tagged_shape all tags)
  unfolding tagged_shape
  tagged_is_read = tags-are-read (has_tag all tags) (body_of_tag all tags) parts
      (λ tag. each_case (IsReadableThroughout parts) (λ T a. a.is_read parts) all (tag_place tags tag))

-- an enum with these cases and their tags, by the case of each value
abbrev pub tagged_one_of : {X : Type 0} (all : Cases) → List (List ℕ) → (X → CaseOf all) → Encoding X
tagged_one_of all tags view = record {
  shape = tagged_shape all tags;
  means = record {
    of = λ x. MeansTagged (tag_at tags (view x).number) (view x).means;
    meaning = λ x. of_tagged (tag_at tags (view x).number) (view x).meaning;
    is = λ x. record { body = (view x).meaning; is_body = (view x).is_meaning; is = refl };
  };
  single = λ x m h. rw (h.is, (view x).single h.body h.is_body) refl;
  writes = writes_long_or (writes_memory_or (writes_of all));
  reads = reads_memory_or (reads_of all);
  in_order = tagged_in_order all tags;
  one_form = tagged_has_one_form all tags;
  is_read = tagged_is_read all tags;
}

-- the text is a tag, and this is its place among the tags
pub record IsTagAt (tags : List (List ℕ)) (n : ℕ) (m : Meaning ArcRef) : Type 0 where
  pub tag : List ℕ
  pub is : m ≡ text_meaning tag
  pub place : n ≡ tag_place tags tag

-- the contract of reading the tag of a case
abbrev pub ReadsTag : {D E R N H K V : Type 0} → Environments E N H K V → Deserializers D E R N H K V → List (List ℕ) → D → D
    → Result ℕ Error → Type 0
ReadsTag env d tags old new r = Reads env d IsOutOfMemory (IsTagAt tags) (λ c. read c text_shape) old new r
