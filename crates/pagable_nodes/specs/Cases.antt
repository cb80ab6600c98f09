-- An enum is encoded as the number of its case, and then the fields of the case.
use Rattle.pagable_codec.specs.declared.{deserializer.PagableDeserializer.Ghosts as Deserializers, env.Env.Ghosts as Environments}
use Rattle.pagable_nodes.specs.Encoding.{Encoding, empty, fields}
use Rattle.pagable_traits.specs.{Clauses.{Reads}, OwnCauses.{ReadCauses, WriteCauses, reads_either, reads_never, writes_either, writes_memory_or, writes_never}, ReadBack.IsReadableThroughout, Refers.ListsInOrder}
use Rattle.pagable_value_spec.specs.{Canonical.{IsCanonical, IsReadable, LiesIn, Throughout, Within}, Form.case-form, Meaning.{Meaning, variant}, Numbers.unsigned_at, OneForm.HasOneFormThroughout, Outcomes.{no_own_causes}, Reading.bytes_of, References.references_in, Shape.{Shape, cases}, declared.{error.Error.Error, numbers.ArcRef.ArcRef}}
use Rattle.std.specs.{Int.w32, Prelude.{Bool, Result, false, refl, suc, true, zero, ℕ, ◌≡◌}}
use Rattle.pagable_value_spec.specs.Shape as shapes

-- how the fields of each case are encoded, those of the case 0 first: `empty` of a case without fields
pub data Cases : Type 1 where
  no_more : Cases
  case : {T : Type 0} → Encoding T → Cases → Cases

-- the fields of the case with this number
abbrev pub FieldsOf : Cases → ℕ → Type 0
FieldsOf no_more n = ⊥
FieldsOf (case {T = T} a more) zero = T
FieldsOf (case {T = T} a more) (suc n) = FieldsOf more n

abbrev pub is_case : Cases → ℕ → Bool
is_case no_more n = false
is_case (case a more) zero = true
is_case (case a more) (suc n) = is_case more n

abbrev pub encoding_of : (all : Cases) (n : ℕ) → Encoding (FieldsOf all n)
encoding_of no_more n = fields (λ none. absurd none) empty
encoding_of (case a more) zero = a
encoding_of (case a more) (suc n) = encoding_of more n

abbrev pub shape_of : Cases → ℕ → Shape
shape_of no_more n = shapes.nothing
shape_of (case a more) zero = a.shape
shape_of (case a more) (suc n) = shape_of more n

-- the causes of all cases
abbrev pub writes_of : Cases → WriteCauses
writes_of no_more = writes_never
writes_of (case a more) = writes_either a.writes (writes_of more)

abbrev pub reads_of : Cases → ReadCauses
reads_of no_more = reads_never
reads_of (case a more) = reads_either a.reads (reads_of more)

-- the case of a value: its number, and what its fields may mean and mean
pub record CaseOf (all : Cases) : Type 1 where
  pub number : ℕ
  pub exists : is_case all number ≡ true
  pub means : Meaning ArcRef → Type 0
  pub meaning : Meaning ArcRef
  pub is_meaning : means meaning
  pub single : (m : Meaning ArcRef) → means m → m ≡ meaning

pub case_exists : (all : Cases) (n : ℕ) → FieldsOf all n → is_case all n ≡ true
case_exists no_more n x = absurd x
case_exists (case a more) zero x = refl
case_exists (case a more) (suc n) x = case_exists more n x

-- the case with this number and these fields
abbrev pub in_case : (all : Cases) (n : ℕ) → FieldsOf all n → CaseOf all
in_case all n x = record {
  number = n;
  exists = case_exists all n x;
  means = (encoding_of all n).means.of x;
  meaning = (encoding_of all n).means.meaning x;
  is_meaning = (encoding_of all n).means.is x;
  single = (encoding_of all n).single x;
}

-- a value may mean the number of its case with any meaning of its fields
pub record MeansCase {all : Cases} (x : CaseOf all) (m : Meaning ArcRef) : Type 0 where
  pub part : Meaning ArcRef
  pub is_part : x.means part
  pub is : m ≡ variant x.number part

-- ---- what holds of each case holds of the enum

pub cases_in_order : (parts : ℕ → Shape) (known : ℕ → Bool) (part : ℕ → Shape) → ((n : ℕ) → ListsInOrder parts (part n))
    → ListsInOrder parts (cases w32 known part)
unfolding references_in
cases_in_order parts known part each left _ _ _ (case-form _ _ _ _ n m b k lt is f) = each n left m b k f

throughout-cases : (P : Shape → Type 0) (parts : ℕ → Shape) (known : ℕ → Bool) (part : ℕ → Shape)
    → (((n : ℕ) → known n ≡ true → P (part n)) → P (cases w32 known part)) → ((n : ℕ) → Throughout P parts (part n))
    → Throughout P parts (cases w32 known part)
unfolding LiesIn Within
throughout-cases P parts known part whole each = record { within = within }
  where
    within : (steps : ℕ) → Within P parts steps (cases w32 known part)
    within zero = whole (λ n is. (each n).within zero)
    within (suc steps) = (whole (λ n is. ((each n).within (suc steps)).0), λ n is. ((each n).within (suc steps)).1)

pub cases_have_one_form : (parts : ℕ → Shape) (known : ℕ → Bool) (part : ℕ → Shape)
    → ((n : ℕ) → HasOneFormThroughout parts (part n)) → HasOneFormThroughout parts (cases w32 known part)
unfolding IsCanonical
cases_have_one_form parts known part each = throughout-cases IsCanonical parts known part (λ h. h) each

pub cases_are_read : (parts : ℕ → Shape) (known : ℕ → Bool) (part : ℕ → Shape)
    → ((n : ℕ) → IsReadableThroughout parts (part n)) → IsReadableThroughout parts (cases w32 known part)
unfolding IsReadable
cases_are_read parts known part each = throughout-cases IsReadable parts known part (λ h. h) each

pub each_case : (P : Shape → Type 0) → ((T : Type 0) (a : Encoding T) → P a.shape) → (all : Cases) (n : ℕ)
    → P (shape_of all n)
each_case P has no_more n = has Unit empty
each_case P has (case {T = T} a more) zero = has T a
each_case P has (case a more) (suc n) = each_case P has more n

-- an enum with these cases, by the case of each value
abbrev pub one_of : {X : Type 0} (all : Cases) → (X → CaseOf all) → Encoding X
one_of all view = record {
  shape = cases w32 (is_case all) (shape_of all);
  means = record {
    of = λ x. MeansCase (view x);
    meaning = λ x. variant (view x).number (view x).meaning;
    is = λ x. record { part = (view x).meaning; is_part = (view x).is_meaning; is = refl };
  };
  single = λ x m h. rw (h.is, (view x).single h.part h.is_part) refl;
  writes = writes_memory_or (writes_of all);
  reads = reads_of all;
  in_order = λ parts. cases_in_order parts (is_case all) (shape_of all)
      (each_case (ListsInOrder parts) (λ T a. a.in_order parts) all);
  one_form = λ parts. cases_have_one_form parts (is_case all) (shape_of all)
      (each_case (HasOneFormThroughout parts) (λ T a. a.one_form parts) all);
  is_read = λ parts. cases_are_read parts (is_case all) (shape_of all)
      (each_case (IsReadableThroughout parts) (λ T a. a.is_read parts) all);
}

-- the contract of reading the number of a case
abbrev pub ReadsNumber : {D E R N H K V : Type 0} → Environments E N H K V → Deserializers D E R N H K V → D → D
    → Result ℕ Error → Type 0
ReadsNumber env d old new r = Reads env d no_own_causes (λ n k. k ≡ n) (λ c. bytes_of (unsigned_at w32) (λ n. n)) old
    new r
