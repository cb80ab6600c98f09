-- Nodes of any number of types: an enum with a case for each type, which holds the type's values. `Cases` has the
-- encodings of the types in the order of their numbers, and the case of a node is its type's number and its value.
use Rattle.pagable_nodes.specs.Cases.{CaseOf, Cases, FieldsOf, case, is_case, no_more, shape_of}
use Rattle.pagable_traits.specs.OwnCauses.{ReadCauses, WriteCauses, reads_memory_or, reads_never, writes_never}
use Rattle.pagable_value_spec.specs.{
  Cursor.SomeMeaning,
  Meaning.Meaning,
  References.{SameReferences, references_in},
  Shape.Shape,
  declared.numbers.ArcRef.ArcRef,
}
use Rattle.std.proofs.Common.{ltb, ltb-true}
use Rattle.std.specs.Prelude.{None, Option, Some, refl, suc, true, zero, ℕ, ◌<◌, ◌^◌, ◌≡◌}

-- the shape of the values of a type, or none if no type has the number
abbrev pub typed_shape : Cases → ℕ → Option Shape
typed_shape no_more n = None
typed_shape (case a more) zero = Some a.shape
typed_shape (case a more) (suc n) = typed_shape more n

-- all errors of writing a type's values, and the errors of reading a node of a type other than faults of the input and of
-- references
abbrev pub typed_writes : Cases → ℕ → WriteCauses
typed_writes no_more n = writes_never
typed_writes (case a more) zero = a.writes
typed_writes (case a more) (suc n) = typed_writes more n

abbrev pub typed_reads : Cases → ℕ → ReadCauses
typed_reads no_more n = reads_never
typed_reads (case a more) zero = reads_memory_or a.reads
typed_reads (case a more) (suc n) = typed_reads more n

-- the fields of the wanted case, if a value is of this case: of a node, the value of the wanted type
abbrev pub fields_at : (all : Cases) (wanted number : ℕ) → FieldsOf all number → Option (FieldsOf all wanted)
fields_at no_more wanted number x = absurd x
fields_at (case a more) zero zero x = Some x
fields_at (case a more) zero (suc number) x = None
fields_at (case a more) (suc wanted) zero x = None
fields_at (case a more) (suc wanted) (suc number) x = fields_at more wanted number x

pub shape-is : (all : Cases) (n : ℕ) → is_case all n ≡ true → typed_shape all n ≡ Some (shape_of all n)
shape-is no_more n is = cc
shape-is (case a more) zero is = refl
shape-is (case a more) (suc n) is = shape-is more n is

pub typed_has_shape : (all : Cases) (v : CaseOf all) → typed_shape all v.number ≡ Some (shape_of all v.number)
typed_has_shape all v = shape-is all v.number v.exists

pub case_has_meaning : {all : Cases} (v : CaseOf all) → SomeMeaning v.means
case_has_meaning v = (v.meaning, v.is_meaning)

-- a value refers to what its one meaning refers to
pub case_refers : {all : Cases} (v : CaseOf all) (m : Meaning ArcRef) → v.means m
    → SameReferences (references_in v.meaning) (references_in m)
case_refers v m h = rw (v.single m h) (λ test. refl)

-- a number of a type, which is below 2^30
pub type_is_small : (t : ℕ) → ltb t (2 ^ 30) ≡ true → t < 2 ^ 30
type_is_small t small = ltb-true t (2 ^ 30) small
