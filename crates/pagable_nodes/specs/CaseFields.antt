-- How the fields of an enum's case are read, by the number of the case.
use Rattle.pagable_codec.specs.declared.{
  deserializer.PagableDeserializer.Ghosts as Deserializers,
  env.Env.Ghosts as Environments,
}
use Rattle.pagable_nodes.specs.{Cases.{CaseOf, Cases, encoding_of}, NodeCases.typed_shape}
use Rattle.pagable_traits.specs.Clauses.{Reads}
use Rattle.pagable_value_spec.specs.{
  Meaning.Meaning,
  Reading.{Context, Gets, read},
  Shape.Shape,
  declared.{error.Error.Error, numbers.ArcRef.ArcRef},
}
use Rattle.std.specs.Prelude.{Err, None, Option, Result, Some, ℕ, ◌≡◌}

-- reading the fields of a case, if there is one
abbrev pub read_known : {A B : Type 0} → Context A B → Option Shape → Gets A (Meaning B)
read_known context None = λ rest. Err Error.UnknownTag
read_known context (Some s) = read context s

-- the value is of the case with this number, and its fields may mean this
abbrev pub IsInCase : {all : Cases} → CaseOf all → ℕ → Meaning ArcRef → Type 0
IsInCase x n m = (x.number ≡ n) × x.means m

-- the contract of reading the fields of the case with this number
abbrev pub ReadsFields : {D E R N H K V X : Type 0} {all : Cases} → Environments E N H K V → Deserializers D E R N H K V
    → (X → CaseOf all) → ℕ → D → D → Result X Error → Type 0
ReadsFields {all = all} env d view n old new r = Reads env d (encoding_of all n).reads.are (λ x m. IsInCase (view x) n m)
    (λ c. read_known c (typed_shape all n)) old new r
