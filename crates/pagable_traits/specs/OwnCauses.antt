-- The errors that a type's readers and writers have of their own, each list with the law that it obeys.
use Rattle.pagable_value_spec.specs.{
  Causes.{deep_or_may_refuse_writing, either_is_own_reading, either_may_refuse_writing, json_may_refuse_writing},
  Causes.{long_or_may_refuse_writing, memory_is_own_reading, memory_may_refuse_writing, memory_or_is_own_reading},
  Causes.{memory_or_may_refuse_writing, never_is_own_reading, never_may_refuse_writing},
  Outcomes.{IsOutOfMemory, deep_or, either, json_causes, long_or, memory_or, no_own_causes},
  Refusals.{is_own_reading, may_refuse_writing},
  declared.error.Error.Error,
}
use Rattle.std.specs.Prelude.{true, ◌≡◌}

-- no cause is a fault of the input
pub record ReadCauses : Type 1 where
  pub are : Error → Type 0
  pub own : (e : Error) → are e → is_own_reading e ≡ true

abbrev pub reads_never : ReadCauses
reads_never = record { are = no_own_causes; own = never_is_own_reading }

abbrev pub reads_memory : ReadCauses
reads_memory = record { are = IsOutOfMemory; own = memory_is_own_reading }

abbrev pub reads_memory_or : ReadCauses → ReadCauses
reads_memory_or part = record { are = memory_or part.are; own = memory_or_is_own_reading part.are part.own }

abbrev pub reads_either : ReadCauses → ReadCauses → ReadCauses
reads_either first second = record {
  are = either first.are second.are;
  own = either_is_own_reading first.are second.are first.own second.own;
}

-- each cause is an error that a writer may return
pub record WriteCauses : Type 1 where
  pub are : Error → Type 0
  pub may : (e : Error) → are e → may_refuse_writing e ≡ true

abbrev pub writes_never : WriteCauses
writes_never = record { are = no_own_causes; may = never_may_refuse_writing }

abbrev pub writes_memory : WriteCauses
writes_memory = record { are = IsOutOfMemory; may = memory_may_refuse_writing }

abbrev pub writes_memory_or : WriteCauses → WriteCauses
writes_memory_or part = record { are = memory_or part.are; may = memory_or_may_refuse_writing part.are part.may }

abbrev pub writes_either : WriteCauses → WriteCauses → WriteCauses
writes_either first second = record {
  are = either first.are second.are;
  may = either_may_refuse_writing first.are second.are first.may second.may;
}

abbrev pub writes_long_or : WriteCauses → WriteCauses
writes_long_or part = record { are = long_or part.are; may = long_or_may_refuse_writing part.are part.may }

abbrev pub writes_deep_or : WriteCauses → WriteCauses
writes_deep_or part = record { are = deep_or part.are; may = deep_or_may_refuse_writing part.are part.may }

abbrev pub writes_json : WriteCauses
writes_json = record { are = json_causes; may = json_may_refuse_writing }
