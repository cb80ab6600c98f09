-- What the serializer and the deserializer over memory are in the words of the definitions.
use Rattle.pagable_core.specs.declared.context.writing.{SerializedData.SerializedData, SerializerOver.SerializerOver}
use Rattle.pagable_value_spec.specs.{
  Cursor.{Answer, InputState, MovesOn},
  Progress.{MovesForward, ReaderState},
  Reading.Rest,
  Writing.Out,
  declared.{error.Error.Error, numbers.ArcRef.ArcRef},
}
use Rattle.std.proofs.Common.{ap, arith}
use Rattle.std.specs.{Global.Global, Prelude.{List, Option, Result, Vec, refl, ℕ, [], ◌+◌, ◌∷◌}}

-- nothing was written
abbrev pub nothing : Out
nothing = record { bytes = []; refs = [] }

-- what was written, without its place in memory
abbrev pub out_of : SerializedData → Out
out_of d = record { bytes = d.bytes.items; refs = d.arcs.items }

-- the answers for these keys, in their order; the first key is at this place
abbrev pub answers_from : (ℕ → ℕ → ℕ → Result ArcRef Error) → ℕ → List ℕ → List Answer
answers_from answer place [] = []
answers_from answer place (key ∷ keys) = (λ kind. answer place key kind) ∷ answers_from answer (place + 1) keys

-- the state of a deserializer whose keys and reader are at these positions, with what it is lent at each place
abbrev pub input_state_at : {N : Type 0} → (ℕ → ℕ → ℕ → Result ArcRef Error) → (ℕ → Option (ArcRef × N))
    → ReaderState → ReaderState
    → InputState N
input_state_at answer lent keys reader = record {
  whole = record { bytes = reader.all; refs = answers_from answer 0 keys.all };
  lent = lent;
  cursor = record { byte_pos = reader.position; arc_index = keys.position };
}

-- the state at the start of these bytes and keys
abbrev pub at_front : {N : Type 0} → (ℕ → ℕ → ℕ → Result ArcRef Error) → (ℕ → Option (ArcRef × N)) → List ℕ → List ℕ
    → InputState N
at_front answer lent bytes keys = input_state_at answer lent (record { all = keys; position = 0 })
    (record { all = bytes; position = 0 })

-- a reader that has moved on moves the deserializer on
pub moves_of : {N : Type 0} (answer : ℕ → ℕ → ℕ → Result ArcRef Error) (lent : ℕ → Option (ArcRef × N))
    (keys old new : ReaderState) → MovesForward old new → MovesOn (input_state_at answer lent keys old)
    (input_state_at answer lent keys new)
moves_of answer lent keys old new g = record {
  whole = ap (λ (bytes : List ℕ). let x : Rest Answer =
      record { bytes = bytes; refs = answers_from answer 0 keys.all } in x) g.all;
  lent = refl;
  bytes = g.forward;
  refs = omega arith;
  within = λ w. record { bytes = g.within; refs = w.refs };
}

-- what was written, as a pair of bytes and references
abbrev pub pair_out : Vec ℕ Global × Vec ArcRef Global → Out
pair_out p = record { bytes = p.0.items; refs = p.1.items }

-- what was written, in a serializer's fields
abbrev pub written : {E S : Type 0} → SerializerOver E S → Out
written s = record { bytes = s.writer; refs = s.arcs.items }
