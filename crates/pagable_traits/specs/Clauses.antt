-- The contracts of functions that write and read values: the clauses of the value traits, in one record each.
use Rattle.pagable_codec.specs.{
  declared.{deserializer.PagableDeserializer.Ghosts as Deserializers, env.Env.Ghosts as Environments},
  declared.serializer.PagableSerializer.Ghosts as Serializers,
}
use Rattle.pagable_traits.specs.JsonData.{of_key, of_value}
use Rattle.pagable_value_spec.specs.{
  BasicValues.{length_form, longest},
  Collected.Collected,
  Composite.MeansPair,
  Cursor.{Answer, GivesSome, Is, MovesOn, answer_at, handles_at},
  Meaning.Meaning,
  Numbers.unsigned_form,
  Reading.{Context, Gets, JsonCase, below, deepest, json_part},
  Shape.Shape,
  Writing.{Grows, Nesting, Out, Refused, RefusedAll, WritesSome, WritesSomeAll, added, nesting},
  declared.{error.Error.Error, numbers.ArcRef.ArcRef},
}
use Rattle.serde_json.specs.declared.value.Value.{Value}
use Rattle.std.specs.{
  BTreeMap.{BTreeMap, insert_entry},
  Int.w64,
  Prelude.{IfErr, List, OnOk, Result, String, ℕ, [], ◌-◌, ◌≡◌, ◌≤◌},
  String.string_cmp,
  declared.alloc.Global.Global,
}
use Rattle.serde_json.specs.declared.value.Value as values

-- what may be added in a nesting, and what an error says there
pub record Piece : Type 1 where
  pub wrote : Nesting → Out → Out → Type 0
  pub lacks : Nesting → Error → Type 0

-- pieces: these bytes; a case and a count after it; a form of a value; the forms of items
abbrev pub bytes : List ℕ → Piece
bytes b = record { wrote = λ n old new. new ≡ added old b []; lacks = λ n e. Unit {0} }

abbrev pub case_and_length : ℕ → ℕ → Piece
case_and_length case count = record {
  wrote = λ n old new. (count ≤ longest)
      × (new ≡ added (added old (unsigned_form w64 case) []) (length_form count) []);
  lacks = λ n e. Unit {0};
}

abbrev pub value : (Meaning ArcRef → Type 0) → Shape → Piece
value M shape = record { wrote = λ n. WritesSome M n shape; lacks = λ n. Refused M n shape }

abbrev pub item_forms : (List (Meaning ArcRef) → Type 0) → Shape → Piece
item_forms M shape = record { wrote = λ n. WritesSomeAll M n shape; lacks = λ n. RefusedAll M n shape }

module _ {S E N H K V : Type 0} (env : Environments E N H K V) (s : Serializers S E N H K V) where
  abbrev pub nested_in : S → Nesting
  nested_in x = nesting (s.levels x) (env.parts (s.environment x))

  -- the contract of `PagableSerialize`
  pub record Wrote {X : Type 0} (piece : Piece) (causes : Error → Type 0) (old new : S) (result : Result X Error) : Type
      0 where
    pub ok : OnOk result (piece.wrote (nested_in old) (s.out old) (s.out new))
    pub refused : IfErr result (piece.lacks (nested_in old))
    pub only : IfErr result causes
    pub grows : Grows (s.out old) (s.out new)
    pub same_env : s.environment new ≡ s.environment old
    pub same_levels : s.levels new ≡ s.levels old

module _ {D E R N H K V : Type 0} (env : Environments E N H K V) (d : Deserializers D E R N H K V) where
  abbrev pub context_in : D → Context Answer ArcRef
  context_in x = handles_at (d.levels x) (env.parts (d.environment x))

  -- the contract of `PagableDeserialize`
  pub record Reads {X Y : Type 0} (causes : Error → Type 0) (means : X → Y → Type 0)
      (get : Context Answer ArcRef → Gets Answer Y) (old new : D) (result : Result X Error) : Type 0 where
    pub gives : GivesSome causes means (d.rest new) result (get (context_in old) (d.rest old))
    pub moves : MovesOn (d.input_state old) (d.input_state new)
    pub same_env : d.environment new ≡ d.environment old
    pub same_levels : d.levels new ≡ d.levels old

-- a JSON value, after its case
abbrev pub value_after_case : JsonCase → Context Answer ArcRef → Gets Answer (Meaning ArcRef)
value_after_case case c = json_part (below answer_at c.parts (deepest - c.levels)) case

-- an object whose members mean these, one after another: of a repeated key the later value counts
pub record ObjectOf (v : Value) (ms : List (Meaning ArcRef)) : Type 0 where
  pub members : BTreeMap (String Global) Value
  pub is : v ≡ values.Object members
  pub each : Collected (MeansPair (Is of_key) (Is of_value)) (λ es e fs. fs ≡ insert_entry string_cmp es e.0 e.1)
      members.entries ms
