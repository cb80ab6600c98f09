-- Why a JSON value isn't written: its first fault.
use Rattle.pagable_traits.specs.{Clauses.{Piece, value as form}, JsonData.{of_data, of_key, of_value}}
use Rattle.pagable_value_spec.specs.{
  BasicValues.longest,
  Composite.{MeanAll, MeansPair},
  Cursor.Is,
  Meaning.Meaning,
  Reading.deepest,
  Refusals.is_writing_fault,
  Shape.{Shape, both, json, text},
  Writing.{Nesting, NoFormOfSome, Out, WritesSomeAll, nesting},
  declared.{error.Error.Error, numbers.ArcRef.ArcRef},
}
use Rattle.serde_json.specs.{
  Data.Data,
  Find.as_i64,
  View.number_view,
  declared.{number.Number.Number, value.Value.Value},
}
use Rattle.std.specs.{
  BTreeMap.BTreeMap,
  Prelude.{IsTrue, List, None, Option, String, Vec, length, ℤ, ◌++◌, ◌+◌, ◌<◌, ◌∷◌, ◌≡◌, ◌≤◌},
  declared.alloc.Global.Global,
}
use Rattle.pagable_value_spec.specs.declared.error.Error.TheVariants as errors
use Rattle.serde_json.specs.declared.value.Value as values

-- items that can be written here, so none of them has a fault
abbrev pub WereWritten : (List (Meaning ArcRef) → Type 0) → Nesting → Shape → Type 0
WereWritten M n s = (old : Out) × (new : Out) × WritesSomeAll M n s old new

mutual
  -- the fault of: a number outside the range of an `i64`; a text or a count that is too long; an array or an object
  -- with no level left; else the first fault of a part
  pub data Fault : Nesting → Value → Error → Type 0 where
    number-fault : (n : Nesting) (x : Number) → as_i64 (number_view x) ≡ (let o : Option ℤ = None in o)
        → Fault n (values.Number x) errors.JsonNumber
    text-fault : (n : Nesting) (t : String Global) → NoFormOfSome (Is of_key t) n text
        → Fault n (values.String t) errors.TooLong
    array-long : (n : Nesting) (v : Vec Value Global) → longest < length v.items
        → Fault n (values.Array v) errors.TooLong
    array-deep : (n : Nesting) (v : Vec Value Global) → length v.items ≤ longest → deepest ≤ n.levels
        → Fault n (values.Array v) errors.TooDeep
    array-part : (n : Nesting) (v : Vec Value Global) (e : Error) → n.levels < deepest
        → ItemFault (nesting (n.levels + 1) n.parts) v.items e → Fault n (values.Array v) e
    object-long : (n : Nesting) (m : BTreeMap (String Global) Value) → longest < length m.entries
        → Fault n (values.Object m) errors.TooLong
    object-deep : (n : Nesting) (m : BTreeMap (String Global) Value) → length m.entries ≤ longest → deepest ≤ n.levels
        → Fault n (values.Object m) errors.TooDeep
    object-part : (n : Nesting) (m : BTreeMap (String Global) Value) (e : Error) → n.levels < deepest
        → MemberFault (nesting (n.levels + 1) n.parts) m.entries e → Fault n (values.Object m) e

  -- the fault of an item, where all items before it can be written
  pub data ItemFault : Nesting → List Value → Error → Type 0 where
    item-fault : (n : Nesting) (before : List Value) (x : Value) (after : List Value) (e : Error)
        → WereWritten (MeanAll (Is of_value) before) n json → Fault n x e → ItemFault n (before ++ x ∷ after) e

  -- the fault of a member, where all members before it can be written; a member is its key and its value
  pub data MemberFault : Nesting → List (String Global × Value) → Error → Type 0 where
    member-fault : (n : Nesting) (before : List (String Global × Value)) (k : String Global) (x : Value)
        (after : List (String Global × Value)) (e : Error)
        → WereWritten (MeanAll (MeansPair (Is of_key) (Is of_value)) before) n (both text json) → EntryFault n k x e
        → MemberFault n (before ++ (k, x) ∷ after) e

  pub data EntryFault : Nesting → String Global → Value → Error → Type 0 where
    key-fault : (n : Nesting) (k : String Global) (x : Value) → NoFormOfSome (Is of_key k) n text
        → EntryFault n k x errors.TooLong
    value-fault : (n : Nesting) (k : String Global) (x : Value) (e : Error) → Fault n x e → EntryFault n k x e

-- a piece whose errors are these faults, where an error is a fault of writing
abbrev pub refused_as : (Nesting → Error → Type 0) → Piece → Piece
refused_as fault p = record { wrote = p.wrote; lacks = λ n e. p.lacks n e × (IsTrue (is_writing_fault e) → fault n e) }

-- a form of the value that has this data
abbrev pub json_of_value : Value → Data → Piece
json_of_value v d = refused_as (λ n. Fault n v) (form (Is of_data d) json)
