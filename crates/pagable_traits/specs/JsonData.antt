-- The JSON values of `serde_json` in the words of the definitions.
use Rattle.pagable_value_spec.specs.{
  BasicValues.longest,
  Json.{Json, of_json},
  Meaning.Meaning,
  Outcomes.IsOutOfMemory,
  declared.{error.Error.Error, numbers.ArcRef.ArcRef},
}
use Rattle.serde_json.specs.{Data.{Data, Num}, View.view, declared.value.Value.Value}
use Rattle.std.specs.{Prelude.{String, pos, ℕ, ◌<◌, ◌≡◌, ◌⊎◌}, String.string_bytes, declared.alloc.Global.Global}
use Rattle.serde_json.specs.Data as kit
use Rattle.pagable_value_spec.specs.declared.error.Error.TheVariants as errors
use Rattle.pagable_value_spec.specs.Json as own
use Rattle.pagable_value_spec.specs.Meaning as meanings

-- a whole number is whole whether the crate keeps it with a sign or without
abbrev pub json_of_number : Num → Json
json_of_number (kit.unsigned n) = own.whole (pos n)
json_of_number (kit.negative z) = own.whole z
json_of_number (kit.float x) = own.float x

abbrev mutual
  -- the same value; an object keeps its members sorted by key
  pub json_of : Data → Json
  json_of kit.null = own.null
  json_of (kit.boolean b) = own.boolean b
  json_of (kit.number x) = json_of_number x
  json_of (kit.string t) = own.string t
  json_of (kit.array items) = own.array (json_items items)
  json_of (kit.object members) = own.object (json_members members)

  pub json_items : kit.Items → own.Items
  json_items kit.no_items = own.no_items
  json_items (kit.item d items) = own.item (json_of d) (json_items items)

  pub json_members : kit.Members → own.Members
  json_members kit.no_members = own.no_members
  json_members (kit.member k d members) = own.member k (json_of d) (json_members members)

-- the meanings of data, of a value, and of a key
abbrev pub of_data : Data → Meaning ArcRef
of_data d = of_json (json_of d)

abbrev pub of_value : Value → Meaning ArcRef
of_value v = of_data (view v)

abbrev pub of_key : String Global → Meaning ArcRef
of_key k = meanings.text (string_bytes k)

-- `TooLong` if the length is above the greatest; or `OutOfMemory`, by which the case may fail before the length
abbrev pub long_or_no_memory : ℕ → Error → Type 0
long_or_no_memory len e = ((longest < len) × (e ≡ errors.TooLong)) ⊎ IsOutOfMemory e
