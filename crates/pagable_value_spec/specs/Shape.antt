-- How the values of a type are encoded.
use Rattle.pagable_value_spec.specs.{Keys.KeyOrder, Meaning.Meaning}
use Rattle.std.specs.{Int.Width, Prelude.{Bool, List, ℕ}}

pub data Shape : Type 0 where
  -- no byte
  nothing : Shape
  -- whole numbers, without and with a sign
  unsigned signed : Width → Shape
  flag text : Shape
  -- one character
  letter : Shape
  duration : Shape
  -- the text of a regular expression
  pattern : Shape
  json : Shape
  -- a flag, and the value if it is true
  optional : Shape → Shape
  -- a flag, and the success if it is true, else the failure
  outcome : Shape → Shape → Shape
  -- a length, and this many items
  list : Shape → Shape
  -- items without a length: only written, never read
  run : Shape → Shape
  -- a fixed number of items, without a length
  array : ℕ → Shape → Shape
  -- one after the other
  both : Shape → Shape → Shape
  -- maps: in the order of the keys, in the order of arrival, and in no order
  sorted_map : KeyOrder → Shape → Shape → Shape
  placed_map hash_map : Shape → Shape → Shape
  -- sets: in the order of the items, and in the order of arrival
  sorted_set : KeyOrder → Shape → Shape
  placed_set : Shape → Shape
  -- the index of a value in this registry
  static_value : List (Meaning ⊥) → Shape
  -- A tag and its body: how a body is written under each tag; which tags are registered; how the registered reader of
  -- each tag reads the body.
  tagged : (List ℕ → Shape) → (List ℕ → Bool) → (List ℕ → Shape) → Shape
  -- the number of a case, which has to be one of the known cases, and its part
  cases : Width → (ℕ → Bool) → (ℕ → Shape) → Shape
  -- a reference of a kind
  reference : ℕ → Shape
  -- a part one level further down, encoded as the environment says under this number
  nested : ℕ → Shape
