-- What a node is, by whether it holds a value of a type.
use Rattle.pagable_value_spec.specs.{Meaning.Meaning, declared.numbers.ArcRef.ArcRef}
use Rattle.std.specs.Prelude.{None, Option, Some, ℕ, ◌≡◌, ◌≢◌}

-- a node that holds a value is of the value's type and means what the value means; one that holds none is of another
-- type
pub data Holds {T : Type 0} (own : T → Meaning ArcRef → Type 0) (type_number node_type : ℕ)
    (means : Meaning ArcRef → Type 0) : Option T → Type 0 where
  holds-value : (v : T) → node_type ≡ type_number → ((m : Meaning ArcRef) → means m → own v m)
      → ((m : Meaning ArcRef) → own v m → means m) → Holds own type_number node_type means (Some v)
  holds-none : node_type ≢ type_number → Holds own type_number node_type means None
