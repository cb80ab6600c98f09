-- JSON values, and what they mean.
use Rattle.pagable_value_spec.specs.Meaning.{Meaning, integer, none, number, pair, text, variant}
use Rattle.std.specs.{Float.Ieee.{Float, binary64, to_bits}, Prelude.{Bool, List, ℕ, ℤ}}
use Rattle.pagable_value_spec.specs.Meaning as meanings

mutual
  -- a JSON value; a whole number may be of any size, and a float with a whole value stays a float
  pub data Json : Type 0 where
    null : Json
    boolean : Bool → Json
    whole : ℤ → Json
    float : Float → Json
    string : List ℕ → Json
    array : Items → Json
    object : Members → Json

  pub data Items : Type 0 where
    no_items : Items
    item : Json → Items → Items

  -- the members of an object: keys and values, one after another
  pub data Members : Type 0 where
    no_members : Members
    member : List ℕ → Json → Members → Members

abbrev mutual
  -- What a JSON value means. A float, or a whole number outside 64 bits with a sign, has a meaning without a form.
  pub of_json : {A : Type 0} → Json → Meaning A
  of_json null = variant 0 none
  of_json (boolean b) = variant 1 (meanings.flag b)
  of_json (whole z) = variant 2 (integer z)
  of_json (float x) = variant 2 (number (to_bits binary64 x))
  of_json (string t) = variant 3 (text t)
  of_json (array items) = variant 4 (of_items items)
  of_json (object members) = variant 5 (of_members members)

  pub of_items : {A : Type 0} → Items → Meaning A
  of_items no_items = none
  of_items (item j items) = pair (of_json j) (of_items items)

  pub of_members : {A : Type 0} → Members → Meaning A
  of_members no_members = none
  of_members (member k j members) = pair (pair (text k) (of_json j)) (of_members members)
