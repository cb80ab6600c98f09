-- Trees that never leave memory, and which trees a store holds under a key.
use Rattle.pagable_value_spec.specs.{
  Blob.Blob,
  Meaning.{Meaning, followed, integer, none, number, pair, pattern, reference, text, variant},
  Reading.{Context, Rest, read_typed},
  Shape.Shape,
}
use Rattle.std.specs.Prelude.{List, Ok, Option, Some, ℕ, ℤ, ◌/◌, ◌≡◌}

-- the number of a value's type, and what the value means, with every reference followed
pub record Tree : Type 0 where
  pub type : ℕ
  pub meaning : Meaning ⊥

-- a reference that isn't followed: a key
pub record KeyRef : Type 0 where
  pub kind : ℕ
  pub key : ℕ

-- how an environment encodes each node type that exists, and the numbered parts
pub record Types : Type 0 where
  pub nodes : ℕ → Option Shape
  pub parts : ℕ → Shape

abbrev pub type_of : ℕ → ℕ
type_of kind = kind / 3

abbrev pub tree : ℕ → Meaning ⊥ → Tree
tree type meaning = record { type = type; meaning = meaning }

abbrev pub key_ref : ℕ → ℕ → KeyRef
key_ref kind key = record { kind = kind; key = key }

-- reading a blob from its front, with each reference as its bare key
abbrev pub blob_context : Types → Context ℕ KeyRef
blob_context types = record { levels = 0; look = λ kind key. Ok (key_ref kind key); parts = types.parts }

-- a blob of which nothing has been read
abbrev pub rest_of : Blob → Rest ℕ
rest_of b = record { bytes = b.bytes; refs = b.keys }

-- The blob under the key reads as m, a value of this type. Bytes and keys may be left over.
pub record ReadsAs (store : ℕ → Option Blob) (types : Types) (type key : ℕ) (m : Meaning KeyRef) : Type 0 where
  pub blob : Blob
  pub stored : store key ≡ Some blob
  pub rest : Rest ℕ
  pub reads : read_typed (blob_context types) (types.nodes type) (rest_of blob) ≡ Ok (m, rest)

-- The second meaning is the first with each key followed: `own` says what a key holds, as a value of the kind's type.
-- It is an inductive definition, so a ring of keys has no such meaning.
pub data IsFollowed (own : ℕ → ℕ → Meaning KeyRef → Type 0) : Meaning KeyRef → Meaning ⊥ → Type 0 where
  number-followed : (n : ℕ) → IsFollowed own (number n) (number n)
  integer-followed : (z : ℤ) → IsFollowed own (integer z) (integer z)
  text-followed : (t : List ℕ) → IsFollowed own (text t) (text t)
  pattern-followed : (t : List ℕ) → IsFollowed own (pattern t) (pattern t)
  none-followed : IsFollowed own none none
  pair-followed : (x y : Meaning KeyRef) (a b : Meaning ⊥) → IsFollowed own x a → IsFollowed own y b
      → IsFollowed own (pair x y) (pair a b)
  variant-followed : (n : ℕ) (x : Meaning KeyRef) (a : Meaning ⊥) → IsFollowed own x a
      → IsFollowed own (variant n x) (variant n a)
  reference-followed : (r : KeyRef) (x : Meaning KeyRef) (a : Meaning ⊥) → own (type_of r.kind) r.key x
      → IsFollowed own x a → IsFollowed own (reference r) (followed r.kind a)

-- The store holds the tree under the key. With a ring of keys it holds none.
pub record ReadsTree (store : ℕ → Option Blob) (types : Types) (key : ℕ) (tree : Tree) : Type 0 where
  pub own : Meaning KeyRef
  pub reads : ReadsAs store types tree.type key own
  pub follows : IsFollowed (ReadsAs store types) own tree.meaning
