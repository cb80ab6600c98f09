-- The key of a tree, by recursion on the tree, without a store and without a pager's table.
use Rattle.pagable_value_spec.specs.{
  Blob.{Blob, key_of},
  Canonical.{EachType, IsCanonical, IsCanonicalType, Throughout},
  Form.Form,
  Height.{Kid, kid, kind_of_kid, tree_of_kid},
  Meaning.{Meaning, followed, integer, none, number, pair, pattern, reference, text, variant},
  Reading.deepest,
  Shape.Shape,
  Trees.{IsFollowed, KeyRef, Tree, Types},
}
use Rattle.std.specs.Prelude.{List, Option, Some, map, ℕ, [], ◌∷◌, ◌≡◌}

-- the meaning of a tree's own value, with each child in the place of the reference to it
unfoldable pub unfolded : Meaning ⊥ → Meaning Kid
unfolded (number n) = number n
unfolded (integer z) = integer z
unfolded (text t) = text t
unfolded (pattern t) = pattern t
unfolded none = none
unfolded (pair a b) = pair (unfolded a) (unfolded b)
unfolded (variant n a) = variant n (unfolded a)
unfolded (reference a) = absurd a
unfolded (followed kind a) = reference (kid kind a)

-- a form of a tree's own value over its children
abbrev pub TreeForm : Types → Shape → Meaning ⊥ → List ℕ → List Kid → Type 0
TreeForm types s m bytes kids = Form Kid kind_of_kid types.parts deepest s (unfolded m) bytes kids

abbrev pub blob_of : List ℕ → List ℕ → Blob
blob_of bytes keys = record { bytes = bytes; keys = keys }

mutual
  -- the tree's key: that of the blob of some form of its value and of a key for each child
  pub data KeyOf (hash : List ℕ → List ℕ) (types : Types) : Tree → ℕ → Type 0 where
    key-of : (tree : Tree) (s : Shape) (bytes : List ℕ) (kids : List Kid) (keys : List ℕ) → types.nodes tree.type
        ≡ Some s → TreeForm types s tree.meaning bytes kids
        → KeysOf hash types kids keys → KeyOf hash types tree (key_of hash (blob_of bytes keys))

  -- a key for each child
  pub data KeysOf (hash : List ℕ → List ℕ) (types : Types) : List Kid → List ℕ → Type 0 where
    no-keys : KeysOf hash types [] []
    more-keys : (k : Kid) (kids : List Kid) (key : ℕ) (keys : List ℕ) → KeyOf hash types (tree_of_kid k) key
        → KeysOf hash types kids keys → KeysOf hash types (k ∷ kids) (key ∷ keys)

-- the key of an item: of its bytes as they are, and a key for each child
pub record KeyOfItem (hash : List ℕ → List ℕ) (types : Types) (bytes : List ℕ) (kids : List Kid)
    (key : ℕ) : Type 0 where
  pub keys : List ℕ
  pub each : KeysOf hash types kids keys
  pub is : key ≡ key_of hash (blob_of bytes keys)

-- an item's bytes and references are a form of a value of a canonical shape, and all node types that it reaches are
-- canonical
pub record IsCanonicalItem (types : Types) (bytes : List ℕ) (kids : List Kid) : Type 0 where
  pub shape : Shape
  pub meaning : Meaning ⊥
  pub canonical : Throughout IsCanonical types.parts shape
  pub reaches : EachType (IsCanonicalType types) meaning
  pub form : TreeForm types shape meaning bytes kids

abbrev pub kind_of_ref : KeyRef → ℕ
kind_of_ref r = r.kind

abbrev pub key_of_ref : KeyRef → ℕ
key_of_ref r = r.key

-- The store has, under the key, a form of m with the keys of its references.
pub record StoredAs (store : ℕ → Option Blob) (types : Types) (type key : ℕ) (m : Meaning KeyRef) : Type 0 where
  pub shape : Shape
  pub is : types.nodes type ≡ Some shape
  pub bytes : List ℕ
  pub refs : List KeyRef
  pub form : Form KeyRef kind_of_ref types.parts deepest shape m bytes refs
  pub stored : store key ≡ Some (blob_of bytes (map key_of_ref refs))

-- The store has the tree under the key, and each of its descendants under the key that its parent's form names.
pub record StoredTree (store : ℕ → Option Blob) (types : Types) (key : ℕ) (tree : Tree) : Type 0 where
  pub own : Meaning KeyRef
  pub stands : StoredAs store types tree.type key own
  pub follows : IsFollowed (StoredAs store types) own tree.meaning

-- Each blob of the store is stored under its own key.
abbrev pub HasOwnKeys : (List ℕ → List ℕ) → (ℕ → Option Blob) → Type 0
HasOwnKeys hash store = (key : ℕ) (b : Blob) → store key ≡ Some b → key ≡ key_of hash b

-- No two different blobs of the two stores have the same key.
abbrev pub SharesNoKey : (ℕ → Option Blob) → (ℕ → Option Blob) → Type 0
SharesNoKey store other = (key : ℕ) (b c : Blob) → store key ≡ Some b → other key ≡ Some c → b ≡ c
