-- Canonical shapes (no meaning has two forms), readable shapes (each form can be read), and what a shape is made of.
use Rattle.pagable_value_spec.specs.{
  Form.Form,
  Meaning.{Meaning, followed, pair, variant},
  Shape.{Shape, array, both, cases, hash_map, list, nested, nothing, optional, outcome, placed_map, placed_set},
  Shape.{reference, run, sorted_map, sorted_set, static_value, tagged},
  Trees.{Tree, Types, type_of},
}
use Rattle.std.specs.{Int.w8, List.AllByRecursion, Prelude.{List, Some, false, suc, true, zero, ℕ, ◌≡◌, ◌⊎◌}}
use Rattle.pagable_value_spec.specs.Meaning as meanings

-- apart from its numbered parts, the shape has no hash map and no static value, which may give a meaning two forms
unfoldable pub IsCanonical : Shape → Type 0
IsCanonical (optional s) = IsCanonical s
IsCanonical (outcome s t) = IsCanonical s × IsCanonical t
IsCanonical (list s) = IsCanonical s
IsCanonical (run s) = IsCanonical s
IsCanonical (array n s) = IsCanonical s
IsCanonical (both s t) = IsCanonical s × IsCanonical t
IsCanonical (sorted_map order s t) = IsCanonical s × IsCanonical t
IsCanonical (placed_map s t) = IsCanonical s × IsCanonical t
IsCanonical (hash_map s t) = ⊥
IsCanonical (sorted_set order s) = IsCanonical s
IsCanonical (placed_set s) = IsCanonical s
IsCanonical (static_value registry) = ⊥
IsCanonical (tagged written known body) = ((tag : List ℕ) → IsCanonical (written tag))
    × ((tag : List ℕ) → known tag ≡ true → IsCanonical (body tag))
IsCanonical (cases w known part) = (n : ℕ) → known n ≡ true → IsCanonical (part n)
IsCanonical _ = Unit {0}

-- a shape without values, for the body under a tag that no value has
abbrev pub unwritten : Shape
unwritten = cases w8 (λ n. false) (λ n. nothing)

-- a shape of which nothing has a form, since it has no case
abbrev pub HasNoCase : Shape → Type 0
HasNoCase (cases w known part) = (n : ℕ) → known n ≡ false
HasNoCase _ = ⊥

-- the meaning holds no reference
unfoldable pub HasNoReference : Meaning ⊥ → Type 0
HasNoReference (pair a b) = HasNoReference a × HasNoReference b
HasNoReference (variant n a) = HasNoReference a
HasNoReference (meanings.reference a) = absurd a
HasNoReference (followed kind a) = ⊥
HasNoReference _ = Unit {0}

-- Each form of the shape can be read, if this holds of its numbered parts: there is no run, static values hold no
-- reference, and each tag under which anything is written is registered with a reader of that.
unfoldable pub IsReadable : Shape → Type 0
IsReadable (optional s) = IsReadable s
IsReadable (outcome s t) = IsReadable s × IsReadable t
IsReadable (list s) = IsReadable s
IsReadable (run s) = ⊥
IsReadable (array n s) = IsReadable s
IsReadable (both s t) = IsReadable s × IsReadable t
IsReadable (sorted_map order s t) = IsReadable s × IsReadable t
IsReadable (placed_map s t) = IsReadable s × IsReadable t
IsReadable (hash_map s t) = IsReadable s × IsReadable t
IsReadable (sorted_set order s) = IsReadable s
IsReadable (placed_set s) = IsReadable s
IsReadable (static_value registry) = AllByRecursion HasNoReference registry
IsReadable (tagged written known body) = ((tag : List ℕ) → HasNoCase (written tag)
    ⊎ ((known tag ≡ true) × (body tag ≡ written tag))) × ((tag : List ℕ) → known tag ≡ true → IsReadable (body tag))
IsReadable (cases w known part) = (n : ℕ) → known n ≡ true → IsReadable (part n)
IsReadable _ = Unit {0}

-- each node type that the shape refers to is in nodes, and each of its numbered parts is in parts
unfoldable pub LiesIn : (ℕ → Type 0) → (ℕ → Type 0) → Shape → Type 0
LiesIn nodes parts (optional s) = LiesIn nodes parts s
LiesIn nodes parts (outcome s t) = LiesIn nodes parts s × LiesIn nodes parts t
LiesIn nodes parts (list s) = LiesIn nodes parts s
LiesIn nodes parts (run s) = LiesIn nodes parts s
LiesIn nodes parts (array n s) = LiesIn nodes parts s
LiesIn nodes parts (both s t) = LiesIn nodes parts s × LiesIn nodes parts t
LiesIn nodes parts (sorted_map order s t) = LiesIn nodes parts s × LiesIn nodes parts t
LiesIn nodes parts (placed_map s t) = LiesIn nodes parts s × LiesIn nodes parts t
LiesIn nodes parts (hash_map s t) = LiesIn nodes parts s × LiesIn nodes parts t
LiesIn nodes parts (sorted_set order s) = LiesIn nodes parts s
LiesIn nodes parts (placed_set s) = LiesIn nodes parts s
LiesIn nodes parts (tagged written known body) = ((tag : List ℕ) → LiesIn nodes parts (written tag))
    × ((tag : List ℕ) → known tag ≡ true → LiesIn nodes parts (body tag))
LiesIn nodes parts (cases w known part) = (n : ℕ) → known n ≡ true → LiesIn nodes parts (part n)
LiesIn nodes parts (reference kind) = nodes (type_of kind)
LiesIn nodes parts (nested n) = parts n
LiesIn nodes parts _ = Unit {0}

-- P holds of the shape, and of each shape that is reached from it by at most this many steps to a numbered part
unfoldable pub Within : (Shape → Type 0) → (ℕ → Shape) → ℕ → Shape → Type 0
Within P parts zero s = P s
Within P parts (suc steps) s = P s × LiesIn (λ n. Unit {0}) (λ n. Within P parts steps (parts n)) s

-- P holds of the shape and of all parts of its values, however deep, within one blob
pub record Throughout (P : Shape → Type 0) (parts : ℕ → Shape) (s : Shape) : Type 0 where
  pub within : (steps : ℕ) → Within P parts steps s

-- no meaning of the shape has two forms
abbrev pub HasOneForm : {A : Type 0} → (A → ℕ) → (ℕ → Shape) → Shape → Type 0
HasOneForm {A} kind_of parts s = (left : ℕ) (m : Meaning A) (b c : List ℕ) (k l : List A)
    → Form A kind_of parts left s m b k → Form A kind_of parts left s m c l → (b ≡ c) × (k ≡ l)

-- the shape of this node type, if it exists, is canonical throughout
abbrev pub IsCanonicalType : Types → ℕ → Type 0
IsCanonicalType types n = (s : Shape) → types.nodes n ≡ Some s → Throughout IsCanonical types.parts s

-- the shape of this node type, if it exists, is readable throughout
abbrev pub IsReadableType : Types → ℕ → Type 0
IsReadableType types n = (s : Shape) → types.nodes n ≡ Some s → Throughout IsReadable types.parts s

-- P holds of the value type of each reference in the tree, at any depth
unfoldable pub EachType : (ℕ → Type 0) → Meaning ⊥ → Type 0
EachType P (pair a b) = EachType P a × EachType P b
EachType P (variant n a) = EachType P a
EachType P (meanings.reference a) = absurd a
EachType P (followed kind a) = P (type_of kind) × EachType P a
EachType P _ = Unit {0}

-- the type of the tree's root and the types of all nodes that it reaches are canonical; below: readable
abbrev pub IsCanonicalTree : Types → Tree → Type 0
IsCanonicalTree types t = IsCanonicalType types t.type × EachType (IsCanonicalType types) t.meaning

abbrev pub IsReadableTree : Types → Tree → Type 0
IsReadableTree types t = IsReadableType types t.type × EachType (IsReadableType types) t.meaning

-- The references in values of these node types lead to values of these types.
abbrev pub IsClosed : Types → (ℕ → Type 0) → Type 0
IsClosed types nodes = (n : ℕ) (s : Shape) → nodes n → types.nodes n ≡ Some s
    → Throughout (LiesIn nodes (λ part. Unit {0})) types.parts s

-- LiesIn holds for any greater set of parts too
lies-along : {parts more : ℕ → Type 0} → ((n : ℕ) → parts n → more n) → (s : Shape) → LiesIn (λ n. Unit {0}) parts s
    → LiesIn (λ n. Unit {0}) more s
unfolding LiesIn
lies-along f (optional s) h = lies-along f s h
lies-along f (outcome s t) h = (lies-along f s h.0, lies-along f t h.1)
lies-along f (list s) h = lies-along f s h
lies-along f (run s) h = lies-along f s h
lies-along f (array n s) h = lies-along f s h
lies-along f (both s t) h = (lies-along f s h.0, lies-along f t h.1)
lies-along f (sorted_map order s t) h = (lies-along f s h.0, lies-along f t h.1)
lies-along f (placed_map s t) h = (lies-along f s h.0, lies-along f t h.1)
lies-along f (hash_map s t) h = (lies-along f s h.0, lies-along f t h.1)
lies-along f (sorted_set order s) h = lies-along f s h
lies-along f (placed_set s) h = lies-along f s h
lies-along f (tagged written known body) h = (
  λ tag. lies-along f (written tag) (h.0 tag),
  λ tag e. lies-along f (body tag) (h.1 tag e),
)
lies-along f (cases w known part) h = λ n e. lies-along f (part n) (h n e)
lies-along f (nested n) h = f n h
lies-along f _ h = tt

-- P holds throughout a shape if its numbered parts lie in a set whose members have P and whose own parts lie in the set
pub throughout-in : (P : Shape → Type 0) (parts : ℕ → Shape) (those : ℕ → Type 0)
    → ((n : ℕ) → those n → P (parts n) × LiesIn (λ n. Unit {0}) those (parts n)) → (s : Shape) → P s
    → LiesIn (λ n. Unit {0}) those s → Throughout P parts s
unfolding Within
throughout-in P parts those closed s p l = record { within = λ steps. steps_in steps s p l }
  where
    steps_in : (steps : ℕ) (t : Shape) → P t → LiesIn (λ n. Unit {0}) those t → Within P parts steps t
    steps_in zero t q k = q
    steps_in (suc steps) t q k = (q, lies-along (λ n i. steps_in steps (parts n) (closed n i).0 (closed n i).1) t k)
