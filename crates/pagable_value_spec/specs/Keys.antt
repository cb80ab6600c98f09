-- When keys of maps and items of sets are the same, and how they are ordered.
use Rattle.pagable_value_spec.specs.{
  Meaning.{Meaning, followed, integer, none, number, pair, pattern, plain, reference, text, variant},
  Numbers.zigzag,
}
use Rattle.std.specs.{
  BTreeMap.insert_entry,
  BTreeSet.insert_key,
  Cmp.Lexicographic.slice_cmp,
  Option.option_or,
  Ordering.{int_cmp, nat_cmp, ordering_then},
  Prelude.{Bool, List, None, Option, Some, false, if◌then◌else◌, length, suc, zero, ℕ, [], ◌++◌, ◌∷◌, ◌≡◌},
  Str.bytes_eq,
  declared.cmp.Ordering.Ordering,
}

-- the order of a type's values, by their meanings; keys and items of sets hold no reference
abbrev pub KeyOrder : Type 0
KeyOrder = Meaning ⊥ → Meaning ⊥ → Ordering

abbrev pub ordered : {A : Type 0} → KeyOrder → Meaning A → Meaning A → Ordering
ordered order a b = order (plain a) (plain b)

-- A numbering of the meanings: no two have the same code, and no code is a prefix of another's.
unfoldable pub code : Meaning ⊥ → List ℕ
code (number n) = 0 ∷ n ∷ []
code (integer z) = 1 ∷ zigzag z ∷ []
code (text t) = 2 ∷ length t ∷ t
code (pattern t) = 3 ∷ length t ∷ t
code none = 4 ∷ []
code (pair a b) = 5 ∷ (code a ++ code b)
code (variant n a) = 6 ∷ n ∷ code a
code (reference a) = absurd a
code (followed kind a) = 7 ∷ kind ∷ code a

-- the order by which a hash map's entries are sorted in its meaning, so that equal maps have one meaning
abbrev pub code_order : KeyOrder
code_order a b = slice_cmp nat_cmp (code a) (code b)

abbrev pub same_key : {A : Type 0} → Meaning A → Meaning A → Bool
same_key a b = bytes_eq (code (plain a)) (code (plain b))

-- the order of texts by their bytes
abbrev pub text_order : KeyOrder
text_order (text s) (text t) = slice_cmp nat_cmp s t
text_order a b = Ordering.Equal

-- the order of whole numbers and characters; below: of numbers with a sign
abbrev pub number_order : KeyOrder
number_order (number m) (number n) = nat_cmp m n
number_order a b = Ordering.Equal

abbrev pub integer_order : KeyOrder
integer_order (integer y) (integer z) = int_cmp y z
integer_order a b = Ordering.Equal

-- for a type with a single value
abbrev pub nothing_order : KeyOrder
nothing_order a b = Ordering.Equal

-- false before true
abbrev pub flag_order : KeyOrder
flag_order (variant m a) (variant n b) = nat_cmp m n
flag_order a b = Ordering.Equal

-- absent before present, and two present ones by what they hold
abbrev pub optional_order : KeyOrder → KeyOrder
optional_order order (variant zero a) (variant zero b) = Ordering.Equal
optional_order order (variant zero a) (variant (suc n) b) = Ordering.Less
optional_order order (variant (suc m) a) (variant zero b) = Ordering.Greater
optional_order order (variant (suc m) a) (variant (suc n) b) = order a b
optional_order order a b = Ordering.Equal

-- a success before a failure; two successes by the one order, and two failures by the other
abbrev pub outcome_order : KeyOrder → KeyOrder → KeyOrder
outcome_order good bad (variant zero a) (variant zero b) = bad a b
outcome_order good bad (variant zero a) (variant (suc n) b) = Ordering.Greater
outcome_order good bad (variant (suc m) a) (variant zero b) = Ordering.Less
outcome_order good bad (variant (suc m) a) (variant (suc n) b) = good a b
outcome_order good bad a b = Ordering.Equal

-- by the first parts, and if these are equal by the rests
abbrev pub pair_order : KeyOrder → KeyOrder → KeyOrder
pair_order first rest (pair a b) (pair c d) = ordering_then (first a c) (rest b d)
pair_order first rest a b = Ordering.Equal

-- lists by the first items that differ; a list is before its own extensions
abbrev pub list_order : KeyOrder → KeyOrder
list_order order none none = Ordering.Equal
list_order order none (pair b more) = Ordering.Less
list_order order (pair a rest) none = Ordering.Greater
list_order order (pair a rest) (pair b more) = ordering_then (order a b) (list_order order rest more)
list_order order a b = Ordering.Equal

-- the items put in one after another
unfoldable pub put_all : {X : Type 0} → (List X → X → List X) → List X → List X → List X
put_all put acc [] = acc
put_all put acc (x ∷ xs) = put_all put (put acc x) xs

abbrev pub Entry : Type 0 → Type 0
Entry A = Meaning A × Meaning A

-- in the order of the keys; if a key is repeated, its last value counts
abbrev pub put_sorted : {A : Type 0} → KeyOrder → List (Entry A) → Entry A → List (Entry A)
put_sorted order es e = insert_entry (ordered order) es e.0 e.1

-- in the order of arrival; if a key is repeated, its last value counts, at the first one's place
abbrev pub put_placed : {A : Type 0} → List (Entry A) → Entry A → List (Entry A)
put_placed [] e = e ∷ []
put_placed (f ∷ es) e = if same_key e.0 f.0 then (f.0, e.1) ∷ es else f ∷ put_placed es e

-- an item that is there already changes nothing
abbrev pub put_sorted_item : {A : Type 0} → KeyOrder → List (Meaning A) → Meaning A → List (Meaning A)
put_sorted_item order ms m = insert_key (ordered order) ms m

abbrev pub put_placed_item : {A : Type 0} → List (Meaning A) → Meaning A → List (Meaning A)
put_placed_item [] m = m ∷ []
put_placed_item (n ∷ ms) m = if same_key m n then n ∷ ms else n ∷ put_placed_item ms m

-- R holds of each item of the list together with x; below: of each item and each one before it
unfoldable pub AllAfter : {X : Type 0} → (X → X → Type 0) → X → List X → Type 0
AllAfter R x [] = Unit {0}
AllAfter R x (y ∷ ys) = R y x × AllAfter R x ys

unfoldable pub Apart : {X : Type 0} → (X → X → Type 0) → List X → Type 0
Apart R [] = Unit {0}
Apart R (x ∷ xs) = AllAfter R x xs × Apart R xs

-- each key is above those before it
abbrev pub Ascends : {A : Type 0} → KeyOrder → List (Entry A) → Type 0
Ascends order es = Apart (λ e f. ordered order e.0 f.0 ≡ Ordering.Greater) es

abbrev pub ItemsAscend : {A : Type 0} → KeyOrder → List (Meaning A) → Type 0
ItemsAscend order ms = Apart (λ m n. ordered order m n ≡ Ordering.Greater) ms

-- no key is the same as one before it
abbrev pub Differ : {A : Type 0} → List (Entry A) → Type 0
Differ es = Apart (λ e f. same_key e.0 f.0 ≡ false) es

abbrev pub ItemsDiffer : {A : Type 0} → List (Meaning A) → Type 0
ItemsDiffer ms = Apart (λ m n. same_key m n ≡ false) ms

-- the value of the last entry with this key
unfoldable pub last_value : {X : Type 0} → Meaning ⊥ → List (Meaning ⊥ × X) → Option X
last_value q [] = None
last_value q (e ∷ es) = option_or (last_value q es) (if bytes_eq (code q) (code e.0) then Some e.1 else None)
