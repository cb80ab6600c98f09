-- Which bytes, with which references in their order, are a form (an encoding) of a meaning.
use Rattle.pagable_value_spec.specs.{
  BasicValues.{bool_form, char_form, duration_form, length_form, longest, nanos_of_second, text_form},
  CarriedTypes.{of_duration, of_entries, of_hash_map, of_tagged},
  Keys.{Ascends, Differ, Entry, ItemsAscend, ItemsDiffer, KeyOrder, text_order},
  Meaning.{Meaning, absent, failure, integer, lifted, none, number, pair, present, sequence, success, variant},
  Numbers.{IsSigned, bound, signed_form, unsigned_form},
  Reading.registered,
  Shape.{Shape, array, both, cases, duration, flag, hash_map, json, letter, list, nested, nothing, optional, outcome},
  Shape.{pattern, placed_map, placed_set, reference, run, signed, sorted_map, sorted_set, static_value, tagged, text},
  Shape.unsigned,
}
use Rattle.std.specs.{
  Char.IsScalar,
  Int.{Width, w32, w64},
  Prelude.{Bool, List, Ok, length, suc, true, ℕ, ℤ, [], ◌++◌, ◌<◌, ◌^◌, ◌∷◌, ◌≡◌, ◌≤◌},
  Str.IsUtf8,
}
use Rattle.pagable_value_spec.specs.Meaning as meanings

-- A stands for a reference, and kind_of gives its kind; parts says how the environment encodes the numbered parts; the
-- first index is how many levels are left.
mutual
  pub data Form (A : Type 0) (kind_of : A → ℕ) (parts : ℕ → Shape) : ℕ → Shape → Meaning A → List ℕ → List A
      → Type 0 where
    nothing-form : (left : ℕ) → Form A kind_of parts left nothing none [] []
    unsigned-form : (left : ℕ) (w : Width) (n : ℕ) → n < bound w
        → Form A kind_of parts left (unsigned w) (number n) (unsigned_form w n) []
    signed-form : (left : ℕ) (w : Width) (z : ℤ) → IsSigned w z
        → Form A kind_of parts left (signed w) (integer z) (signed_form w z) []
    flag-form : (left : ℕ) (b : Bool) → Form A kind_of parts left flag (meanings.flag b) (bool_form b) []
    text-form : (left : ℕ) (t : List ℕ) → IsUtf8 t → length t ≤ longest
        → Form A kind_of parts left text (meanings.text t) (text_form t) []
    letter-form : (left : ℕ) (c : ℕ) → IsScalar c → Form A kind_of parts left letter (number c) (char_form c) []
    duration-form : (left : ℕ) (seconds nanos : ℕ) → seconds < 2 ^ 64 → nanos < nanos_of_second
        → Form A kind_of parts left duration (of_duration seconds nanos) (duration_form seconds nanos) []
    pattern-form : (left : ℕ) (t : List ℕ) → IsUtf8 t → length t ≤ longest
        → Form A kind_of parts left pattern (meanings.pattern t) (text_form t) []
    -- a flag, and the part that it announces
    none-form : (left : ℕ) (s : Shape) → Form A kind_of parts left (optional s) absent (0 ∷ []) []
    some-form : (left : ℕ) (s : Shape) (m : Meaning A) (b : List ℕ) (k : List A) → Form A kind_of parts left s m b k
        → Form A kind_of parts left (optional s) (present m) (1 ∷ b) k
    err-form : (left : ℕ) (s t : Shape) (m : Meaning A) (b : List ℕ) (k : List A) → Form A kind_of parts left t m b k
        → Form A kind_of parts left (outcome s t) (failure m) (0 ∷ b) k
    ok-form : (left : ℕ) (s t : Shape) (m : Meaning A) (b : List ℕ) (k : List A) → Form A kind_of parts left s m b k
        → Form A kind_of parts left (outcome s t) (success m) (1 ∷ b) k
    -- items, with their length or without
    list-form : (left : ℕ) (s : Shape) (ms : List (Meaning A)) (b : List ℕ) (k : List A) → length ms ≤ longest
        → Forms A kind_of parts left s ms b k → Form A kind_of parts left (list s) (sequence ms)
        (length_form (length ms) ++ b) k
    run-form : (left : ℕ) (s : Shape) (ms : List (Meaning A)) (b : List ℕ) (k : List A) → length ms ≤ longest
        → Forms A kind_of parts left s ms b k → Form A kind_of parts left (run s) (sequence ms) b k
    array-form : (left n : ℕ) (s : Shape) (ms : List (Meaning A)) (b : List ℕ) (k : List A) → length ms ≡ n
        → Forms A kind_of parts left s ms b k → Form A kind_of parts left (array n s) (sequence ms) b k
    both-form : (left : ℕ) (s t : Shape) (m n : Meaning A) (b c : List ℕ) (k l : List A)
        → Form A kind_of parts left s m b k → Form A kind_of parts left t n c l
        → Form A kind_of parts left (both s t) (pair m n) (b ++ c) (k ++ l)
    -- maps, each key once; a hash map's entries in any order
    sorted-map-form : (left : ℕ) (order : KeyOrder) (s t : Shape) (es : List (Entry A)) (b : List ℕ) (k : List A)
        → length es ≤ longest → Ascends order es → Entries A kind_of parts left s t es b k
        → Form A kind_of parts left (sorted_map order s t) (of_entries es) (length_form (length es) ++ b) k
    placed-map-form : (left : ℕ) (s t : Shape) (es : List (Entry A)) (b : List ℕ) (k : List A) → length es ≤ longest
        → Differ es → Entries A kind_of parts left s t es b k
        → Form A kind_of parts left (placed_map s t) (of_entries es) (length_form (length es) ++ b) k
    hash-map-form : (left : ℕ) (s t : Shape) (es : List (Entry A)) (b : List ℕ) (k : List A) → length es ≤ longest
        → Differ es → Entries A kind_of parts left s t es b k
        → Form A kind_of parts left (hash_map s t) (of_hash_map es) (length_form (length es) ++ b) k
    -- sets, each item once
    sorted-set-form : (left : ℕ) (order : KeyOrder) (s : Shape) (ms : List (Meaning A)) (b : List ℕ) (k : List A)
        → length ms ≤ longest → ItemsAscend order ms → Forms A kind_of parts left s ms b k
        → Form A kind_of parts left (sorted_set order s) (sequence ms) (length_form (length ms) ++ b) k
    placed-set-form : (left : ℕ) (s : Shape) (ms : List (Meaning A)) (b : List ℕ) (k : List A) → length ms ≤ longest
        → ItemsDiffer ms → Forms A kind_of parts left s ms b k
        → Form A kind_of parts left (placed_set s) (sequence ms) (length_form (length ms) ++ b) k
    -- any index under which an equal value is registered
    static-form : (left : ℕ) (registry : List (Meaning ⊥)) (i : ℕ) (m : Meaning ⊥) → i < bound w32
        → registered registry i ≡ Ok m → Form A kind_of parts left (static_value registry) (lifted m)
        (unsigned_form w32 i) []
    -- a tag needn't be registered to be written
    tagged-form : (left : ℕ) (written : List ℕ → Shape) (known : List ℕ → Bool) (body : List ℕ → Shape) (tag : List ℕ)
        (m : Meaning A) (b : List ℕ) (k : List A) → IsUtf8 tag → length tag ≤ longest
        → Form A kind_of parts left (written tag) m b k
        → Form A kind_of parts left (tagged written known body) (of_tagged tag m) (text_form tag ++ b) k
    case-form : (left : ℕ) (w : Width) (known : ℕ → Bool) (part : ℕ → Shape) (n : ℕ) (m : Meaning A) (b : List ℕ)
        (k : List A) → n < bound w → known n ≡ true
        → Form A kind_of parts left (part n) m b k → Form A kind_of parts left (cases w known part) (variant n m)
        (unsigned_form w n ++ b) k
    -- a reference takes no byte
    reference-form : (left kind : ℕ) (a : A) → kind_of a ≡ kind
        → Form A kind_of parts left (reference kind) (meanings.reference a) [] (a ∷ [])
    -- a part one level further down
    nested-form : (left less n : ℕ) (m : Meaning A) (b : List ℕ) (k : List A) → left ≡ suc less
        → Form A kind_of parts less (parts n) m b k → Form A kind_of parts left (nested n) m b k
    -- JSON values: the case, and its part; the items of arrays and objects are one level further down
    json-null-form : (left : ℕ) → Form A kind_of parts left json (variant 0 none) (0 ∷ []) []
    json-flag-form : (left : ℕ) (b : Bool) → Form A kind_of parts left json (variant 1 (meanings.flag b))
        (1 ∷ bool_form b) []
    json-number-form : (left : ℕ) (z : ℤ) → IsSigned w64 z
        → Form A kind_of parts left json (variant 2 (integer z)) (2 ∷ 0 ∷ signed_form w64 z) []
    json-text-form : (left : ℕ) (t : List ℕ) → IsUtf8 t → length t ≤ longest
        → Form A kind_of parts left json (variant 3 (meanings.text t)) (3 ∷ text_form t) []
    json-array-form : (left less : ℕ) (ms : List (Meaning A)) (b : List ℕ) (k : List A) → left ≡ suc less
        → length ms ≤ longest → Forms A kind_of parts less json ms b k
        → Form A kind_of parts left json (variant 4 (sequence ms)) (4 ∷ (length_form (length ms) ++ b)) k
    json-object-form : (left less : ℕ) (es : List (Entry A)) (b : List ℕ) (k : List A) → left ≡ suc less
        → length es ≤ longest → Ascends text_order es → Entries A kind_of parts less text json es b k
        → Form A kind_of parts left json (variant 5 (of_entries es)) (5 ∷ (length_form (length es) ++ b)) k

  -- the forms of items, one after another
  pub data Forms (A : Type 0) (kind_of : A → ℕ) (parts : ℕ → Shape) : ℕ → Shape → List (Meaning A) → List ℕ → List A
      → Type 0 where
    no-forms : (left : ℕ) (s : Shape) → Forms A kind_of parts left s [] [] []
    more-forms : (left : ℕ) (s : Shape) (m : Meaning A) (ms : List (Meaning A)) (b c : List ℕ) (k l : List A)
        → Form A kind_of parts left s m b k → Forms A kind_of parts left s ms c l
        → Forms A kind_of parts left s (m ∷ ms) (b ++ c) (k ++ l)

  -- the forms of entries, key and value in turn
  pub data Entries (A : Type 0) (kind_of : A → ℕ) (parts : ℕ → Shape) : ℕ → Shape → Shape → List (Entry A) → List ℕ
      → List A → Type 0 where
    no-entries : (left : ℕ) (s t : Shape) → Entries A kind_of parts left s t [] [] []
    more-entries : (left : ℕ) (s t : Shape) (m n : Meaning A) (es : List (Entry A)) (b c d : List ℕ) (j k l : List A)
        → Form A kind_of parts left s m b j → Form A kind_of parts left t n c k
        → Entries A kind_of parts left s t es d l
        → Entries A kind_of parts left s t ((m, n) ∷ es) (b ++ (c ++ d)) (j ++ (k ++ l))
