-- The reading grammar: what the front of the input means and what is left after it, or the first fault from the front.
use Rattle.pagable_value_spec.specs.{
  BasicValues.{bool_at, char_at, duration_at, length_at, text_at},
  CarriedTypes.{of_duration, of_entries, of_hash_map, of_tagged},
  Keys.{put_all, put_placed, put_placed_item, put_sorted, put_sorted_item, text_order},
  Meaning.{Meaning, absent, entry, failure, integer, lifted, none, number, present, sequence, success, variant},
  Numbers.{Read, signed_at, unsigned_at},
  ReadSteps.◌>>=◌,
  Shape.{Shape, array, both, cases, duration, flag, hash_map, json, letter, list, nested, nothing, optional, outcome},
  Shape.{pattern, placed_map, placed_set, reference, run, signed, sorted_map, sorted_set, static_value, tagged, text},
  Shape.unsigned,
  declared.error.Error.Error,
}
use Rattle.std.specs.{
  Int.{w32, w64},
  Prelude.{Bool, Err, List, None, Ok, Option, Result, Some, false, if◌then◌else◌, suc, true, zero, ℕ, [], ◌-◌, ◌==◌},
  Prelude.◌∷◌,
}
use Rattle.pagable_value_spec.specs.Meaning as meanings

-- what is left to be read: bytes, and what stands for references, in order
pub record Rest (A : Type 0) : Type 0 where
  pub bytes : List ℕ
  pub refs : List A

-- resolves a reference, by its kind and by what stands for it in the list of references; or says why that fails
abbrev pub Look : Type 0 → Type 0 → Type 0
Look A B = ℕ → A → Result B Error

-- what stays the same while a value is read
pub record Context (A B : Type 0) : Type 0 where
  -- how many levels have been entered
  pub levels : ℕ
  pub look : Look A B
  -- how the environment encodes the numbered parts
  pub parts : ℕ → Shape

-- how many levels one blob may enter: a limit of this port
abbrev pub deepest : ℕ
deepest = 128

abbrev pub Gets : Type 0 → Type 0 → Type 0
Gets A X = Rest A → Result (X × Rest A) Error

-- a part that consists of bytes alone
abbrev pub bytes_of : {A X Y : Type 0} → (List ℕ → Read X) → (X → Y) → Gets A Y
bytes_of read view rest = read rest.bytes >>= λ x. Ok (view x.0, record rest { bytes = x.1 })

-- a reference takes the next item of the list
abbrev pub reference_at : {A B : Type 0} → Look A B → ℕ → (refs : List A) → Gets A (Meaning B)
reference_at look kind [] rest = Err Error.NoMoreKeys
reference_at look kind (a ∷ refs) rest = look kind a >>= λ b. Ok (meanings.reference b, record rest { refs = refs })

-- a part, seen by view
abbrev pub seen : {A X Y : Type 0} → (X → Y) → Gets A X → Gets A Y
seen view get rest = get rest >>= λ x. Ok (view x.0, x.1)

-- two parts, one after the other
abbrev pub two : {A X Y : Type 0} → Gets A X → Gets A Y → Gets A (X × Y)
two first second rest = first rest >>= λ x. second x.1 >>= λ y. Ok ((x.0, y.0), y.1)

-- one of two readers, by a flag that was read
abbrev pub choose : {A X : Type 0} → Bool → Gets A X → Gets A X → Gets A X
choose true then_get else_get rest = then_get rest
choose false then_get else_get rest = else_get rest

-- this many items, one after another
unfoldable pub items : {A X : Type 0} → Gets A X → ℕ → Gets A (List X)
items get zero rest = Ok ([], rest)
items get (suc n) rest = get rest >>= λ first. items get n first.1 >>= λ others. Ok (first.0 ∷ others.0, others.1)

-- a length, and then this many items
abbrev pub counted : {A X : Type 0} → Gets A X → Gets A (List X)
counted get rest = bytes_of length_at (λ n. n) rest >>= λ count. items get count.0 count.1

-- the value that is registered under an index
abbrev pub registered : List (Meaning ⊥) → ℕ → Result (Meaning ⊥) Error
registered [] i = Err Error.BadStaticIndex
registered (m ∷ ms) zero = Ok m
registered (m ∷ ms) (suc i) = registered ms i

-- the reader of parts one level further down, if a level is left
abbrev pub Deeper : Type 0 → Type 0 → Type 0
Deeper A B = Option (Shape → Gets A (Meaning B))

-- a part that is read one level further down
abbrev pub enter : {A B X : Type 0} → Deeper A B → ((Shape → Gets A (Meaning B)) → Gets A X) → Gets A X
enter None part rest = Err Error.TooDeep
enter (Some get) part rest = part get rest

-- the cases of a JSON value, numbered from 0
pub data JsonCase : Type 0 where
  null_case flag_case number_case text_case array_case object_case : JsonCase

abbrev pub json_case : ℕ → Result JsonCase Error
json_case n = if n == 0 then Ok null_case else if n == 1 then Ok flag_case else if n == 2 then Ok number_case else
    if n == 3 then Ok text_case else if n == 4 then Ok array_case else if n == 5 then Ok object_case else Err
    Error.JsonCase

-- A JSON value after its case. An array or object enters its level after its length was read.
abbrev pub json_part : {A B : Type 0} → Deeper A B → JsonCase → Gets A (Meaning B)
json_part deeper null_case rest = Ok (variant 0 none, rest)
json_part deeper flag_case rest = bytes_of bool_at (λ b. variant 1 (meanings.flag b)) rest
json_part deeper number_case rest = bytes_of bool_at (λ b. b) rest >>= λ float. choose float.0
    (λ r. Err Error.JsonNumber) (bytes_of (signed_at w64) (λ z. variant 2 (integer z))) float.1
json_part deeper text_case rest = bytes_of text_at (λ t. variant 3 (meanings.text t)) rest
json_part deeper array_case rest = bytes_of length_at (λ n. n) rest >>= λ count. enter deeper
    (λ get. seen (λ ms. variant 4 (sequence ms)) (items (get json) count.0)) count.1
json_part deeper object_case rest = bytes_of length_at (λ n. n) rest >>= λ count.
    enter deeper (λ get. seen (λ es. variant 5 (of_entries (put_all (put_sorted text_order) [] es)))
    (items (two (get text) (get json)) count.0)) count.1

-- reads a value of a shape; `deeper` reads the parts one level further down
unfoldable pub read_with : {A B : Type 0} → Look A B → (ℕ → Shape) → Deeper A B → Shape → Gets A (Meaning B)
read_with look parts deeper nothing rest = Ok (none, rest)
read_with look parts deeper (unsigned w) rest = bytes_of (unsigned_at w) number rest
read_with look parts deeper (signed w) rest = bytes_of (signed_at w) integer rest
read_with look parts deeper flag rest = bytes_of bool_at meanings.flag rest
read_with look parts deeper text rest = bytes_of text_at meanings.text rest
read_with look parts deeper letter rest = bytes_of char_at number rest
read_with look parts deeper duration rest = bytes_of duration_at (λ d. of_duration d.0 d.1) rest
read_with look parts deeper pattern rest = bytes_of text_at meanings.pattern rest
read_with look parts deeper json rest = bytes_of (unsigned_at w64) (λ n. n) rest >>= λ n. json_case n.0 >>= λ case.
    json_part deeper case n.1
read_with look parts deeper (optional s) rest = bytes_of bool_at (λ b. b) rest >>= λ some. choose some.0
    (seen present (read_with look parts deeper s)) (λ r. Ok (absent, r)) some.1
read_with look parts deeper (outcome s t) rest = bytes_of bool_at (λ b. b) rest >>= λ ok. choose ok.0
    (seen success (read_with look parts deeper s)) (seen failure (read_with look parts deeper t)) ok.1
read_with look parts deeper (list s) rest = seen sequence (counted (read_with look parts deeper s)) rest
-- no type that is read has this shape
read_with look parts deeper (run s) rest = Err Error.WrongKind
read_with look parts deeper (array n s) rest = seen sequence (items (read_with look parts deeper s) n) rest
read_with look parts deeper (both s t) rest = seen entry
    (two (read_with look parts deeper s) (read_with look parts deeper t)) rest
read_with look parts deeper (sorted_map order s t) rest =
    seen (λ es. of_entries (put_all (put_sorted order) [] es))
    (counted (two (read_with look parts deeper s) (read_with look parts deeper t))) rest
read_with look parts deeper (placed_map s t) rest = seen (λ es. of_entries (put_all put_placed [] es))
    (counted (two (read_with look parts deeper s) (read_with look parts deeper t))) rest
read_with look parts deeper (hash_map s t) rest = seen of_hash_map
    (counted (two (read_with look parts deeper s) (read_with look parts deeper t))) rest
read_with look parts deeper (sorted_set order s) rest =
    seen (λ ms. sequence (put_all (put_sorted_item order) [] ms)) (counted (read_with look parts deeper s)) rest
read_with look parts deeper (placed_set s) rest = seen (λ ms. sequence (put_all put_placed_item [] ms))
    (counted (read_with look parts deeper s)) rest
read_with look parts deeper (static_value registry) rest =
    bytes_of (unsigned_at w32) (λ i. i) rest >>= λ i. registered registry i.0 >>= λ m. Ok (lifted m, i.1)
read_with look parts deeper (tagged written known body) rest =
    bytes_of text_at (λ t. t) rest >>= λ tag. choose (known tag.0)
    (seen (of_tagged tag.0) (read_with look parts deeper (body tag.0))) (λ r. Err Error.UnknownTag) tag.1
read_with look parts deeper (cases w known part) rest =
    bytes_of (unsigned_at w) (λ n. n) rest >>= λ n. choose (known n.0)
    (seen (variant n.0) (read_with look parts deeper (part n.0))) (λ r. Err Error.UnknownTag) n.1
read_with look parts deeper (reference kind) rest = reference_at look kind rest.refs rest
read_with look parts deeper (nested n) rest = enter deeper (λ get. get (parts n)) rest

-- the reader of parts further down, if this many levels are left
unfoldable pub below : {A B : Type 0} → Look A B → (ℕ → Shape) → ℕ → Deeper A B
below look parts zero = None
below look parts (suc left) = Some (read_with look parts (below look parts left))

-- reads a value of a shape: its meaning and what is left, or the first fault from the front
unfoldable pub read : {A B : Type 0} → Context A B → Shape → Gets A (Meaning B)
read context s = read_with context.look context.parts (below context.look context.parts (deepest - context.levels)) s

-- reads a value of a node type; WrongKind if there is none
abbrev pub read_typed : {A B : Type 0} → Context A B → Option Shape → Gets A (Meaning B)
read_typed context None rest = Err Error.WrongKind
read_typed context (Some s) rest = read context s rest
