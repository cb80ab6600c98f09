-- The types that values are made of, by their names: how each is encoded, and what its values mean. `()` and
-- `PhantomData` take no bytes, `usize` is encoded as `u64`, `&T` and `Box<T>` as T, and `Arc<[T]>` is a reference to a
-- list.
use Rattle.pagable_value_spec.specs.{
  BasicValues.nanos_of_second,
  Keys.{Entry, code_order, put_all, put_sorted},
  Meaning.{Meaning, absent, failure, number, pair, present, sequence, success},
  Shape.{Shape, both, list, nothing, optional, signed, tagged, text},
  declared.numbers.ArcRef.ArcRef,
}
use Rattle.std.specs.{
  Duration.as_nanos,
  Int.w64,
  Prelude.{Bool, Err, List, None, Ok, Option, Result, Some, cond, false, map, ℕ, [], ◌%◌, ◌/◌, ◌∷◌},
  Str.bytes_eq,
  declared.time.Duration.Duration,
}
use Rattle.pagable_value_spec.specs.Meaning as meanings

-- `String`, `str`, `Box<str>` and `PathText` are texts
abbrev pub path_text : Shape
path_text = text

-- `Vec<T>`, `SmallVec<T>`, `[T]` and `Box<[T]>` are lists; a thin one is a header and then a list
abbrev pub thin : Shape → Shape → Shape
thin header item = both header (list item)

-- `AtomicI64` is encoded as `i64`, and `OnceLock<T>` as `Option<T>`
abbrev pub atomic_i64 : Shape
atomic_i64 = signed w64

abbrev pub once_lock : Shape → Shape
once_lock s = optional s

abbrev pub triple : Shape → Shape → Shape → Shape
triple a b c = both a (both b c)

-- whether a tag is registered; below: what its last registration reads
abbrev pub is_registered : List (List ℕ × Shape) → List ℕ → Bool
is_registered [] tag = false
is_registered (r ∷ rs) tag = cond (is_registered rs tag) (is_registered rs tag) (bytes_eq tag r.0)

abbrev pub body_of : List (List ℕ × Shape) → List ℕ → Shape
body_of [] tag = nothing
body_of (r ∷ rs) tag = cond (is_registered rs tag) (body_of rs tag) r.1

-- a tagged value: `written` encodes its body, these registrations read it
abbrev pub tagged_by : (List ℕ → Shape) → List (List ℕ × Shape) → Shape
tagged_by written registrations = tagged written (is_registered registrations) (body_of registrations)

abbrev pub of_option : {A T : Type 0} → (T → Meaning A) → Option T → Meaning A
of_option meaning None = absent
of_option meaning (Some x) = present (meaning x)

abbrev pub of_result : {A T U : Type 0} → (T → Meaning A) → (U → Meaning A) → Result T U → Meaning A
of_result ok err (Ok x) = success (ok x)
of_result ok err (Err x) = failure (err x)

abbrev pub of_list : {A T : Type 0} → (T → Meaning A) → List T → Meaning A
of_list meaning xs = sequence (map meaning xs)

abbrev pub of_duration : {A : Type 0} → ℕ → ℕ → Meaning A
of_duration seconds nanos = pair (number seconds) (number nanos)

-- the whole seconds of a duration, the nanoseconds beyond them, and what both mean
abbrev pub seconds_of : Duration → ℕ
seconds_of d = as_nanos d / nanos_of_second

abbrev pub nanos_of : Duration → ℕ
nanos_of d = as_nanos d % nanos_of_second

abbrev pub of_span : Duration → Meaning ArcRef
of_span d = of_duration (seconds_of d) (nanos_of d)

-- the entries of a map whose order counts
abbrev pub of_entries : {A : Type 0} → List (Entry A) → Meaning A
of_entries es = sequence (map meanings.entry es)

-- a hash map: a sequence of entries by their keys' codes, the last value of each key
abbrev pub of_hash_map : {A : Type 0} → List (Entry A) → Meaning A
of_hash_map es = of_entries (put_all (put_sorted code_order) [] es)

-- a tagged value means its tag paired with its body
abbrev pub of_tagged : {A : Type 0} → List ℕ → Meaning A → Meaning A
of_tagged tag body = pair (meanings.text tag) body
