-- What writing a JSON value adds: its case, and a form of its part; and which values have no form.
-- What reading a JSON value gives: its case, and then its part.
use Rattle.pagable_codec.specs.declared.{env.Env.Ghosts as Environments, serializer.PagableSerializer.Ghosts as Serializers}
use Rattle.pagable_traits.proofs.{
  Items.{Wraps, gives-seen, refuses-items, refuses-long, writes-counted},
  JsonSteps.{below as one_down, deeper, wrote-as, wrote-err},
  Maps.{IsOrderOf, Written, order-of, reads-entries, sorted-map-put, viewed, wraps_list, wraps_sorted_map},
  Parts.{refuses_whole, writes_whole},
  Words.{Answer, ArcRef, Bool, Entry, Err, Error, FormAt, Gave, GivesSome, Global, Is, IsErrAnd, IsOutOfMemory, IsStrictlySortedBy, List, MeanAll, Meaning},
  Words.{Means, MeansList, MeansPair, Nesting, NoForm, None, Ok, Option, Out, Piece, Read, Refused, Rest, Result, Shape, Some, SomeMeaning, String, Value, Vec},
  Words.{WritesSome, Wrote, added, ap, arith, array_case, as_i64, bool_at, bool_form, both, bytes, bytes_of, deepest, entry, false, flag, flag-form, get_or},
  Words.{grows_trans, handles_at, inl, inr, integer, item_forms, items, items_have_meanings, json, json_causes, keys_of, length, length_at, list, list-form},
  Words.{long_or, long_or_memory, longest, map, memory_refuses, moves_trans, none, number_view, object_case, of_data, of_entries, of_key, of_value, pair},
  Words.{pair_has_meaning, pos, put_all, put_sorted, read, read_with, refl, rules, seen, sequence, signed, signed-form, sorted-map-form, sorted_map},
  Words.{string_bytes, string_cmp, subst, suc, sym, take, text, text-form, text_at, text_order, then, to_z-of_z, true, unsigned_at, variant, view, w64, ℕ, ℤ},
  Words.{[], ◌+◌, ◌-◌, ◌<◌, ◌^◌, ◌∙◌, ◌∷◌, ◌≡◌, ◌≤◌},
}
use Rattle.pagable_traits.specs.{
  Clauses.{ObjectOf, case_and_length, value_after_case},
  JsonData.long_or_no_memory,
  Meanings.exactly,
  JsonFaults.{EntryFault, Fault, ItemFault, MemberFault, item-fault, json_of_value, member-fault},
}
use Rattle.pagable_value_spec.specs.{
  Composite.{list_single, pair_single},
  Form.{json-array-form, json-flag-form, json-null-form, json-number-form, json-object-form, json-text-form},
  Keyed.text_is_ordered,
  Numbers.{IsSigned, unsigned_form, varint},
  Reading.{JsonCase, below, json_case},
  Refusals.is_writing_fault,
  Writing.{NoFormOfSome, WritesSomeAll},
}
use Rattle.serde_json.proofs.Views.{view-Array, view-Object}
use Rattle.serde_json.specs.{
  Data.{Data, Num, array, boolean, null, number, object, string},
  Find.of_integer,
  View.{items_view, members_view},
  declared.{number.Number.Number, value.Value.the_lemmas},
}
use Rattle.std.proofs.{Common.drop, Math.Seq.split_at, lemmas.Bool.{Decides.nat_tests, lt-ltb}}
use Rattle.std.specs.{Prelude.{IsTrue, nat_lt, negsuc}, String.string_cmp_total}
use Rattle.serde_json.specs.Data as kit
use Rattle.serde_json.specs.declared.value.Value as values
use Rattle.pagable_value_spec.specs.Meaning as meanings

-- a case below 128 is its byte
pub case-byte : (case : ℕ) → nat_lt case 128 ≡ true → unsigned_form w64 case ≡ case ∷ []
unfolding varint
case-byte case small = rw small refl

-- ---- a value is its case and a value of another shape

module _ (n : Nesting) where
  pub flag-up : {m : Meaning ArcRef} {b : List ℕ} {k : List ArcRef} → FormAt n flag m b k → FormAt n json (variant 1 m) (1 ∷ b) k
  flag-up (flag-form l x) = json-flag-form _ x

  pub number-up : {m : Meaning ArcRef} {b : List ℕ} {k : List ArcRef} → FormAt n (signed w64) m b k → FormAt n json (variant 2 m) (2 ∷ 0 ∷ b) k
  number-up (signed-form l w z within) = json-number-form _ z within

  pub text-up : {m : Meaning ArcRef} {b : List ℕ} {k : List ArcRef} → FormAt n text m b k → FormAt n json (variant 3 m) (3 ∷ b) k
  text-up (text-form l t u le) = json-text-form _ t u le

  array-up : n.levels < deepest → {m : Meaning ArcRef} {b : List ℕ} {k : List ArcRef} → FormAt (deeper n) (list json) m b k
      → FormAt n json (variant 4 m) (4 ∷ b) k
  array-up lt (list-form l s ms b k le f) = json-array-form _ _ ms b k (omega arith) le f

  object-up : n.levels < deepest → {m : Meaning ArcRef} {b : List ℕ} {k : List ArcRef} → FormAt (deeper n) (sorted_map text_order text json) m b k
      → FormAt n json (variant 5 m) (5 ∷ b) k
  object-up lt (sorted-map-form l o s t es b k le up f) = json-object-form _ _ es b k (omega arith) le up f

  pub no-text : (m : Meaning ArcRef) → NoForm n text m → NoForm n json (variant 3 m)
  no-text m lack b k (json-text-form l t u le) = lack _ [] (text-form _ t u le)

  no-array : (m : Meaning ArcRef) → NoForm (deeper n) (list json) m → NoForm n json (variant 4 m)
  no-array m lack b k (json-array-form l less ms c j p le f) = let here : less ≡ deepest - (n.levels + 1) =
      omega arith in lack _ j (list-form _ json ms c j le (rw here at f))

  no-object : (m : Meaning ArcRef) → NoForm (deeper n) (sorted_map text_order text json) m → NoForm n json (variant 5 m)
  no-object m lack b k (json-object-form l less es c j p le up f) =
      let here : less ≡ deepest - (n.levels + 1) = omega arith in lack _ j (sorted-map-form _ text_order text json es c j le up (rw here at f))

-- ---- numbers

-- a number that 64 bits with a sign hold is whole
pub whole_number : (x : Num) (z : ℤ) → as_i64 x ≡ Some z → of_data (number x) ≡ variant 2 (integer z)
whole_number x z e = grind arith

number-within : (n : Nesting) (z : ℤ) {m : Meaning ArcRef} {b : List ℕ} {k : List ArcRef} → FormAt n json m b k → m ≡ variant 2 (integer z) → IsSigned w64 z
number-within n z f e = grind arith

no-float : (n : Nesting) (x : _) → (as_i64 (kit.float x) ≡ (let o : Option ℤ = None in o)) → NoForm n json (of_data (number (kit.float x)))
no-float n x e b k f = grind arith

-- a number that they don't hold has no form
no-number : (n : Nesting) (x : Num) → (as_i64 x ≡ (let o : Option ℤ = None in o)) → NoForm n json (of_data (number x))
no-number n (kit.unsigned y) e b k f = let same : nat_lt y (2 ^ 63) ≡ true = lt-ltb y (2 ^ 63) (number-within n (pos y) f refl) in let some =
    rw same at e in absurd cc
no-number n (kit.negative z) e b k f = absurd cc
no-number n (kit.float x) e b k f = no-float n x e b k f

pub refuses-number : (n : Nesting) (x : Num) (e : Error) → (as_i64 x ≡ (let o : Option ℤ = None in o)) → Refused (Is of_data (number x)) n json e
refuses-number n x e h = λ fault. record { m = of_data (number x); is = refl; no_form = no-number n x h }

-- ---- causes

pub json-memory : (e : Error) → IsOutOfMemory e → json_causes e
json-memory e h = inr (inr (inr h))

pub json-text : (e : Error) → long_or IsOutOfMemory e → json_causes e
json-text e h = grind arith

pub json-long : (len : ℕ) (e : Error) → long_or_no_memory len e → json_causes e
json-long len e h = grind arith

pub json-deep : (e : Error) → e ≡ Error.TooDeep → json_causes e
json-deep e h = inr (inl h)

-- ---- faults

-- OutOfMemory is none
pub no_fault : {F : Type 0} (e : Error) → IsOutOfMemory e → IsTrue (is_writing_fault e) → F
no_fault e h = λ fault. let none : is_writing_fault e ≡ false = rw h refl in absurd cc

pub no_json_fault : (v : Value) (d : Data) (n : Nesting) (e : Error) → IsOutOfMemory e → (json_of_value v d).lacks n e
no_json_fault v d n e h = (memory_refuses e _ n json h, no_fault e h)

pub text_faults : (F : Error → Type 0) (t : String Global) (n : Nesting) (e : Error) → (NoFormOfSome (Is of_key t) n text → F Error.TooLong)
    → Refused (Is of_key t) n text e → long_or IsOutOfMemory e → IsTrue (is_writing_fault e) → F e
text_faults F t n e is l (inl h) = λ fault. rw h (is (l fault))
text_faults F t n e is l (inr h) = no_fault e h

pub long_faults : (F : Error → Type 0) (count len : ℕ) (e : Error) → count ≡ len → (longest < len → F Error.TooLong) → long_or_no_memory count e
    → IsTrue (is_writing_fault e) → F e
long_faults F count len e same is (inl h) = λ fault. rw h.1 (is (rw same at h.0))
long_faults F count len e same is (inr h) = no_fault e h

pub deep_faults : (F : Error → Type 0) (count len : ℕ) (e : Error) → count ≡ len → count ≤ longest → (len ≤ longest → F Error.TooDeep) → e ≡ Error.TooDeep → F e
deep_faults F count len e same le is h = rw h (is (rw same at le))

pub item_faults : (xs : List Value) (i : ℕ) (x : Value) (n : Nesting) (old mid : Out) (e : Error)
    → WritesSomeAll (MeanAll (Is of_value) (take i xs)) n json old mid → i < length xs → x ≡ get_or xs i x → Fault n x e → ItemFault n xs e
item_faults xs i x n old mid e v lt is fault =
    let P : List Value → Type 0 = λ ys. ItemFault n ys e in
    subst P (sym (split_at xs i x lt)) (item-fault n (take i xs) (get_or xs i x) (drop (suc i) xs) e (old, mid, v) (rw (← is) fault))

pub member_faults : (all left rest : List (String Global × Value)) (k : String Global) (x : Value) (n : Nesting) (old mid : Out) (e : Error)
    → Written (MeansPair (Is of_key) (Is of_value)) n (both text json) all left old mid → left ≡ (k, x) ∷ rest → EntryFault n k x e → MemberFault n all e
member_faults all left rest k x n old mid e v f fault =
    rw (v.is, f) (member-fault n v.front k x rest e (old, mid, v.wrote) fault)

-- a count is refused as its length is, or by OutOfMemory
pub counts : (len : ℕ) (e : Error) → long_or_memory len e → long_or_no_memory len e
counts len e h = grind arith

-- what the items and the members of a value mean
pub items-mean : (vs : List Value) → of_data (array (items_view vs)) ≡ variant 4 (sequence (map of_value vs))
items-mean [] = grind arith
items-mean (v ∷ vs) = grind (arith, items-mean vs)

pub members-mean : (es : List (String Global × Value)) → of_data (object (members_view es))
    ≡ variant 5 (sequence (map (λ e. pair (of_key e.0) (of_value e.1)) es))
members-mean [] = grind arith
members-mean (e ∷ es) = grind (arith, members-mean es)

pub items-are : (vs : List Value) (m : Meaning ArcRef) → MeansList (Is of_value) vs m → variant 4 m ≡ of_data (array (items_view vs))
items-are vs m h = ap (λ (x : Meaning ArcRef). variant 4 x) (list_single (Is of_value) of_value (λ v n is. is) vs m h) ∙ sym (items-mean vs)

pub members-are : (es : List (String Global × Value)) (m : Meaning ArcRef) → MeansList (MeansPair (Is of_key) (Is of_value)) es m → variant 5 m
    ≡ of_data (object (members_view es))
members-are es m h =
    ap (λ (x : Meaning ArcRef). variant 5 x) (list_single (MeansPair (Is of_key) (Is of_value)) (λ e. pair (of_key e.0) (of_value e.1))
    (pair_single (Is of_key) (Is of_value) of_key of_value (λ k n is. is) (λ v n is. is)) es m h) ∙ sym (members-mean es)

-- ---- what a value holds

pub seen-null : view values.Null ≡ null
seen-null = search (rules, the_lemmas)

pub seen-flag : (b : Bool) → view (values.Bool b) ≡ boolean b
seen-flag b = search (rules, the_lemmas)

pub seen-number : (x : Number) → view (values.Number x) ≡ number (number_view x)
seen-number x = search (rules, the_lemmas)

pub seen-text : (t : String Global) → view (values.String t) ≡ string (string_bytes t)
seen-text t = search (rules, the_lemmas)

-- ---- arrays and objects

-- the order of the keys is that of their bytes
pub keys-in-order : IsOrderOf (Is of_key) string_cmp text_order
keys-in-order = order-of (exactly of_key) text_order (λ k m is. is) (λ x y. text_is_ordered (string_bytes x) (string_bytes y)) string_cmp_total.antisymm

pub value-has : (v : Value) → SomeMeaning (Is of_value v)
value-has v = (of_value v, refl)

pub member-has : (e : String Global × Value) → SomeMeaning (MeansPair (Is of_key) (Is of_value) e)
member-has e = pair_has_meaning (Is of_key) (Is of_value) (λ k. (of_key k, refl)) value-has e

-- of all members, those before left were written
abbrev pub members-so-far : List (String Global × Value) → List (String Global × Value) → Piece
members-so-far es left = record { wrote = λ n. Written (MeansPair (Is of_key) (Is of_value)) n (both text json) es left; lacks = λ n e. Unit {0} }

-- what a case, a count and a part one level further down make of this data
pub record HoldsBelow (case count : ℕ) (P : Piece) (d : Data) : Type 0 where
  pub joins : (n : Nesting) (old mid new : Out) → (case_and_length case count).wrote n old mid → (one_down P).wrote n mid new
      → WritesSome (Is of_data d) n json old new
  pub lacks : (n : Nesting) (e : Error) → (one_down P).lacks n e → Refused (Is of_data d) n json e
  pub long : (n : Nesting) (e : Error) → long_or_no_memory count e → Refused (Is of_data d) n json e
  pub deep : (n : Nesting) (e : Error) → deepest ≤ n.levels → Refused (Is of_data d) n json e

module _ {X : Type 0} (M : Means X) (has : (x : X) → SomeMeaning (M x)) (ys : List X) (case count : ℕ) (whole item : Shape) (d : Data)
    (is : (m : Meaning ArcRef) → MeansList M ys m → variant case m ≡ of_data d) where
  holds-below : nat_lt case 128 ≡ true → count ≡ length ys → ((n : Nesting) → Wraps M ys (MeansList M ys) n whole item)
      → ((n : Nesting) → n.levels < deepest → (m : Meaning ArcRef) (b : List ℕ) (k : List ArcRef) → FormAt (deeper n) whole m b k
      → FormAt n json (variant case m) (case ∷ b) k)
      → ((n : Nesting) (m : Meaning ArcRef) → NoForm (deeper n) whole m → NoForm n json (variant case m))
      → ((n : Nesting) (m : Meaning ArcRef) → deepest ≤ n.levels → NoForm n json (variant case m)) → HoldsBelow case count (item_forms (MeanAll M ys) item) d
  holds-below small counted wraps up lack deep = record {
    joins = λ n old mid new f w.
        let first = added old (case ∷ []) [] in
        let part = writes-counted (wraps (deeper n)) (added old (case ∷ []) []) mid new count counted (rw (case-byte case small) at f.1) f.0 w.1 in
        writes_whole n (deeper n) (λ m. variant case m) whole json (MeansList M ys) (Is of_data d) is (case ∷ []) old first new (up n w.0) refl part;
    lacks = λ n e l. refuses_whole n (deeper n) (λ m. variant case m) whole json (MeansList M ys) (Is of_data d) is e (lack n)
        (refuses-items (wraps (deeper n)) e l.1);
    long = λ n e h. let refuses = refuses_whole n (deeper n) (λ m. variant case m) whole json (MeansList M ys) (Is of_data d) is e (lack n) in
        grind (arith, refuses, refuses-long (wraps (deeper n)) has count counted, memory_refuses);
    deep = λ n e le. λ fault. let each = items_have_meanings M has ys in
        record { m = variant case (sequence each.0); is = is _ (record { ms = each.0; each = each.1; is = refl }); no_form = deep n _ le };
  }

pub arrays : (vs : List Value) (count : ℕ) → count ≡ length vs → HoldsBelow 4 count (item_forms (MeanAll (Is of_value) vs) json) (array (items_view vs))
arrays vs count counted = holds-below (Is of_value) value-has vs 4 count (list json) json (array (items_view vs)) (items-are vs) refl counted
    (λ n. wraps_list)
    (λ n lt m b k f. array-up n lt f) no-array (λ n m le b k f. grind arith)

pub objects : (es : List (String Global × Value)) (count : ℕ) → count ≡ length es → IsStrictlySortedBy string_cmp (keys_of es)
    → HoldsBelow 5 count (item_forms (MeanAll (MeansPair (Is of_key) (Is of_value)) es) (both text json)) (object (members_view es))
objects es count counted sorted =
    holds-below (MeansPair (Is of_key) (Is of_value)) member-has es 5 count (sorted_map text_order text json) (both text json) (object (members_view es))
    (members-are es) refl counted
    (λ n. wraps_sorted_map _ _ keys-in-order sorted) (λ n lt m b k f. object-up n lt f) no-object
    (λ n m le b k f. grind arith)

-- ---- a case, and then a number

module _ (n : Nesting) (old mid new : Out) where
  pub number_written : (first : Out) (a : Num) (i : ℤ) → as_i64 a ≡ Some i → first ≡ added old (unsigned_form w64 2) [] → mid ≡ added first (bool_form false) []
      → WritesSome (Is integer i) n (signed w64) mid new → WritesSome (Is of_data (number a)) n json old new
  number_written first a i some e f w = writes_whole n n (λ m. variant 2 m) (signed w64) json (Is integer i) (Is of_data (number a))
      (λ m is. rw is (sym (whole_number a i some)))
      (2 ∷ 0 ∷ []) old mid new (λ m b k f. number-up n f) ((then) old first mid _ _ _ _ (rw (case-byte 2 refl) at e) f) w

-- ---- steps of the code

module _ {S E N H K V : Type 0} {env : Environments E N H K V} {s : Serializers S E N H K V} where
  -- a case is refused with OutOfMemory
  pub case-err : {X Y : Type 0} {x y : S} {front : List ℕ} {e : Error} {v : Value} (d : Data) {r : Result Y Error} → IsErrAnd r (λ f. f ≡ e)
      → Wrote env s (bytes front) IsOutOfMemory x y (let p : Result X Error = Err e in p)
      → Wrote env s (json_of_value v d) json_causes x y r
  case-err {v = v} d is p = wrote-err is p (λ n l h. no_json_fault v d n _ h) (λ h. json-memory _ h)

  -- a value is what its data is
  pub as-value : {Y : Type 0} {x y : S} {v w : Value} {d : Data} {r : Result Y Error} → v ≡ w → view w ≡ d → Wrote env s (json_of_value w d) json_causes x y r
      → Wrote env s (json_of_value v (view v)) json_causes x y r
  as-value is e h = rw (is, e) h

  pub null-value : {Y : Type 0} {x y : S} {v : Value} {r : Result Y Error} → v ≡ values.Null → Wrote env s (bytes (unsigned_form w64 0)) IsOutOfMemory x y r
      → Wrote env s (json_of_value v (view v)) json_causes x y r
  null-value is p = as-value is seen-null (wrote-as p (λ n old new w. record {
    m = variant 0 none;
    is = refl;
    wrote = record { bytes = 0 ∷ []; refs = []; form = json-null-form _; grown = rw (case-byte 0 refl) at w };
  }) (λ n e l h. no_json_fault values.Null null n e h) json-memory)

pub no-case : (n : ℕ) → 5 < n → json_case n ≡ Err Error.JsonCase
no-case n lt = grind (arith, nat_tests)

whole-means : (z : ℤ) → of_data (number (of_integer z)) ≡ variant 2 (integer z)
whole-means (pos n) = refl
whole-means (negsuc n) = refl

-- what the values mean
pub is-flag : (b : Bool) (m : Meaning ArcRef) → Is meanings.flag b m → Is of_value (values.Bool b) (variant 1 m)
is-flag b m is = rw (is, seen-flag b) refl

pub is-text : (t : String Global) (m : Meaning ArcRef) → Is of_key t m → Is of_value (values.String t) (variant 3 m)
is-text t m is = rw (is, seen-text t) refl

pub is-whole : (v : Value) (z : ℤ) (m : Meaning ArcRef) → view v ≡ number (of_integer z) → Is integer z m → Is of_value v (variant 2 m)
is-whole v z m seen is = rw is (sym (ap of_data seen ∙ whole-means z))

pub is-array : (v : Vec Value Global) (ms : List (Meaning ArcRef)) → MeanAll (Is of_value) v.items ms → Is of_value (values.Array v) (variant 4 (sequence ms))
is-array v ms each = items-are v.items (sequence ms) (record { ms = ms; each = each; is = refl }) ∙ ap of_data (sym (view-Array v))

bytes-viewed : {X : Type 0} (at : List ℕ → Read X) (f : X → Meaning ArcRef) (view : Meaning ArcRef → Meaning ArcRef) (rest : Rest Answer)
    → bytes_of at (λ x. view (f x)) rest ≡ viewed view (bytes_of at f rest)
bytes-viewed at f view rest = grind arith

-- after its case
module _ (levels : ℕ) (parts : ℕ → Shape) (rest : Rest Answer) {mid : Rest Answer} {n : ℕ} (told : bytes_of (unsigned_at w64) (λ n. n) rest ≡ Ok (n, mid)) where
  pub null-part : n ≡ 0 → Gave (Is of_value values.Null) mid (read (handles_at levels parts) json rest)
  unfolding read read_with
  null-part zero = record { m = variant 0 none; is = rw seen-null refl; gave = rw (told, zero) refl }

  pub flag-part : n ≡ 1 → read (handles_at levels parts) json rest ≡ viewed (λ m. variant 1 m) (read (handles_at levels parts) flag mid)
  unfolding read read_with
  flag-part one = rw (told, one) (bytes-viewed bool_at meanings.flag (λ m. variant 1 m) mid)

  pub text-part : n ≡ 3 → read (handles_at levels parts) json rest ≡ viewed (λ m. variant 3 m) (read (handles_at levels parts) text mid)
  unfolding read read_with
  text-part three = rw (told, three) (bytes-viewed text_at meanings.text (λ m. variant 3 m) mid)

  pub other-part : (case : JsonCase) → json_case n ≡ Ok case → read (handles_at levels parts) json rest ≡ value_after_case case (handles_at levels parts) mid
  unfolding read read_with
  other-part case is = rw (told, is) refl

module _ (levels : ℕ) (parts : ℕ → Shape) (rest : Rest Answer) where
  module _ (count : ℕ) (mid : Rest Answer) (counted : bytes_of length_at (λ n. n) rest ≡ Ok (count, mid)) where
    pub array-deep : deepest ≤ levels → value_after_case array_case (handles_at levels parts) rest ≡ Err Error.TooDeep
    unfolding below
    array-deep le = let left : deepest - levels ≡ 0 = omega arith in rw (left, counted) refl

    pub object-deep : deepest ≤ levels → value_after_case object_case (handles_at levels parts) rest ≡ Err Error.TooDeep
    unfolding below
    object-deep le = let left : deepest - levels ≡ 0 = omega arith in rw (left, counted) refl

    pub array-seen : levels < deepest → value_after_case array_case (handles_at levels parts) rest
        ≡ seen (λ ms. variant 4 (sequence ms)) (items (read (handles_at (levels + 1) parts) json) count) mid
    unfolding read below
    array-seen lt = let left : deepest - levels ≡ suc (deepest - (levels + 1)) = omega arith in rw (left, counted) refl

    -- an object is a map one level further down
    object-seen : levels < deepest → value_after_case object_case (handles_at levels parts) rest
        ≡ viewed (λ m. variant 5 m) (read (handles_at (levels + 1) parts) (sorted_map text_order text json) rest)
    unfolding read read_with below
    object-seen lt = let left : deepest - levels ≡ suc (deepest - (levels + 1)) = omega arith in rw (left, counted) (grind arith)

    pub object-gives : (r : Result Value Error) (after : Rest Answer) → levels < deepest
        → GivesSome IsOutOfMemory ObjectOf after r (items (read (handles_at (levels + 1) parts) (both text json)) count mid)
        → GivesSome IsOutOfMemory (Is of_value) after r (value_after_case object_case (handles_at levels parts) rest)
    unfolding read read_with
    object-gives r after lt g =
        let P : Result (Meaning ArcRef × Rest Answer) Error → Type 0 = λ o. GivesSome IsOutOfMemory (Is of_value) after r o in
        let map = reads-entries IsOutOfMemory ObjectOf (λ v m. Is of_value v (variant 5 m)) (λ es. of_entries (put_all (put_sorted text_order) [] es)) means r
        (handles_at (levels + 1) parts) text json rest after (rw counted g) in
        subst P (sym (object-seen lt)) (gives-seen IsOutOfMemory (λ v m. Is of_value v (variant 5 m)) (Is of_value) (λ m. variant 5 m) after r _
        (λ v m is. is) map)
      where
        means : (v : Value) (es : List (Entry ArcRef)) → ObjectOf v (map entry es)
            → Is of_value v (variant 5 (of_entries (put_all (put_sorted text_order) [] es)))
        means v es o = rw (o.is, view-Object o.members) (members-are o.members.entries (of_entries (put_all (put_sorted text_order) [] es))
            (sorted-map-put (Is of_value) text_order keys-in-order o.members.entries es o.each))

pub ruleset read_parts = (array-deep, array-seen, object-deep, object-gives, moves_trans)

pub ruleset read_cases = (moves_trans, no-case, is-whole, to_z-of_z)

pub ruleset counting = (counts, grows_trans)
