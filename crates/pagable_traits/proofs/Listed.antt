-- The references of values that hold others, one after the other; and that a value that was made of a reference means what the reference means.
use Rattle.pagable_traits.specs.{
  JsonData.{json_of, of_value},
  Refers.{ListsInOrder, lifted_refers_to_nothing},
  Walks.ListsEach,
}
use Rattle.pagable_value_spec.specs.{
  Cursor.{Gave, Is},
  Json.{Items, Json, Members, array, boolean, float, item, member, no_items, no_members, null, object, of_items, of_json, of_members, string, whole},
  Meaning.{Meaning, lifted, pair, reference, sequence},
  References.references_in,
  Shape.Shape,
  Writing.{Nesting, Out, WritesSome},
  declared.{error.Error.Error, numbers.ArcRef.ArcRef},
}
use Rattle.std.proofs.{
  Common.{Err, List, Ok, Option, Result, ap, append_assoc, length, refl, slice_index_or, sym, ℕ, [], ◌++◌, ◌+◌, ◌<◌, ◌∙◌, ◌∷◌, ◌≡◌, ◌≤◌},
  lemmas.{Iterator.{Consumers.YieldsList-from_rest, YieldsList, items_from_drains}, List.{append-nil, drop_all, drop_more}},
}
use Rattle.serde_json.specs.{View.view, declared.value.Value.Value}
use Rattle.std.specs.{Map.Iter.{TakesFirst, deref, deref_pair}, Prelude.{Bool, OnOk, drop, false, map, true}}
use Rattle.pagable_value_spec.specs.Meaning as meanings

pub pair_listed : (m n : Meaning ArcRef) (old mid new : List ArcRef) → mid ≡ old ++ references_in m → new ≡ mid ++ references_in n → new ≡ old
    ++ references_in (pair m n)
unfolding references_in
pair_listed m n old mid new e f = f ∙ ap (λ x. x ++ references_in n) e ∙ append_assoc old (references_in m) (references_in n)

-- the references so far and those of the items that are left, before and after the next item
pub item_listed : {T : Type 0} (meaning : T → Meaning ArcRef) (xs : List T) (i : ℕ) (x : T) (old new all : List ArcRef) → i < length xs → x
    ≡ slice_index_or xs i x → new ≡ old ++ references_in (meaning x)
    → old ++ references_in (sequence (map meaning (drop i xs))) ≡ all → new ++ references_in (sequence (map meaning (drop (i + 1) xs))) ≡ all
unfolding references_in
item_listed meaning xs i x old new all lt is e f =
    let rest = references_in (sequence (map meaning (drop (i + 1) xs))) in
    let next : drop i xs ≡ x ∷ drop (i + 1) xs = drop_more xs i x lt ∙ ap (λ y. y ∷ drop (i + 1) xs) (sym is) in
    ap (λ r. r ++ rest) e ∙ (append_assoc old (references_in (meaning x)) rest ∙ (ap (λ ys. old ++ references_in (sequence (map meaning ys))) (sym next) ∙ f))

-- and after the last one
pub items_listed : {T : Type 0} (meaning : T → Meaning ArcRef) (xs : List T) (i : ℕ) (new all : List ArcRef) → length xs ≤ i → new
    ++ references_in (sequence (map meaning (drop i xs))) ≡ all → new ≡ all
unfolding references_in
items_listed meaning xs i new all le e = sym (append-nil new) ∙ (ap (λ ys. new ++ references_in (sequence (map meaning ys))) (sym (drop_all i xs le)) ∙ e)

-- what was written of a value that means one thing lists its references
pub written_listed : {X : Type 0} (r : Result X Error) (M : Meaning ArcRef → Type 0) (own : Meaning ArcRef) (n : Nesting) (s : Shape) (old new : Out)
    → ((m : Meaning ArcRef) → M m → m ≡ own) → ListsInOrder n.parts s → OnOk r (WritesSome M n s old new)
    → OnOk r (new.refs ≡ old.refs ++ references_in own)
written_listed (Ok x) M own n s old new single order w = rw w.wrote.grown
    (ap (λ k. old.refs ++ k) (order _ w.m w.wrote.bytes w.wrote.refs w.wrote.form ∙ ap references_in (single w.m w.is)))
written_listed (Err e) M own n s old new single order w = tt

-- what is read as a reference is read as what stands for it
pub gave_held : {X R : Type 0} (held : X → ArcRef) (x : X) (r : ArcRef) (after : R) (read : Result (Meaning ArcRef × R) Error) → held x ≡ r
    → Gave (Is reference r) after read → Gave (Is (λ y. reference (held y)) x) after read
gave_held held x r after read e g = record { m = g.m; is = g.is ∙ ap reference (sym e); gave = g.gave }

-- a flag refers to nothing
pub flag_listed : (list : List ArcRef) (b : Bool) → list ≡ list ++ references_in (meanings.flag b)
unfolding references_in
flag_listed list true = sym (append-nil list)
flag_listed list false = sym (append-nil list)

-- what is lifted refers to nothing
pub static_listed : (list : List ArcRef) (m : Meaning ⊥) → list ≡ list ++ references_in (lifted m)
static_listed list m = rw (lifted_refers_to_nothing m) (sym (append-nil list))

-- and a JSON value, with all that is in it
mutual
  unfolding references_in

  json-bare : (j : Json) → references_in {A = ArcRef} (of_json j) ≡ []
  json-bare null = refl
  json-bare (boolean true) = refl
  json-bare (boolean false) = refl
  json-bare (whole z) = refl
  json-bare (float x) = refl
  json-bare (string t) = refl
  json-bare (array js) = items-bare js
  json-bare (object members) = members-bare members

  items-bare : (js : Items) → references_in {A = ArcRef} (of_items js) ≡ []
  items-bare no_items = refl
  items-bare (item j js) = rw (json-bare j, items-bare js) refl

  members-bare : (members : Members) → references_in {A = ArcRef} (of_members members) ≡ []
  members-bare no_members = refl
  members-bare (member k j members) = rw (json-bare j, members-bare members) refl

pub json_listed : (list : List ArcRef) (v : Value) → list ≡ list ++ references_in (of_value v)
json_listed list v = rw (json-bare (json_of (view v))) (sym (append-nil list))

-- ---- items that an iterator yields

pub none_listed : {T : Type 0} (meaning : T → Meaning ArcRef) (old : List ArcRef) → old ≡ old ++ references_in (sequence (map meaning []))
unfolding references_in
none_listed meaning old = sym (append-nil old)

-- the references of a list with one more item at its end
last-listed : {T : Type 0} (meaning : T → Meaning ArcRef) (xs : List T) (x : T) → references_in (sequence (map meaning (xs ++ x ∷ [])))
    ≡ references_in (sequence (map meaning xs)) ++ references_in (meaning x)
unfolding references_in
last-listed meaning [] x = append-nil (references_in (meaning x))
last-listed meaning (y ∷ ys) x = ap (λ k. references_in (meaning y) ++ k) (last-listed meaning ys x)
    ∙ sym (append_assoc (references_in (meaning y)) (references_in (sequence (map meaning ys))) (references_in (meaning x)))

pub one_more_listed : {T : Type 0} (meaning : T → Meaning ArcRef) (xs : List T) (x : T) (old mid new : List ArcRef)
    → mid ≡ old ++ references_in (sequence (map meaning xs)) → new ≡ mid ++ references_in (meaning x)
    → new ≡ old ++ references_in (sequence (map meaning (xs ++ x ∷ [])))
one_more_listed meaning xs x old mid new e f = f ∙ ap (λ k. k ++ references_in (meaning x)) e
    ∙ append_assoc old (references_in (sequence (map meaning xs))) (references_in (meaning x)) ∙ ap (λ k. old ++ k) (sym (last-listed meaning xs x))

map-seen : {T X : Type 0} (meaning : T → Meaning ArcRef) (other : X → Meaning ArcRef) (view : T → X) → ((x : T) → meaning x ≡ other (view x))
    → (xs : List T) → map meaning xs ≡ map other (map view xs)
map-seen meaning other view same [] = refl
map-seen meaning other view same (x ∷ xs) = rw (same x, map-seen meaning other view same xs) refl

-- those of the items that a set or a map shows, seen by view
shown-listed : {T X : Type 0} {view : T → X} {meaning : T → Meaning ArcRef} (other : X → Meaning ArcRef) {walk ys : List X}
    → ((x : T) → meaning x ≡ other (view x)) → walk ≡ ys → (old new : List ArcRef) → ListsEach (TakesFirst view) meaning walk old new
    → new ≡ old ++ references_in (sequence (map other ys))
shown-listed {view = view} other {ys = ys} same shows old new l =
    let all : map view l.xs ≡ ys = items_from_drains l.xs (l.all.1.0, l.all.1.1, λ _. (l.all.0, l.all.1.2)) (YieldsList-from_rest ys shows) in
    l.is ∙ ap (λ ms. old ++ references_in (sequence ms)) (map-seen _ other view same l.xs ∙ ap (map other) all)

pub set_listed : {X Y : Type 0} (other : X → Meaning ArcRef) (r : Result Y Error) {walk ys : List X} (old new : List ArcRef) → walk ≡ ys
    → OnOk r (ListsEach (TakesFirst deref) (λ x. other x.now) walk old new) → OnOk r (new ≡ old ++ references_in (sequence (map other ys)))
set_listed other (Ok y) old new shows l = shown-listed other (λ x. refl) shows old new l
set_listed other (Err e) old new shows l = tt

pub map_listed : {K V Y : Type 0} (M : K → Meaning ArcRef) (N : V → Meaning ArcRef) (r : Result Y Error) {walk ys : List (K × V)} (old new : List ArcRef)
    → walk ≡ ys → OnOk r (ListsEach (TakesFirst deref_pair) (λ e. pair (M e.0.now) (N e.1.now)) walk old new)
    → OnOk r (new ≡ old ++ references_in (sequence (map (λ e. pair (M e.0) (N e.1)) ys)))
map_listed M N (Ok y) old new shows l = shown-listed (λ e. pair (M e.0) (N e.1)) (λ x. refl) shows old new l
map_listed M N (Err e) old new shows l = tt

pub ruleset parts = (append-nil)
