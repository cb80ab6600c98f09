-- References in the order in which they are written.
use Rattle.pagable_value_spec.specs.{
  CarriedTypes.of_entries,
  Form.{Entries, Form, Forms, array-form, both-form, duration-form, err-form, flag-form, json-array-form},
  Form.{json-flag-form, json-null-form, json-number-form, json-object-form, json-text-form, letter-form, list-form},
  Form.{more-entries, more-forms, no-entries, no-forms, none-form, nothing-form, ok-form, pattern-form},
  Form.{placed-map-form, placed-set-form, reference-form, run-form, signed-form, some-form, sorted-map-form},
  Form.{sorted-set-form, static-form, text-form, unsigned-form},
  Keys.{Entry, KeyOrder},
  Meaning.{Meaning, followed, lifted, pair, reference, rename, sequence, variant},
  References.references_in,
  Shape.{Shape, array, both, duration, flag, json, letter, list, nothing, optional, outcome, pattern, placed_map},
  Shape.{placed_set, run, signed, sorted_map, sorted_set, static_value, text, unsigned},
  Writing.kind_of_arc,
  declared.numbers.ArcRef.ArcRef,
}
use Rattle.std.proofs.Common.{append_assoc, sym}
use Rattle.std.specs.{Int.Width, Prelude.{List, false, refl, true, ℕ, [], ◌++◌, ◌∷◌, ◌≡◌}}
use Rattle.pagable_value_spec.specs.Shape as shapes

-- each form of the shape lists the references of what it is a form of, in their order
abbrev pub ListsInOrder : (ℕ → Shape) → Shape → Type 0
ListsInOrder parts s = (left : ℕ) (m : Meaning ArcRef) (b : List ℕ) (k : List ArcRef)
    → Form ArcRef kind_of_arc parts left s m b k → k ≡ references_in m

pub reference_in_order : (parts : ℕ → Shape) (kind : ℕ) → ListsInOrder parts (shapes.reference kind)
unfolding references_in
reference_in_order parts kind left _ _ _ (reference-form _ _ _ _) = refl

pub text_in_order : (parts : ℕ → Shape) → ListsInOrder parts text
unfolding references_in
text_in_order parts left _ _ _ (text-form _ _ _ _) = refl

pub optional_in_order : (parts : ℕ → Shape) (s : Shape) → ListsInOrder parts s → ListsInOrder parts (optional s)
unfolding references_in
optional_in_order parts s h left _ _ _ (none-form _ _) = refl
optional_in_order parts s h left _ _ _ (some-form _ _ m b k f) = h left m b k f

pub both_in_order : (parts : ℕ → Shape) (s t : Shape) → ListsInOrder parts s → ListsInOrder parts t
    → ListsInOrder parts (both s t)
unfolding references_in
both_in_order parts s t h i left _ _ _ (both-form _ _ _ m n b c k l f g) = rw (h left m b k f, i left n c l g) refl

forms-in-order : (parts : ℕ → Shape) (s : Shape) → ListsInOrder parts s
    → (left : ℕ) (ms : List (Meaning ArcRef)) (b : List ℕ) (k : List ArcRef)
    → Forms ArcRef kind_of_arc parts left s ms b k → k ≡ references_in (sequence ms)
unfolding references_in
forms-in-order parts s h left _ _ _ (no-forms _ _) = refl
forms-in-order parts s h left _ _ _ (more-forms _ _ m ms b c k l f fs) =
    rw (h left m b k f, forms-in-order parts s h left ms c l fs) refl

pub list_in_order : (parts : ℕ → Shape) (s : Shape) → ListsInOrder parts s → ListsInOrder parts (list s)
list_in_order parts s h left _ _ _ (list-form _ _ ms b k le fs) = forms-in-order parts s h left ms b k fs

pub run_in_order : (parts : ℕ → Shape) (s : Shape) → ListsInOrder parts s → ListsInOrder parts (run s)
run_in_order parts s h left _ _ _ (run-form _ _ ms b k le fs) = forms-in-order parts s h left ms b k fs

pub array_in_order : (parts : ℕ → Shape) (count : ℕ) (s : Shape) → ListsInOrder parts s
    → ListsInOrder parts (array count s)
array_in_order parts count s h left _ _ _ (array-form _ _ _ ms b k is fs) = forms-in-order parts s h left ms b k fs

pub outcome_in_order : (parts : ℕ → Shape) (s t : Shape) → ListsInOrder parts s → ListsInOrder parts t
    → ListsInOrder parts (outcome s t)
unfolding references_in
outcome_in_order parts s t h i left _ _ _ (err-form _ _ _ m b k f) = i left m b k f
outcome_in_order parts s t h i left _ _ _ (ok-form _ _ _ m b k f) = h left m b k f

-- ---- sets and maps

entries-in-order : (parts : ℕ → Shape) (s t : Shape) → ListsInOrder parts s → ListsInOrder parts t
    → (left : ℕ) (es : List (Entry ArcRef)) (b : List ℕ) (k : List ArcRef)
    → Entries ArcRef kind_of_arc parts left s t es b k → k ≡ references_in (of_entries es)
unfolding references_in
entries-in-order parts s t h i left _ _ _ (no-entries _ _ _) = refl
entries-in-order parts s t h i left _ _ _ (more-entries _ _ _ m n es b c d j k l f g fs) =
    rw (h left m b j f, i left n c k g, entries-in-order parts s t h i left es d l fs)
    (sym (append_assoc (references_in m) (references_in n) (references_in (of_entries es))))

pub sorted_set_in_order : (parts : ℕ → Shape) (order : KeyOrder) (s : Shape) → ListsInOrder parts s
    → ListsInOrder parts (sorted_set order s)
sorted_set_in_order parts order s h left _ _ _ (sorted-set-form _ _ _ ms b k le up fs) =
    forms-in-order parts s h left ms b k fs

pub placed_set_in_order : (parts : ℕ → Shape) (s : Shape) → ListsInOrder parts s → ListsInOrder parts (placed_set s)
placed_set_in_order parts s h left _ _ _ (placed-set-form _ _ ms b k le differ fs) =
    forms-in-order parts s h left ms b k fs

pub sorted_map_in_order : (parts : ℕ → Shape) (order : KeyOrder) (s t : Shape) → ListsInOrder parts s
    → ListsInOrder parts t → ListsInOrder parts (sorted_map order s t)
sorted_map_in_order parts order s t h i left _ _ _ (sorted-map-form _ _ _ _ es b k le up fs) =
    entries-in-order parts s t h i left es b k fs

pub placed_map_in_order : (parts : ℕ → Shape) (s t : Shape) → ListsInOrder parts s → ListsInOrder parts t
    → ListsInOrder parts (placed_map s t)
placed_map_in_order parts s t h i left _ _ _ (placed-map-form _ _ _ es b k le differ fs) =
    entries-in-order parts s t h i left es b k fs

-- ---- values that refer to nothing

pub nothing_in_order : (parts : ℕ → Shape) → ListsInOrder parts nothing
unfolding references_in
nothing_in_order parts left _ _ _ (nothing-form _) = refl

pub unsigned_in_order : (parts : ℕ → Shape) (w : Width) → ListsInOrder parts (unsigned w)
unfolding references_in
unsigned_in_order parts w left _ _ _ (unsigned-form _ _ _ _) = refl

pub signed_in_order : (parts : ℕ → Shape) (w : Width) → ListsInOrder parts (signed w)
unfolding references_in
signed_in_order parts w left _ _ _ (signed-form _ _ _ _) = refl

pub flag_in_order : (parts : ℕ → Shape) → ListsInOrder parts flag
unfolding references_in
flag_in_order parts left _ _ _ (flag-form _ true) = refl
flag_in_order parts left _ _ _ (flag-form _ false) = refl

pub letter_in_order : (parts : ℕ → Shape) → ListsInOrder parts letter
unfolding references_in
letter_in_order parts left _ _ _ (letter-form _ _ _) = refl

pub duration_in_order : (parts : ℕ → Shape) → ListsInOrder parts duration
unfolding references_in
duration_in_order parts left _ _ _ (duration-form _ _ _ _ _) = refl

pub pattern_in_order : (parts : ℕ → Shape) → ListsInOrder parts pattern
unfolding references_in
pattern_in_order parts left _ _ _ (pattern-form _ _ _ _) = refl

-- a JSON value and the items in it refer to nothing
mutual
  unfolding references_in

  pub json_in_order : (parts : ℕ → Shape) → ListsInOrder parts json
  json_in_order parts left _ _ _ (json-null-form _) = refl
  json_in_order parts left _ _ _ (json-flag-form _ true) = refl
  json_in_order parts left _ _ _ (json-flag-form _ false) = refl
  json_in_order parts left _ _ _ (json-number-form _ _ _) = refl
  json_in_order parts left _ _ _ (json-text-form _ _ _ _) = refl
  json_in_order parts left _ _ _ (json-array-form _ less ms b k e le fs) = items-in-order parts less ms b k fs
  json_in_order parts left _ _ _ (json-object-form _ less es b k e le up fs) = members-in-order parts less es b k fs

  items-in-order : (parts : ℕ → Shape) (left : ℕ) (ms : List (Meaning ArcRef)) (b : List ℕ) (k : List ArcRef)
      → Forms ArcRef kind_of_arc parts left json ms b k → k ≡ references_in (sequence ms)
  items-in-order parts left _ _ _ (no-forms _ _) = refl
  items-in-order parts left _ _ _ (more-forms _ _ m ms b c k l f fs) =
      rw (json_in_order parts left m b k f, items-in-order parts left ms c l fs) refl

  members-in-order : (parts : ℕ → Shape) (left : ℕ) (es : List (Entry ArcRef)) (b : List ℕ) (k : List ArcRef)
      → Entries ArcRef kind_of_arc parts left text json es b k → k ≡ references_in (of_entries es)
  members-in-order parts left _ _ _ (no-entries _ _ _) = refl
  members-in-order parts left _ _ _ (more-entries _ _ _ m n es b c d j k l f g fs) =
      rw (text_in_order parts left m b j f, json_in_order parts left n c k g, members-in-order parts left es d l fs)
      (sym (append_assoc (references_in m) (references_in n) (references_in (of_entries es))))

pub lifted_refers_to_nothing : (m : Meaning ⊥) → references_in {A = ArcRef} (lifted m) ≡ []
unfolding references_in rename
lifted_refers_to_nothing (pair a b) = rw (lifted_refers_to_nothing a, lifted_refers_to_nothing b) refl
lifted_refers_to_nothing (variant n a) = lifted_refers_to_nothing a
lifted_refers_to_nothing (reference a) = absurd a
lifted_refers_to_nothing (followed kind a) = lifted_refers_to_nothing a
lifted_refers_to_nothing _ = refl

pub static_in_order : (parts : ℕ → Shape) (registry : List (Meaning ⊥)) → ListsInOrder parts (static_value registry)
static_in_order parts registry left _ _ _ (static-form _ _ i m _ _) = rw (lifted_refers_to_nothing m) refl
