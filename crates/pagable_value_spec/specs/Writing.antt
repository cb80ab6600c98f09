-- What has been written so far, and what writing a value adds.
use Rattle.pagable_value_spec.specs.{
  Form.{Form, Forms},
  Meaning.Meaning,
  Reading.deepest,
  Refusals.is_writing_fault,
  Shape.Shape,
  declared.{error.Error.Error, numbers.{ArcRef.ArcRef, PagableCursor.PagableCursor}},
}
use Rattle.std.specs.Prelude.{IsTrue, List, drop, length, take, ℕ, ◌++◌, ◌+◌, ◌-◌, ◌≡◌}

-- the bytes, and the references in order
pub record Out : Type 0 where
  pub bytes : List ℕ
  pub refs : List ArcRef

-- how many levels have been entered, and how the environment encodes the numbered parts
pub record Nesting : Type 0 where
  pub levels : ℕ
  pub parts : ℕ → Shape

abbrev pub nesting : ℕ → (ℕ → Shape) → Nesting
nesting levels parts = record { levels = levels; parts = parts }

abbrev pub kind_of_arc : ArcRef → ℕ
kind_of_arc r = r.kind.0

-- a form of a value that holds handles, within the levels that are left; below: of items
abbrev pub FormAt : Nesting → Shape → Meaning ArcRef → List ℕ → List ArcRef → Type 0
FormAt n s m b k = Form ArcRef kind_of_arc n.parts (deepest - n.levels) s m b k

abbrev pub FormsAt : Nesting → Shape → List (Meaning ArcRef) → List ℕ → List ArcRef → Type 0
FormsAt n s ms b k = Forms ArcRef kind_of_arc n.parts (deepest - n.levels) s ms b k

abbrev pub added : Out → List ℕ → List ArcRef → Out
added out bytes refs = record { bytes = out.bytes ++ bytes; refs = out.refs ++ refs }

-- how many bytes and references have been written
abbrev pub end_of : Out → PagableCursor
end_of out = record { byte_pos = length out.bytes; arc_index = length out.refs }

-- the bytes with `others` in the place of equally many from position `at` on
abbrev pub overwritten : List ℕ → ℕ → List ℕ → List ℕ
overwritten bytes at others = take at bytes ++ (others ++ drop (at + length others) bytes)

-- new is old followed by a form of the meaning
pub record Writes (n : Nesting) (s : Shape) (m : Meaning ArcRef) (old new : Out) : Type 0 where
  pub bytes : List ℕ
  pub refs : List ArcRef
  pub form : FormAt n s m bytes refs
  pub grown : new ≡ added old bytes refs

-- new is old followed by forms of the items
pub record WritesAll (n : Nesting) (s : Shape) (ms : List (Meaning ArcRef)) (old new : Out) : Type 0 where
  pub bytes : List ℕ
  pub refs : List ArcRef
  pub form : FormsAt n s ms bytes refs
  pub grown : new ≡ added old bytes refs

-- new is old with something added
pub record Grows (old new : Out) : Type 0 where
  pub bytes : List ℕ
  pub refs : List ArcRef
  pub grown : new ≡ added old bytes refs

-- the meaning has no form here; below: the items have none
abbrev pub NoForm : Nesting → Shape → Meaning ArcRef → Type 0
NoForm n s m = (bytes : List ℕ) (refs : List ArcRef) → FormAt n s m bytes refs → ⊥

abbrev pub NoForms : Nesting → Shape → List (Meaning ArcRef) → Type 0
NoForms n s ms = (bytes : List ℕ) (refs : List ArcRef) → FormsAt n s ms bytes refs → ⊥

-- a form of one of the meanings was written
pub record WritesSome (M : Meaning ArcRef → Type 0) (n : Nesting) (s : Shape) (old new : Out) : Type 0 where
  pub m : Meaning ArcRef
  pub is : M m
  pub wrote : Writes n s m old new

pub record WritesSomeAll (M : List (Meaning ArcRef) → Type 0) (n : Nesting) (s : Shape) (old new : Out) : Type 0 where
  pub ms : List (Meaning ArcRef)
  pub is : M ms
  pub wrote : WritesAll n s ms old new

-- one of the meanings has no form here
pub record NoFormOfSome (M : Meaning ArcRef → Type 0) (n : Nesting) (s : Shape) : Type 0 where
  pub m : Meaning ArcRef
  pub is : M m
  pub no_form : NoForm n s m

pub record NoFormsOfSome (M : List (Meaning ArcRef) → Type 0) (n : Nesting) (s : Shape) : Type 0 where
  pub ms : List (Meaning ArcRef)
  pub is : M ms
  pub no_forms : NoForms n s ms

-- if the error says that a value has no form, then one of the meanings has none
abbrev pub Refused : (Meaning ArcRef → Type 0) → Nesting → Shape → Error → Type 0
Refused M n s e = IsTrue (is_writing_fault e) → NoFormOfSome M n s

abbrev pub RefusedAll : (List (Meaning ArcRef) → Type 0) → Nesting → Shape → Error → Type 0
RefusedAll M n s e = IsTrue (is_writing_fault e) → NoFormsOfSome M n s
