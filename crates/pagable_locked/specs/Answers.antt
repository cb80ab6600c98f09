-- The results of several workers, each of which has paged out its own items.
use Rattle.pagable_core.specs.declared.context.writing.SerializedData.{SerializedData}
use Rattle.pagable_pageout.specs.{Results.IsKeyOverResults, Slots.written_of, declared.tasks.PageOutError.PageOutError}
use Rattle.pagable_pager_spec.specs.World.{Values}
use Rattle.std.specs.{
  Arc.arc_value,
  Prelude.{IfOk, List, Result, if◌then◌else◌, ℕ, [], ◌%◌, ◌+◌, ◌==◌, ◌∷◌},
  declared.{alloc.Global.Global, sync.Arc.Arc},
}

-- the items of one of `workers` workers: those whose number mod `workers` is the worker's; the first has number i
abbrev pub items_of : {X : Type 0} → ℕ → ℕ → ℕ → List X → List X
items_of workers worker i [] = []
items_of workers worker i (x ∷ xs) = if i % workers == worker then x
    ∷ items_of workers worker (i + 1) xs else items_of workers worker (i + 1) xs

-- one result for each item, in their order
abbrev pub AnswersEach : {X K : Type 0} → (X → K → Type 0) → List X → List K → Type 0
AnswersEach P [] [] = Unit {0}
AnswersEach P [] (r ∷ rs) = ⊥
AnswersEach P (x ∷ xs) [] = ⊥
AnswersEach P (x ∷ xs) (r ∷ rs) = P x r × AnswersEach P xs rs

-- a key is the hash of the item's bytes and of the keys of results, one for each of its references
abbrev pub IsAnswerOf : {N E : Type 0} → (List ℕ → List ℕ) → (E → Values N) → Arc SerializedData Global
    → Result ℕ PageOutError → Type 0
IsAnswerOf hash values item r = IfOk r (λ key. ∥ IsKeyOverResults hash values (written_of (arc_value item)) key ∥₁)
