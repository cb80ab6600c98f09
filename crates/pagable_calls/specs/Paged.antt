-- Page-outs over a lent pager, and reads of a key as a value of one of the caller's types.
use Rattle.pagable_pageout.specs.{PageOuts.seen_as_failure, Turns.plain, declared.tasks.PageOutError.PageOutError}
use Rattle.pagable_pager_spec.specs.{
  Access.{AllHaveResults, ListRun, PagesOutItemOver, ReadsOver},
  Pager.PagerState,
  World.{Shelf, Values, Written},
  declared.events.WorkerAnswer.WorkerAnswer,
}
use Rattle.pagable_value_spec.specs.declared.error.Error.{Error}
use Rattle.std.specs.Prelude.{Err, None, Ok, Option, Result, Some, length, ℕ, ◌≡◌, ◌⊎◌}
use Rattle.pagable_value_spec.specs.declared.error.Error.TheVariants as errors

-- an item's page-out, on a table of which each claim has a result
pub record PagesOutItem {N E : Type 0} (v : Values N) (s : PagerState N E) (shelf : Shelf) (item : Written)
    (answer : WorkerAnswer) (s' : PagerState N E) (shelf' : Shelf) : Type 0 where
  pub over : AllHaveResults shelf → PagesOutItemOver (plain v) (record { pager = s; shelf = shelf }) item answer
      (record { pager = s'; shelf = shelf' })

-- page-out of the entries that are in the list at the call
pub record PagesOutList {N E : Type 0} (v : Values N) (s : PagerState N E) (answer : Result (Unit {0}) PageOutError)
    (s' : PagerState N E) : Type 0 where
  pub run : ListRun (plain v) (length s.core.list) s (seen_as_failure answer) s'

-- one of the worker's own steps failed
abbrev pub IsFailed : PageOutError → Type 0
IsFailed why = (e : Error) × (why ≡ PageOutError.Failed e)

-- A read of the key, and the value that its node holds. If no value can be taken out of the node, for lack of memory or
-- since it holds none, the node is returned.
pub data ReadsValue {N T A E : Type 0} (v : Values N) (see : A → T) (held : N → Option T) (s : PagerState N E)
    (key t : ℕ) : Result A (Error × Option N) → PagerState N E → Type 0 where
  value-is-read : (x : N) (a : A) (s' : PagerState N E) → ReadsOver v s key t (Ok x) s' → held x ≡ Some (see a)
      → ReadsValue v see held s key t (Ok a) s'
  reading-is-refused : (e : Error) (s' : PagerState N E) → ReadsOver v s key t (Err e) s'
      → ReadsValue v see held s key t (Err (e, None)) s'
  node-comes-back : (e : Error) (x : N) (s' : PagerState N E) → ReadsOver v s key t (Ok x) s' → (e ≡ errors.OutOfMemory)
      ⊎ (held x ≡ None) → ReadsValue v see held s key t (Err (e, Some x)) s'
