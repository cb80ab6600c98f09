-- Page-outs of an item and of the list, where the access tells its state.
use Rattle.pagable_pageout.specs.{Tasks.fault_of, Turns.plain, declared.tasks.PageOutError.PageOutError}
use Rattle.pagable_pager_spec.specs.{
  Access.{AllHaveResults, EntryRun, ListRun, PagesOutItemOver},
  Pager.{IsPagerWhole, PagerState},
  World.{Shelf, Values, Written, answer_of_fault},
  declared.events.WorkerAnswer.WorkerAnswer,
}
use Rattle.std.specs.Prelude.{Err, IfErr, IfOk, None, Ok, Option, Result, Some, length, ℕ, ◌+◌, ◌<◌, ◌≡◌, ◌≤◌}

-- a worker's answer, for the result of a page-out
abbrev pub answer_of : Result ℕ PageOutError → WorkerAnswer
answer_of (Ok key) = WorkerAnswer.Key key
answer_of (Err e) = answer_of_fault (fault_of e)

-- the same for a page-out of the list
abbrev pub seen_as_failure : Result (Unit {0}) PageOutError → Result (Unit {0}) WorkerAnswer
seen_as_failure (Ok u) = Ok u
seen_as_failure (Err e) = Err (answer_of_fault (fault_of e))

-- if the pager is whole and each claim of the table has a result, the item is paged out
pub record PagesItem {N E : Type 0} (v : Values N) (shelf : Shelf) (item : Written) (shelf' : Shelf)
    (answer : WorkerAnswer) (s t : PagerState N E) : Type 0 where
  pub over : IsPagerWhole v s → AllHaveResults shelf → PagesOutItemOver (plain v) (record { pager = s; shelf = shelf })
      item answer (record { pager = t; shelf = shelf' })

-- if the pager is whole, the entries that are in the list at the call are paged out
pub record PagesList {N E : Type 0} (v : Values N) (answer : Result (Unit {0}) PageOutError)
    (s t : PagerState N E) : Type 0 where
  pub over : IsPagerWhole v s → ListRun (plain v) (length s.core.list) s (seen_as_failure answer) t

-- the entry at a place of the list is paged out, on a table of its own, where no claim has failed
pub record EntryPaged {N E : Type 0} (v : Values N) (s : PagerState N E) (place : ℕ) (answer : WorkerAnswer)
    (t : PagerState N E) : Type 0 where
  pub run : EntryRun (plain v) s place answer t
  pub whole : IsPagerWhole v t
  -- at least as many entries are left
  pub long : place ≤ length t.core.list
  pub unfailed : answer ≡ WorkerAnswer.AlreadyFailed → ⊥

pub record PagesEntry {N E : Type 0} (v : Values N) (place : ℕ) (answer : WorkerAnswer) (s t : PagerState N E) : Type 0
  where
    pub pages : IsPagerWhole v s → place < length s.core.list → EntryPaged v s place answer t

-- the answer for an entry that was there
abbrev pub with_some_key : Result ℕ PageOutError → Result (Option ℕ) PageOutError
with_some_key (Ok key) = Ok (Some key)
with_some_key (Err why) = Err why

-- the entry at a place is paged out, or there is none
abbrev pub PagesEntryIfThere : {N E : Type 0} → Values N → ℕ → Result (Option ℕ) PageOutError → PagerState N E
    → PagerState N E → Type 0
PagesEntryIfThere v place (Ok None) s t = length s.core.list ≤ place
PagesEntryIfThere v place (Ok (Some key)) s t = PagesEntry v place (WorkerAnswer.Key key) s t
PagesEntryIfThere v place (Err why) s t = PagesEntry v place (answer_of (Err why)) s t

-- a run of the entries up to this place continues as one of those before it, or ends here with a failure
pub record PlaceDone {N E : Type 0} (v : Values N) (s : PagerState N E) (place : ℕ)
    (result : Result (Unit {0}) PageOutError) (t : PagerState N E) : Type 0 where
  pub whole : IsPagerWhole v t
  pub long : place ≤ length t.core.list
  pub goes : IfOk result (λ u. (i : ℕ) → i ≡ place + 1 → (answer : Result (Unit {0}) WorkerAnswer) (s' : PagerState N E)
      → ListRun (plain v) place t answer s' → ListRun (plain v) i s answer s')
  pub stops : IfErr result (λ why. (i : ℕ) → i ≡ place + 1
      → ListRun (plain v) i s (Err (answer_of_fault (fault_of why))) t)

pub record PagesAt {N E : Type 0} (v : Values N) (place : ℕ) (result : Result (Unit {0}) PageOutError)
    (s t : PagerState N E) : Type 0 where
  pub done : IsPagerWhole v s → place < length s.core.list → PlaceDone v s place result t

-- after some entries, a run of those that are left is a run of all
pub record HasPaged {N E : Type 0} (v : Values N) (left : ℕ) (s t : PagerState N E) : Type 0 where
  pub whole : IsPagerWhole v s → IsPagerWhole v t
  pub long : IsPagerWhole v s → left ≤ length t.core.list
  pub then : IsPagerWhole v s → (answer : Result (Unit {0}) WorkerAnswer) (u : PagerState N E)
      → ListRun (plain v) left t answer u → ListRun (plain v) (length s.core.list) s answer u

-- a run of the entries below `left`, after those that were paged out before, goes on to the entries that are left, or
-- ends here with a failure
pub record PagesLast {N E : Type 0} (v : Values N) (left : ℕ) (result : Result ℕ PageOutError) (s t : PagerState N E)
    : Type 0 where
  pub goes : IfOk result (λ rest. (start : PagerState N E) → HasPaged v left start s → HasPaged v rest start t)
  pub stops : IfErr result (λ why. (start : PagerState N E) → HasPaged v left start s → PagesList v (Err why) start t)
