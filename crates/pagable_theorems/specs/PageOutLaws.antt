-- The laws of page-out as one operation on a pager, in terms of trees: what a page-out of an item leaves, and what one
-- of the list leaves.
use Rattle.pagable_pager_spec.specs.{
  Access.{AccessState, EntryRun, ItemRun, LeadsToTrees, ListRun, WorkerRun, entry-is-walked, fails, item-is-walked},
  Access.{no-more, pages, skips, worker-ends, worker-goes-on},
  Basics.{HandleNumber, Tree},
  Events.{IsEntry, entry_task, no_shelf},
  Pager.{IsPagerWhole, PagerStandsFor, PagerState, SameTrees},
  Rightness.{IsKeyOfTask, LeavesAll},
  Runs.{HoldsSettled, TodoAsksWell},
  World.{Core, SameShelf, Seen, Shelf, Task, Todo, Values, Written, of_item},
  declared.{events.{Action.Action, WorkerAnswer.WorkerAnswer}, handle_row.HandleRow.HandleRow},
}
use Rattle.std.specs.Prelude.{List, Result, false, ℕ, ◌≡◌}

-- no worker is at work on this pager
abbrev pub NobodyWorks : Core → Type 0
NobodyWorks w = (v : ℕ) → w.workers v ≡ false

-- What is asked of each step of a worker's run, as of a load's: no value in memory changes later, what is read or
-- written is of a type that can be read back, and each key that is taken without being read reads as some value.
unfoldable pub WorkerAsksWell : {N E B W : Type 0} {m : Seen N B W} {n : ℕ} {todo : List Todo} {s s' : AccessState N E}
    {steps : List (Action W)} {answer : WorkerAnswer}
    → WorkerRun m n todo s steps answer s' → Type 0
WorkerAsksWell {m = m} (worker-ends todo next step answer s s' does is) =
    HoldsSettled m.values s'.pager × TodoAsksWell m.values s.pager todo
WorkerAsksWell {m = m} (worker-goes-on todo next step steps answer s mid s' does is more) =
    HoldsSettled m.values mid.pager × TodoAsksWell m.values s.pager todo × WorkerAsksWell more

abbrev pub ItemAsksWell : {N E B W : Type 0} {m : Seen N B W} {s s' : AccessState N E} {item : Written}
    {answer : WorkerAnswer} → ItemRun m s item answer s'
    → Type 0
ItemAsksWell (item-is-walked n steps answer mid s' starts run) = WorkerAsksWell run
ItemAsksWell run = Unit {0}

-- what a page-out that returns this key leaves: all that its task met is paged out, and the key is the task's
pub record LeavesPagedOut {N E : Type 0} (v : Values N) (s : PagerState N E) (shelf : Shelf) (trees : ℕ → Tree)
    (task : Task) (key : ℕ) : Type 0 where
  pub leaves : LeavesAll v s shelf trees task
  pub is_key : IsKeyOfTask v trees task key

-- The law of items, for a new table: what the item met is paged out, and the returned key is the item's.
abbrev pub ItemLaw : {N B W : Type 0} → (E : Type 0) → Seen N B W → Type 0
ItemLaw {N} {B} {W} E m = (s s' : AccessState N E) (item : W) (key : ℕ)
    (run : ItemRun m s (m.written_of item) (WorkerAnswer.Key key) s') → IsPagerWhole m.values s.pager
    → NobodyWorks s.pager.core
    → SameShelf no_shelf s.shelf → ItemAsksWell run
    → LeadsToTrees m.values s.pager s'.pager (λ trees trees'. LeavesPagedOut m.values s'.pager s'.shelf trees'
    (of_item (m.written_of item)) key)

-- the entry at this place of the list was paged out, under this key, on a table of its own
pub record EntryIsPagedOut {N E : Type 0} (v : Values N) (w : Core) (place : ℕ) (s : PagerState N E) (trees : ℕ → Tree)
    (key : ℕ) : Type 0 where
  pub h : HandleNumber
  pub row : HandleRow
  pub t : ℕ
  pub shelf : Shelf
  pub entry : IsEntry w place h row t
  pub out : LeavesPagedOut v s shelf trees (entry_task h row t) key

abbrev pub EntryAsksWell : {N E B W : Type 0} {m : Seen N B W} {s s' : PagerState N E} {place : ℕ}
    {answer : WorkerAnswer} → EntryRun m s place answer s'
    → Type 0
EntryAsksWell (entry-is-walked h row t n steps answer mid s' is kinds starts run) = WorkerAsksWell run
EntryAsksWell run = Unit {0}

unfoldable pub ListAsksWell : {N E B W : Type 0} {m : Seen N B W} {i : ℕ} {s s' : PagerState N E}
    {answer : Result (Unit {0}) WorkerAnswer}
    → ListRun m i s answer s' → Type 0
ListAsksWell (no-more s) = Unit {0}
ListAsksWell (skips i place key h told answer s mid low s' is has takes releases more) = ListAsksWell more
ListAsksWell (pages i place key h answer s mid s' is has entry more) = EntryAsksWell entry × ListAsksWell more
ListAsksWell (fails i place h e s s' is has entry) = EntryAsksWell entry

-- each entry that is paged out leaves all that it met paged out; nodes keep their trees from one entry to the next
unfoldable pub EachIsPagedOut : {N E B W : Type 0} {m : Seen N B W} {i : ℕ} {s s' : PagerState N E}
    {answer : Result (Unit {0}) WorkerAnswer}
    → ListRun m i s answer s' → (ℕ → Tree) → Type 0
EachIsPagedOut (no-more s) trees = Unit {0}
EachIsPagedOut {m = m} (skips i place key h told answer s mid low s' is has takes releases more) trees =
    (trees' : ℕ → Tree) × SameTrees s.core.last.node trees trees' × PagerStandsFor m.values low trees'
    × EachIsPagedOut more trees'
EachIsPagedOut {m = m} (pages i place key h answer s mid s' is has entry more) trees =
    (trees' : ℕ → Tree) × SameTrees s.core.last.node trees trees' × PagerStandsFor m.values mid trees'
    × EntryIsPagedOut m.values s.core place mid trees' key × EachIsPagedOut more trees'
EachIsPagedOut (fails i place h e s s' is has entry) trees = Unit {0}

-- The law of the list.
abbrev pub ListLaw : {N B W : Type 0} → (E : Type 0) → Seen N B W → Type 0
ListLaw {N} {B} {W} E m = (i : ℕ) (s s' : PagerState N E) (answer : Result (Unit {0}) WorkerAnswer)
    (run : ListRun m i s answer s') → IsPagerWhole m.values s → NobodyWorks s.core → ListAsksWell run
    → LeadsToTrees m.values s s' (λ trees trees'. EachIsPagedOut run trees)
