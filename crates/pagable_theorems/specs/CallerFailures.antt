-- The laws of failures of whole operations on a pager: a pin or a read of what was paged out fails only by chance; and
-- which page-outs, pins and reads fail as too deep.
use Rattle.pagable_pager_spec.specs.{
  Access.{AccessState, EntryRun, ItemRun, LeadsToTrees, ListRun, PinRun, ReadRun, entry-is-walked, fails},
  Access.{item-is-walked, no-more, pages, skips},
  Basics.{Among, Error, HandleNumber, Identity, OptionalDataKey, Tree, type_of},
  Events.{entry_task, no_shelf},
  Kinds.is_loose,
  Order.{MetError, ReadsTooDeep},
  Pager.{IsPagerWhole, PagerStandsFor, PagerState, SameTrees},
  Refusals.Owns,
  Runs.HoldsSettled,
  WorkerClaims.{IsFormlessTask, IsOfChance, IsTooDeepTask},
  Workers.IsPublished,
  World.{IsLawful, SameShelf, Seen, Task, Values, Written, key_at, of_item, row_at, type_at},
  declared.events.{Action.Action, WorkerAnswer.WorkerAnswer},
  declared.handle_row.{HandleRow.HandleRow, Owner.Owner},
}
use Rattle.pagable_theorems.specs.{
  CallerLaws.{AskWell, Operation, Operations, PinAsksWell, ReadAsksWell, goes-on, is-done, pages-item, pages-list},
  PageOutLaws.{ItemAsksWell, ListAsksWell, NobodyWorks},
}
use Rattle.std.specs.Prelude.{Err, List, Result, Some, ℕ, ◌≡◌, ◌⊎◌}

-- ---- which keys page-outs have published, whatever they answered

abbrev pub EntryPublishes : {N E B W : Type 0} {m : Seen N B W} {s s' : PagerState N E} {place : ℕ}
    {answer : WorkerAnswer} → EntryRun m s place answer s' → Identity → ℕ → Type 0
EntryPublishes (entry-is-walked h row t n steps answer mid s' is kinds starts run) i key =
    (height : ℕ) × IsPublished s'.shelf i key height
EntryPublishes run i key = ⊥

unfoldable pub ListPublishes : {N E B W : Type 0} {m : Seen N B W} {place : ℕ} {s s' : PagerState N E}
    {answer : Result (Unit {0}) WorkerAnswer}
    → ListRun m place s answer s' → Identity → ℕ → Type 0
ListPublishes (no-more s) i key = ⊥
ListPublishes (skips place below old h told answer s mid low s' is has takes releases more) i key =
    ListPublishes more i key
ListPublishes (pages place below first h answer s mid s' is has entry more) i key =
    EntryPublishes entry i key ⊎ ListPublishes more i key
ListPublishes (fails place below h e s s' is has entry) i key = EntryPublishes entry i key

-- the operation published the key for the identity
abbrev pub Publishes : {N E B W : Type 0} {m : Seen N B W} {s s' : PagerState N E} → Operation m s s' → Identity → ℕ
    → Type 0
Publishes (pages-item item answer s s' new run) i key = (height : ℕ) × IsPublished s'.shelf i key height
Publishes (pages-list place answer s s' run) i key = ListPublishes run i key
Publishes one i key = ⊥

-- one of the operations, a page-out of an item or of the list, published the key for the identity
unfoldable pub HavePublished : {N E B W : Type 0} {m : Seen N B W} {s s' : PagerState N E} → Operations m s s'
    → Identity → ℕ → Type 0
HavePublished (is-done s) i key = ⊥
HavePublished (goes-on s mid s' one more) i key = Publishes one i key ⊎ HavePublished more i key

-- The law of what was paged out: if the cell of a loose handle of the caller's has a key that one of the operations
-- published for the cell's node, a pin by the handle fails only by chance (IsOfChance).
abbrev pub PagedOutIsPinned : {N B W : Type 0} → (E : Type 0) → Seen N B W → Type 0
PagedOutIsPinned {N} {B} {W} E m = (s later s' : PagerState N E) (trees : ℕ → Tree) (h : HandleNumber)
    (row : HandleRow) (i : Identity) (key : ℕ) (e : Error)
    (operations : Operations m s later) (pin : PinRun m.values later h (Err e) s')
    → IsPagerWhole m.values s → NobodyWorks s.core → IsLawful m.values → HoldsSettled m.values s
    → PagerStandsFor m.values s trees → AskWell operations → PinAsksWell pin
    → Owns later.core Owner.Caller h is_loose row → key_at later.core row.node.0 ≡ OptionalDataKey.Some key
    → i.node ≡ row.node → HavePublished operations i key
    → IsOfChance e

-- The law of keys that were published: a read of such a key, as a value of the type for which it was published, fails
-- only by chance.
abbrev pub PublishedIsRead : {N B W : Type 0} → (E : Type 0) → Seen N B W → Type 0
PublishedIsRead {N} {B} {W} E m = (s later s' : PagerState N E) (trees : ℕ → Tree) (i : Identity) (key t : ℕ)
    (e : Error) (operations : Operations m s later) (read : ReadRun m.values later key t (Err e) s')
    → IsPagerWhole m.values s → NobodyWorks s.core → IsLawful m.values → HoldsSettled m.values s
    → PagerStandsFor m.values s trees → AskWell operations → ReadAsksWell read
    → t ≡ type_of i.kind.0 → HavePublished operations i key
    → IsOfChance e

-- ---- paths that are too long, and values without a form

-- What a worker's answer tells of its task, by the steps that it made. If it is a key, no path of too many references
-- leads down from the task, and no value below it is without a form. If such a path or value is below it, and no step
-- failed except as too deep, it is that the worker failed as too deep.
pub record TellsDepth {N W : Type 0} (v : Values N) (trees : ℕ → Tree) (task : Task) (steps : List (Action W))
    (answer : WorkerAnswer) : Type 0 where
  pub key_is_shallow : (key : ℕ) → answer ≡ WorkerAnswer.Key key → (¬ IsTooDeepTask trees task)
      × (¬ IsFormlessTask v.types trees task)
  pub deep_fails : ((step : Action W) (e : Error) → Among steps step → MetError step e → e ≡ Error.TooDeep)
      → IsTooDeepTask trees task ⊎ IsFormlessTask v.types trees task → answer ≡ WorkerAnswer.Failed Error.TooDeep

-- of a page-out of an item, if its worker began; below: of a page-out of an entry
abbrev pub ItemTells : {N E B W : Type 0} {m : Seen N B W} {s s' : AccessState N E} {item : Written}
    {answer : WorkerAnswer} → ItemRun m s item answer s' → (ℕ → Tree) → Type 0
ItemTells {m = m} {item = item} (item-is-walked n steps answer mid s' starts run) trees =
    TellsDepth m.values trees (of_item item) steps answer
ItemTells run trees = Unit {0}

abbrev pub EntryTells : {N E B W : Type 0} {m : Seen N B W} {s s' : PagerState N E} {place : ℕ}
    {answer : WorkerAnswer} → EntryRun m s place answer s' → (ℕ → Tree) → Type 0
EntryTells {m = m} (entry-is-walked h row t n steps answer mid s' is kinds starts run) trees =
    TellsDepth m.values trees (entry_task h row t) steps answer
EntryTells run trees = Unit {0}

-- so it is of each entry that a page-out of the list comes to; nodes keep their trees from one entry to the next
unfoldable pub EachTells : {N E B W : Type 0} {m : Seen N B W} {i : ℕ} {s s' : PagerState N E}
    {answer : Result (Unit {0}) WorkerAnswer}
    → ListRun m i s answer s' → (ℕ → Tree) → Type 0
EachTells (no-more s) trees = Unit {0}
EachTells {m = m} (skips i place key h told answer s mid low s' is has takes releases more) trees =
    (trees' : ℕ → Tree) × SameTrees s.core.last.node trees trees' × PagerStandsFor m.values low trees'
    × EachTells more trees'
EachTells {m = m} (pages i place key h answer s mid s' is has entry more) trees =
    (trees' : ℕ → Tree) × SameTrees s.core.last.node trees trees' × PagerStandsFor m.values mid trees'
    × EntryTells entry trees' × EachTells more trees'
EachTells {m = m} (fails i place h e s s' is has entry) trees =
    (trees' : ℕ → Tree) × SameTrees s.core.last.node trees trees' × PagerStandsFor m.values s' trees'
    × EntryTells entry trees'

-- The laws of items, each on a new table, and of the list. They speak of the trees after each page-out, which are the
-- same as before for each node that there was.
abbrev pub ItemTellsDepth : {N B W : Type 0} → (E : Type 0) → Seen N B W → Type 0
ItemTellsDepth {N} {B} {W} E m = (s s' : AccessState N E) (item : W) (answer : WorkerAnswer)
    (run : ItemRun m s (m.written_of item) answer s') → IsPagerWhole m.values s.pager
    → NobodyWorks s.pager.core → SameShelf no_shelf s.shelf → ItemAsksWell run
    → LeadsToTrees m.values s.pager s'.pager (λ trees trees'. ItemTells run trees')

abbrev pub ListTellsDepth : {N B W : Type 0} → (E : Type 0) → Seen N B W → Type 0
ListTellsDepth {N} {B} {W} E m = (i : ℕ) (s s' : PagerState N E) (answer : Result (Unit {0}) WorkerAnswer)
    (run : ListRun m i s answer s') → IsPagerWhole m.values s → NobodyWorks s.core → ListAsksWell run
    → LeadsToTrees m.values s s' (λ trees trees'. EachTells run trees)

-- The law of pins: a pin fails as too deep only if the cell of its handle has a key, and reading the key reaches a blob
-- that is too deep, or one that enters a level too many.
abbrev pub PinIsDeep : {N B W : Type 0} → (E : Type 0) → Seen N B W → Type 0
PinIsDeep {N} {B} {W} E m = (s s' : PagerState N E) (trees : ℕ → Tree) (h : HandleNumber)
    (run : PinRun m.values s h (Err Error.TooDeep) s')
    → IsPagerWhole m.values s → IsLawful m.values → HoldsSettled m.values s → PagerStandsFor m.values s trees
    → PinAsksWell run
    → (row : HandleRow) × (t : ℕ) × (key : ℕ) × (row_at s.core h ≡ Some row) × (type_at s.core row.node.0 ≡ Some t)
    × (key_at s.core row.node.0 ≡ OptionalDataKey.Some key) × ReadsTooDeep m.values.types s'.core.stored t key

-- the law of reads: so it is for a read of a key
abbrev pub ReadIsDeep : {N B W : Type 0} → (E : Type 0) → Seen N B W → Type 0
ReadIsDeep {N} {B} {W} E m = (s s' : PagerState N E) (trees : ℕ → Tree) (key t : ℕ)
    (run : ReadRun m.values s key t (Err Error.TooDeep) s')
    → IsPagerWhole m.values s → IsLawful m.values → HoldsSettled m.values s → PagerStandsFor m.values s trees
    → ReadAsksWell run → ReadsTooDeep m.values.types s'.core.stored t key
