-- Page-out of one cell: the calls that list a clone of its handle, and the page-out of that entry.
use Rattle.pagable_calls.specs.Cells.{Releases, Unpins}
use Rattle.pagable_pageout.specs.{PageOuts.PagesEntryIfThere, declared.tasks.PageOutError.PageOutError}
use Rattle.pagable_pager.specs.View.{
  AddsNoValue,
  Calls,
  ChangesOnlyTables,
  PagerView,
  Storages,
  pager_core,
  pager_state,
}
use Rattle.pagable_pager_spec.specs.{
  Basics.{Error, HandleNumber, OptionalDataKey},
  Calls.{CloneCall, KeyCall, LoosenCall, ScheduleCall},
  Pager.PagerState,
  World.Values,
  declared.handle_row.Owner.Owner,
}
use Rattle.std.specs.Prelude.{Err, None, Ok, Option, Result, Some, length, ℕ, ◌+◌, ◌≡◌}

-- the last entry of the list is paged out, if there is one
pub data PagesLastEntry {N E : Type 0} (v : Values N) (s : PagerState N E) : Result (Option ℕ) PageOutError
    → PagerState N E → Type 0 where
  list-is-empty : length s.core.list ≡ 0 → PagesLastEntry v s (Ok None) s
  entry-is-last : (place : ℕ) (r : Result (Option ℕ) PageOutError) (s' : PagerState N E) → length s.core.list
      ≡ place + 1 → PagesEntryIfThere v place r s s' → PagesLastEntry v s r s'

-- the last entry is paged out, and its key returned; `Closed` if there is none
pub data PagesLast {N E : Type 0} (v : Values N) (s : PagerState N E) : Result ℕ PageOutError → PagerState N E
    → Type 0 where
  none-is-last : (s' : PagerState N E) → PagesLastEntry v s (Ok None) s'
      → PagesLast v s (Err (PageOutError.Failed Error.Closed)) s'
  last-has-key : (key : ℕ) (s' : PagerState N E) → PagesLastEntry v s (Ok (Some key)) s' → PagesLast v s (Ok key) s'
  last-fails : (why : PageOutError) (s' : PagerState N E) → PagesLastEntry v s (Err why) s' → PagesLast v s (Err why) s'

module _ {N S E H K V : Type 0} (tells : Storages S E N H K V) where
  abbrev pub Clones : PagerView N S E → HandleNumber → Result HandleNumber Error → PagerView N S E → Type 0
  Clones old h r new = Calls ChangesOnlyTables tells old (λ w w'. CloneCall w Owner.Caller h r w') new

  -- a clone of the handle; a Pinned clone is made loose
  pub record ClonesLoosely (old : PagerView N S E) (h c : HandleNumber) (new : PagerView N S E) : Type 0 where
    pub mid : PagerView N S E
    pub told : Result HandleNumber Error
    pub clones : Clones old h (Ok c) mid
    pub loosens : Calls ChangesOnlyTables tells mid (λ w w'. LoosenCall w Owner.Caller c told w') new

  abbrev pub Schedules : PagerView N S E → HandleNumber → Result (Unit {0}) Error → PagerView N S E → Type 0
  Schedules old h told new = Calls AddsNoValue tells old (λ w w'. ScheduleCall w Owner.Caller h told w') new

  -- a clone of the handle is unpinned and listed; or it is released
  pub data ListsClone (old : PagerView N S E) (h : HandleNumber) : Result (Unit {0}) Error → PagerView N S E
      → Type 0 where
    clone-is-refused : (e : Error) (new : PagerView N S E) → Clones old h (Err e) new → ListsClone old h (Err e) new
    clone-waits : (c : HandleNumber) (mid low new : PagerView N S E) → ClonesLoosely old h c mid
        → Unpins tells mid c (Ok tt) low → Schedules low c (Ok tt) new
        → ListsClone old h (Ok tt) new
    clone-stays-pinned : (c : HandleNumber) (e : Error) (told : Result (Unit {0}) Error) (mid low new : PagerView N S E)
        → ClonesLoosely old h c mid → Unpins tells mid c (Err e) low
        → Releases tells low c told new → ListsClone old h (Err e) new
    clone-is-unlisted : (c : HandleNumber) (e : Error) (told : Result (Unit {0}) Error)
        (mid low late new : PagerView N S E) → ClonesLoosely old h c mid → Unpins tells mid c (Ok tt) low
        → Schedules low c (Err e) late → Releases tells late c told new → ListsClone old h (Err e) new

  -- a clone is listed, and its entry, the last one, is paged out; a closed storage lists nothing
  pub data PagesOutClone (says : E → Values N) (old : PagerView N S E) (h : HandleNumber) : Result ℕ PageOutError
      → PagerView N S E → Type 0 where
    clone-is-not-listed : (e : Error) (new : PagerView N S E) → ListsClone old h (Err e) new
        → PagesOutClone says old h (Err (PageOutError.Failed e)) new
    clone-is-listed : (r : Result ℕ PageOutError) (mid new : PagerView N S E) → ListsClone old h (Ok tt) mid
        → PagesLast (says mid.environment) (pager_state tells mid) r (pager_state tells new)
        → PagesOutClone says old h r new

  -- the key of a cell that has one; or its page-out
  pub data PagesOutCell (says : E → Values N) (old : PagerView N S E) (h : HandleNumber) : Result ℕ PageOutError
      → PagerView N S E → Type 0 where
    no-handle : (e : Error) → KeyCall (pager_core tells old) h (Err e)
        → PagesOutCell says old h (Err (PageOutError.Failed e)) old
    has-key : (key : ℕ) → KeyCall (pager_core tells old) h (Ok (OptionalDataKey.Some key))
        → PagesOutCell says old h (Ok key) old
    has-no-key : (r : Result ℕ PageOutError) (new : PagerView N S E)
        → KeyCall (pager_core tells old) h (Ok OptionalDataKey.None) → PagesOutClone says old h r new
        → PagesOutCell says old h r new
