-- Calls of a pager on several handles, one after another.
use Rattle.pagable_calls.specs.{Cells.{IsBorn, Releases, Unpins}, PageOuts.Clones}
use Rattle.pagable_pager.specs.View.{Calls, ChangesOnlyTables, PagerView, Storages, pager_core}
use Rattle.pagable_pager_spec.specs.{
  Basics.{Error, HandleNumber},
  Calls.TakeCall,
  World.{Core, Values},
  declared.handle_row.Owner.Owner,
}
use Rattle.std.specs.Prelude.{Err, List, None, Ok, Option, Result, Some, length, slice_get, ℕ, [], ◌++◌, ◌+◌, ◌∷◌, ◌≡◌}

module _ {N S E H K V : Type 0} (tells : Storages S E N H K V) where
  -- the first n of the handles are released, whatever each release returns; below: each release succeeds
  pub data ReleasesFirst (old : PagerView N S E) (hs : List HandleNumber) : ℕ → PagerView N S E → Type 0 where
    none-is-released : ReleasesFirst old hs 0 old
    one-more-is-released : (n : ℕ) (h : HandleNumber) (told : Result (Unit {0}) Error) (mid new : PagerView N S E)
        → ReleasesFirst old hs n mid → slice_get hs n ≡ Some h → Releases tells mid h told new
        → ReleasesFirst old hs (n + 1) new

  pub data FirstAreGone (old : PagerView N S E) (hs : List HandleNumber) : ℕ → PagerView N S E → Type 0 where
    none-is-gone : FirstAreGone old hs 0 old
    one-more-is-gone : (n : ℕ) (h : HandleNumber) (mid new : PagerView N S E) → FirstAreGone old hs n mid
        → slice_get hs n ≡ Some h → Releases tells mid h (Ok tt) new → FirstAreGone old hs (n + 1) new

  -- the handles are released in their order, up to the first release that fails
  pub data ReleasesEach (old : PagerView N S E) (hs : List HandleNumber) : Result (Unit {0}) Error → PagerView N S E
      → Type 0 where
    all-are-gone : (new : PagerView N S E) → FirstAreGone old hs (length hs) new → ReleasesEach old hs (Ok tt) new
    release-fails : (n : ℕ) (h : HandleNumber) (e : Error) (mid new : PagerView N S E) → FirstAreGone old hs n mid
        → slice_get hs n ≡ Some h → Releases tells mid h (Err e) new → ReleasesEach old hs (Err e) new

  -- the entry at this place leaves the list of cells that wait for page-out, if there is one
  abbrev pub Takes : PagerView N S E → ℕ → Option HandleNumber → PagerView N S E → Type 0
  Takes old i taken new = Calls ChangesOnlyTables tells old (λ w w'. TakeCall w Owner.Caller i taken w') new

  -- and its handle is released
  pub data ReleasesEntry (old : PagerView N S E) (i : ℕ) : Result (Unit {0}) Error → PagerView N S E → Type 0 where
    entry-is-released : (h : HandleNumber) (told : Result (Unit {0}) Error) (mid new : PagerView N S E)
        → Takes old i (Some h) mid → Releases tells mid h told new → ReleasesEntry old i told new
    there-is-no-entry : (new : PagerView N S E) → Takes old i None new → ReleasesEntry old i (Ok tt) new

  -- the entries from the last to this place are released, and each release succeeds
  pub data EntriesAreGone (old : PagerView N S E) : ℕ → PagerView N S E → Type 0 where
    no-entry-is-gone : EntriesAreGone old (length (pager_core tells old).list) old
    one-more-entry-is-gone : (i : ℕ) (mid new : PagerView N S E) → EntriesAreGone old (i + 1) mid
        → ReleasesEntry mid i (Ok tt) new → EntriesAreGone old i new

  -- the entries of the list are released from the last to the first, up to the first release that fails
  pub data ReleasesEntries (old : PagerView N S E) : Result (Unit {0}) Error → PagerView N S E → Type 0 where
    all-entries-are-gone : (new : PagerView N S E) → EntriesAreGone old 0 new → ReleasesEntries old (Ok tt) new
    entry-fails : (i : ℕ) (e : Error) (mid new : PagerView N S E) → EntriesAreGone old (i + 1) mid
        → ReleasesEntry mid i (Err e) new → ReleasesEntries old (Err e) new

  -- the first n of the handles are cloned
  pub data ClonesFirst (old : PagerView N S E) (hs : List HandleNumber) : ℕ → List HandleNumber → PagerView N S E
      → Type 0 where
    none-is-cloned : ClonesFirst old hs 0 [] old
    one-more-is-cloned : (n : ℕ) (h c : HandleNumber) (cs : List HandleNumber) (mid new : PagerView N S E)
        → ClonesFirst old hs n cs mid → slice_get hs n ≡ Some h → Clones tells mid h (Ok c) new
        → ClonesFirst old hs (n + 1) (cs ++ c ∷ []) new

  -- a clone is refused; or there is no place for it in a list, and it is released
  pub data RefusesClone (old : PagerView N S E) (h : HandleNumber) (e : Error) : PagerView N S E → Type 0 where
    clone-is-refused : (new : PagerView N S E) → Clones tells old h (Err e) new → RefusesClone old h e new
    clone-has-no-place : (c : HandleNumber) (told : Result (Unit {0}) Error) (mid new : PagerView N S E)
        → e ≡ Error.OutOfMemory → Clones tells old h (Ok c) mid → Releases tells mid c told new
        → RefusesClone old h e new

  -- one more clone, at the end of those made so far; or these stay as they were
  pub data ClonesOneMore (old : PagerView N S E) (h : HandleNumber) (cs : List HandleNumber) : Result (Unit {0}) Error
      → List HandleNumber → PagerView N S E → Type 0 where
    one-is-appended : (c : HandleNumber) (new : PagerView N S E) → Clones tells old h (Ok c) new
        → ClonesOneMore old h cs (Ok tt) (cs ++ c ∷ []) new
    none-is-appended : (e : Error) (new : PagerView N S E) → RefusesClone old h e new
        → ClonesOneMore old h cs (Err e) cs new

  -- The handles are cloned in their order; if one can't be, the clones made so far are released.
  pub data ClonesAll (old : PagerView N S E) (hs : List HandleNumber) : Result (List HandleNumber) Error
      → PagerView N S E → Type 0 where
    all-are-cloned : (cs : List HandleNumber) (new : PagerView N S E) → ClonesFirst old hs (length hs) cs new
        → ClonesAll old hs (Ok cs) new
    one-is-refused : (n : ℕ) (h : HandleNumber) (cs : List HandleNumber) (e : Error) (mid low new : PagerView N S E)
        → ClonesFirst old hs n cs mid → slice_get hs n ≡ Some h → RefusesClone mid h e low
        → ReleasesFirst low cs (length cs) new → ClonesAll old hs (Err e) new

  -- A new record is unpinned; if its cell can't be listed for page-out, the record is released.
  pub data UnpinsNew (old : PagerView N S E) (h : HandleNumber) : Result HandleNumber Error → PagerView N S E
      → Type 0 where
    cell-waits : (new : PagerView N S E) → Unpins tells old h (Ok tt) new → UnpinsNew old h (Ok h) new
    cell-is-let-go : (e : Error) (told : Result (Unit {0}) Error) (mid new : PagerView N S E)
        → Unpins tells old h (Err e) mid → Releases tells mid h told new → UnpinsNew old h (Err e) new

  -- A value is inserted that is made of these handles (`IsMade`), and its handle pins it. Or it can't be made, or the
  -- pager refuses it; the handles stay the caller's then.
  pub data InsertsMade (v : Values N) (IsMade : Core → List HandleNumber → N → Type 0)
      (old : PagerView N S E) (hs : List HandleNumber) : Result HandleNumber Error → PagerView N S E → Type 0 where
    isnt-made : (e : Error) → InsertsMade v IsMade old hs (Err e) old
    birth-is-refused : (x : N) (refused : Error × N) (new : PagerView N S E) → IsMade (pager_core tells old) hs x
        → IsBorn tells v old x (Err refused) new → InsertsMade v IsMade old hs (Err refused.0) new
    is-born : (x : N) (h : HandleNumber) (new : PagerView N S E) → IsMade (pager_core tells old) hs x
        → IsBorn tells v old x (Ok h) new → InsertsMade v IsMade old hs (Ok h) new

  -- An insertion after which nothing pins the value. It owns the handles, which are released if it isn't inserted.
  pub data InsertsUnpinned (v : Values N) (IsMade : Core → List HandleNumber → N → Type 0)
      (old : PagerView N S E) (hs : List HandleNumber) : Result HandleNumber Error → PagerView N S E → Type 0 where
    isnt-inserted : (e : Error) (mid new : PagerView N S E) → InsertsMade v IsMade old hs (Err e) mid
        → ReleasesFirst mid hs (length hs) new → InsertsUnpinned v IsMade old hs (Err e) new
    is-inserted : (h : HandleNumber) (r : Result HandleNumber Error) (mid new : PagerView N S E)
        → InsertsMade v IsMade old hs (Ok h) mid → UnpinsNew mid h r new
        → InsertsUnpinned v IsMade old hs r new

  -- an insertion over clones of the handles
  pub data InsertsOver (v : Values N) (IsMade : Core → List HandleNumber → N → Type 0)
      (old : PagerView N S E) (hs : List HandleNumber) : Result HandleNumber Error → PagerView N S E → Type 0 where
    handles-arent-cloned : (e : Error) (new : PagerView N S E) → ClonesAll old hs (Err e) new
        → InsertsOver v IsMade old hs (Err e) new
    goes-over-clones : (cs : List HandleNumber) (r : Result HandleNumber Error) (mid new : PagerView N S E)
        → ClonesAll old hs (Ok cs) mid → InsertsUnpinned v IsMade mid cs r new
        → InsertsOver v IsMade old hs r new
