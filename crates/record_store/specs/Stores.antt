-- What the calls of a store of records do to its budget and its pager.
use Rattle.pagable_budget.specs.Budgets.{BudgetView, PinsWithin}
use Rattle.pagable_calls.specs.Cells.{OpensCell, Releases, Unpins}
use Rattle.pagable_changes.specs.{Changes.PagesOutChanged, Keys.KeepsTrees}
use Rattle.pagable_core.specs.Roots.{Sets}
use Rattle.pagable_nodes.specs.declared.{one_node.OneNode.OneNode, records.Record.Record}
use Rattle.pagable_pager.specs.View.{AsksStorage, PagerView, Storages, pager_state}
use Rattle.pagable_pager_spec.specs.{
  Basics.{Error, HandleNumber},
  Calls.{Asked, FlushCall},
  Pager.IsNew,
  World.Values,
}
use Rattle.pagable_traits.specs.References.{loose_kind}
use Rattle.record_store.specs.{Handles.{ClonesAll, ReleasesFirst}, Records.handles_in}
use Rattle.std.specs.{
  Arc.arc_value,
  Prelude.{Err, List, None, Ok, Option, Result, Some, length, ℕ, ◌≡◌},
}

module _ {S E H K V : Type 0} (tells : Storages S E (OneNode Record) H K V) where
  -- the record, and clones of the handles of its references in their order
  pub data ViewsRecord (old : PagerView (OneNode Record) S E) (r : Record) : Result (Record × List HandleNumber) Error
      → PagerView (OneNode Record) S E → Type 0 where
    memory-is-short : (e : Error) → e ≡ Error.OutOfMemory → ViewsRecord old r (Err e) old
    references-arent-cloned : (e : Error) (new : PagerView (OneNode Record) S E)
        → ClonesAll tells old (handles_in r) (Err e) new → ViewsRecord old r (Err e) new
    is-viewed : (cs : List HandleNumber) (new : PagerView (OneNode Record) S E)
        → ClonesAll tells old (handles_in r) (Ok cs) new → ViewsRecord old r (Ok (r, cs)) new

  -- the clones of a view are released, if there is one
  pub data GivesBack (old : PagerView (OneNode Record) S E) : Result (Record × List HandleNumber) Error
      → PagerView (OneNode Record) S E → Type 0 where
    nothing-goes-back : (e : Error) → GivesBack old (Err e) old
    clones-go-back : (r : Record) (cs : List HandleNumber) (new : PagerView (OneNode Record) S E)
        → ReleasesFirst tells old cs (length cs) new → GivesBack old (Ok (r, cs)) new

  -- The pin by which a record was read is released, and the handle unpinned. If the cell can't be listed for page-out,
  -- the view's clones are released.
  pub data EndsRead (old : PagerView (OneNode Record) S E) (k h : HandleNumber)
      (r : Result (Record × List HandleNumber) Error) : Result (Record × List HandleNumber) Error
      → PagerView (OneNode Record) S E → Type 0 where
    is-unpinned : (told : Result (Unit {0}) Error) (mid new : PagerView (OneNode Record) S E)
        → Releases tells old k told mid → Unpins tells mid h (Ok tt) new → EndsRead old k h r r new
    is-unlisted : (told : Result (Unit {0}) Error) (e : Error) (mid low new : PagerView (OneNode Record) S E)
        → Releases tells old k told mid → Unpins tells mid h (Err e) low → GivesBack low r new
        → EndsRead old k h r (Err e) new

  -- A read: a pin within the budget, the view of the record that is pinned, and the end of the pin.
  pub data ReadsRecord (says : E → Values (OneNode Record)) (b : BudgetView) (old : PagerView (OneNode Record) S E)
      (h : HandleNumber) : Result (Record × List HandleNumber) Error → BudgetView → PagerView (OneNode Record) S E
      → Type 0 where
    pin-is-refused : (e : Error) (b' : BudgetView) (new : PagerView (OneNode Record) S E)
        → PinsWithin tells says b old h 1 (Err e) b' new → ReadsRecord says b old h (Err e) b' new
    record-is-pinned : (k : HandleNumber) (x : OneNode Record) (r r' : Result (Record × List HandleNumber) Error)
        (b' : BudgetView) (mid low new : PagerView (OneNode Record) S E)
        → PinsWithin tells says b old h 1 (Ok (k, x)) b' mid → ViewsRecord mid (arc_value x.value) r low
        → EndsRead low k h r r' new → ReadsRecord says b old h r' b' new

  -- a handle of the cell with the key that was saved last, if one was
  pub data OpensLast (old : PagerView (OneNode Record) S E) : Option ℕ → Option HandleNumber
      → PagerView (OneNode Record) S E → Type 0 where
    nothing-was-saved : OpensLast old None None old
    last-is-opened : (key : ℕ) (h : HandleNumber) (new : PagerView (OneNode Record) S E)
        → OpensCell tells old (loose_kind 0) 0 key (Ok h) new → OpensLast old (Some key) (Some h) new

  module _ (roots : S → List ℕ → Option ℕ) where
    -- the name is asked for, and stands for what it stood for; and a handle of what was saved under it
    pub record FindsRoot (old : PagerView (OneNode Record) S E) (name : List ℕ) (last : Option HandleNumber)
        (new : PagerView (OneNode Record) S E) : Type 0 where
      pub mid : PagerView (OneNode Record) S E
      pub asks : AsksStorage tells old Asked mid
      pub same : roots mid.storage ≡ roots old.storage
      pub opens : OpensLast mid (roots old.storage name) last new

    -- a new pager over the storage, and what was saved in the storage under the name
    pub record Opens (storage : S) (name : List ℕ) (last : Option HandleNumber)
        (new : PagerView (OneNode Record) S E) : Type 0 where
      pub first : PagerView (OneNode Record) S E
      pub is_new : IsNew (pager_state tells first)
      pub over : first.storage ≡ storage
      pub finds : FindsRoot first name last new

    -- The record is paged out, its key stands under the name, and the storage is flushed, one after the other.
    pub record Saves (says : E → Values (OneNode Record)) (old : PagerView (OneNode Record) S E) (name : List ℕ)
        (h : HandleNumber) (new : PagerView (OneNode Record) S E) : Type 0 where
      pub key : ℕ
      pub paged : PagerView (OneNode Record) S E
      pub named : PagerView (OneNode Record) S E
      pub pages : PagesOutChanged (says old.environment) (pager_state tells old) h (Ok key) (pager_state tells paged)
      pub trees : KeepsTrees (says old.environment) (pager_state tells old) h (Ok key) (pager_state tells paged)
      pub names : Sets name (Some key) (roots paged.storage) (roots named.storage)
      pub asks : AsksStorage tells paged Asked named
      pub flushes : AsksStorage tells named (λ w w'. FlushCall w (Ok tt) w') new
      pub stays : roots new.storage ≡ roots named.storage

    -- A record was saved, and the storage opened again: what is opened is the cell with the saved key.
    pub record OpensSaved (says : E → Values (OneNode Record)) (old : PagerView (OneNode Record) S E) (name : List ℕ)
        (h : HandleNumber) (last : Option HandleNumber) (new : PagerView (OneNode Record) S E) : Type 0 where
      pub saved : PagerView (OneNode Record) S E
      pub saves : Saves says old name h saved
      pub opens : Opens saved.storage name last new
      pub is_saved : (k : HandleNumber) × (last ≡ Some k)
          × OpensCell tells opens.finds.mid (loose_kind 0) 0 saves.key (Ok k) new
