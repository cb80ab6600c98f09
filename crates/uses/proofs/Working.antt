-- A pin, the release of what it gave, other work, and a pin again: what both pins give.
use Rattle.pagable_calls.specs.Paged.{PagesOutList}
use Rattle.pagable_pageout.specs.{Turns.plain, declared.tasks.PageOutError.PageOutError}
use Rattle.pagable_pager.proofs.Invariant.{less-moves}
use Rattle.pagable_pager.specs.View.{AddsNoValue, Calls, PagerView, Storages, pager_state}
use Rattle.pagable_pager_spec.specs.{
  Access.PinsOver,
  Basics.{Error, HandleNumber},
  Calls.ReleaseCall,
  Pager.{IsPagerWhole, PagerState},
  World.{IsLawful, Values},
  declared.{calls.{Call.Call, Reply.Reply}, handle_row.Owner.Owner},
}
use Rattle.pagable_theorems.proofs.Callers.{pinned_again_law}
use Rattle.pagable_theorems.specs.CallerLaws.{Operations, calls, goes-on, is-done, pages-list}
use Rattle.std.proofs.Common.{Ok, Result, subst, ◌∙◌, ◌≡◌}
use Rattle.uses.proofs.Environment.{all-keep, pin-keeps}
use Rattle.uses.specs.Again.{ShowsSame}

module _ {N S E H K V : Type 0} {tells : Storages S E N H K V} where
  -- the release of a handle is a call of the pager's
  releases : (v : Values N) (old new : PagerView N S E) (k : HandleNumber) (told : Result (Unit {0}) Error)
      → Calls AddsNoValue tells old (λ w w'. ReleaseCall w Owner.Caller k told w') new → IsPagerWhole v (pager_state tells new)
      → (later : PagerState N E) → Operations (plain v) (pager_state tells new) later → Operations (plain v) (pager_state tells old) later
  releases v old new k told c well later more = goes-on (pager_state tells old) (pager_state tells new) later
      (calls (Call.Release k) (Reply.Done told) (pager_state tells old) (pager_state tells new)
      (record { step = record { does = c.step }; moves = less-moves tells old new c.only; whole = well })) more

  pub shows-same : (says : E → Values N) (p mid freed later q : PagerView N S E) (h k l : HandleNumber) (x y : N) (told : Result (Unit {0}) Error)
      → IsPagerWhole (says p.environment) (pager_state tells p)
      → IsLawful (says p.environment)
      → PinsOver (says p.environment) (pager_state tells p) h (Ok (k, x)) (pager_state tells mid)
      → Calls AddsNoValue tells mid (λ w w'. ReleaseCall w Owner.Caller k told w') freed → IsPagerWhole (says freed.environment) (pager_state tells freed)
      → Operations (plain (says freed.environment)) (pager_state tells freed) (pager_state tells later)
      → PinsOver (says later.environment) (pager_state tells later) h (Ok (l, y)) (pager_state tells q)
      → ShowsSame (says p.environment) (pager_state tells p) h x l y (pager_state tells q)
  shows-same says p mid freed later q h k l x y told well lawful first release whole work again =
      let (run, shown) = first.pins in
      let still : freed.environment ≡ p.environment = release.only.environment ∙ pin-keeps run in
      let is : later.environment ≡ p.environment = all-keep work ∙ still in
      let now : PinsOver (says p.environment) (pager_state tells later) h (Ok (l, y)) (pager_state tells q) =
      subst (λ e. PinsOver (says e) (pager_state tells later) h (Ok (l, y)) (pager_state tells q)) is again in
      let (run_again, shown_again) = now.pins in
      let v : Values N = says p.environment in
      let between : Operations (plain v) (pager_state tells mid) (pager_state tells later) = releases v mid freed k told release
      (subst (λ e. IsPagerWhole (says e) (pager_state tells freed)) still whole) (pager_state tells later)
      (subst (λ e. Operations (plain (says e)) (pager_state tells freed) (pager_state tells later)) still work) in
      record {
        k = k;
        mid = pager_state tells mid;
        later = pager_state tells later;
        first = run;
        shown = shown;
        between = between;
        again = run_again;
        shown_again = shown_again;
        same = λ nobody settled trees stands asks others last. pinned_again_law E (plain v) (pager_state tells p) (pager_state tells mid)
            (pager_state tells later)
            (pager_state tells q) trees h k l x y
            run between run_again well nobody lawful settled stands asks others last shown shown_again;
      }

-- a page-out of the list is one operation
pub paged-out : {N E : Type 0} {v : Values N} {s s' : PagerState N E} {r : Result (Unit {0}) PageOutError} → PagesOutList v s r s' → Operations (plain v) s s'
paged-out {s = s} {s'} pages = goes-on s s' s' (pages-list _ _ s s' pages.run) (is-done s')
