-- Page-outs of an item and of the entries of the list, from the runs of their workers.
use Rattle.pagable_load.proofs.LoadSteps.{acts_same, acts_then}
use Rattle.pagable_load.specs.{AccessView.{Acting, as_caller}, WorkerCalls.{HasPagedLeaves, PagesLeaf, PagesLeaves, RefusesEntry, ReleasesIfKeyed, StartsEntry, no-leaf, one-more-leaf}}
use Rattle.pagable_pageout.proofs.{
  Words.{Action, ArcRef, Bool, Environments, Equalities, Err, Error, HandleNumber, Hashes, IsPagerWhole, List, MakesCall, NeedsNoPager, Nodes, None, Ok},
  Words.{Option, Orders, Owner, PageOutError, PagerState, PartialOrders, Result, RunsToAnswer, SameShelf, Shelf, Some, Task, Todo, Values, WorkerAnswer},
  Words.{Written, acts_all, acts_map, answer_of, ap, arith, basics, false, identity_of, inl, length, no_shelf, plain, refl, subst, sym, tells_map, tests},
  Words.{todo_of, true, ℕ, ◌+◌, ◌<◌, ◌∙◌, ◌∷◌, ◌≡◌, ◌≤◌},
  WorkerTurns.{alike, plain-fits, same-shelf},
}
use Rattle.pagable_pageout.specs.{
  PageOuts.{HasPaged, PagesAt, PagesEntry, PagesEntryIfThere, PagesItem, PagesLast, PagesList, with_some_key},
  Turns.{Fits, IsAlone, Walked},
}
use Rattle.pagable_pager_spec.specs.{
  Access.{AccessState, EntryHas, EntryRun, WorkerRun, WorkerStarts, entry-is-refused, entry-is-walked, fails, item-is-walked, no-entry-worker, no-more},
  Access.{no-worker, pages},
  Access.{skips, worker-ends, worker-goes-on},
  Events.entry_task,
  Kinds.owner_worker,
  Refusals.WorkerFault,
  Workers.first_todo,
  World.{Alike, Seen, of_entry, of_item},
}
use Rattle.pagable_theorems.proofs.{
  LoadResults.{entry-answered, item-answered},
  StepBounds.{Spares, none-shorter, release-spares-list, spares-then, walk-spares-list},
}
use Rattle.pagable_value_spec.specs.declared.{data_key.OptionalDataKey.OptionalDataKey, numbers.WorkerNumber.WorkerNumber}
use Rattle.std.proofs.{Common.◌≢◌, lemmas.List.Edits.length-remove}
use Rattle.std.specs.List.{remove}

-- whoever acts for the caller does so again after a worker
pub is-caller : {E : Type 0} (acting : Acting E) → acting.me ≡ Owner.Caller → as_caller acting ≡ acting
is-caller acting mine = ap (λ me. record acting { me = me }) (sym mine)

-- after a worker the pager is whole, and the handles of the list are left
run-keeps : {N E B W : Type 0} {m : Seen N B W} {n : ℕ} {todo : List Todo} {s s' : AccessState N E} {steps : List (Action W)} {answer : WorkerAnswer}
    → WorkerRun m n todo s steps answer s' → IsPagerWhole m.values s'.pager × Spares Owner.List s.pager.core s'.pager.core
run-keeps {m = m} {n} (worker-ends todo next step answer s s' w is) =
    (w.whole, walk-spares-list m n (record { core = s.pager.core; shelf = s.shelf; todo = todo }) w.after s'.pager.core step _ w.does w.ends)
run-keeps {m = m} {n} (worker-goes-on todo next step steps answer s mid s' w is more) =
    let k = run-keeps more in (
      k.0,
      spares-then Owner.List (walk-spares-list m n (record { core = s.pager.core; shelf = s.shelf; todo = todo }) w.after mid.pager.core step _ w.does w.ends)
          k.1,
    )

-- the list without one entry, and what comes then
entries-stay : {N E : Type 0} {place : ℕ} (s mid t : PagerState N E) → place < length s.core.list → mid.core.list ≡ remove s.core.list place
    → length mid.core.list ≤ length t.core.list → place ≤ length t.core.list
entries-stay s mid t within is longer = grind (basics, length-remove)

module _ {N E : Type 0} {v : Values N} where
  pub stays-called : {s : PagerState N E} → IsPagerWhole v s → MakesCall v (λ w'. Alike s.core w') s s
  stays-called {s} whole = record { step = alike s.core; moves = record { each = λ n x is. inl is; environment = refl }; whole = whole }

  module _ {shelf : Shelf} {item : Written} where
    pub item-unbegun : {e : Error} (s t : PagerState N E) → WorkerFault s.core e × MakesCall v (λ w'. Alike s.core w') s t
        → PagesItem v shelf item shelf (WorkerAnswer.Failed e) s t
    item-unbegun s t (why, call) = grind (basics, same-shelf, no-worker)

    pub item-unstarted : (e : Error) → e ≡ Error.OutOfMemory → (s : PagerState N E) → PagesItem v shelf item shelf (WorkerAnswer.Failed e) s s
    item-unstarted e is s = grind (basics, stays-called, same-shelf, no-worker)

    pub item-walked : {X XN XH XK XV : Type 0} {g : Environments X XN XH XK XV} {gh : Hashes XH} {go : Orders XK} {gq : Equalities XK} {gp : PartialOrders XK}
        {gn : Nodes XN X XN XH XK XV} {me : Owner} {n : ℕ} {task : Task X XN XH XK XV g gh go gq gp gn} {below : List Todo} {shelf' : Shelf}
        {answer : WorkerAnswer} → me ≡ owner_worker n → NeedsNoPager task
        → todo_of task ∷ below ≡ first_todo (of_item item) → {s mid t : PagerState N E} → WorkerStarts v s.core s n mid
        → RunsToAnswer v me n shelf task below shelf' answer mid t
        → PagesItem v shelf item shelf' answer s t
    item-walked {me = me} {n = n} {task = task} mine is_plain first {mid = mid} starts runs = record {
      over = λ whole all.
          let fits : Fits v me n task mid = record { me_is = mine; whole = starts.begins.whole; task_fits = plain-fits n mid.core task is_plain } in
          let alone : IsAlone n shelf = λ i slot still. let done = all i slot still.claimed in let none = still.no_result_yet in absurd (grind arith) in
          let walked = rw first at runs.runs fits alone in
          record { run = item-is-walked n walked.steps _ mid _ starts walked.run; all_have_results = item-answered (plain v) n item walked.run all };
    }

  -- ---- an entry

  pub entry-refused : (place : ℕ) (e : Error) (s t : PagerState N E) → RefusesEntry v s place e t → PagesEntry v place (WorkerAnswer.Failed e) s t
  entry-refused place e s t r = grind (basics, entry-is-refused, no-entry-worker)

  pub entry-gone : (place : ℕ) (s t : PagerState N E) → RefusesEntry v s place Error.NoSuchHandle t → length s.core.list ≤ place
  entry-gone place s t r = grind basics

  pub entry-walked : {X XN XH XK XV : Type 0} {g : Environments X XN XH XK XV} {gh : Hashes XH} {go : Orders XK} {gq : Equalities XK} {gp : PartialOrders XK}
      {gn : Nodes XN X XN XH XK XV} {place : ℕ} {me : Owner} {n : WorkerNumber} {r : ArcRef} {shelf : Shelf} {task : Task X XN XH XK XV g gh go gq gp gn}
      {below : List Todo} {shelf' : Shelf} {answer : WorkerAnswer} → me ≡ owner_worker n.0
      → NeedsNoPager task → todo_of task ∷ below ≡ first_todo (of_entry r.handle (identity_of r)) → SameShelf no_shelf shelf → {s mid t : PagerState N E}
      → StartsEntry v s place n r mid
      → RunsToAnswer v me n.0 shelf task below shelf' answer mid t
      → PagesEntry v place answer s t
  entry-walked {me = me} {n = n} {r = r} {shelf = shelf} {task = task} {below = below} {shelf' = shelf'} {answer = answer}
      mine is_plain first same {s = s} {mid = mid} {t = t} starts runs = record {
        pages = λ whole listed.
            let fits : Fits v me n.0 task mid =
            record { me_is = mine; whole = starts.starts.begins.whole; task_fits = plain-fits n.0 mid.core task is_plain } in
            let empty : shelf ≡ no_shelf = λ p. record { slots = λ i. same.slots i p; waits = λ q. same.waits q p } in
            let task_is : first_todo (of_entry r.handle (identity_of r)) ≡ first_todo (entry_task starts.h starts.row starts.type) =
            ap (λ (x : ArcRef). first_todo (of_entry x.handle (identity_of x))) starts.is in
            let alone : IsAlone n.0 shelf = λ i slot still. let claimed = sym (same.slots i) ∙ still.claimed in absurd (cc) in
            let walked = subst (λ todo. Walked v n.0 todo mid no_shelf answer t shelf') (first ∙ task_is)
            (subst (λ x. Walked v n.0 (todo_of task ∷ below) mid x answer t shelf') empty (runs.runs fits alone)) in
            let keeps = run-keeps walked.run in
            record {
              run = entry-is-walked starts.h starts.row starts.type n.0 walked.steps answer mid _ starts.entry starts.kinds starts.starts walked.run;
              whole = keeps.0;
              long = entries-stay s mid t listed starts.starts.begins.step.list (none-shorter starts.starts.begins.whole.whole keeps.0.whole keeps.1);
              unfailed = entry-answered (plain v) n.0 starts.h _ walked.run (λ i. refl);
            };
      }

  pub entry-there : (place : ℕ) (answer : Result ℕ PageOutError) (s t : PagerState N E) → PagesEntry v place (answer_of answer) s t
      → PagesEntryIfThere v place (with_some_key answer) s t
  entry-there place (Ok key) s t pages_it = pages_it
  entry-there place (Err why) s t pages_it = pages_it

  -- ---- a place of the list

  -- past the list's end, or the entry is taken and released
  pub at-released : {me : Owner} → me ≡ Owner.Caller → (place : ℕ) (keyed : Option Bool) (s t : PagerState N E) → keyed ≢ Some false
      → ReleasesIfKeyed v s me place keyed t → PagesAt v place (Ok tt) s t
  at-released mine place None s t keyed (past, same) = record { done = λ whole within. absurd (omega (arith, past, within)) }
  at-released mine place (Some false) s t keyed r = absurd (keyed refl)
  at-released mine place (Some true) s t keyed r =
      let out = rw mine at r.releases in
      record {
        done = λ whole within. record {
          whole = out.whole;
          long = entries-stay s r.mid t within r.takes.step.1.list (none-shorter r.takes.whole.whole out.whole.whole (release-spares-list r.refused out.step));
          goes = λ i next answer s' more. skips i place r.key r.h r.refused answer s r.mid t s' next r.has (rw mine at r.takes) out more;
          stops = tt;
        };
      }

  pub at-paged : {place key : ℕ} {s t : PagerState N E} → (h : HandleNumber) × EntryHas s.core place h OptionalDataKey.None
      → PagesEntry v place (WorkerAnswer.Key key) s t → PagesAt v place (Ok tt) s t
  at-paged {place} {key} {s} {t} (h, has) pages_it = record {
    done = λ whole within.
        let p = pages_it.pages whole within in
        record { whole = p.whole; long = p.long; goes = λ i next answer s' more. pages i place key h answer s t s' next has p.run more; stops = tt };
  }

  pub at-done : (place : ℕ) (key : Option ℕ) (s mid t : PagerState N E) → ((h : HandleNumber) × EntryHas s.core place h OptionalDataKey.None) × (mid ≡ s)
      → PagesEntryIfThere v place (Ok key) mid t → PagesAt v place (Ok tt) s t
  at-done place None s mid t (has, same) gone = record {
    done = λ whole within. absurd (omega (arith, subst (λ x. PagesEntryIfThere v place (Ok None) x t) same gone, within));
  }
  at-done place (Some key) s mid t (has, same) pages_it = at-paged has (rw same at pages_it)

  failed-there : (place : ℕ) (why : PageOutError) (s t : PagerState N E) → (h : HandleNumber) × EntryHas s.core place h OptionalDataKey.None
      → PagesEntry v place (answer_of (Err why)) s t → PagesAt v place (Err why) s t
  failed-there place (PageOutError.Failed e) s t (h, has) pages_it = record {
    done = λ whole within. let p = pages_it.pages whole within in record {
      whole = p.whole;
      long = p.long;
      goes = tt;
      stops = λ i next. fails i place h e s t next has p.run;
    };
  }
  failed-there place PageOutError.AlreadyFailed s t (h, has) pages_it = record { done = λ whole within. absurd ((pages_it.pages whole within).unfailed refl) }

  pub at-failed : (place : ℕ) (why : PageOutError) (s mid t : PagerState N E) → ((h : HandleNumber) × EntryHas s.core place h OptionalDataKey.None) × (mid ≡ s)
      → PagesEntry v place (answer_of (Err why)) mid t → PagesAt v place (Err why) s t
  at-failed place why s mid t (has, same) pages_it = failed-there place why s t has (rw same at pages_it)

  -- ---- an entry that is paged out in one call

  entry-ends : {place : ℕ} {answer : WorkerAnswer} {s u : PagerState N E} → EntryRun (plain v) s place answer u → place < length s.core.list
      → IsPagerWhole v u × (place ≤ length u.core.list)
  entry-ends (entry-is-refused h row t s' entry none call) within = (call.whole, omega (arith, ap length call.step.list))
  entry-ends (no-entry-worker e s' fault call) within = (call.whole, omega (arith, ap length call.step.list))
  entry-ends {s = s} (entry-is-walked h row t n steps answer mid s' entry kinds starts run) within =
      let keeps = run-keeps run in (
        keeps.0,
        entries-stay s mid s'.pager within starts.begins.step.list (none-shorter starts.begins.whole.whole keeps.0.whole keeps.1),
      )

  pub at-leaf : (place key : ℕ) (s t : PagerState N E) → PagesLeaf v s place (WorkerAnswer.Key key) t → PagesAt v place (Ok tt) s t
  at-leaf place key s t p = record {
    done = λ whole within.
        let run = p.pages whole in
        let ends = entry-ends run within in
        record {
          whole = ends.0;
          long = ends.1;
          goes = λ i next answer s' more. pages i place key p.h answer s t s' next p.has run more;
          stops = tt;
        };
  }

  pub at-leaf-failed : (place : ℕ) (e : Error) (s t : PagerState N E) → PagesLeaf v s place (WorkerAnswer.Failed e) t
      → PagesAt v place (Err (PageOutError.Failed e)) s t
  at-leaf-failed place e s t p = record {
    done = λ whole within.
        let run = p.pages whole in
        let ends = entry-ends run within in
        record {
          whole = ends.0;
          long = ends.1;
          goes = tt;
          stops = λ i next. fails i place p.h e s t next p.has run;
        };
  }

  -- ---- the list

  pub none-paged : (count : ℕ) (s : PagerState N E) → count ≡ length s.core.list → HasPaged v count s s
  none-paged count s is = record { whole = λ whole. whole; long = λ whole. omega (arith, is); then = λ whole answer u run. rw (← is) run }

  pub more-paged : (left place : ℕ) → left ≡ place + 1 → (s mid t : PagerState N E) → HasPaged v left s mid → PagesAt v place (Ok tt) mid t
      → HasPaged v place s t
  more-paged left place next s mid t paged at = grind basics

  pub ends-paged : (left place : ℕ) → left ≡ place + 1 → (why : PageOutError) (s mid t : PagerState N E) → HasPaged v left s mid
      → PagesAt v place (Err why) mid t → PagesList v (Err why) s t
  ends-paged left place next why s mid t paged at = grind tests

  -- the entries below `left` down to `rest`, as leaves
  leaves-paged : (left : ℕ) (start s : PagerState N E) (rest : ℕ) (t : PagerState N E) → HasPagedLeaves v left s rest t → HasPaged v left start s → HasPaged v rest start t
  leaves-paged left start s _ _ no-leaf paged = paged
  leaves-paged left start s rest t (one-more-leaf place key mid u more leaf) paged =
      more-paged (place + 1) place refl start mid u (leaves-paged left start s (place + 1) mid more paged) (at-leaf place key mid u leaf)

  pub last-leaves : (left rest : ℕ) (s t : PagerState N E) → PagesLeaves v s left (Ok rest) t → PagesLast v left (Ok rest) s t
  last-leaves left rest s t leaves = record { goes = λ start paged. leaves-paged left start s rest t leaves paged; stops = tt }

  pub last-leaves-failed : (left : ℕ) (e : Error) (s t : PagerState N E) → PagesLeaves v s left (Err e) t
      → PagesLast v left (Err (PageOutError.Failed e)) s t
  last-leaves-failed left e s t (place, mid, leaves, failed) = record {
    goes = tt;
    stops = λ start paged.
        ends-paged (place + 1) place refl (PageOutError.Failed e) start mid t (leaves-paged left start s (place + 1) mid leaves paged)
        (at-leaf-failed place e mid t failed);
  }

  -- the last entry, where no leaf was paged out
  pub last-paged : (left rest : ℕ) → left ≡ rest + 1 → (leaves : ℕ) → left ≤ leaves → leaves ≤ left → (s mid t : PagerState N E) → PagesLeaves v s left (Ok leaves) mid
      → PagesAt v rest (Ok tt) mid t → PagesLast v left (Ok rest) s t
  last-paged left rest next leaves least most s mid t none at =
      let same : leaves ≡ left = omega arith in
      record {
        goes = λ start paged. more-paged left rest next start mid t (leaves-paged left start s left mid (rw same at none) paged) at;
        stops = tt;
      }

  pub last-failed : (left rest : ℕ) → left ≡ rest + 1 → (leaves : ℕ) → left ≤ leaves → leaves ≤ left → (why : PageOutError) (s mid t : PagerState N E)
      → PagesLeaves v s left (Ok leaves) mid → PagesAt v rest (Err why) mid t → PagesLast v left (Err why) s t
  last-failed left rest next leaves least most why s mid t none at =
      let same : leaves ≡ left = omega arith in
      record {
        goes = tt;
        stops = λ start paged. ends-paged left rest next why start mid t (leaves-paged left start s left mid (rw same at none) paged) at;
      }

  pub goes-paged : (left rest : ℕ) (start s t : PagerState N E) → HasPaged v left start s → PagesLast v left (Ok rest) s t → HasPaged v rest start t
  goes-paged left rest start s t paged last = last.goes start paged

  pub stops-paged : (left : ℕ) (why : PageOutError) (start s t : PagerState N E) → HasPaged v left start s → PagesLast v left (Err why) s t
      → PagesList v (Err why) start t
  stops-paged left why start s t paged last = last.stops start paged

  pub all-paged : (left : ℕ) → left ≡ 0 → (s t : PagerState N E) → HasPaged v left s t → PagesList v (Ok tt) s t
  all-paged left none s t paged = record { over = λ whole. paged.then whole (Ok tt) t (rw none (no-more t)) }

pub ruleset items = (tests, acts_all, acts_map, item-unstarted, item-unbegun)

pub ruleset entries = (tests, acts_map, entry-gone, entry-refused)

pub ruleset places = (tests, acts_map, acts_then, at-released, at-done, at-failed)

pub ruleset leaves = (tests, acts_map, acts_then, last-leaves, last-leaves-failed, last-paged, last-failed)

pub ruleset listed = (tests, acts_map, acts_then, tells_map, acts_same, none-paged, goes-paged, stops-paged, all-paged)
