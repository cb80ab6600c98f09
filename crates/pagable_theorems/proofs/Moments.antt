-- The steps of whole operations on a pager on which nobody else works are moments of a machine: so what holds of chains holds of them.
use Rattle.pagable_pager_spec.specs.{
  Access.{AccessState, WalkStep, WorkerStarts},
  Events.{Ends, IsEntry, Starts, entry_task, no_shelf, steps_after, with_entry_taken, with_worker},
  Kinds.HasKinds,
  Pager.ReplyWrites,
  Runs.EventDoes,
  Workers.{first_todo, is_counted},
  World.{SameShelf, Work},
}
use Rattle.pagable_theorems.proofs.{
  EventEffects.walk-goes,
  HandlesKept.updated-at,
  LoadProgress.moves-as,
  Trees.{same-number, same_some},
  Words.{Action, Alike, Bool, Core, Event, EventReply, HandleNumber, HandleRow, Happens, IsMachineWhole, IsPagerWhole, List, MachineState, None, Ok, OpenLoad},
  Words.{Option, PagerState, Reading, Seen, Shelf, Some, Task, Todo, WalkDoes, Walking, WorkerAnswer, WorkerReply, WorkerState, answer_after, ap, arith},
  Words.{basics, cases_Bool, false, if_there, inl, inr, of_item, refl, rules, subst, sym, true, updated, world_of, ℕ, ◌+◌, ◌<◌, ◌==◌, ◌∙◌, ◌≡◌, ◌≤◌},
}
use Rattle.pagable_theorems.specs.PageOutLaws.{NobodyWorks}
use Rattle.std.specs.Prelude.{is_none}

-- this worker alone is at work, or nobody
pub record WorksAlone (w : Core) (n : ℕ) (on : Bool) : Type 0 where
  pub self : w.workers n ≡ on
  pub others : (q : ℕ) → (q == n) ≡ false → w.workers q ≡ false

-- nobody reads a load by steps, and who has worked has answered, on a table that is there
pub record IsAtRest (work : Work) : Type 0 where
  pub unread : (l : ℕ) → work.readings l ≡ None
  pub answered : (q : ℕ) (w : Walking) → work.walkings q ≡ Some w → (is_none w.answer ≡ false) × (0 < w.table) × (w.table ≤ work.last_table)

abbrev no_reading : Option Reading
no_reading = None

none-read : (load : Option OpenLoad) → no_reading ≡ if_there (λ (load : OpenLoad). no_reading) None load
none-read x0 = grind basics

alike : (w : Core) → Alike w w
alike w = search (rules)

pub same-shelf : {s t : Shelf} → t ≡ s → SameShelf s t
same-shelf e = record { slots = λ i. ap (λ (x : Shelf). x.slots i) e; waits = λ v. ap (λ (x : Shelf). x.waits v) e }

ends-workers : (answer : Option WorkerAnswer) (n : ℕ) (w w' : Core) → Ends answer n w w' → WorksAlone w n true → WorksAlone w' n (is_none answer)
ends-workers x0 n w w' ends alone = grind basics

abbrev pub with-table : Work → Shelf → Work
with-table work shelf = record work { shelves = updated (work.last_table + 1) shelf work.shelves; last_table = work.last_table + 1 }

pub with-table-rests : (work : Work) (shelf : Shelf) → IsAtRest work → IsAtRest (with-table work shelf)
with-table-rests work shelf rests = record {
  unread = rests.unread;
  answered = λ q w is. let r = rests.answered q w is in
      (r.0, r.1, omega arith);
}

abbrev pub walking-on : ℕ → Task → List Todo → ℕ → Option WorkerAnswer → Walking
walking-on t task todo count answer = record { table = t; task = task; todo = todo; steps = count; answer = answer }

-- what is worked where the worker n is so far on the table t
abbrev pub with-worker-at : Work → ℕ → ℕ → Shelf → Walking → Work
with-worker-at base n t shelf walking = record {
  shelves = updated t shelf base.shelves;
  last_table = base.last_table;
  readings = λ l. None;
  walkings = updated n (Some walking) base.walkings;
}

abbrev pub reply-of : {W : Type 0} → List Todo → ℕ → Action W → WorkerReply W
reply-of todo count step = record { action = step; answer = answer_after todo step; steps = steps_after count (is_counted todo step) }

pub works-alone : {N E : Type 0} (n : ℕ) (core : Core) (mid : PagerState N E) → Alike (with_worker core) mid.core → n ≡ core.last.worker + 1 → NobodyWorks core
    → WorksAlone mid.core n true
works-alone n core mid a next nobody = record {
  self = ap mid.core.workers next ∙ a.workers (core.last.worker + 1) ∙ updated-at (core.last.worker + 1) true core.workers;
  others = λ q e. a.workers q ∙ (let other = nobody q in (grind basics));
}

module _ {N E B W : Type 0} (m : Seen N B W) where
  -- a machine for which nobody works any more, or not yet
  abbrev pub at-rest : PagerState N E → Work → MachineState N E
  at-rest s work = record { pager = s; work = work }

  pub rest-whole : (s : PagerState N E) (work : Work) → IsAtRest work → IsPagerWhole m.values s → NobodyWorks s.core → IsMachineWhole m.values (at-rest s work)
  rest-whole s work rests well nobody = record {
    pager = well;
    readings = λ l reading is. absurd (cc (rests.unread l));
    walkings = λ q w is. let r = rests.answered q w is in record { table = (r.1, r.2); at_work = nobody q ∙ sym r.0 };
    each_walks = λ q is. absurd (cc (nobody q));
  }

  pub table-made : (s : PagerState N E) (work : Work) (shelf : Shelf) → IsAtRest work → IsPagerWhole m.values s → NobodyWorks s.core → SameShelf no_shelf shelf
      → EventDoes m (at-rest s work) Event.TableNew (EventReply.TableMade (Ok (record { 0 = work.last_table + 1 }))) (at-rest s (with-table work shelf))
  table-made s work shelf rests well nobody new = record {
    step = record {
      happens = record {
        made = (
          refl,
          alike s.core,
          λ l. rests.unread l ∙ (let f = rests.unread l in (grind basics)),
          record {
            same_shelves = λ q. elim (cases_Bool (q == work.last_table + 1)) [ inl e ↦ rw e new | inr e ↦ rw e (same-shelf refl) ];
            last_is = refl;
            same_walkings = λ q. refl;
          },
        );
        refused = tt;
      };
    };
    moves = record { each = λ q x is. inl is; environment = refl };
    holds = record { each = λ q x is. inl is; environment = refl };
    writes = tt;
    whole = rest-whole s (with-table work shelf) (with-table-rests work shelf rests) well nobody;
  }

  module _ (base : Work) (rests : IsAtRest base) (n t : ℕ) (there : (0 < t) × (t ≤ base.last_table)) (task : Task) where
    abbrev pub at-work : AccessState N E → List Todo → ℕ → Option WorkerAnswer → MachineState N E
    at-work s todo count answer = record { pager = s.pager; work = with-worker-at base n t s.shelf (walking-on t task todo count answer) }

    is-whole : (s : AccessState N E) (todo : List Todo) (count : ℕ) (answer : Option WorkerAnswer) → IsPagerWhole m.values s.pager
        → WorksAlone s.pager.core n (is_none answer)
        → IsMachineWhole m.values (at-work s todo count answer)
    is-whole s todo count answer well alone = record {
      pager = well;
      readings = λ l reading is. absurd (cc);
      walkings = λ q w is. elim (cases_Bool (q == n)) [
        | inl e ↦
            let same : walking-on t task todo count answer ≡ w = same_some _ _ (rw e at is) in
            record {
              table = subst (λ (x : Walking). (0 < x.table) × (x.table ≤ base.last_table)) same there;
              at_work = ap s.pager.core.workers (same-number q n e) ∙ alone.self ∙ ap (λ (x : Walking). is_none x.answer) same;
            }
        | inr e ↦ let r = rests.answered q w (rw e at is) in record { table = (r.1, r.2); at_work = alone.others q e ∙ sym r.0 }
      ];
      each_walks = λ q is. elim (cases_Bool (q == n)) [ inl e ↦ rw e refl | inr e ↦ absurd (cc (alone.others q e)) ];
    }

    -- a worker begins, for an item or for an entry of the list
    starts-so : (core : Core) (s : AccessState N E) (mid : PagerState N E) → base.shelves t ≡ s.shelf → WorkerStarts m.values core s.pager n mid
        → Starts (world_of (at-rest s.pager base)) (record { 0 = t }) task core (record { 0 = n })
        (world_of (at-work (record { pager = mid; shelf = s.shelf }) (first_todo task) 0 None))
    starts-so core s mid on starts = record {
      table = there;
      next = starts.next;
      pager = starts.begins.step;
      readings = λ l. (let f = rests.unread l in (grind basics));
      work = record {
        same_shelves = λ q. elim (cases_Bool (q == t)) [
          | inl e ↦ rw e (same-shelf (sym (ap base.shelves (same-number q t e) ∙ on)))
          | inr e ↦ rw e (same-shelf refl)
        ];
        last_is = refl;
        same_walkings = λ q. refl;
      };
    }

    began : (core : Core) (s : AccessState N E) (mid : PagerState N E) (event : Event N B W) (reply : EventReply N B W)
        → WorkerStarts m.values core s.pager n mid → NobodyWorks core → core.last.worker ≡ s.pager.core.last.worker
        → Happens m (world_of (at-rest s.pager base)) event reply (world_of (at-work (record { pager = mid; shelf = s.shelf }) (first_todo task) 0 None))
        → ReplyWrites m s.pager reply
        → EventDoes m (at-rest s.pager base) event reply (at-work (record { pager = mid; shelf = s.shelf }) (first_todo task) 0 None)
    began core s mid event reply starts nobody last happens writes =
        let c = starts.begins in
        record {
          step = record { happens = happens };
          moves = moves-as (λ q x is came. absurd came) c.moves;
          holds = moves-as (λ q x is came. absurd came) c.moves;
          writes = writes;
          whole = is-whole _ (first_todo task) 0 None c.whole (works-alone n core mid c.step (starts.next ∙ ap (λ k. k + 1) (sym last)) nobody);
        }

    pub item-began : (item : W) (s : AccessState N E) (mid : PagerState N E) → task ≡ of_item (m.written_of item) → base.shelves t ≡ s.shelf
        → WorkerStarts m.values s.pager.core s.pager n mid → NobodyWorks s.pager.core
        → EventDoes m (at-rest s.pager base) (Event.WorkerItem (record { 0 = t }) item) (EventReply.WorkerMade (Ok (record { 0 = n })))
        (at-work (record { pager = mid; shelf = s.shelf }) (first_todo task) 0 None)
    item-began item s mid is on starts nobody = began s.pager.core s mid (Event.WorkerItem (record { 0 = t }) item)
        (EventReply.WorkerMade (Ok (record { 0 = n }))) starts nobody refl (record {
          starts = subst (λ (x : Task). Starts (world_of (at-rest s.pager base)) (record { 0 = t }) x s.pager.core (record { 0 = n })
              (world_of (at-work (record { pager = mid; shelf = s.shelf }) (first_todo task) 0 None))) is
              (starts-so s.pager.core s mid on starts);
          refused = tt;
        }) tt

    pub entry-began : (place : ℕ) (h : HandleNumber) (row : HandleRow) (type : ℕ) (s : AccessState N E) (mid : PagerState N E) → task ≡ entry_task h row type
        → base.shelves t ≡ s.shelf → IsEntry s.pager.core place h row type → HasKinds type
        → WorkerStarts m.values (with_entry_taken s.pager.core place h (record { 0 = n })) s.pager n mid → NobodyWorks s.pager.core
        → EventDoes m (at-rest s.pager base) (Event.WorkerListed (record { 0 = t }) place) (EventReply.WorkerMade (Ok (record { 0 = n })))
        (at-work (record { pager = mid; shelf = s.shelf }) (first_todo task) 0 None)
    entry-began place h row type s mid is on entry kinds starts nobody =
        let core = with_entry_taken s.pager.core place h (record { 0 = n }) in
        began core s mid (Event.WorkerListed (record { 0 = t }) place) (EventReply.WorkerMade (Ok (record { 0 = n }))) starts nobody refl (record {
          starts = (
            h,
            row,
            type,
            entry,
            kinds,
            subst (λ (x : Task). Starts (world_of (at-rest s.pager base)) (record { 0 = t }) x core (record { 0 = n })
                (world_of (at-work (record { pager = mid; shelf = s.shelf }) (first_todo task) 0 None))) is (starts-so core s mid on starts),
          );
          refused = tt;
        }) tt

    pub moved : (s s' : AccessState N E) (todo next : List Todo) (count : ℕ) (step : Action W) → WalkStep m n todo s step next s'
        → WorksAlone s.pager.core n true
        → EventDoes m (at-work s todo count None) (Event.WorkerStep (record { 0 = n })) (EventReply.WorkerMoved (Ok (reply-of todo count step)))
        (at-work s' next (steps_after count (is_counted todo step)) (answer_after todo step))
        × WorksAlone s'.pager.core n (is_none (answer_after todo step))
    moved s s' todo next count step w alone =
        let now = walking-on t task todo count None in
        let site : WorkerState = record { core = s.pager.core; shelf = s.shelf; todo = todo } in
        let felt = walk-goes m n site w.after todo step w.does.does in
        let mid : WorksAlone w.after.core n true = record { self = felt.does.workers n ∙ alone.self; others = λ q e. felt.does.workers q ∙ alone.others q e } in
        let alone' = ends-workers (answer_after todo step) n w.after.core s'.pager.core w.ends mid in
        let at = updated-at n (Some now) base.walkings in (
          record {
            step = record {
              happens = record {
                moves = record {
                  walking = now;
                  after = w.after;
                  at = at;
                  at_work = refl;
                  does = subst (λ (x : Shelf). WalkDoes m n (record { core = s.pager.core; shelf = x; todo = todo }) step w.after)
                      (sym (updated-at t s.shelf base.shelves)) w.does;
                  answers = refl;
                  counts = refl;
                  ends = w.ends;
                  readings = λ l. none-read (s'.pager.core.loads l);
                  work = record {
                    same_shelves = λ q. elim (cases_Bool (q == t)) [ inl e ↦ rw e w.shelf_is | inr e ↦ rw e (same-shelf refl) ];
                    last_is = refl;
                    same_walkings = λ q. elim (cases_Bool (q == n)) [
                      | inl e ↦ rw e (ap (λ list. Some (walking-on t task list (steps_after count (is_counted todo step)) (answer_after todo step)))
                          w.goes_on)
                      | inr e ↦ rw e refl
                    ];
                  };
                };
                refused = tt;
              };
            };
            moves = moves-as (λ q x is came. (now, at, came)) w.moves;
            holds = w.holds;
            writes = w.writes;
            whole = is-whole s' next (steps_after count (is_counted todo step)) (answer_after todo step) w.whole alone';
          },
          alone',
        )
