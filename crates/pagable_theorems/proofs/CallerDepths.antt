-- Page-outs, pins and reads by one call fail as too deep where they should: an item or an entry that leads down too long a path has no key, and a load fails so
-- only by what its key reads as.
use Rattle.pagable_pager_spec.specs.{
  Access.{AccessState, EntryRun, ItemRun, ListRun, LoadAsksWell, LoadRun, PinRun, ReadRun, WorkerRun, entry-is-refused, entry-is-walked, fails, item-is-walked},
  Access.{load-ends, load-fails, load-goes-on, load-is-refused, load-pins, load-reads, no-entry-worker, no-more, no-worker, pages, pin-is-refused},
  Access.{pins-at-once, reading-fails, reading-is-refused, skips},
  Basics.{Identity, OptionalDataKey},
  Events.no_shelf,
  Loads.LoadDoes,
  Order.{LeadsDown, MetError, ReadsTooDeep, goes-down, is-there},
  Rightness.IsMetFailure,
  WorkerClaims.{IsFormlessTask, IsTooDeepTask},
  Workers.first_todo,
  World.{SameShelf, type_at},
}
use Rattle.pagable_theorems.proofs.{
  CallerFailures.{goes-open, key-begins, load-begins, load_of, load_of_key},
  DepthBounds.task-is-fine,
  LoadResults.{Under, after-then, at-answer, caller-feels, stepped},
  Moments.same-shelf,
  NewClaims.first-met,
  Operations.{Ended, Stands, Stays, entry-stays, entry-walks, ground, item-stays, item-walks, plain-stays, stays-same, stays-then},
  RefusalCauses.{begins-refused, fails-deep, pins-refused},
  SlotsGrow.{first-stands, some-none},
  Words.{Action, Among, Blob, Call, Err, Error, HandleNumber, HandleRow, HoldsSettled, IsLawful, IsPagerWhole, List, LoadAnswer, None, OpenLoad, Option, Owner},
  Words.{PagerStandsFor, PagerState, Reading, Reply, Result, Seen, Slot, Some, Task, Tree, Types, WorkerAnswer, ap, arith, basics, false, inl, inr, key_at},
  Words.{nat_eq, refl, row_at, subst, sym, ℕ, [], ◌∙◌, ◌≡◌, ◌⊎◌},
}
use Rattle.pagable_theorems.specs.{
  CallerFailures.{EachTells, EntryTells, ItemTells, ItemTellsDepth, ListTellsDepth, PinIsDeep, ReadIsDeep, TellsDepth},
  CallerLaws.{PinAsksWell, ReadAsksWell},
  PageOutLaws.{EntryAsksWell, ItemAsksWell, ListAsksWell},
  RefusalLaws.IsOfPin,
  TreeSteps.KeepsStored,
}

-- ---- what a worker's answer tells, on a table on which nobody had failed

module _ {N E B W : Type 0} (m : Seen N B W) {s : PagerState N E} {trees : ℕ → Tree} {task : Task} {answer : WorkerAnswer} {s' : AccessState N E}
    (r : Ended m.values s trees answer task s') where
  -- a task with a key leads down no path that is too long, and to no value that has no form
  fine : (key : ℕ) → answer ≡ WorkerAnswer.Key key → (¬ IsTooDeepTask r.stays.trees' task) × (¬ IsFormlessTask m.values.types r.stays.trees' task)
  fine key is = task-is-fine m.values (ground s'.pager r.stays.trees') s'.shelf r.slots task key (r.done key is)

  tells : {n : ℕ} {mid : AccessState N E} {steps : List (Action W)} → WorkerRun m n (first_todo task) mid steps answer s'
      → ((i : Identity) → mid.shelf.slots i ≡ None) → TellsDepth m.values r.stays.trees' task steps answer
  tells {n} {mid} {steps} run new =
      let a = at-answer m n task (Unit {0}) run [] (first-stands mid.shelf n task) (λ i slot there own. some-none there (new i))
      (λ c. (λ i slot there own. some-none there (new i), first-met {W = W} n mid.shelf [] task)) in
      record { key_is_shallow = fine; deep_fails = λ alone deep. by a.1 answer (a.2 tt) refl alone deep }
    where
      by : ((i : Identity) (slot : Slot) → s'.shelf.slots i ≡ Some slot → nat_eq slot.worker n ≡ false → mid.shelf.slots i ≡ Some slot)
          → (other : WorkerAnswer) → IsMetFailure s'.shelf n steps other → other ≡ answer
          → ((step : Action W) (e : Error) → Among steps step → MetError step e → e ≡ Error.TooDeep)
          → IsTooDeepTask r.stays.trees' task ⊎ IsFormlessTask m.values.types r.stays.trees' task → answer ≡ WorkerAnswer.Failed Error.TooDeep
      by others (WorkerAnswer.Key key) met is alone deep =
          let f = fine key (sym is) in elim deep [ inl long ↦ absurd (f.0 long) | inr formless ↦ absurd (f.1 formless) ]
      by others (WorkerAnswer.Failed e) (step, among, met) is alone deep = sym is ∙ ap WorkerAnswer.Failed (alone step e among met)
      by others WorkerAnswer.AlreadyFailed (i, among, failed) is alone deep =
          absurd (some-none (others i failed.slot failed.claimed failed.of_another) (new i))

-- ---- items, and entries of the list

module _ {N E B W : Type 0} (m : Seen N B W) (lawful : IsLawful m.values) where
  item-tells : {s s' : AccessState N E} {trees : ℕ → Tree} {answer : WorkerAnswer} (item : W) → Stands m.values s.pager trees → SameShelf no_shelf s.shelf
      → (run : ItemRun m s (m.written_of item) answer s') → ItemAsksWell run → (a : Stays m.values s.pager trees s'.pager) × ItemTells run a.trees'
  item-tells item at new (no-worker e s' why c same) asks = ((item-stays m lawful item at new (no-worker e s' why c same) asks).0, tt)
  item-tells {s} {trees = trees} item at new (item-is-walked n steps answer mid s' starts run) asks =
      let r = item-walks m lawful s at.well at.nobody new at.settled trees at.stands item starts run asks in (r.stays, tells m r run (λ i. new.slots i))

  entry-tells : {s s' : PagerState N E} {place : ℕ} {trees : ℕ → Tree} {answer : WorkerAnswer} → Stands m.values s trees → (run : EntryRun m s place answer s')
      → EntryAsksWell run → (a : Stays m.values s trees s') × EntryTells run a.trees'
  entry-tells {place = place} at (entry-is-refused h row t s' is none c) asks =
      ((entry-stays m lawful {place = place} at (entry-is-refused h row t s' is none c) asks).0, tt)
  entry-tells {place = place} at (no-entry-worker e s' why c) asks = ((entry-stays m lawful {place = place} at (no-entry-worker e s' why c) asks).0, tt)
  entry-tells {s} {place = place} {trees = trees} at (entry-is-walked h row t n steps answer mid s' is kinds starts run) asks =
      let r = entry-walks m lawful (record { pager = s; shelf = no_shelf }) at.well at.nobody (same-shelf refl) at.settled trees at.stands place h row t n
      mid is kinds starts run asks in
      (r.stays, tells m r run (λ i. refl))

  each-tells : {i : ℕ} {s s' : PagerState N E} {answer : Result (Unit {0}) WorkerAnswer} {trees : ℕ → Tree} (run : ListRun m i s answer s')
      → Stands m.values s trees → ListAsksWell run → Stays m.values s trees s' × EachTells run trees
  unfolding ListAsksWell EachTells
  each-tells (no-more s) at asks = (stays-same m lawful at, tt)
  each-tells (skips i place key h told answer s mid low s' is has takes releases more) at asks =
      let a = (plain-stays m lawful (Call.TakePending place) (Reply.TakenPending (Some h)) at takes takes.step tt tt).0 in
      let b = (plain-stays m lawful (Call.Release h) (Reply.Done told) a.now releases releases.step tt tt).0 in
      let r = each-tells more b.now asks in
      let both = after-then a.after b.after in
      (stays-then both r.0, (b.trees', both.same, both.stands, r.1))
  each-tells (pages i place key h answer s mid s' is has entry more) at asks =
      let (a, told) = entry-tells at entry asks.0 in
      let r = each-tells more a.now asks.1 in
      (stays-then a.after r.0, (a.trees', a.after.same, a.after.stands, told, r.1))
  each-tells (fails i place h e s s' is has entry) at asks =
      let (a, told) = entry-tells at entry asks in (a, (a.trees', a.after.same, a.after.stands, told))

pub item_tells_depth : {N B W : Type 0} (E : Type 0) (m : Seen N B W) → ItemTellsDepth E m
item_tells_depth E m s s' item answer run well nobody new asks lawful settled trees stands =
    let (a, told) = item-tells m lawful item (record { well = well; nobody = nobody; settled = settled; stands = stands }) new run asks in
    (a.trees', a.after.same, a.after.stands, told)

pub list_tells_depth : {N B W : Type 0} (E : Type 0) (m : Seen N B W) → ListTellsDepth E m
list_tells_depth E m i s s' answer run well nobody asks lawful settled trees stands =
    let r = each-tells m lawful run (record { well = well; nobody = nobody; settled = settled; stands = stands }) asks in
    (r.0.trees', r.0.after.same, r.0.after.stands, r.1)

-- ---- a load

module _ {types : Types} {stored stored' : ℕ → Option Blob} (kept : KeepsStored stored stored') where
  leads-stays : {t key n u last : ℕ} → LeadsDown types stored t key n u last → LeadsDown types stored' t key n u last
  leads-stays (is-there t key) = is-there t key
  leads-stays (goes-down t key child n longer u last blob kinds kind e at next eager more) =
      goes-down t key child n longer u last blob kinds kind e (kept key blob at) next eager (leads-stays more)

  deep-stays : {t key : ℕ} → ReadsTooDeep types stored t key → ReadsTooDeep types stored' t key
  deep-stays d = record {
    n = d.n;
    last_type = d.last_type;
    last = d.last;
    blob = d.blob;
    down = leads-stays d.down;
    is = kept d.last d.blob d.is;
    deep = d.deep;
  }

module _ {N B W : Type 0} (E : Type 0) (m : Seen N B W) (lawful : IsLawful m.values) (load : OpenLoad) where
  fails-so : {reading : Reading} {s s' : PagerState N E} {answer : LoadAnswer N} (run : LoadRun m.values Owner.Caller reading s answer s') → LoadAsksWell run
      → (trees : ℕ → Tree) → Under m.values s trees load.key reading → s.core.loads reading.load.0 ≡ Some load → answer ≡ LoadAnswer.Refused Error.TooDeep
      → ReadsTooDeep m.values.types s'.core.stored reading.node_type load.key
  unfolding LoadAsksWell
  fails-so (load-ends reading answer s s' step) asks trees u open_load is =
      let does = (subst (λ (a : LoadAnswer N). LoadDoes m.values s.core Owner.Caller reading (Some a) [] s'.core) is step.does.does).0 in
      deep-stays (caller-feels step).does.goes.stored
      (fails-deep m lawful s.core Owner.Caller reading trees load.key reading.node_type (u.going.fits load open_load) u.going.asked s'.core does)
  fails-so (load-goes-on reading frames answer s mid s' step more) asks trees u open_load is =
      let a = stepped lawful s mid trees load.key reading None frames u asks.0 asks.1 step in
      let goes = step.does.does in
      fails-so more asks.2 a.trees' (a.still refl) (goes-open m.values s.core mid.core Owner.Caller reading reading.load.0 load frames goes open_load) is

module _ {N B W : Type 0} (E : Type 0) (m : Seen N B W) (s : PagerState N E) (trees : ℕ → Tree) (well : IsPagerWhole m.values s) (lawful : IsLawful m.values)
    (settled : HoldsSettled m.values s) (stands : PagerStandsFor m.values s trees) where
  record PinDeep (h : HandleNumber) (s' : PagerState N E) : Type 0 where
    row : HandleRow
    t : ℕ
    key : ℕ
    live : row_at s.core h ≡ Some row
    typed : type_at s.core row.node.0 ≡ Some t
    keyed : key_at s.core row.node.0 ≡ OptionalDataKey.Some key
    deep : ReadsTooDeep m.values.types s'.core.stored t key

  no-number : IsOfPin Error.TooDeep → ⊥
  no-number is = absurd (omega (arith, is.0))

  pin-deep : {h : HandleNumber} {r : Result HandleNumber Error} {s' : PagerState N E} (run : PinRun m.values s h r s') → PinAsksWell run
      → r ≡ Err Error.TooDeep → PinDeep h s'
  pin-deep (pin-is-refused e s' c) asks is =
      let same : e ≡ Error.TooDeep = cc in absurd (no-number (subst IsOfPin same (pins-refused _ _ _ e _ c.step)))
  pin-deep (load-is-refused e s' c) asks is =
      let same : e ≡ Error.TooDeep = cc in absurd (no-number (subst IsOfPin same (begins-refused _ _ _ e _ c.step)))
  pin-deep {h = h} (load-fails e reading mid s' starts run) asks is =
      let b = load-begins m.values lawful s trees well settled stands starts in
      let same : LoadAnswer.Refused e ≡ LoadAnswer.Refused Error.TooDeep = cc in
      let u = subst (λ (z : Reading). Under m.values mid trees b.key z) (sym b.new) b.under in
      let deep = fails-so E m lawful (load_of h b.row b.t b.key) run asks trees u b.open_load same in
      record {
        row = b.row;
        t = b.t;
        key = b.key;
        live = b.owns.live;
        typed = b.typed;
        keyed = b.keyed;
        deep = subst (λ n. ReadsTooDeep m.values.types s'.core.stored n b.key) (ap (λ (z : Reading). z.node_type) b.new) deep;
      }
  pin-deep (pins-at-once k s' c) asks is = absurd (cc)
  pin-deep (load-pins k reading mid s' starts run) asks is = absurd (cc)

  read-deep : {key t : ℕ} {r : Result N Error} {s' : PagerState N E} (run : ReadRun m.values s key t r s') → ReadAsksWell run
      → r ≡ Err Error.TooDeep → ReadsTooDeep m.values.types s'.core.stored t key
  read-deep (reading-is-refused e s' c) asks is = absurd (elim c.step.refused.why [ inl spent ↦ (grind basics) | inr memory ↦ (cc) ])
  read-deep {key} {t} (reading-fails e l mid s' starts run) asks is =
      let b = key-begins m.values lawful s trees well settled stands t starts in
      let same : LoadAnswer.Refused e ≡ LoadAnswer.Refused Error.TooDeep = cc in
      fails-so E m lawful (load_of_key key) run asks trees b.under b.open_load same
  read-deep (load-reads x l mid s' starts run) asks is = absurd (cc)

pub pin_is_deep : {N B W : Type 0} (E : Type 0) (m : Seen N B W) → PinIsDeep E m
pin_is_deep E m s s' trees h run well lawful settled stands asks =
    let d = pin-deep E m s trees well lawful settled stands run asks refl in (d.row, d.t, d.key, d.live, d.typed, d.keyed, d.deep)

pub read_is_deep : {N B W : Type 0} (E : Type 0) (m : Seen N B W) → ReadIsDeep E m
read_is_deep E m s s' trees key t run well lawful settled stands asks = read-deep E m s trees well lawful settled stands run asks refl
