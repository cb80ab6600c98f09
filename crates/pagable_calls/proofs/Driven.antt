-- Each event of the machine, by what the pager and the machine's loads, tables and workers tell of it.
use Rattle.pagable_calls.proofs.{
  Keeping.{Leaves, Served, are-these, as-before, as-made, at-one, by-call, call-leaves, event-passes, held-anyhow, kept-on, kept-one, leaves-so, like, makes},
  Keeping.{makes-with, not-same, nothing-done, one-serves, refused, same-work, still-kept},
}
use Rattle.pagable_calls.specs.{
  Driving.{Answer, ByNumber, Forgets, Given, Holding, IsBegun, IsKept, IsOnTable, IsPrepared, IsServing, IsTableNumber, IsTaken, IsWalkKept, Kept, Makes},
  Driving.{ReadsFor, Serves, SetsOne, StepsLoad, holding, kept_at, machine_of, plain_reply, plainly, readings_in, rest_after, shelf_at},
  Paged.{node-comes-back, reading-is-refused, value-is-read},
  declared.workers.{LoadsAndWorkers.LoadsAndWorkers, WorkerProgress.WorkerProgress},
}
use Rattle.pagable_codec.specs.declared.{env.Env.Ghosts as Environments, hash.KeyHash.Ghosts as Hashes, nodes.NodeSet.Ghosts as Nodes}
use Rattle.pagable_core.specs.declared.{context.writing.SerializedData.SerializedData, storage.data.PagableData.PagableData}
use Rattle.pagable_load.proofs.LoadSteps.{none_comes}
use Rattle.pagable_load.specs.{Frames.{IsLoadOf, is_cell, reading_of}, WorkerCalls.{RefusesEntry, StartsEntry}, declared.reading.Reading.Reading as Own}
use Rattle.pagable_pageout.proofs.WorkerTurns.{plain-fits}
use Rattle.pagable_pageout.specs.{
  Slots.written_of,
  Table.shelf_of,
  Tasks.NeedsNoPager,
  Turns.LeavesFit,
  declared.{lent_table.LentTable.LentTable, tasks.{Task.Task, Turn.Turn}},
}
use Rattle.pagable_pager.proofs.Invariant.{less-moves}
use Rattle.pagable_pager.specs.View.{AddsNoValue, ChangesOnlyTables, PagerView, ReadsAs, Storages, pager_core, pager_state, type_of_root, value_in}
use Rattle.pagable_pager_spec.specs.{
  Access.{ReadingStep, WorkerStarts},
  Basics.{or_else, updated},
  Events.{CallDoes, Happens, IsTable, Starts, entry_task, no_shelf, reading_after, reading_at, reading_of_root, step_fault, with_entry_taken, with_worker},
  Kinds.{identity_of, is_owner},
  LoadCalls.{DropCall, LoadCloses},
  Order.step_of,
  Pager.{CallBrings, FitsRoot, IsPagerWhole, Moves, PagerState, world_of},
  Refusals.OwnsLoad,
  Workers.fresh,
  World.{Alike, Core, Frame, Last, OpenLoad, Reading, Root, SameShelf, Seen, Values, Written, of_entry, of_item, of_key, one_more},
  declared.{calls.{Call.Call, Reply.Reply}, events.{Event.Event, EventReply.EventReply, LoadAnswer.LoadAnswer, LoadReply.LoadReply, TableNumber.TableNumber}},
  declared.{handle_row.Owner.Owner, pinning.Beginning.Beginning},
}
use Rattle.pagable_tables.proofs.SameViews.{no-load-fault, still}
use Rattle.pagable_theorems.proofs.{
  Effects.{IsMine, owned-mine},
  HandlesKept.updated-at,
  ReadingSteps.{caller-free, reading-feels},
  Trees.{same-number, same_some},
}
use Rattle.pagable_value_spec.specs.declared.{
  error.Error.Error,
  numbers.{ArcRef.ArcRef, HandleNumber.HandleNumber, LoadNumber.LoadNumber, WorkerNumber.WorkerNumber},
}
use Rattle.std.proofs.{
  Common.{Err, List, None, Ok, Option, Some, ap, arith, false, if◌then◌else◌, inl, inr, length, refl, rules, subst, suc, sym, true, zero, ℕ, [], ◌++◌, ◌+◌},
  Common.{◌<◌, ◌==◌, ◌∙◌, ◌∷◌, ◌≡◌, ◌≢◌, ◌≤◌},
  lemmas.{Bool.Decides.nat_tests, Grind.common_steps, List.length-append},
}
use Rattle.std.specs.{
  Option.option_map,
  Prelude.{Result, is_none, is_some, slice_get},
  declared.{alloc.Global.Global, cmp.{Ord.Ghosts as Orders, PartialEq.Ghosts as Equalities, PartialOrd.Ghosts as PartialOrders}, sync.Arc.Arc, vec.Vec.Vec},
}
use Rattle.pagable_pager_spec.specs.World as world

module _ {X XN XH XK XV : Type 0} {g : Environments X XN XH XK XV} {gh : Hashes XH} {go : Orders XK} {gq : Equalities XK} {gp : PartialOrders XK}
    {gn : Nodes XN X XN XH XK XV} {N E : Type 0} (s : PagerState N E) (h : Holding g gh go gq gp gn) (l : LoadNumber) (load : OpenLoad)
    (o : OwnsLoad s.core Owner.Caller l load) where
  at-found : (own : Option Own) → h.readings l.0 ≡ own → reading_at (world_of (machine_of s h)) l
      ≡ or_else (option_map reading_of own) (reading_of_root l load.root)
  at-found own is = first_of (grind (arith, common_steps, nat_tests), search (rules))

-- what a load of a cell reads
of_root : (root : Root) (type : ℕ) → type_of_root root ≡ Some type
    → (is_cell root ≡ true) × ((r : Reading) → r.node_type ≡ type → FitsRoot root r) × ((l : LoadNumber) → reading_of_root l root ≡ Some (fresh l type))
of_root root type is = grind (arith, nat_tests, same_some)

module _ {X XN XH XK XV : Type 0} {g : Environments X XN XH XK XV} {gh : Hashes XH} {go : Orders XK} {gq : Equalities XK} {gp : PartialOrders XK}
    {gn : Nodes XN X XN XH XK XV} {N E : Type 0} (s : PagerState N E) {h : Holding g gh go gq gp gn} (serving : IsServing s.core h) where
  reads-taken : (l : LoadNumber) (load : OpenLoad) (key : ℕ) (t : Option ℕ) (own : Own) → OwnsLoad s.core Owner.Caller l load → load.key ≡ key
      → type_of_root load.root ≡ t
      → IsTaken h.readings l key t own
      → (own.load ≡ l) × ReadsFor load own × (reading_at (world_of (machine_of s h)) l ≡ Some (reading_of own))
  reads-taken l load key t own o key_is root taken = grind (arith, nat_tests, at-found, of_root)

-- a load of a key that a call began
pub never-typed : {X XN XH XK XV : Type 0} {g : Environments X XN XH XK XV} {gh : Hashes XH} {go : Orders XK} {gq : Equalities XK} {gp : PartialOrders XK}
    {gn : Nodes XN X XN XH XK XV} {N E : Type 0} (s : PagerState N E) (h : Holding g gh go gq gp gn) (l : LoadNumber) (load : OpenLoad)
    → OwnsLoad s.core Owner.Caller l load → h.readings l.0 ≡ None
    → type_of_root load.root ≡ None
    → step_fault (world_of (machine_of s h)) l ≡ Some Error.WrongMode
never-typed s h l load o none untyped = first_of (grind (arith, common_steps, nat_tests), search (rules))

module _ {X XN XH XK XV : Type 0} {g : Environments X XN XH XK XV} {gh : Hashes XH} {go : Orders XK} {gq : Equalities XK} {gp : PartialOrders XK}
    {gn : Nodes XN X XN XH XK XV} {N B W E : Type 0} (m : Seen N B W) (s s' : PagerState N E) (h : Holding g gh go gq gp gn) (kept' : Kept)
    (serving : IsServing s.core h) (was : IsPagerWhole m.values s) where
  steps : (l : LoadNumber) (load : OpenLoad) (reading : Reading) (x : Option Own) (reply : LoadReply N) (frames : List Frame)
      → OwnsLoad s.core Owner.Caller l load → reading_at (world_of (machine_of s h)) l ≡ Some reading
      → ReadingStep m.values Owner.Caller reading s reply.ended frames s'
      → reply.steps ≡ one_more reading.steps → IsMine s.core Owner.Caller reading.load
      → SetsOne h.readings l.0 x kept' → option_map reading_of x ≡ reading_after reply.ended reading frames
      → ((now : Own) → x ≡ Some now → (now.load ≡ l) × ReadsFor load now)
      → Makes m s h (Event.LoadStep l) (EventReply.LoadMoved (Ok reply)) s' (record h { readings = kept' })
  steps l load reading x reply frames o at step counts mine keeps goes again =
      let on = leaves-so (reading-feels m s.core Owner.Caller caller-free s'.core reading reply.ended frames step.does).does mine in
      let new : (now : Own) → x ≡ Some now → IsKept s'.core l.0 now =
      λ now is. still-kept serving.readings on l.0 now (record {
        number = ap (λ (n : LoadNumber). n.0) (again now is).0;
        given = (was.whole.loads.numbered l.0 (ap is_some o.stands_open)).1;
        reads = λ other there. subst (λ y. ReadsFor y now) (same_some _ _ (sym o.stands_open ∙ there)) (again now is).1;
      }) in
      makes m s s' {h' = record h { readings = kept' }} serving was step.whole (omega arith) (λ v. refl) on (Event.LoadStep l) (EventReply.LoadMoved (Ok reply))
      (λ v. refl)
      (record {
        moves = record {
          reading = reading;
          frames = frames;
          may = no-load-fault _ _ _ _ o;
          at = at;
          does = step.does;
          counts = counts;
          readings = are-these s'.core kept' (updated l.0 (reading_after reply.ended reading frames) (readings_in h.readings s.core))
              (λ q open_load is_open. at-one reading_of l.0 x (reading_after reply.ended reading frames) (readings_in h.readings s.core) keeps goes q
              (as-before serving.readings on q open_load is_open));
          work = same-work m s s' h kept' serving was step.whole;
        };
        refused = tt;
      })
      (record {
        each = λ n y is. elim (step.moves.each n y is) [ inl there ↦ inl there | inr (none, came) ↦ inr (none, (reading, at, came)) ];
        environment = step.moves.environment;
      })
      (step.holds was) tt
      (kept-one serving.readings on l.0 x keeps new)

-- what stands at a place of a list with one item more
with-last : {Y : Type 0} (xs : List Y) (x : Y) (n : ℕ) → slice_get (xs ++ x ∷ []) n ≡ (if n == length xs then Some x else slice_get xs n)
with-last [] x x1 = grind (arith, nat_tests)
with-last (y ∷ ys) x zero = grind (arith, nat_tests)
with-last (y ∷ ys) x (suc n) = let more = with-last ys x n in grind (arith, nat_tests, more)

module _ {X XN XH XK XV : Type 0} {g : Environments X XN XH XK XV} {gh : Hashes XH} {go : Orders XK} {gq : Equalities XK} {gp : PartialOrders XK}
    {gn : Nodes XN X XN XH XK XV} where
  -- the tables with one more, which has no claim
  shelf-added : (tables : List (LentTable X XN XH XK XV g gh go gq gp gn)) (new : LentTable X XN XH XK XV g gh go gq gp gn) → SameShelf no_shelf (shelf_of new)
      → (t : ℕ)
      → SameShelf (updated (length tables + 1) no_shelf (shelf_at tables) t) (shelf_at (tables ++ new ∷ []) t)
  shelf-added tables new empty x3 = grind (arith, nat_tests, with-last, not-same, same-number)

-- a worker that has just begun is on its table
pub begun-on : {X XN XH XK XV : Type 0} {g : Environments X XN XH XK XV} {gh : Hashes XH} {go : Orders XK} {gq : Equalities XK} {gp : PartialOrders XK}
    {gn : Nodes XN X XN XH XK XV} {last : ℕ} {t : TableNumber} {task : world.Task} {k : WorkerProgress X XN XH XK XV g gh go gq gp gn}
    → (0 < t.0) × (t.0 ≤ last)
    → IsBegun t task k → IsOnTable last k
begun-on {t = t} {k = k} there begun = let same : k.table ≡ t.0 = ap (λ (x : world.Walking). x.table) begun.walking in
    record { table = rw same there; way = begun.way }

begun-fits : {X XN XH XK XV : Type 0} {g : Environments X XN XH XK XV} {gh : Hashes XH} {go : Orders XK} {gq : Equalities XK} {gp : PartialOrders XK}
    {gn : Nodes XN X XN XH XK XV} (v : ℕ) (w : Core) (turn : Turn X XN XH XK XV g gh go gq gp gn)
    → ((task : Task X XN XH XK XV g gh go gq gp gn) → turn ≡ Turn.Goes task → NeedsNoPager task) → LeavesFit v w turn
begun-fits v w (Turn.Goes task) plain = plain-fits v w task (plain task refl)
begun-fits v w (Turn.Answers answer) plain = tt

module _ {X XN XH XK XV : Type 0} {g : Environments X XN XH XK XV} {gh : Hashes XH} {go : Orders XK} {gq : Equalities XK} {gp : PartialOrders XK}
    {gn : Nodes XN X XN XH XK XV} {N B W E : Type 0} (m : Seen N B W) (s s' : PagerState N E)
    (h : Holding g gh go gq gp gn) {walks' : ℕ → Option (WorkerProgress X XN XH XK XV g gh go gq gp gn)} (serving : IsServing s.core h)
    (was : IsPagerWhole m.values s)
    (formed : IsPagerWhole m.values s') (on : Leaves Owner.Caller (updated (s.core.last.worker + 1) true s.core.workers) s.core s'.core)
    (t : TableNumber) (task : world.Task) (n : WorkerNumber) (k : WorkerProgress X XN XH XK XV g gh go gq gp gn) (table : IsTable (world_of (machine_of s h)) t)
    (next : n.0 ≡ s.core.last.worker + 1) (begun : IsBegun t task k)
    (keeps : SetsOne h.walks n.0 (Some k) walks') where
  abbrev with_walk : Holding g gh go gq gp gn
  with_walk = record h { walks = walks' }

  -- the world's worker starts
  starts-so : (core : Core) → Alike (with_worker core) s'.core → Starts (world_of (machine_of s h)) t task core n (world_of (machine_of s' with_walk))
  starts-so core a = first_of (
    grind (arith, common_steps, nat_tests),
    grind (arith, nat_tests, are-these, as-before, at-one),
    search (rules, are-these, as-before, at-one),
  )

  at-work : (q : ℕ) → q ≢ n.0 → s'.core.workers q ≡ s.core.workers q
  at-work q other = first_of (grind (arith, common_steps, nat_tests), grind (arith, nat_tests, same-number), search (rules, same-number))

  new-walk : IsWalkKept s'.core (length h.tables) n.0 k
  new-walk = first_of (grind (arith, common_steps, nat_tests), grind (arith, nat_tests, updated-at, begun-fits), search (rules, updated-at, begun-fits))

  pub worker-made : (core : Core) → Alike (with_worker core) s'.core → (event : Event N B W) → ((v : ℕ) → step_of v event (EventReply.WorkerMade (Ok n)) ≡ [])
      → (Starts (world_of (machine_of s h)) t task core n (world_of (machine_of s' with_walk))
      → Happens m (world_of (machine_of s h)) event (EventReply.WorkerMade (Ok n)) (world_of (machine_of s' with_walk)))
      → Moves (λ q x. ⊥) s s' → Makes m s h event (EventReply.WorkerMade (Ok n)) s' with_walk
  worker-made core a event none happens moves = makes-with m s s' {h' = with_walk} formed event (EventReply.WorkerMade (Ok n)) (happens (starts-so core a))
      (record { each = λ q x is. elim (moves.each q x is) [ inl there ↦ inl there | inr came ↦ absurd came.1 ]; environment = moves.environment })
      (record { each = λ q x is. elim (moves.each q x is) [ inl there ↦ inl there | inr came ↦ absurd came.1 ]; environment = moves.environment }) tt
      (one-serves {h' = with_walk} serving was.whole.handles n.0 k keeps (omega arith) (kept-on serving.readings on (λ l own is. inl is))
      (λ q other. event-passes m q (world_of (machine_of s h)) (world_of (machine_of s' with_walk)) was.whole event (EventReply.WorkerMade (Ok n)) (none q)
      (happens (starts-so core a))
      (λ l load is own. on.others l load is (was.whole.loads.numbered l (ap is_some is)).1 (ap (is_owner Owner.Caller) own))) at-work new-walk)

-- a call by which values come, one by which they only go, and one by which they stay
module _ {N S E H K V : Type 0} {v : Values N} {tells : Storages S E N H K V} {old new : PagerView N S E} {call : Call N PagableData}
    {r : Reply N (Arc PagableData Global)}
    (does : CallDoes (plainly v) (pager_core tells old) Owner.Caller call (plain_reply r) (pager_core tells new)) where
  pub serves : Moves (CallBrings (pager_core tells old) call) (pager_state tells old) (pager_state tells new) → Serves v tells old call r new
  serves moves = record { step = record { does = does }; moves = moves }

  pub serves-less : AddsNoValue old new → Serves v tells old call r new
  serves-less only = serves (less-moves tells old new only)

  pub serves-same : ChangesOnlyTables old new → Serves v tells old call r new
  serves-same only = serves (record { each = λ n x is. inl (subst (λ values. value_in values n ≡ Some x) only.values is); environment = only.environment })

typed-so : (t : Option ℕ) → is_none t ≡ false → (type : ℕ) × (t ≡ Some type)
typed-so (Some type) there = (type, refl)
typed-so None there = absurd (cc)

-- nothing that is kept has changed
pub unprepared : {kept kept' : Kept} (l : LoadNumber) (key : ℕ) (t : Option ℕ) → ((q : ℕ) → kept' q ≡ kept q) → IsPrepared kept l key t kept'
unprepared l key t same = record { taken = λ own is. record { why = inl (sym (same l.0) ∙ is) }; full = λ none. same; others = λ q other. same q }

-- what is kept anew after what was kept stayed
pub keeps-after : {Y : Type 0} {k mid kept' : ℕ → Option Y} {l : ℕ} {own : Option Y} → ((q : ℕ) → mid q ≡ k q) → SetsOne mid l own kept'
    → SetsOne k l own kept'
keeps-after as_was keeps = record { here = keeps.here; others = λ q other. keeps.others q other ∙ as_was q }

module _ {X XN XH XK XV : Type 0} {g : Environments X XN XH XK XV} {gh : Hashes XH} {go : Orders XK} {gq : Equalities XK} {gp : PartialOrders XK}
    {gn : Nodes XN X XN XH XK XV} {N S E H K V : Type 0} (v : E → Values N) (tells : Storages S E N H K V) (old new : PagerView N S E)
    (held : LoadsAndWorkers X XN XH XK XV g gh go gq gp gn) (serving : IsServing (pager_core tells old) (holding held))
    (was : IsPagerWhole (v old.environment) (pager_state tells old)) where
  abbrev m : Seen N PagableData Written
  m = plainly (v old.environment)

  abbrev s : PagerState N E
  s = pager_state tells old

  abbrev s' : PagerState N E
  s' = pager_state tells new

  abbrev h : Holding g gh go gq gp gn
  h = holding held

  abbrev Takes : Given N → Answer N → PagerView N S E → LoadsAndWorkers X XN XH XK XV g gh go gq gp gn → Type 0
  Takes event reply now left = Served (v old.environment) tells old held event reply now left

  whole-still : {comes : ℕ → N → Type 0} → Moves comes s s' → IsPagerWhole (v new.environment) s' → IsPagerWhole (v old.environment) s'
  whole-still moves formed = subst (λ e. IsPagerWhole (v e) s') moves.environment formed

  pub start-made : (through : HandleNumber) (r : Result Beginning Error) → Serves (v old.environment) tells old (Call.LoadBegin through) (Reply.Begun r) new
      → IsPagerWhole (v new.environment) s'
      → Takes (Event.LoadStart through) (EventReply.Started r) new held
  start-made through r serves formed =
      let w = whole-still serves.moves formed in
      as-made (by-call m s s' h h.readings serving was w _ _ serves.step (record { still = λ l load is. refl; only = λ l own is. is }) (Event.LoadStart through)
      (EventReply.Started r) (λ q. refl)
      (λ readings. record { step = serves.step.does; readings = readings; work = same-work m s s' h h.readings serving was w }) serves.moves
      (held-anyhow serves.moves) tt)

  module _ (kept' : ByNumber Own) where
    abbrev kept : ByNumber Own
    kept = held.readings

    abbrev anew : LoadsAndWorkers X XN XH XK XV g gh go gq gp gn
    anew = record held { readings = kept' }

    pub call-made : (call : Call N PagableData) (reply : Reply N (Arc PagableData Global)) → Serves (v old.environment) tells old call reply new
        → IsPagerWhole (v new.environment) s'
        → Forgets s'.core (kept_at kept) (kept_at kept') → Takes (Event.Call call) (EventReply.CallReply reply) new anew
    call-made call reply serves formed f =
        let w = whole-still serves.moves formed in
        as-made (by-call m s s' h (kept_at kept') serving was w _ _ serves.step f (Event.Call call) (EventReply.CallReply (plain_reply reply)) (λ q. refl)
        (λ readings. record { step = serves.step; readings = readings; work = same-work m s s' h (kept_at kept') serving was w }) serves.moves
        (held-anyhow serves.moves) tt)

    -- a load of a key has begun
    pub key-made : (key t : ℕ) (l : LoadNumber) (k : ℕ) (own : Own) → Serves (v old.environment) tells old (Call.LoadKey key)
        (Reply.Begun (Ok (Beginning.Load l k))) new
        → IsPagerWhole (v new.environment) s' → reading_of own ≡ fresh l t → own.key ≡ key → own.for_cell ≡ false
        → SetsOne (kept_at kept) l.0 (Some own) (kept_at kept')
        → Takes (Event.LoadKey key t) (EventReply.Started (Ok (Beginning.Load l k))) new anew
    key-made key t l k own serves formed is key_is sort keeps =
        let w = whole-still serves.moves formed in
        let step = serves.step.does in
        let on = call-leaves s.core s'.core m (Call.LoadKey key) (Reply.Begun (Ok (Beginning.Load l k))) step in
        let next = step.begins.1.above in
        let a = step.begins.2 in
        let last : s'.core.last.load ≡ s.core.last.load + 1 = ap (λ (x : Last). x.load) a.last in
        let load : OpenLoad = record { owner = Owner.Caller; key = key; root = of_key } in
        let there : s'.core.loads l.0 ≡ Some load = ap s'.core.loads next ∙ a.loads (s.core.last.load + 1)
        ∙ updated-at (s.core.last.load + 1) (Some load) s.core.loads in
        let reads : ReadsFor load own = record { owned = refl; key = sym key_is; sort = sym sort; typed = tt } in
        let new_one : IsKept s'.core l.0 own =
        record {
          number = ap (λ (r : Reading). r.load.0) is;
          given = omega (arith, next, last);
          reads = λ other open_load. subst (λ x. ReadsFor x own) (same_some _ _ (sym there ∙ open_load)) reads;
        } in
        as-made (makes m s s' {h' = holding anew} serving was w (omega arith) (λ q. refl) on (Event.LoadKey key t)
        (EventReply.Started (Ok (Beginning.Load l k))) (λ q. refl)
        (record {
          step = step;
          begun = are-these s'.core (kept_at kept') (updated l.0 (Some (fresh l t)) (readings_in h.readings s.core))
              (λ q open_load is_open. at-one reading_of l.0 (Some own) (Some (fresh l t)) (readings_in h.readings s.core) keeps (ap Some is) q
              (as-before serving.readings on q open_load is_open));
          refused = tt;
          work = same-work m s s' h (kept_at kept') serving was w;
        }) serves.moves (held-anyhow serves.moves) tt
        (kept-one serving.readings on l.0 (Some own) keeps (λ other same. subst (λ x. IsKept s'.core l.0 x) (same_some _ _ same) new_one)))

    -- or none begins, and the pager is as it was
    pub key-none-made : (key t : ℕ) (e : Error) → Serves (v old.environment) tells old (Call.LoadKey key) (Reply.Begun (Err e)) new
        → IsPagerWhole (v new.environment) s'
        → ((q : ℕ) → kept_at kept' q ≡ kept_at kept q) → Takes (Event.LoadKey key t) (EventReply.Started (Err e)) new anew
    key-none-made key t e serves formed as_was = as-made (refused m serving was
        (record { step = serves.step.does.refused.stays; moves = serves.moves; whole = whole-still serves.moves formed })
        as_was refl (λ q. refl) (Event.LoadKey key t) (EventReply.Started (Err e)) (λ q. refl)
        (λ stays. record { step = serves.step.does; begun = tt; refused = stays.readings; work = stays.work }) tt)

    pub step-refused : (l : LoadNumber) (e : Error) → ((q : ℕ) → kept_at kept' q ≡ kept_at kept q) → step_fault (world_of (machine_of s h)) l ≡ Some e
        → Takes (Event.LoadStep l) (EventReply.LoadMoved (Err e)) old anew
    step-refused l e as_was why = as-made (refused m serving was (nothing-done s was) as_was refl (λ q. refl) (Event.LoadStep l)
        (EventReply.LoadMoved (Err e)) (λ q. refl) (λ stays. record { moves = tt; refused = (why, stays) }) tt)

    module _ (l : LoadNumber) (key : ℕ) (t : Option ℕ) (reads : ReadsAs s.core l key t) where
      pub step-made : (kept1 : ByNumber Own) (mid : Kept) (reply : LoadReply N) → IsPrepared (kept_at kept) l key t (kept_at kept1)
          → SetsOne mid l.0 (rest_after reply.ended (mid l.0)) (kept_at kept') → (own own' : Own) → kept_at kept1 l.0 ≡ Some own
          → StepsLoad (v old.environment) Owner.Caller own reply own' s s'
          → SetsOne (kept_at kept1) l.0 (Some own') mid → Takes (Event.LoadStep l) (EventReply.LoadMoved (Ok reply)) new anew
      step-made kept1 mid reply ready ends own own' there step keeps1 =
          let keeps : SetsOne (kept_at kept) l.0 (rest_after reply.ended (Some own')) (kept_at kept') =
          record {
            here = ends.here ∙ ap (rest_after reply.ended) keeps1.here;
            others = λ q other. ends.others q other ∙ keeps1.others q other
                ∙ ready.others q other;
          } in
          let r = reads-taken s serving l reads.load key t own reads.owned reads.key_is reads.type_is (ready.taken own there) in
          let of : IsLoadOf s.core Owner.Caller own =
          record { load = reads.load; owned = subst (λ n. OwnsLoad s.core Owner.Caller n reads.load) (sym r.0) reads.owned; key = r.1.key; sort = r.1.sort } in
          as-made (steps m s s' h (kept_at kept') serving was l reads.load (reading_of own) (rest_after reply.ended (Some own')) reply
          (reading_of own').frames reads.owned r.2
          (step.does of) step.counts (owned-mine of.owned) keeps (goes-on reply.ended) (λ now is.
          let e = only reply.ended now is in (
            ap (λ (x : Own). x.load) (sym e) ∙ step.same.load ∙ r.0,
            subst (λ x. ReadsFor reads.load x) e (let mine = r.1 in let same = step.same in
                grind (arith, nat_tests)),
          )))
        where
          goes-on : (ended : Option (LoadAnswer N)) → option_map reading_of (rest_after ended (Some own'))
              ≡ reading_after ended (reading_of own) (reading_of own').frames
          goes-on None = ap Some (rw (step.same.load, step.same.node_type, step.same.steps) refl)
          goes-on (Some answer) = refl

          only : (ended : Option (LoadAnswer N)) (now : Own) → rest_after ended (Some own') ≡ Some now → own' ≡ now
          only None now is = same_some _ _ is
          only (Some answer) now is = absurd (cc)

      pub no-place-made : IsPrepared (kept_at kept) l key t (kept_at kept') → kept_at kept' l.0 ≡ None → is_none t ≡ false
          → (told : Result (Unit {0}) Error) → DropCall s.core Owner.Caller l told s'.core → AddsNoValue old new → IsPagerWhole (v new.environment) s'
          → Takes (Event.LoadStep l) (EventReply.LoadMoved (Ok (record { ended = Some (LoadAnswer.Refused Error.OutOfMemory); steps = 1 }))) new anew
      no-place-made ready none of_cell told drop only formed =
          let unkept : kept_at kept l.0 ≡ None = sym (ready.full none l.0) ∙ none in
          let (type, typed) = typed-so t of_cell in
          let moves : Moves (λ n x. ⊥) s s' = less-moves tells old new only in
          let closes : LoadCloses s.core l told s'.core =
          elim drop.does [ inl r ↦ absurd (let f : None ≡ Some r.e = sym (no-load-fault _ _ _ _ reads.owned) ∙ r.why in cc) | inr (other, owned, c) ↦ c ] in
          as-made (steps m s s' h (kept_at kept') serving was l reads.load (fresh l type) None
          (record { ended = Some (LoadAnswer.Refused Error.OutOfMemory); steps = 1 }) [] reads.owned
          (at-found s h l reads.load reads.owned None unkept ∙ (of_root reads.load.root type (reads.type_is ∙ typed)).2 l)
          (record {
            does = record { does = (inl (record { mid = s.core; meets = inl (inr (inr refl), still s.core); told = told; closes = closes }), refl) };
            moves = none_comes moves;
            holds = λ w. none_comes moves;
            answers = tt;
            whole = whole-still moves formed;
          }) refl (owned-mine reads.owned) (record { here = none; others = ready.others }) refl (λ now is. absurd (cc)))

      pub untyped-made : IsPrepared (kept_at kept) l key t (kept_at kept') → kept_at kept' l.0 ≡ None → is_none t ≡ true
          → Takes (Event.LoadStep l) (EventReply.LoadMoved (Err Error.WrongMode)) old anew
      untyped-made ready none no_type =
          let untyped : t ≡ None = grind (arith, nat_tests) in
          step-refused l Error.WrongMode (ready.full none) (never-typed s h l reads.load reads.owned (sym (ready.full none l.0) ∙ none)
          (reads.type_is ∙ untyped))

  pub table-made : (tables' : Vec (LentTable X XN XH XK XV g gh go gq gp gn) Global) (table : LentTable X XN XH XK XV g gh go gq gp gn) (t : TableNumber)
      → tables'.items ≡ held.tables.items ++ table ∷ [] → t.0 ≡ length held.tables.items + 1
      → SameShelf no_shelf (shelf_of table) → Takes Event.TableNew (EventReply.TableMade (Ok t)) old (record held { tables = tables' })
  table-made tables' table t is number empty =
      let more = length-append h.tables (table ∷ []) in
      let unmoved : Leaves Owner.Caller s.core.workers s.core s.core = like (still s.core) (λ l. refl) refl in
      as-made (rw is (makes m s s {h' = record h { tables = h.tables ++ table ∷ [] }} serving was was (omega (arith, more)) (λ v. refl) unmoved Event.TableNew
      (EventReply.TableMade (Ok t))
      (λ v. refl) (record {
        made = (
          number,
          still s.core,
          are-these s.core h.readings (readings_in h.readings s.core) (λ l load is. as-before serving.readings unmoved l load is),
          record {
            same_shelves = λ q. subst (λ n. SameShelf (updated n no_shelf (shelf_at h.tables) q) (shelf_at (h.tables ++ table ∷ []) q)) (sym number)
                (shelf-added h.tables table empty q);
            last_is = more ∙ sym number;
            same_walkings = λ v. refl;
          },
        );
        refused = tt;
      })
      (record { each = λ n x is. inl is; environment = refl }) (record { each = λ n x is. inl is; environment = refl }) tt serving.readings))

  module _ (walks' : ByNumber (WorkerProgress X XN XH XK XV g gh go gq gp gn)) (t : TableNumber) where
    abbrev left : LoadsAndWorkers X XN XH XK XV g gh go gq gp gn
    left = record held { walks = walks' }

    pub entry-refused : (e : Error) (i : ℕ) → IsTableNumber t.0 held.tables.items → i < length s.core.list → RefusesEntry (v old.environment) s i e s'
        → ((q : ℕ) → kept_at walks' q ≡ kept_at held.walks q) → Takes (Event.WorkerListed t i) (EventReply.WorkerMade (Err e)) new left
    entry-refused e i there within r same_walks = as-made (refused m serving was r.stays (λ l. refl) refl same_walks (Event.WorkerListed t i)
        (EventReply.WorkerMade (Err e)) (λ q. refl)
        (λ stays. record {
          starts = tt;
          refused = (
            elim r.why [
              | inl (is, past) ↦ inl (is, inr past)
              | inr (inl (is, entry)) ↦ inr (inl (is, there, entry))
              | inr (inr is) ↦ inr (inr (inl is, there, within))
            ],
            stays,
          );
        }) tt)

    module _ (n : WorkerNumber) (k : WorkerProgress X XN XH XK XV g gh go gq gp gn) (table : IsTableNumber t.0 held.tables.items)
        (keeps : SetsOne (kept_at held.walks) n.0 (Some k) (kept_at walks')) where
      pub listed-started : (i : ℕ) (r : ArcRef) → StartsEntry (v old.environment) s i n r s' → IsBegun t (of_entry r.handle (identity_of r)) k
          → Takes (Event.WorkerListed t i) (EventReply.WorkerMade (Ok n)) new left
      listed-started i r entry begun =
          let starts = entry.starts in
          let task : world.Task = entry_task entry.h entry.row entry.type in
          let own : IsBegun t task k = subst (λ (x : ArcRef). IsBegun t (of_entry x.handle (identity_of x)) k) entry.is begun in
          as-made (worker-made m s s' h serving was starts.begins.whole
          (like {u = with_worker (with_entry_taken s.core i entry.h n)} starts.begins.step (λ l. refl) refl) t task n k table starts.next own keeps
          (with_entry_taken s.core i entry.h n)
          starts.begins.step (Event.WorkerListed t i) (λ q. refl)
          (λ begins. record { starts = (entry.h, entry.row, entry.type, entry.entry, entry.kinds, begins); refused = tt }) starts.begins.moves)

      pub item-started : (item : SerializedData) → WorkerStarts (v old.environment) s.core s n.0 s' → IsBegun t (of_item (written_of item)) k
          → Takes (Event.WorkerItem t item) (EventReply.WorkerMade (Ok n)) new left
      item-started item starts begun = as-made (worker-made m s s' h serving was starts.begins.whole
          (like {u = with_worker s.core} starts.begins.step (λ l. refl) refl) t (of_item (written_of item)) n k table starts.next begun keeps s.core
          starts.begins.step
          (Event.WorkerItem t (written_of item)) (λ q. refl) (λ begins. record { starts = begins; refused = tt }) starts.begins.moves)

-- what is read as a value of a caller's type
pub ruleset taking = (value-is-read, reading-is-refused, node-comes-back)
