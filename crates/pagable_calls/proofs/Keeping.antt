-- A machine's loads and workers agree with its pager after each event: by what each call, step, begin and end leaves, and that it leaves other owners' handles
-- alone.
use Rattle.pagable_calls.specs.{
  Driving.{AllKept, AllOnTables, Answer, Drives, Forgets, Given, HeldFitsPager, Holding, IsKept, IsOnTable, IsServing, IsWalkKept, Kept, Makes, SetsOne},
  Driving.{holding, is_done, kept_at, machine_of, plain_answer, plain_event, plainly, readings_in, walking_of, work_of},
  declared.workers.{LoadsAndWorkers.LoadsAndWorkers, WorkerProgress.WorkerProgress},
}
use Rattle.pagable_codec.specs.declared.{env.Env.Ghosts as Environments, hash.KeyHash.Ghosts as Hashes, nodes.NodeSet.Ghosts as Nodes}
use Rattle.pagable_load.{proofs.LoadSteps.none_comes, specs.{Frames.reading_of, declared.reading.Reading.Reading as Own}}
use Rattle.pagable_pageout.specs.{Joint.both, Turns.{IsOfKind, LeavesFit, TaskFits}, declared.{lent_table.LentTable.LentTable, tasks.{Task.Task, Turn.Turn}}}
use Rattle.pagable_pager.specs.View.{PagerView, Storages, pager_core, pager_state}
use Rattle.pagable_pager_spec.specs.{
  Access.{IfBothKnown, MakesCall},
  Basics.{SameAt, if_there, one, times, updated},
  Calls.{CloseCall, is_listed, shut},
  Cascade.fallen,
  Events.{CallDoes, CallStep, Ends, Happens, ReadingsAre, Stays, WorkStays},
  Kinds.{is_owner, owner_worker},
  Order.step_of,
  Pager.{EventBrings, EventHolds, HandlesAreWhole, IsMachineWhole, IsPagerWhole, IsReadingWhole, IsWalkingWhole, IsWhole, Moves, OwnersAreThere, PagerState},
  Pager.{ReplyWrites, world_of},
  World.{Alike, Cell, Core, OpenLoad, Reading, Seen, Values, Walking, World},
  declared.{calls.{Call.Call, Reply.Reply}, events.{Event.Event, EventReply.EventReply, WorkerAnswer.WorkerAnswer}, handle_row.Owner.Owner},
}
use Rattle.pagable_tables.proofs.SameViews.{still}
use Rattle.pagable_theorems.proofs.{
  CallEffects.calls-go,
  Effects.{Effect, Spares, listed-free, then-fell, worker-apart},
  EventEffects.event-goes,
  HandlesKept.{Goes, RowsGo, fell-anyhow, quiet-goes, stands-whole},
  ReadingSteps.caller-free,
  StepBounds.event-spares,
  Trees.{counted, one-true, same-number, same_some, self-number},
}
use Rattle.pagable_theorems.specs.TreeSteps.{Change, nothing_felt}
use Rattle.pagable_value_spec.specs.declared.numbers.{ArcRef.ArcRef, HandleNumber.HandleNumber}
use Rattle.std.proofs.{
  Common.{Bool, List, None, Option, Some, ap, arith, false, inl, inr, length, refl, rules, subst, sym, true, ℕ, [], ◌<◌, ◌==◌, ◌∙◌, ◌≡◌, ◌≢◌, ◌≤◌, ◌⊎◌},
  lemmas.{Bool.{Decides.nat_tests, false_from_ne_true}, Grind.common_steps},
}
use Rattle.std.specs.{
  Option.option_map,
  Prelude.{IsTrue, Result, if◌then◌else◌, is_some},
  declared.cmp.{Ord.Ghosts as Orders, PartialEq.Ghosts as Equalities, PartialOrd.Ghosts as PartialOrders},
}

-- what is told of an access and of a table together afterwards was told before
pub told-both : {A T : Type 0} {R : A × T → A × T → Type 0} (b b' : Bool) (s t : A) (q q' : T)
    → IfBothKnown (both (if b then Some s else None) (Some q)) (both (if b' then Some t else None) (Some q')) R → IsTrue b' → IsTrue b × R (s, q) (t, q')
told-both true true s t q q' told is = (refl, told.holds)
told-both false true s t q q' told is = absurd told.holds
told-both true false s t q q' told is = absurd (cc)
told-both false false s t q q' told is = absurd (cc)

-- of loads and workers, as far as the machine sees them
pub record Leaves (me : Owner) (works : ℕ → Bool) (w w' : Core) : Type 0 where
  pub loads : (l : ℕ) (load : OpenLoad) → w'.loads l ≡ Some load → (w.loads l ≡ Some load) ⊎ (w.last.load < l)
  pub last : w.last.load ≤ w'.last.load
  pub workers : SameAt works w'.workers
  pub others : (l : ℕ) (load : OpenLoad) → w.loads l ≡ Some load → l ≤ w.last.load → is_owner me load.owner ≡ false → w'.loads l ≡ Some load

pub after : {me : Owner} {works : ℕ → Bool} {w u w' : Core} → Leaves me works w u → Alike u w' → Leaves me works w w'
after {me} {works} {w} {u} {w'} f a = first_of (grind (arith, common_steps, nat_tests), search (rules))

pub like : {me : Owner} {w u w' : Core} → Alike u w' → SameAt w.loads u.loads → u.last.load ≡ w.last.load → Leaves me u.workers w w'
like {me} {w} {u} {w'} a loads last = first_of (grind (arith, common_steps, nat_tests), search (rules))

pub leaves-so : {me : Owner} {lists : Bool} {Asks Keeps : Type 0} {c : Change} {w w' : Core} → Effect me lists Asks Keeps false c w w' → Asks
    → Leaves me w.workers w w'
leaves-so e asks = record {
  loads = λ l load is. elim (e.goes.loads l load is) [ inl was ↦ inl was | inr new ↦ inr new.0 ];
  last = e.goes.loads_last;
  workers = e.workers;
  others = e.others asks;
}

-- a call of the caller's
pub call-leaves : (w w' : Core) {N B W : Type 0} (m : Seen N B W) (call : Call N B) (reply : Reply N B) → CallDoes m w Owner.Caller call reply w'
    → Leaves Owner.Caller w.workers w w'
call-leaves w w' m Call.Close (Reply.Done r) c = let f = c.falls.falls in like {u = fallen (shut w w'.failures) f.gone f.entries} f.leaves (λ l. refl) refl
call-leaves w w' m Call.Close reply c = absurd c
call-leaves w w' m call reply c = leaves-so (calls-go m w Owner.Caller caller-free w' call reply tt c).does tt

-- who is at work after a worker's answer
abbrev pub works_after : Option WorkerAnswer → ℕ → (ℕ → Bool) → ℕ → Bool
works_after None u works = works
works_after (Some answer) u works = updated u false works

pub end-leaves : {works : ℕ → Bool} {w m w' : Core} (answer : Option WorkerAnswer) (u : ℕ) → Leaves (owner_worker u) works w m → Ends answer u m w'
    → Leaves (owner_worker u) (works_after answer u works) w w'
end-leaves None u f a = after f a
end-leaves {works} {w} {m} {w'} (Some answer) u f e = first_of (grind (arith, common_steps, nat_tests), search (rules))

-- the worker's handles and open loads are as they were, and handles and nodes that are there stay what they are
pub record Passes (v : ℕ) (w w' : Core) : Type 0 where
  pub spares : Spares (owner_worker v) w w'
  pub loads : (l : ℕ) (load : OpenLoad) → w.loads l ≡ Some load → load.owner ≡ owner_worker v → w'.loads l ≡ Some load
  pub nodes : w.last.node ≤ w'.last.node
  pub handles : w.last.handle ≤ w'.last.handle
  pub rows : RowsGo w.last.handle w.rows w'.rows
  pub cells : (n : ℕ) (cell : Cell) → w'.cells n ≡ Some cell → n ≤ w.last.node → (was : Cell) × (w.cells n ≡ Some was) × (cell.node_type ≡ was.node_type)

abbrev LoadsStay : ℕ → Core → Core → Type 0
LoadsStay v w w' = (l : ℕ) (load : OpenLoad) → w.loads l ≡ Some load → load.owner ≡ owner_worker v → w'.loads l ≡ Some load

-- by what a step is as far as trees feel it
by-goes : {c : Change} (v : ℕ) (w w' : Core) → Goes c w w' → Spares (owner_worker v) w w' → LoadsStay v w w' → Passes v w w'
by-goes {c} v w w' g spares loads = record {
  spares = spares;
  loads = loads;
  nodes = g.nodes;
  handles = g.handles;
  rows = g.rows;
  cells = λ n cell is few. elim (g.cells n cell is) [ inl k ↦ (k.was, k.live, k.typed) | inr (next, born) ↦ absurd (omega (arith, few, next)) ];
}

-- the storage is closed, and what the list owns isn't a worker's
close-passes : (v : ℕ) (w w' : Core) {r : Result (Unit {0}) _} → OwnersAreThere w → CloseCall w r w' → LoadsStay v w w' → Passes v w w'
close-passes v w w' there c loads =
    let x = by-goes v (shut w w'.failures) w' (quiet-goes nothing_felt (fell-anyhow c.falls))
    (then-fell (owner_worker v) (worker-apart v) c.falls.falls (record { each = λ q row own s. s }) (record {
      each = λ q row own s. false_from_ne_true (is_listed w q) (λ is.
          let some : 0 < times (λ (h : HandleNumber). h.0 == q) w.list = grind (arith, nat_tests, is) in
          let found = counted (λ (h : HandleNumber). one (h.0 == q)) w.list some in
          let other = (listed-free (owner_worker v) refl there found.1.0 found.0 found.1.1).each q row own s in
          let here : (q == found.0.0) ≡ true = ap (λ n. q == n) (same-number _ _ (one-true _ found.2)) ∙ self-number q in
          cc);
    })) loads in
    record { spares = record { each = x.spares.each }; loads = loads; nodes = x.nodes; handles = x.handles; rows = x.rows; cells = x.cells }

-- each event of another's
pub event-passes : {N B W : Type 0} (m : Seen N B W) (v : ℕ) (u u' : World) → IsWhole u.core → (event : Event N B W) (reply : EventReply N B W)
    → step_of v event reply ≡ []
    → Happens m u event reply u'
    → LoadsStay v u.core u'.core → Passes v u.core u'.core
event-passes m v u u' whole (Event.Call Call.Close) (EventReply.CallReply (Reply.Done r)) others h loads =
    close-passes v u.core u'.core whole.owners_there h.step.does loads
event-passes m v u u' whole (Event.Call Call.Close) (EventReply.CallReply reply) others h loads = absurd h.step.does
event-passes m v u u' whole (Event.Call Call.Close) reply others h loads = absurd h
event-passes m v u u' whole event reply others h loads = by-goes v u.core u'.core (event-goes m u u' event reply tt h).goes
    (event-spares m v u u' whole.owners_there event reply others tt h) loads

-- what a machine keeps of a worker stays in step with the pager through each event that the worker doesn't make
module _ {v : ℕ} {w w' : Core} (whole : HandlesAreWhole w) (passes : Passes v w w') where
  kind-on : {r : ArcRef} → IsOfKind w r → IsOfKind w' r
  kind-on {r} k = first_of (grind (arith, common_steps, nat_tests), search (rules))

  fits-on : {X XN XH XK XV : Type 0} {g : Environments X XN XH XK XV} {gh : Hashes XH} {go : Orders XK} {gq : Equalities XK} {gp : PartialOrders XK}
      {gn : Nodes XN X XN XH XK XV} (task : Task X XN XH XK XV g gh go gq gp gn) → TaskFits v w task → TaskFits v w' task
  fits-on (Task.Pin r place) (s, kind) = (
    record {
      node_given = let a = s.node_given in let b = passes.nodes in omega (arith, a, b);
      given = let a = s.given in let b = passes.handles in omega (arith, a, b);
      is = λ row live. let was = passes.rows r.handle.0 row live s.given in let old =
          s.is was.was was.live in (sym was.at ∙ old.0, λ loose. was.loose (old.1 loose));
    },
    kind-on kind,
  )
  fits-on (Task.Load r place through own) (kind, l) = (
    kind-on kind,
    record {
      is = record {
        load = l.is.load;
        owned = record { stands_open = passes.loads _ _ l.is.owned.stands_open l.is.owned.own; own = l.is.owned.own };
        key = l.is.key;
        sort = l.is.sort;
      };
      for_cell = l.for_cell;
      t = l.t;
      root = l.root;
    },
  )
  fits-on (Task.Write r place through pin) (kind, p) =
      let s = passes.spares.each pin.0 p.pins.row p.own (stands-whole whole pin.0 p.pins.row p.pins.live) in
      (kind-on kind, record { pins = record { row = p.pins.row; live = s.live; at = p.pins.at; pins = p.pins.pins }; own = p.own })
  fits-on task fits = tt

  turn-on : {X XN XH XK XV : Type 0} {g : Environments X XN XH XK XV} {gh : Hashes XH} {go : Orders XK} {gq : Equalities XK} {gp : PartialOrders XK}
      {gn : Nodes XN X XN XH XK XV} (turn : Turn X XN XH XK XV g gh go gq gp gn) → LeavesFit v w turn → LeavesFit v w' turn
  turn-on (Turn.Goes task) fits = fits-on task fits
  turn-on (Turn.Answers answer) fits = tt

  pub walk-on : {X XN XH XK XV : Type 0} {g : Environments X XN XH XK XV} {gh : Hashes XH} {go : Orders XK} {gq : Equalities XK} {gp : PartialOrders XK}
      {gn : Nodes XN X XN XH XK XV} {last last' : ℕ} {k : WorkerProgress X XN XH XK XV g gh go gq gp gn} → last ≤ last' → w'.workers v ≡ w.workers v
      → IsWalkKept w last v k → IsWalkKept w' last' v k
  walk-on more same k = first_of (grind (arith, common_steps, nat_tests), grind (arith, nat_tests, turn-on), search (rules, turn-on))

-- the machine reads what is kept of open loads
pub are-these : (w' : Core) (kept' : Kept) (target : ℕ → Option Reading)
    → ((l : ℕ) (load : OpenLoad) → w'.loads l ≡ Some load → option_map reading_of (kept' l) ≡ target l)
    → (l : ℕ) → readings_in kept' w' l ≡ if_there (λ load. target l) None (w'.loads l)
are-these w' kept' target same l = first_of (grind (arith, common_steps, nat_tests), search (rules))

pub not-same : (q l : ℕ) → (q == l) ≡ false → q ≢ l
not-same q l e is = let f : (q == l) ≡ true = ap (λ n. n == l) is ∙ self-number l in absurd (cc)

pub at-one : {Y Z : Type 0} (f : Y → Z) {kept kept' : ℕ → Option Y} (l : ℕ) (x : Option Y) (new : Option Z) (old : ℕ → Option Z) → SetsOne kept l x kept'
    → option_map f x ≡ new → (q : ℕ)
    → option_map f (kept q) ≡ old q
    → option_map f (kept' q) ≡ updated l new old q
at-one f {kept} {kept'} l x new old k is q same = first_of (
  grind (arith, common_steps, nat_tests),
  grind (arith, nat_tests, same-number, not-same),
  search (rules, same-number, not-same),
)

pub one-or-old : {Y : Type 0} {kept kept' : ℕ → Option Y} (l : ℕ) (x : Option Y) → SetsOne kept l x kept' → (q : ℕ) (own : Y) → kept' q ≡ Some own
    → ((q ≢ l) × (kept q ≡ Some own)) ⊎ ((q ≡ l) × (x ≡ Some own))
one-or-old {kept = kept} {kept'} l x k q own is = first_of (
  grind (arith, common_steps, nat_tests),
  grind (arith, nat_tests, same-number, not-same),
  search (rules, same-number, not-same),
)

module _ {w : Core} {kept : Kept} (all : AllKept w kept) {me : Owner} {works : ℕ → Bool} {w' : Core} (on : Leaves me works w w') where
  -- an open load is read as it was
  pub as-before : (l : ℕ) (load : OpenLoad) → w'.loads l ≡ Some load → option_map reading_of (kept l) ≡ readings_in kept w l
  as-before l load open_load = first_of (grind (arith, common_steps, nat_tests), search (rules))

  pub still-kept : (l : ℕ) (own : Own) → IsKept w l own → IsKept w' l own
  still-kept l own k =
      let given = k.given in
      let more = on.last in
      record {
        number = k.number;
        given = omega (arith, given, more);
        reads = λ load open_load. elim (on.loads l load open_load) [ inl was ↦ k.reads load was | inr above ↦ absurd (omega (arith, given, above)) ];
      }

  pub kept-on : {kept' : Kept} → ((l : ℕ) (own : Own) → kept' l ≡ Some own → (kept l ≡ Some own) ⊎ IsKept w' l own) → AllKept w' kept'
  kept-on anew l own is = elim (anew l own is) [ inl was ↦ still-kept l own (all l own was) | inr new ↦ new ]

  pub kept-one : {kept' : Kept} (l : ℕ) (x : Option Own) → SetsOne kept l x kept' → ((own : Own) → x ≡ Some own → IsKept w' l own) → AllKept w' kept'
  kept-one l x keeps new = kept-on (λ q own is. elim (one-or-old l x keeps q own is)
      [ inl there ↦ inl there.1 | inr (here, same) ↦ inr (subst (λ n. IsKept w' n own) (sym here) (new own same)) ])

-- a machine in step with a pager that is whole is whole
pub machine-whole : {X XN XH XK XV : Type 0} {g : Environments X XN XH XK XV} {gh : Hashes XH} {go : Orders XK} {gq : Equalities XK} {gp : PartialOrders XK}
    {gn : Nodes XN X XN XH XK XV} {N E : Type 0} (v : Values N) (s : PagerState N E) (h : Holding g gh go gq gp gn) → IsPagerWhole v s → IsServing s.core h
    → IsMachineWhole v (machine_of s h)
machine-whole {X} {g} v s h formed serving = record {
  pager = formed;
  readings = λ l reading is. of l reading (s.core.loads l) refl (h.readings l) refl is;
  walkings = of-walk;
  each_walks = λ n is. let there = serving.each_walks n is in grind (arith, nat_tests);
}
  where
    of : (l : ℕ) (reading : Reading) (found : Option OpenLoad) → s.core.loads l ≡ found → (own : Option Own) → h.readings l ≡ own
        → if_there (λ (load : OpenLoad). option_map reading_of own) None found ≡ Some reading → IsReadingWhole s.core l reading
    of l reading (Some load) e (Some own) f is =
        let k = serving.readings l own f in
        let r = k.reads load e in
        subst (λ x. IsReadingWhole s.core l x) (same_some _ _ is) (record { number = k.number; load = load; open_load = e; owned = r.owned; typed = r.typed })
    of l reading found e own f is = absurd (cc)

    of-walk : (n : ℕ) (walking : Walking) → option_map walking_of (h.walks n) ≡ Some walking → IsWalkingWhole s.core (work_of h s.core) n walking
    of-walk n walking is = let k = serving.walks n in grind (arith, nat_tests, same_some, serving.walks, k)

-- where nothing has to be held
pub held-anyhow : {N E : Type 0} {s s' : PagerState N E} {comes : ℕ → N → Type 0} → Moves comes s s' → Moves (λ n x. Unit {0}) s s'
held-anyhow moves = record {
  each = λ n x is. elim (moves.each n x is) [ inl there ↦ inl there | inr (none, came) ↦ inr (none, tt) ];
  environment = moves.environment;
}

-- what is done to a pager, and what is kept afterwards
pub makes-with : {X XN XH XK XV : Type 0} {g : Environments X XN XH XK XV} {gh : Hashes XH} {go : Orders XK} {gq : Equalities XK} {gp : PartialOrders XK}
    {gn : Nodes XN X XN XH XK XV} {N B W E : Type 0} (m : Seen N B W) (s s' : PagerState N E) {h h' : Holding g gh go gq gp gn} → IsPagerWhole m.values s'
    → (event : Event N B W) (reply : EventReply N B W)
    → Happens m (world_of (machine_of s h)) event reply (world_of (machine_of s' h')) → Moves (EventBrings m.values (world_of (machine_of s h)) event) s s'
    → Moves (λ n x. EventHolds m.values s event x) s s' → ReplyWrites m s reply → IsServing s'.core h' → Makes m s h event reply s' h'
makes-with m s s' {h} {h'} formed event reply happens moves holds writes now =
    record {
      does = record {
        step = record { happens = happens };
        moves = moves;
        holds = holds;
        writes = writes;
        whole = machine-whole m.values s' h' formed now;
      };
      serving = now;
    }

-- of one worker this is kept from now on
pub one-serves : {X XN XH XK XV : Type 0} {g : Environments X XN XH XK XV} {gh : Hashes XH} {go : Orders XK} {gq : Equalities XK} {gp : PartialOrders XK}
    {gn : Nodes XN X XN XH XK XV} {w w' : Core} {h h' : Holding g gh go gq gp gn} → IsServing w h → HandlesAreWhole w
    → (v : ℕ) (k : WorkerProgress X XN XH XK XV g gh go gq gp gn) → SetsOne h.walks v (Some k) h'.walks
    → length h.tables ≤ length h'.tables → AllKept w' h'.readings → ((q : ℕ) → q ≢ v → Passes q w w') → ((q : ℕ) → q ≢ v → w'.workers q ≡ w.workers q)
    → IsWalkKept w' (length h'.tables) v k
    → IsServing w' h'
one-serves {X} {g} {w} {w'} {h} {h'} serving whole v k keeps more readings passes works new = record {
  readings = readings;
  walks = λ q x is. elim (one-or-old v (Some k) keeps q x is) [
    | inl (other, was) ↦ walk-on whole (passes q other) more (works q other) (serving.walks q x was)
    | inr (at, same) ↦ subst (λ n. IsWalkKept w' (length h'.tables) n x) (sym at) (subst (λ y. IsWalkKept w' (length h'.tables) v y) (same_some _ _ same) new)
  ];
  each_walks = λ q is. grind (arith, nat_tests, same-number, not-same, serving.each_walks, keeps.others, works);
}

-- no worker steps, and nothing else is kept of any
module _ {X XN XH XK XV : Type 0} {g : Environments X XN XH XK XV} {gh : Hashes XH} {go : Orders XK} {gq : Equalities XK} {gp : PartialOrders XK}
    {gn : Nodes XN X XN XH XK XV} {N B W E : Type 0} (m : Seen N B W) (s s' : PagerState N E) {h h' : Holding g gh go gq gp gn} (serving : IsServing s.core h)
    (was : IsPagerWhole m.values s)
    (formed : IsPagerWhole m.values s') (more : length h.tables ≤ length h'.tables) (walks : (v : ℕ) → h'.walks v ≡ h.walks v)
    (on : Leaves Owner.Caller s.core.workers s.core s'.core) where
  pub makes : (event : Event N B W) (reply : EventReply N B W) → ((v : ℕ) → step_of v event reply ≡ [])
      → Happens m (world_of (machine_of s h)) event reply (world_of (machine_of s' h'))
      → Moves (EventBrings m.values (world_of (machine_of s h)) event) s s' → Moves (λ n x. EventHolds m.values s event x) s s' → ReplyWrites m s reply
      → AllKept s'.core h'.readings
      → Makes m s h event reply s' h'
  makes event reply none happens moves holds writes now = makes-with m s s' formed event reply happens moves holds writes (record {
    readings = now;
    walks = λ v k is.
        let passes = event-passes m v (world_of (machine_of s h)) (world_of (machine_of s' h')) was.whole event reply (none v) happens
        (λ l load is own. on.others l load is (was.whole.loads.numbered l (ap is_some is)).1 (ap (is_owner Owner.Caller) own)) in
        walk-on was.whole.handles passes more (on.workers v) (serving.walks v k (sym (walks v) ∙ is));
    each_walks = λ v is. ap is_some (walks v) ∙ serving.each_walks v (sym (on.workers v) ∙ is);
  })

module _ {X XN XH XK XV : Type 0} {g : Environments X XN XH XK XV} {gh : Hashes XH} {go : Orders XK} {gq : Equalities XK} {gp : PartialOrders XK}
    {gn : Nodes XN X XN XH XK XV} {N B W E : Type 0} (m : Seen N B W) (s s' : PagerState N E) (h : Holding g gh go gq gp gn) (kept' : Kept)
    (serving : IsServing s.core h) (was : IsPagerWhole m.values s)
    (formed : IsPagerWhole m.values s') where
  abbrev served : Holding g gh go gq gp gn
  served = record h { readings = kept' }

  pub same-work : WorkStays (work_of h s.core) (work_of served s'.core)
  same-work = record { shelves = λ t. record { slots = λ i. refl; waits = λ v. refl }; last_table = refl; walkings = λ v. refl }

  -- what a call does, of which no more is kept than there was
  pub by-call : (call : Call N B) (answer : Reply N B) → CallStep m s.core Owner.Caller call answer s'.core → Forgets s'.core h.readings kept'
      → (event : Event N B W) (reply : EventReply N B W)
      → ((v : ℕ) → step_of v event reply ≡ [])
      → (ReadingsAre (readings_in h.readings s.core) (world_of (machine_of s' served))
      → Happens m (world_of (machine_of s h)) event reply (world_of (machine_of s' served)))
      → Moves (EventBrings m.values (world_of (machine_of s h)) event) s s' → Moves (λ n x. EventHolds m.values s event x) s s' → ReplyWrites m s reply
      → Makes m s h event reply s' served
  by-call call answer step f event reply none happens moves holds writes =
      let on = call-leaves s.core s'.core m call answer step.does in
      makes m s s' {h' = served} serving was formed (omega arith) (λ v. refl) on event reply none
      (happens (are-these s'.core kept' (readings_in h.readings s.core) (λ l load is. ap (option_map reading_of) (f.still l load is)
      ∙ as-before serving.readings on l load is)))
      moves holds writes (kept-on serving.readings on (λ l own is. inl (f.only l own is)))

module _ {X XN XH XK XV : Type 0} {g : Environments X XN XH XK XV} {gh : Hashes XH} {go : Orders XK} {gq : Equalities XK} {gp : PartialOrders XK}
    {gn : Nodes XN X XN XH XK XV} {N B W E : Type 0} (m : Seen N B W) {s s' : PagerState N E} {h h' : Holding g gh go gq gp gn} (serving : IsServing s.core h)
    (was : IsPagerWhole m.values s)
    (done : MakesCall m.values (λ w'. Alike s.core w') s s') (readings : (l : ℕ) → h'.readings l ≡ h.readings l) (tables : h'.tables ≡ h.tables)
    (walks : (v : ℕ) → h'.walks v ≡ h.walks v) where
  on : Leaves Owner.Caller s.core.workers s.core s'.core
  on = like done.step (λ l. refl) refl

  stays : Stays (world_of (machine_of s h)) (world_of (machine_of s' h'))
  stays = let same_pager : Alike s.core s'.core = done.step in grind (arith, nat_tests, are-these, as-before)

  -- an event is refused
  pub refused : (event : Event N B W) (reply : EventReply N B W) → ((v : ℕ) → step_of v event reply ≡ [])
      → (Stays (world_of (machine_of s h)) (world_of (machine_of s' h')) → Happens m (world_of (machine_of s h)) event reply (world_of (machine_of s' h')))
      → ReplyWrites m s reply → Makes m s h event reply s' h'
  refused event reply none happens writes =
      makes m s s' serving was done.whole (let e : length h'.tables ≡ length h.tables = ap length tables in omega (arith, e)) walks on event reply none
      (happens stays)
      (none_comes done.moves) (none_comes done.moves) writes
      (kept-on serving.readings on (λ l own is. inl (sym (readings l) ∙ is)))

-- nothing is done to the pager
pub nothing-done : {N E : Type 0} {v : Values N} (s : PagerState N E) → IsPagerWhole v s → MakesCall v (λ w'. Alike s.core w') s s
nothing-done s was = record { step = still s.core; moves = record { each = λ n x is. inl is; environment = refl }; whole = was }

-- ---- workers stay on their tables, whatever the storage answers

module _ {X XN XH XK XV : Type 0} {g : Environments X XN XH XK XV} {gh : Hashes XH} {go : Orders XK} {gq : Equalities XK} {gp : PartialOrders XK}
    {gn : Nodes XN X XN XH XK XV} where
  -- those that are kept are kept as before, beside no fewer tables
  pub stay-on : {tables tables' : List (LentTable X XN XH XK XV g gh go gq gp gn)} {walks walks' : ℕ → Option (WorkerProgress X XN XH XK XV g gh go gq gp gn)}
      → AllOnTables tables walks → ((v : ℕ) → walks' v ≡ walks v) → length tables ≤ length tables' → AllOnTables tables' walks'
  stay-on all same more = record {
    each = λ v k is.
        let on = all.each v k (sym (same v) ∙ is) in
        let few = on.table.1 in
        record { table = (on.table.0, omega (arith, few, more)); way = on.way };
  }

  -- and one is kept anew
  pub one-on : {tables tables' : List (LentTable X XN XH XK XV g gh go gq gp gn)} {walks walks' : ℕ → Option (WorkerProgress X XN XH XK XV g gh go gq gp gn)}
      → AllOnTables tables walks → (n : ℕ) (new : WorkerProgress X XN XH XK XV g gh go gq gp gn) → SetsOne walks n (Some new) walks'
      → length tables' ≡ length tables
      → IsOnTable (length tables') new → AllOnTables tables' walks'
  one-on {tables} {tables'} all n new keeps len on = record {
    each = λ v k is. elim (one-or-old n (Some new) keeps v k is) [
      | inl was ↦ subst (λ last. IsOnTable last k) (sym len) (all.each v k was.1)
      | inr same ↦ subst (λ x. IsOnTable (length tables') x) (same_some _ _ same.1) on
    ];
  }

  -- a worker that hasn't answered is at work
  pub at-work : {w : Core} {h : Holding g gh go gq gp gn} → IsServing w h → (v : ℕ) → is_done (h.walks v) ≡ false → w.workers v ≡ true
  at-work {w} {h} serving v left = grind (arith, nat_tests, serving.walks)

-- what a machine over a pager does, made of both
pub record Served {X XN XH XK XV : Type 0} {g : Environments X XN XH XK XV} {gh : Hashes XH} {go : Orders XK} {gq : Equalities XK} {gp : PartialOrders XK}
    {gn : Nodes XN X XN XH XK XV} {N S E H K V : Type 0} (v : Values N) (tells : Storages S E N H K V) (old : PagerView N S E)
    (held : LoadsAndWorkers X XN XH XK XV g gh go gq gp gn)
    (event : Given N)
    (reply : Answer N) (new : PagerView N S E) (held' : LoadsAndWorkers X XN XH XK XV g gh go gq gp gn) : Type 0 where
  pub made : Makes (plainly v) (pager_state tells old) (holding held) (plain_event event) (plain_answer reply) (pager_state tells new) (holding held')

pub as-made : {X XN XH XK XV : Type 0} {g : Environments X XN XH XK XV} {gh : Hashes XH} {go : Orders XK} {gq : Equalities XK} {gp : PartialOrders XK}
    {gn : Nodes XN X XN XH XK XV} {N S E H K V : Type 0} {v : Values N} {tells : Storages S E N H K V} {old new : PagerView N S E}
    {held held' : LoadsAndWorkers X XN XH XK XV g gh go gq gp gn} {event : Given N} {reply : Answer N}
    → Makes (plainly v) (pager_state tells old) (holding held) (plain_event event) (plain_answer reply) (pager_state tells new) (holding held')
    → Served v tells old held event reply new held'
as-made makes = record { made = makes }

module _ {X XN XH XK XV : Type 0} {g : Environments X XN XH XK XV} {gh : Hashes XH} {go : Orders XK} {gq : Equalities XK} {gp : PartialOrders XK}
    {gn : Nodes XN X XN XH XK XV} {N S E H K V : Type 0} {v : Values N} {tells : Storages S E N H K V} {old new : PagerView N S E}
    {held held' : LoadsAndWorkers X XN XH XK XV g gh go gq gp gn}
    {event : Given N} {reply : Answer N} (was : HeldFitsPager tells old held) where
  -- a machine over a pager does what is made of both, as long as the storage is honest
  pub drives : (IsTrue (tells.is_honest new.storage) → IsTrue (tells.is_honest old.storage)) → AllOnTables held'.tables.items (kept_at held'.walks)
      → (IsTrue (tells.is_honest new.storage) → IsServing (pager_core tells old) (holding held) → Served v tells old held event reply new held')
      → Drives v tells old held event reply new held'
  drives keeps on_tables does = record { makes = λ is. (does is (was.serving (keeps is))).made; honest = keeps; on_tables = on_tables }

  -- the storage isn't asked, and no other worker is kept
  pub drives-beside : new.storage ≡ old.storage → length held.tables.items ≤ length held'.tables.items
      → ((q : ℕ) → kept_at held'.walks q ≡ kept_at held.walks q) → (IsServing (pager_core tells old) (holding held)
      → Served v tells old held event reply new held')
      → Drives v tells old held event reply new held'
  drives-beside same more walks does = drives (λ is. ap tells.is_honest (sym same) ∙ is) (stay-on was.on_tables walks more) (λ is serving. does serving)

  -- and nothing is done
  pub refuses : new.storage ≡ old.storage → length held.tables.items ≤ length held'.tables.items → ((q : ℕ) → kept_at held'.walks q ≡ kept_at held.walks q)
      → (IsServing (pager_core tells old) (holding held) → Makes (plainly v) (pager_state tells old) (holding held) (plain_event event) (plain_answer reply)
      (pager_state tells new) (holding held'))
      → Drives v tells old held event reply new held'
  refuses same more walks does = drives-beside same more walks (λ serving. as-made (does serving))
