-- What a worker's step and each event that doesn't close the storage do to the core, as trees feel it.
use Rattle.pagable_pager_spec.specs.{
  Calls.StoreCall,
  Cascade.only_handle,
  Events.{Ends, ReadingsAre, Starts, Stays, new_walking, reading_after, with_worker},
  Kinds.is_loose,
  Loads.gone_on,
  Pager.{EventBrings, IsNewNode, IsWhole, OwnersAreThere, TodoBrings},
  Refusals.Owns,
  WorkerClaims.LeavesCache,
  Workers.{KeySetFor, fresh, next_start, without_worker},
  World.{Cell, digest},
  declared.{events.{PinStep.PinStep, TableNumber.TableNumber}, pinning.Pinning.Pinning},
}
use Rattle.pagable_theorems.proofs.{
  CallEffects.{begins, begins-key, call-knows, calls-go, clones, pins, schedules, stores},
  Decoding.among-left,
  Effects.{Effect, IsApart, IsHeldFor, IsMine, Lasts, Spares, ended-free, entry, fell, held-fell, moves, no-one, none, one-then, released-free, spares-then},
  Effects.{stays, stays-alike, stays-fell, then-alike, then-fell, with-key, worker-apart},
  HandlesKept.{Goes, KnowsNext, NotLoads, Quiet, alike, alike-away, at-updated, fell-anyhow, goes-quiet, le-self, parts, quiet-then, rows-self},
  ReadingSteps.{LoadsTodo, caller-free, feels-alike, front_reading, read-after, reading-feels, reading-knows, reading-stands},
  SlotsGrow.{AllWait, WaitsWell},
  Trees.{same_some, self-number},
  Words.{Action, Alike, Among, ArcRef, Beginning, Blob, Bool, Change, Claim, CloneCall, Core, Err, Error, Event, EventReply, HandleNumber, HandleRow},
  Words.{HandlesAreWhole, Happens, KeepsOpen, Last, List, None, Ok, OpenLoad, Option, Owner, Reading, ReadingFeels, Result, Seen, Some, Task, Todo, Walking},
  Words.{WorkDoes, WorkerAnswer, WorkerNumber, WorkerReply, WorkerState, WorkerSteps, World, answer_after, ap, arith, basics, false, give, inl, inr, is_some},
  Words.{nothing_felt, owner_worker, refl, step_of, subst, sym, to_fail, to_load, to_pin, to_release, to_set, to_start, true, updated, ℕ, [], ◌++◌, ◌+◌, ◌<◌},
  Words.{◌∙◌, ◌∷◌, ◌≡◌, ◌≤◌, ◌⊎◌},
}
use Rattle.pagable_theorems.specs.{
  TreeSteps.{EventFeels, IsFresh, KeepsReadings, NewNode, SameNode, StaysAway, by-call, by-key, by-nothing, by-reading, sets_key},
}

-- where a worker stands before its step
abbrev pub site_of : World → Walking → WorkerState
site_of u w = record { core = u.core; shelf = u.work.shelves w.table; todo = w.todo }

pub works-free : (v : ℕ) → NotLoads (owner_worker v)
works-free v l is = absurd (cc)

abbrev pub LoadsAnew : WorkerState → Type 0
LoadsAnew s = (reading : Reading) → front_reading s.todo ≡ Some reading → IsFresh s.core reading

no-load : (s : WorkerState) (todo : List Todo) → s.todo ≡ todo → front_reading todo ≡ None → LoadsAnew s
no-load s todo is none reading e = absurd (cc (ap front_reading (sym is) ∙ e))

pub started : (place : ℕ) (rs : List ArcRef) (x : Todo) (below : List Todo) → front_reading (x ∷ below) ≡ None
    → front_reading (next_start place rs ++ x ∷ below) ≡ None
started place x1 x below x4 = grind basics

given : (r : ArcRef) (key height : ℕ) (below : List Todo) → AllWait below → front_reading (give r key height below) ≡ None
given r key height x3 well = grind (basics, started)

-- A load makes its step; the key is set through the worker's own loose handle; or nothing is felt. But for the first, a load at the front afterwards has just
-- begun.
pub data WalkFeels {N B W : Type 0} (m : Seen N B W) (v : ℕ) (s s' : WorkerState) (todo : List Todo) : Change → Type 0 where
  walk-loads : (c : Change) (r : ArcRef) (place : ℕ) (through : HandleNumber) (reading : Reading) (below : List Todo) → todo ≡ to_load r place through reading
      ∷ below
      → (t : LoadsTodo m.values (owner_worker v) s s' reading) → (t.answer ≡ None → (load : OpenLoad) × (s.core.loads reading.load.0 ≡ Some load))
      → (HandlesAreWhole s.core → ReadingFeels m.values s.core reading t.answer t.frames s'.core c) → WalkFeels m v s s' todo c
  walk-sets : (r : ArcRef) (through : HandleNumber) (key height : ℕ) (below : List Todo) (row : HandleRow)
      → todo ≡ to_set r through key height ∷ below → Owns s.core (owner_worker v) through is_loose row → LoadsAnew s'
      → WalkFeels m v s s' todo (sets_key row.node.0 key)
  walk-rests : ((n : ℕ) (x : N) → TodoBrings m.values s.core todo n x → ⊥) → LoadsAnew s' → WalkFeels m v s s' todo nothing_felt

-- the load that stands at the front is the worker's own
abbrev pub FrontMine : Core → Owner → List Todo → Type 0
FrontMine w me (to_load r place through reading ∷ below) = IsMine w me reading.load
FrontMine w me todo = Unit {0}

-- some change, what the step does to the world with it, and how it is felt
pub record WalkFelt {N B W : Type 0} (m : Seen N B W) (v : ℕ) (s s' : WorkerState) (todo : List Todo) : Type 0 where
  pub change : Change
  pub does : Effect (owner_worker v) false (FrontMine s.core (owner_worker v) todo) (Unit {0}) false change s.core s'.core
  pub goes : Goes change s.core s'.core
  pub feels : s.todo ≡ todo → WaitsWell todo → WalkFeels m v s s' todo change
  pub knows : HandlesAreWhole s.core → KnowsNext change s.core

module _ {Asks : Type 0} {w w' : Core} (v : ℕ) where
  -- a handle is cloned, and something is done then
  then-clone : {m : Core} {h k : HandleNumber} → CloneCall w (owner_worker v) h (Ok k) m → Effect (owner_worker v) false Asks (Unit {0}) false nothing_felt m w'
      → Effect (owner_worker v) false Asks (Unit {0}) false nothing_felt w w'
  then-clone {m} c rest = one-then (λ kind key n h. record {
    row = h.row;
    live = subst (λ rows. Among rows h.row) (sym c.made.3.rows) (among-left w.rows _ h.live.0 h.row h.live.1);
    at = h.at;
    pins_it = h.pins_it;
  })
      (λ a. a) (clones (Ok _) c) rest

module _ {N B W : Type 0} (m : Seen N B W) (v : ℕ) (s s' : WorkerState) where
  abbrev WE : List Todo → Change → Type 0
  WE todo c = Effect (owner_worker v) false (FrontMine s.core (owner_worker v) todo) (Unit {0}) false c s.core s'.core

  quiet : {todo : List Todo} → ((n : ℕ) (x : N) → TodoBrings m.values s.core todo n x → ⊥) → (s.todo ≡ todo → WaitsWell todo → LoadsAnew s')
      → WE todo nothing_felt → WalkFelt m v s s' todo
  quiet none anew e = record {
    change = nothing_felt;
    does = e;
    goes = e.goes;
    feels = λ front well. walk-rests none (anew front well);
    knows = λ whole k q n known. absurd known;
  }

  rests : {todo : List Todo} (next : List Todo) → ((n : ℕ) (x : N) → TodoBrings m.values s.core todo n x → ⊥)
      → s'.todo ≡ next → (WaitsWell todo → front_reading next ≡ None) → WE todo nothing_felt → WalkFelt m v s s' todo
  rests next none is other e = quiet none (λ front well. no-load s' next is (other well)) e

  sets : (r : ArcRef) (through : HandleNumber) (key height : ℕ) (below next : List Todo) (told : Result (Unit {0}) Error)
      → KeySetFor s.core (owner_worker v) r through key told s'.core → s'.todo ≡ next → front_reading next ≡ None
      → WalkFelt m v s s' (to_set r through key height ∷ below)
  sets r through key height below next told c is other = elim c.does [
    | inr (kind, done, a) ↦ rests next (λ n x b. b) is (λ well. other) (stays a)
    | inl (kind, call) ↦ elim call.does [
      | inl refused ↦ rests next (λ n x b. b) is (λ well. other) (stays refused.stays)
      | inr (row, owns, inl (mode, done, a)) ↦ rests next (λ n x b. b) is (λ well. other) (stays a)
      | inr (row, owns, inr (loose, f)) ↦ let e =
          fell (with-key s.core row.node key) f no-one in record {
            change = sets_key row.node.0 key;
            does = e;
            goes = e.goes;
            feels = λ front well. walk-sets r through key height below row refl (record { live = owns.live; own = owns.own; as_asked = loose })
                (no-load s' next is other);
            knows = λ whole k q n known. absurd known;
          }
    ]
  ]

  pub walk-goes : (todo : List Todo) (step : Action W) → WorkDoes m v s todo step s' → WalkFelt m v s s' todo
  walk-goes (to_start r place ∷ below) (Action.Claim i (Ok Claim.Waiting)) (is, c) = let t =
      c.finds.1.2 in quiet (λ n x b. b) (λ front well. no-load s' _ (t.list_is ∙ front) refl) (stays t.pager_stays)
  walk-goes (to_pin r place ∷ below) (Action.Pin i (Ok (PinStep.Pinned k))) (is, p) = rests _ (λ n x b. b) p.pins.2.list_is (λ well. refl) (elim p.pins.1 [
    | inl (row, same, clone) ↦ clones (Ok k) clone
    | inr (row, (mid, clone, pin)) ↦ then-clone v clone (pins (works-free v) (Ok (Pinning.Pinned k)) pin)
  ])
  walk-goes (to_pin r place ∷ below) (Action.Pin i (Ok (PinStep.LoadBegun l))) (is, p) =
      let (mid, key, clone, begin) = p.pins.1.1 in let list = p.pins.2.list_is in
      let next = begin.begins.2.2.above in
      quiet (λ n x b. b) (λ front well reading e. grind basics) (then-clone v clone (begins (Ok (Beginning.Load l key)) begin))
  walk-goes (to_pin r place ∷ below) (Action.Pin i (Err f)) (is, p) = rests _ (λ n x b. b) p.refused.1.list_is (λ well. refl) (elim p.refused.0 [
    | inl clone ↦ clones (Err f) clone
    | inr (row, (mid, through, clone, inl pin)) ↦ then-clone v clone (pins (works-free v) (Err f) pin)
    | inr (row, (mid, through, clone, inr begin)) ↦ then-clone v clone (begins (Err f) begin)
  ])
  walk-goes (to_load r place through reading ∷ below) step does =
      let t : LoadsTodo m.values (owner_worker v) s s' reading = grind basics in
      let f = reading-feels m s.core (owner_worker v) (works-free v) s'.core reading t.answer t.frames t.does in
      record {
        change = f.change;
        does = f.does;
        goes = f.does.goes;
        feels = λ front well. walk-loads f.change r place through reading below refl t f.opens
            f.feels;
        knows = λ whole. reading-knows (f.feels whole);
      }
  walk-goes (to_set r through key height ∷ below) (Action.SetKey i (Ok u)) (is, p) = sets r through key height below _ (Ok u) p.sets p.goes.list_is refl
  walk-goes (to_set r through key height ∷ below) (Action.SetKey i (Err f)) (is, p) = sets r through key height below _ (Err f) p.sets p.refused.list_is refl
  walk-goes (to_release r key height ∷ below) (Action.Release i) (is, falls, g) =
      rests _ (λ n x b. b) g.list_is (given r key height below) (fell (none s.core) falls.falls
      (λ mine o. released-free mine o.apart v o.other s.core r.node.0))
  walk-goes (to_fail fault None ∷ below) Action.Fail (same, shelf, list_is) = rests _ (λ n x b. b) list_is (λ well. refl) (stays same)
  walk-goes (to_fail fault (Some h) ∷ below) Action.Fail ((told, c), shelf, list_is) =
      rests _ (λ n x b. b) list_is (λ well. refl) (schedules (works-free v) h told c)
  walk-goes _ step does =
      let unmoved : Alike s.core s'.core → Effect (owner_worker v) false (Unit {0}) (Unit {0}) false nothing_felt s.core s'.core = stays in
      let stored : (blob : Blob) (r : Result ℕ Error) → StoreCall (digest m.values) s.core blob r s'.core
      → Effect (owner_worker v) false (Unit {0}) (Unit {0}) false nothing_felt s.core s'.core =
      λ blob r c. stores r c in
      grind (basics, rests, unmoved, stored, given, started)

-- workers come and go, and loads go
others-work : (w : Core) (loads : ℕ → Option OpenLoad) (workers : ℕ → Bool) (worker : ℕ) → w.last.worker ≤ worker
    → ((l : ℕ) (load : OpenLoad) → loads l ≡ Some load → w.loads l ≡ Some load)
    → Quiet w (record w { loads = loads; workers = workers; last = record w.last { worker = worker } })
others-work w loads workers worker more fewer = parts (le-self _) more (λ n cell is. is) fewer (λ kind key n is. is)
    (rows-self w.last.handle w.rows w.rows refl)

pub ends-quiet : {w w' : Core} (answer : Option WorkerAnswer) (v : ℕ) → Ends answer v w w' → Quiet w w'
ends-quiet None v e = alike e
ends-quiet {w} (Some answer) v f =
    quiet-then (others-work w (without_worker w v).loads (without_worker w v).workers w.last.worker (omega arith) (λ l load is. grind basics))
    (fell-anyhow f)

-- it gives up what it has: what others own stays, and what is held then was held before
pub ends-spare : (mine : Owner) → IsApart mine → (v : ℕ) → (owner_worker v ≡ mine → ⊥) → (answer : Option WorkerAnswer) {w m w' : Core} → Ends answer v m w'
    → Spares mine w m → Spares mine w w'
ends-spare mine apart v other None e a = then-alike mine e a
ends-spare mine apart v other (Some answer) {m = m} f a = spares-then mine a
    (then-fell mine apart f.falls (record { each = λ q row own s. s }) (ended-free mine apart v other m))

ends-last : (kind key n : ℕ) (answer : Option WorkerAnswer) (v : ℕ) {w m w' : Core} → Ends answer v m w' → Lasts kind key n w m → Lasts kind key n w w'
ends-last kind key n None v e a = record { lasts = λ i h h'. stays-alike kind key n e (a.lasts i h (subst (IsHeldFor kind key n) e.rows h')) h' }
ends-last kind key n (Some answer) v f a = record { lasts = λ i h h'. stays-fell kind key n f.falls (a.lasts i h (held-fell kind key n refl f.falls h')) h' }

-- in no worker's list a load waits below what is done next
abbrev pub AllWaitWell : World → Type 0
AllWaitWell u = (n : ℕ) (walking : Walking) → u.work.walkings n ≡ Some walking → WaitsWell walking.todo

-- some change, what the event does to the core with it, and how it is felt
pub record EventGoes {N B W : Type 0} (m : Seen N B W) (u : World) (event : Event N B W) (reply : EventReply N B W) (u' : World) : Type 0 where
  pub change : Change
  pub goes : Goes change u.core u'.core
  pub spares : (v : ℕ) → OwnersAreThere u.core → step_of v event reply ≡ [] → Spares (owner_worker v) u.core u'.core
  pub lasts : LeavesCache event → (kind key n : ℕ) → Lasts kind key n u.core u'.core
  pub feels : IsWhole u.core → AllWaitWell u → EventFeels m.values u event reply u' change
  pub knows : IsWhole u.core → LeavesCache event → KnowsNext change u.core

module _ {N B W : Type 0} (m : Seen N B W) (u u' : World) where
  keeps-all : ReadingsAre u.work.readings u' → ((n : ℕ) → u'.work.walkings n ≡ u.work.walkings n) → KeepsReadings u u'
  keeps-all are same = read-after u u' (λ r. IsFresh u'.core r) are same (λ q r is. inl is) (λ n w r there. inl there)

  -- one worker is another afterwards, and has at most begun a load
  keeps-but : ReadingsAre u.work.readings u' → (k : ℕ) (now : Walking) → ((n : ℕ) → u'.work.walkings n ≡ updated k (Some now) u.work.walkings n)
      → ((reading : Reading) → front_reading now.todo ≡ Some reading → IsFresh u'.core reading) → KeepsReadings u u'
  keeps-but are k now same anew = read-after u u' (λ r. IsFresh u'.core r) are same (λ q r is. inl is)
      (λ n w r there. grind (basics, at-updated k (Some now) u.work.walkings, same_some, anew))

  callers : (v : ℕ) → Owner.Caller ≡ owner_worker v → ⊥
  callers v e = absurd (cc)

  -- a step of the caller's, as it is felt
  felt : {event : Event N B W} {reply : EventReply N B W} {lists : Bool} {Asks Leaves : Type 0} {c : Change}
      → Effect Owner.Caller lists Asks Leaves false c u.core u'.core → (LeavesCache event → Leaves)
      → (IsWhole u.core → AllWaitWell u → EventFeels m.values u event reply u' c) → (IsWhole u.core → LeavesCache event → KnowsNext c u.core)
      → EventGoes m u event reply u'
  felt {c = c} e leaves feels knows = search (e.goes, e.spares, worker-apart, callers, e.lasts, leaves)

  event-rests : {event : Event N B W} {reply : EventReply N B W} → ((n : ℕ) (x : N) → EventBrings m.values u event n x → IsNewNode u.core n
      ⊎ StaysAway u.core u'.core n)
      → KeepsReadings u u' → Effect Owner.Caller true (Unit {0}) (Unit {0}) false nothing_felt u.core u'.core → EventGoes m u event reply u'
  event-rests brings keeps e = felt e (λ left. tt) (λ whole well. by-nothing brings keeps) (λ whole leaves k q n known. absurd known)

  same : {event : Event N B W} {reply : EventReply N B W} → Stays u u' → EventGoes m u event reply u'
  same s = event-rests (λ n x b. inr (alike-away s.core n)) (keeps-all s.readings s.work.walkings) (stays s.core)

  -- a worker begins, after this was done
  starts : {event : Event N B W} {reply : EventReply N B W} → ((n : ℕ) (x : N) → EventBrings m.values u event n x → ⊥)
      → (t : TableNumber) (task : Task) (core : Core) (v : WorkerNumber) → Effect Owner.Caller true (Unit {0}) (Unit {0}) true nothing_felt u.core core
      → Starts u t task core v u'
      → EventGoes m u event reply u'
  starts brings t task core v e s = record {
    change = nothing_felt;
    goes = goes-quiet e.goes (quiet-then (others-work core core.loads (with_worker core).workers (core.last.worker + 1) (omega arith) (λ l load is. is))
        (alike s.pager));
    spares = λ q there others.
        let a = e.spares (owner_worker q) (record { apart = worker-apart q; other = callers q; listing_error = λ yes. (refl, there) }) in
        then-alike (owner_worker q) s.pager (record { each = a.each });
    lasts = λ left kind key n. record { lasts = λ i h h'. stays-alike kind key n s.pager (e.lasts tt kind key n i h (λ f. absurd (cc))) h' };
    feels = λ whole well. by-nothing (λ n x b. absurd (brings n x b)) (keeps-but s.readings v.0 (new_walking t task) s.work.same_walkings
        (λ reading is. absurd (grind (basics, started))));
    knows = λ whole leaves k q n known. absurd known;
  }

  module _ (k : WorkerNumber) (reply : WorkerReply W) (s : WorkerSteps m u k reply u') where
    now : LoadsAnew s.after → KeepsReadings u u'
    now anew =
        let q = ends-quiet reply.answer k.0 s.ends in let le = q.loads_last in
        keeps-but s.readings k.0 (record s.walking { todo = s.after.todo; steps = reply.steps; answer = reply.answer }) s.work.same_walkings
        (λ reading is. let a = anew reading is in let b = a.2 in (a.0, a.1, omega arith))

    worker-feels : (c : Change) → WalkFeels m k.0 (site_of u s.walking) s.after s.walking.todo c
        → IsWhole u.core → EventFeels {B = B} m.values u (Event.WorkerStep k) (EventReply.WorkerMoved (Ok reply)) u' c
    worker-feels c (walk-loads c2 r place through reading below todo t opens feels) whole =
        let none : reply.answer ≡ None = s.answers ∙ ap (λ x. answer_after x reply.action) todo in
        let last = subst (λ a. Ends a k.0 s.after.core u'.core) none s.ends in
        by-reading c reading t.answer t.frames (s.walking, r, place, through, below, s.at, todo) opens (feels-alike (feels whole.handles) last)
        (read-after u u' (λ after. (t.answer ≡ None) × (after ≡ gone_on reading t.frames)) s.readings s.work.same_walkings (λ q after is. inl is)
        (λ n w after there.
        grind (
          basics,
          at-updated k.0 (Some (record s.walking { todo = s.after.todo; steps = reply.steps; answer = reply.answer })) u.work.walkings,
          same_some,
          t.next,
        )))
    worker-feels c (walk-sets r through key height below row todo owns anew) whole =
        by-key k key row refl (record { walking = s.walking; r = r; through = through; height = height; below = below; there = s.at; sets = todo; owns = owns })
        (now anew)
    worker-feels c (walk-rests none anew) whole =
        by-nothing (λ n x (walking, at, brings). absurd (none n x (subst (λ (z : Walking). TodoBrings m.values u.core z.todo n x)
        (same_some _ _ (sym at ∙ s.at)) brings))) (now anew)

    worker-steps : EventGoes m u (Event.WorkerStep k) (EventReply.WorkerMoved (Ok reply)) u'
    worker-steps =
        let f = walk-goes m k.0 (site_of u s.walking) s.after s.walking.todo reply.action s.does.does in
        record {
          change = f.change;
          goes = goes-quiet f.goes (ends-quiet reply.answer k.0 s.ends);
          spares = λ v there others.
              let other : (owner_worker k.0 ≡ owner_worker v → ⊥) = λ is. grind (basics, self-number) in
              ends-spare (owner_worker v) (worker-apart v) k.0 other reply.answer s.ends
              (f.does.spares (owner_worker v) (record { apart = worker-apart v; other = other; listing_error = λ yes. absurd (cc) }));
          lasts = λ left kind key n. ends-last kind key n reply.answer k.0 s.ends (record { lasts = λ i h h'. f.does.lasts tt kind key n i h (λ g. h') });
          feels = λ whole well. worker-feels f.change (f.feels refl (well k.0 s.walking s.at)) whole;
          knows = λ whole leaves. f.knows whole.handles;
        }

  pub event-goes : (event : Event N B W) (reply : EventReply N B W) → KeepsOpen event → Happens m u event reply u' → EventGoes m u event reply u'
  event-goes (Event.Call call) (EventReply.CallReply r) open_still is =
      let g = calls-go m u.core Owner.Caller caller-free u'.core call r open_still is.step.does in
      felt g.does (λ left. left) (λ whole well. by-call g.change call r refl refl g.feels (keeps-all is.readings is.work.walkings))
      (λ whole leaves. call-knows W g.feels leaves)
  event-goes (Event.LoadStep l) (EventReply.LoadMoved (Ok reply)) open_still is =
      let x = is.moves in
      let f = reading-feels m u.core Owner.Caller caller-free u'.core x.reading reply.ended x.frames x.does in
      let steps = read-after u u' (λ after. (reply.ended ≡ None) × (after ≡ gone_on x.reading x.frames))
      x.readings x.work.walkings
      (λ q r there. grind (basics, at-updated l.0 (reading_after reply.ended x.reading x.frames) u.work.readings q r there, same_some))
      (λ n w r there. inl there) in
      felt f.does (λ left. tt)
      (λ whole well. by-reading f.change x.reading reply.ended x.frames (x.at, reading-stands u whole l x.reading x.at) f.opens (f.feels whole.handles) steps)
      (λ whole leaves. reading-knows (f.feels whole.handles))
  event-goes (Event.LoadStart h) (EventReply.Started r) open_still is = event-rests (λ n x b. absurd b) (keeps-all is.readings is.work.walkings)
      (begins r is.step)
  event-goes (Event.LoadKey key t) (EventReply.Started (Ok (Beginning.Load l k))) open_still is =
      let next = is.step.begins.1.above in let last = ap (λ (x : Last). x.load) is.step.begins.2.last in
      event-rests (λ n x b. absurd b) (read-after u u' (λ r. IsFresh u'.core r) is.begun is.work.walkings
      (λ q r there. grind (basics, at-updated l.0 (Some (fresh l t)) u.work.readings, same_some, next, last)) (λ n w r there. inl there))
      (begins-key (Ok (Beginning.Load l k)) is.step)
  event-goes Event.TableNew (EventReply.TableMade (Ok t)) open_still is = let x =
      is.made in event-rests (λ n x b. absurd b) (keeps-all x.2 x.3.same_walkings) (stays x.1)
  event-goes (Event.WorkerItem t item) (EventReply.WorkerMade (Ok v)) open_still is = starts (λ n x b. b) t _ u.core v (none u.core) is.starts
  event-goes (Event.WorkerListed t i) (EventReply.WorkerMade (Ok v)) open_still is = let x = is.starts in
      starts (λ n x b. b) t _ _ v (moves (none u.core) (only_handle x.0) (Owner.Worker v) _ (λ l is. absurd (cc)) (entry refl i x.0 x.3.listed)) x.5
  event-goes event reply open_still is = grind (basics, same, worker-steps)

module _ {c : Change} {w w' : Core} (g : Goes c w w') where
  pub old-node : (n : ℕ) → n ≤ w.last.node → is_some (w'.cells n) ≡ true → SameNode c w w' n
  old-node n few there = let c : (cell : Cell) × (w'.cells n ≡ Some cell) = grind basics in grind (basics, g.cells n c.0 c.1)

  pub new-node : HandlesAreWhole w → (n : ℕ) → w.last.node < n → is_some (w'.cells n) ≡ true → NewNode c w w' n
  new-node whole n above there = let c : (cell : Cell) × (w'.cells n ≡ Some cell) = grind basics in let cell = c.0 in elim (g.cells n cell c.1) [
    | inl kept ↦ absurd (omega (arith, (whole.nodes_numbered n (ap is_some kept.live)).1))
    | inr (next, bears) ↦ record {
      t = cell.node_type;
      own = cell.key;
      born = bears;
      next = next;
      typed = grind basics;
      key = grind basics;
    }
  ]
