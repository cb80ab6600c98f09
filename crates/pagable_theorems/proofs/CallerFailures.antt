-- A pin or a read of what a page-out published fails by chance alone: what was published stays stored as a form of its node's tree, whatever operations follow,
-- and a load that nobody interrupts keeps its handles.
use Rattle.pagable_pager_spec.specs.{
  Access.{AccessState, EntryRun, ItemRun, KeyStarts, ListRun, LoadAsksWell, LoadRun, LoadStarts, MakesCall, PinRun, ReadRun, WalkStep, WorkerRun},
  Access.{entry-is-refused, entry-is-walked, fails, item-is-walked, load-ends, load-fails, load-goes-on, load-is-refused, load-pins, load-reads},
  Access.{no-entry-worker, no-more, no-worker, pages, pin-is-refused, pins-at-once, reading-fails, reading-is-refused, skips, worker-ends, worker-goes-on},
  Calls.with_handle,
  Events.{CallDoes, no_shelf},
  Kinds.is_loose,
  LoadCalls.BeginCall,
  Loads.{GoesOn, LoadDoes},
  Refusals.{Owns, handle_fault},
  WorkerClaims.IsOfChance,
  Workers.fresh,
  World.{SameShelf, of_key, type_at},
  declared.pinning.Pinning.Pinning,
}
use Rattle.pagable_theorems.proofs.{
  CallEffects.{begin-goes, begins-key, calls-go},
  Callers.operation-stays,
  Effects.with-one,
  EventEffects.{ends-quiet, walk-goes},
  HandlesKept.{Goes, alike, stands-alike, stands-whole, updated-at},
  LoadFaults.{IsOfType, OfPagedOut, Only, cause, only-earlier, only-if, only-refused, only-where},
  LoadProgress.row-held,
  LoadResults.{After, Under, begun, caller-feels, stepped, under},
  Moments.same-shelf,
  Operations.{Stands, Stays, entry-stays, entry-walks, ground, item-stays, item-walks, plain-stays, stays-same, stays-then},
  ReadingSteps.caller-free,
  TablesKept.{keys-same, slot-on},
  Trees.same_some,
  UninterruptedLoads.{LoadReady, goes-ready, only-chance},
  Words.{Action, Alike, Beginning, Blob, Call, Core, Err, Error, Event, Frame, HandleNumber, HandleRow, HoldsSettled, Identity, IsLawful, IsPagerWhole},
  Words.{IsPublished, KeepsOpen, List, LoadAnswer, LoadNumber, Mode, NodeNumber, None, Ok, OpenLoad, Option, OptionalDataKey, Owner, PagerStandsFor},
  Words.{PagerState, Reading, Reply, Result, Seen, Shelf, Some, Todo, Tree, Values, WorkerAnswer, WorkerState, answer_after, ap, basics, false, inl, inr},
  Words.{key_at, nothing_felt, of_cell, refl, row_at, subst, sym, type_of, updated, ℕ, [], ◌+◌, ◌∙◌, ◌≡◌, ◌⊎◌},
}
use Rattle.pagable_theorems.specs.{
  CallerFailures.{EntryPublishes, HavePublished, ListPublishes, PagedOutIsPinned, PublishedIsRead, Publishes},
  CallerLaws.{AskWell, Operation, OperationAsksWell, Operations, PinAsksWell, ReadAsksWell, calls, goes-on, is-done, keeps-nodes, pages-item, pages-list, pins},
  CallerLaws.reads-key,
  PageOutLaws.{EntryAsksWell, ItemAsksWell, ListAsksWell},
  TreeSteps.{KeepsStored, SlotsFit},
}

-- ---- what was stored stays stored, and what a page-out published stays a form of its node's tree

stored-then : {a b c : ℕ → Option Blob} → KeepsStored a b → KeepsStored b c → KeepsStored a c
stored-then first second key blob is = second key blob (first key blob is)

-- a page-out has published the key for the identity, on a table that fits the trees
record PagedOut {N E : Type 0} (v : Values N) (s : PagerState N E) (trees : ℕ → Tree) (i : Identity) (key : ℕ) : Type 0 where
  shelf : Shelf
  height : ℕ
  slots : SlotsFit v (ground s trees) shelf
  known : IsPublished shelf i key height

paged-on : {N E : Type 0} {v : Values N} {s s' : PagerState N E} {trees trees' : ℕ → Tree} {i : Identity} {key : ℕ} → After v s trees s' trees'
    → KeepsStored s.core.stored s'.core.stored → PagedOut v s trees i key → PagedOut v s' trees' i key
paged-on {v = v} after stored p = record {
  shelf = p.shelf;
  height = p.height;
  slots = λ j slot is. slot-on v (record { kept = stored; last = after.nodes; trees = after.same }) (keys-same (λ q. refl)) (p.slots j slot is);
  known = p.known;
}

module _ {N E : Type 0} (v : Values N) where
  load-stored : {reading : Reading} {s s' : PagerState N E} {answer : LoadAnswer N} → LoadRun v Owner.Caller reading s answer s'
      → KeepsStored s.core.stored s'.core.stored
  load-stored (load-ends reading answer s s' step) = (caller-feels step).does.goes.stored
  load-stored (load-goes-on reading frames answer s mid s' step more) = stored-then (caller-feels step).does.goes.stored (load-stored more)

  plainly-stored : {w : Core} {s s' : PagerState N E} → w.stored ≡ s.core.stored → MakesCall v (λ w'. Alike w w') s s'
      → KeepsStored s.core.stored s'.core.stored
  plainly-stored same c key blob is = (alike c.step).stored key blob (ap (λ (f : ℕ → Option Blob). f key) same ∙ is)

  begun-stored : {s s' : PagerState N E} {h : HandleNumber} (r : Result Beginning Error) → MakesCall v (λ w'. BeginCall s.core Owner.Caller h r w') s s'
      → KeepsStored s.core.stored s'.core.stored
  begun-stored r c = (begin-goes r c.step).stored

module _ {N B W : Type 0} (m : Seen N B W) where
  call-stored : (w w' : Core) (call : Call N B) (reply : Reply N B) → KeepsOpen {N = N} {B = B} {W = W} (Event.Call call)
      → CallDoes m w Owner.Caller call reply w' → KeepsStored w.stored w'.stored
  call-stored w w' call reply opens does = (calls-go m w Owner.Caller caller-free w' call reply opens does).does.goes.stored

module _ {N E B W : Type 0} (m : Seen N B W) where
  pin-stored : {s s' : PagerState N E} {h : HandleNumber} {r : Result HandleNumber Error} → PinRun m.values s h r s'
      → KeepsStored s.core.stored s'.core.stored
  pin-stored {h = h} (pins-at-once k s' c) = call-stored m _ _ (Call.Pin h) (Reply.Pin (Ok (Pinning.Pinned k))) tt c.step
  pin-stored {h = h} (pin-is-refused e s' c) = call-stored m _ _ (Call.Pin h) (Reply.Pin (Err e)) tt c.step
  pin-stored (load-is-refused e s' c) = begun-stored m.values (Err e) c
  pin-stored (load-pins k reading mid s' starts run) = stored-then (begun-stored m.values _ starts.begins) (load-stored m.values run)
  pin-stored (load-fails e reading mid s' starts run) = stored-then (begun-stored m.values _ starts.begins) (load-stored m.values run)

  read-stored : {s s' : PagerState N E} {key t : ℕ} {r : Result N Error} → ReadRun m.values s key t r s' → KeepsStored s.core.stored s'.core.stored
  read-stored {key = key} (reading-is-refused e s' c) = call-stored m _ _ (Call.LoadKey key) (Reply.Begun (Err e)) tt c.step
  read-stored {key = key} (load-reads x l mid s' starts run) =
      stored-then (call-stored m _ _ (Call.LoadKey key) (Reply.Begun (Ok (Beginning.Load l key))) tt starts.step) (load-stored m.values run)
  read-stored {key = key} (reading-fails e l mid s' starts run) =
      stored-then (call-stored m _ _ (Call.LoadKey key) (Reply.Begun (Ok (Beginning.Load l key))) tt starts.step) (load-stored m.values run)

  walk-stored : {n : ℕ} {todo next : List Todo} {s s' : AccessState N E} {step : Action W} → WalkStep m n todo s step next s'
      → KeepsStored s.pager.core.stored s'.pager.core.stored
  walk-stored {n} {todo} {s = s} {step = step} w =
      let site : WorkerState = record { core = s.pager.core; shelf = s.shelf; todo = todo } in
      stored-then (walk-goes m n site w.after todo step w.does.does).goes.stored (ends-quiet (answer_after todo step) n w.ends).stored

  worker-stored : {n : ℕ} {todo : List Todo} {s s' : AccessState N E} {steps : List (Action W)} {answer : WorkerAnswer} → WorkerRun m n todo s steps answer s'
      → KeepsStored s.pager.core.stored s'.pager.core.stored
  worker-stored (worker-ends todo next step answer s s' w is) = walk-stored w
  worker-stored (worker-goes-on todo next step steps answer s mid s' w is more) = stored-then (walk-stored w) (worker-stored more)

-- ---- what each operation leaves, with the keys that it published

abbrev Nothing : Identity → ℕ → Type 0
Nothing i key = ⊥

module _ {N E B W : Type 0} (m : Seen N B W) (lawful : IsLawful m.values) where
  record Leaves (s : PagerState N E) (trees : ℕ → Tree) (s' : PagerState N E) (Published : Identity → ℕ → Type 0) : Type 0 where
    stays : Stays m.values s trees s'
    stored : KeepsStored s.core.stored s'.core.stored
    paged : (i : Identity) (key : ℕ) → Published i key → PagedOut m.values s' stays.trees' i key

  -- what was published before, or afterwards
  leaves-then : {s mid s' : PagerState N E} {trees : ℕ → Tree} {First More Both : Identity → ℕ → Type 0} (a : Leaves s trees mid First)
      → Leaves mid a.stays.trees' s' More → ((i : Identity) (key : ℕ) → Both i key → First i key ⊎ More i key) → Leaves s trees s' Both
  leaves-then a b cases = record {
    stays = stays-then a.stays.after b.stays;
    stored = stored-then a.stored b.stored;
    paged = λ i key both. elim (cases i key both) [ inl is ↦ paged-on b.stays.after b.stored (a.paged i key is) | inr is ↦ b.paged i key is ];
  }

  entry-leaves : {s s' : PagerState N E} {place : ℕ} {answer : WorkerAnswer} {trees : ℕ → Tree} (run : EntryRun m s place answer s')
      → Stands m.values s trees → EntryAsksWell run → Leaves s trees s' (EntryPublishes run)
  entry-leaves {place = place} (entry-is-refused h row t s' is none c) at asks = record {
    stays = (entry-stays m lawful {place = place} at (entry-is-refused h row t s' is none c) asks).0;
    stored = plainly-stored m.values refl c;
    paged = λ i key no. absurd no;
  }
  entry-leaves {place = place} (no-entry-worker e s' why c) at asks = record {
    stays = (entry-stays m lawful {place = place} at (no-entry-worker e s' why c) asks).0;
    stored = plainly-stored m.values refl c;
    paged = λ i key no. absurd no;
  }
  entry-leaves {s} {place = place} {trees = trees} (entry-is-walked h row t n steps answer mid s' is kinds starts run) at asks =
      let r = entry-walks m lawful (record { pager = s; shelf = no_shelf }) at.well at.nobody (same-shelf refl) at.settled trees at.stands place h row t n
      mid is kinds starts run asks in
      record {
        stays = r.stays;
        stored = stored-then (plainly-stored m.values refl starts.begins) (worker-stored m run);
        paged = λ i key (height, known). record { shelf = s'.shelf; height = height; slots = r.slots; known = known };
      }

  list-leaves : {place : ℕ} {s s' : PagerState N E} {answer : Result (Unit {0}) WorkerAnswer} {trees : ℕ → Tree} (run : ListRun m place s answer s')
      → Stands m.values s trees → ListAsksWell run → Leaves s trees s' (ListPublishes run)
  unfolding ListAsksWell ListPublishes
  list-leaves (no-more s) at asks = record { stays = stays-same m lawful at; stored = λ key blob is. is; paged = λ i key no. absurd no }
  list-leaves {trees = trees} (skips place below old h told answer s mid low s' is has takes releases more) at asks =
      let a = (plain-stays m lawful (Call.TakePending below) (Reply.TakenPending (Some h)) at takes takes.step tt tt).0 in
      let b = (plain-stays m lawful (Call.Release h) (Reply.Done told) a.now releases releases.step tt tt).0 in
      let first : Leaves s trees low Nothing = record {
        stays = stays-then a.after b;
        stored = stored-then (call-stored m _ _ (Call.TakePending below) (Reply.TakenPending (Some h)) tt takes.step)
            (call-stored m _ _ (Call.Release h) (Reply.Done told) tt releases.step);
        paged = λ i key no. absurd no;
      } in
      leaves-then first (list-leaves more b.now asks) (λ i key is. inr is)
  list-leaves (pages place below first h answer s mid s' is has entry more) at asks =
      let a = entry-leaves entry at asks.0 in leaves-then a (list-leaves more a.stays.now asks.1) (λ i key is. is)
  list-leaves (fails place below h e s s' is has entry) at asks = entry-leaves entry at asks

  item-leaves : {s s' : AccessState N E} {answer : WorkerAnswer} {trees : ℕ → Tree} (item : W) → Stands m.values s.pager trees → SameShelf no_shelf s.shelf
      → (run : ItemRun m s (m.written_of item) answer s') → ItemAsksWell run
      → Leaves s.pager trees s'.pager (λ i key. (height : ℕ) × IsPublished s'.shelf i key height)
  item-leaves item at new (no-worker e s' why c same) asks = record {
    stays = (item-stays m lawful item at new (no-worker e s' why c same) asks).0;
    stored = plainly-stored m.values refl c;
    paged = λ i key (height, known). absurd (cc (sym known.claimed ∙ same.slots i ∙ new.slots i));
  }
  item-leaves {s} {trees = trees} item at new (item-is-walked n steps answer mid s' starts run) asks =
      let r = item-walks m lawful s at.well at.nobody new at.settled trees at.stands item starts run asks in
      record {
        stays = r.stays;
        stored = stored-then (plainly-stored m.values refl starts.begins) (worker-stored m run);
        paged = λ i key (height, known). record { shelf = s'.shelf; height = height; slots = r.slots; known = known };
      }

  plainly-leaves : {s s' : PagerState N E} {trees : ℕ → Tree} (one : Operation m s s') → Stands m.values s trees → OperationAsksWell trees one
      → KeepsStored s.core.stored s'.core.stored → Leaves s trees s' Nothing
  plainly-leaves one at asks stored = record { stays = (operation-stays m lawful one at asks).0; stored = stored; paged = λ i key no. absurd no }

  operation-leaves : {s s' : PagerState N E} {trees : ℕ → Tree} (one : Operation m s s') → Stands m.values s trees → OperationAsksWell trees one
      → Leaves s trees s' (Publishes one)
  operation-leaves (calls call reply s s' c) at asks = plainly-leaves (calls call reply s s' c) at asks (call-stored m _ _ call reply asks.0 c.step.does)
  operation-leaves (pins h r s s' run) at asks = plainly-leaves (pins h r s s' run) at asks (pin-stored m run)
  operation-leaves (reads-key key t r s s' run) at asks = plainly-leaves (reads-key key t r s s' run) at asks (read-stored m run)
  operation-leaves (pages-item item answer s s' new run) at asks = item-leaves item at new run asks
  operation-leaves (pages-list place answer s s' run) at asks = list-leaves run at asks
  operation-leaves {trees = trees} (keeps-nodes s s' keeps) at asks =
      plainly-leaves (keeps-nodes s s' keeps) at asks (keeps.stay at.nobody at.settled trees at.stands).stored

  all-leave : {s s' : PagerState N E} {trees : ℕ → Tree} (operations : Operations m s s') → Stands m.values s trees → AskWell operations
      → Leaves s trees s' (HavePublished operations)
  unfolding AskWell HavePublished
  all-leave (is-done s) at asks = record { stays = stays-same m lawful at; stored = λ key blob is. is; paged = λ i key no. absurd no }
  all-leave {trees = trees} (goes-on s mid s' one more) at asks =
      let a = operation-leaves one at (asks.0 trees at.stands) in leaves-then a (all-leave more a.stays.now asks.1) (λ i key is. is)

-- ---- a load by one call: its begin, and that it stays open

module _ {N : Type 0} (v : Values N) (w w' : Core) (me : Owner) (reading : Reading) (l : ℕ) (load : OpenLoad) where
  -- a load that goes on leaves each load open
  pub goes-open : (frames : List Frame) → GoesOn v w me reading frames w' → w.loads l ≡ Some load → w'.loads l ≡ Some load
  goes-open frames (inl g) is = g.asked.gives.2.asked.leaves.loads l ∙ is
  goes-open frames (inr (inl g)) is = g.asked.gives.2.leaves.loads l ∙ is
  goes-open frames (inr (inr (inl g))) is = g.asked.gives.2.1.asked.leaves.loads l ∙ is
  goes-open frames (inr (inr (inr (inl g)))) is = elim g.asked.makes.3 [
    | inl c ↦ c.leaves.loads l ∙ is
    | inr (none, few, next, a) ↦ (grind (basics, a.loads l))
  ]
  goes-open frames (inr (inr (inr (inr g)))) is = elim g.adopted.adopts.makes [
    | inl (n, usable, f) ↦ f.falls.leaves.loads l ∙ is
    | inr (none, few, a) ↦ (grind (basics, a.loads l))
  ]

abbrev pub load_of : HandleNumber → HandleRow → ℕ → ℕ → OpenLoad
load_of h row t key = record { owner = Owner.Caller; key = key; root = of_cell row.node t h }

-- a load of the handle's cell has begun
pub record Begun {N E : Type 0} (v : Values N) (s : PagerState N E) (trees : ℕ → Tree) (h : HandleNumber) (reading : Reading)
    (mid : PagerState N E) : Type 0 where
  pub row : HandleRow
  pub t : ℕ
  pub key : ℕ
  pub owns : Owns s.core Owner.Caller h is_loose row
  pub typed : type_at s.core row.node.0 ≡ Some t
  pub keyed : key_at s.core row.node.0 ≡ OptionalDataKey.Some key
  pub new : reading ≡ fresh reading.load t
  pub open_load : mid.core.loads reading.load.0 ≡ Some (load_of h row t key)
  pub under : Under v mid trees key (fresh reading.load t)
  pub after : After v s trees mid trees
  pub stored : KeepsStored s.core.stored mid.core.stored
  pub live : row_at mid.core h ≡ Some row

module _ {N E : Type 0} (v : Values N) (lawful : IsLawful v) (s : PagerState N E) (trees : ℕ → Tree) (well : IsPagerWhole v s) (settled : HoldsSettled v s)
    (stands : PagerStandsFor v s trees) where
  pub load-begins : {h : HandleNumber} {reading : Reading} {mid : PagerState N E} → LoadStarts v s h reading mid → Begun v s trees h reading mid
  load-begins {h} {reading} {mid} starts =
      let c = starts.begins in let g = c.step.begins in let row = g.0 in let b = g.2 in let next = b.2.above in let t = b.4.0 in let a = b.4.2 in
      let load = load_of h row t starts.key in
      let open_load : mid.core.loads reading.load.0 ≡ Some load =
      a.loads reading.load.0 ∙ ap (updated (s.core.last.load + 1) (Some load) s.core.loads) next ∙ updated-at (s.core.last.load + 1) (Some load) s.core.loads in
      let does = begin-goes _ c.step in
      record {
        row = row;
        t = t;
        key = starts.key;
        owns = g.1;
        typed = b.4.1;
        keyed = b.1;
        new = (grind (basics, same_some, open_load, starts.is));
        open_load = open_load;
        under = under lawful s mid trees well settled stands does c.moves c.whole
            (with_handle s.core row.node Mode.LooseUnpinned (Owner.Load reading.load)) reading.load t starts.key (of_cell row.node t h) next a;
        after = begun lawful s mid trees well settled stands does c.moves c.whole;
        stored = does.stored;
        live = (stands-alike a (with-one s.core row.node Mode.LooseUnpinned (Owner.Load reading.load)
            (stands-whole well.whole.handles h.0 row g.1.live))).live;
      }

-- the caller's load of a key that was published, its own or that of its cell
module _ {N E : Type 0} (v : Values N) (lawful : IsLawful v) (load : OpenLoad) (own : load.owner ≡ Owner.Caller) (i : Identity) where
  record Loading (s : PagerState N E) (trees : ℕ → Tree) (reading : Reading) : Type 0 where
    under : Under v s trees load.key reading
    open_load : s.core.loads reading.load.0 ≡ Some load
    root : IsOfType load.root reading.node_type
    ready : LoadReady s.core reading.load load reading.frames
    paged : PagedOut v s trees i load.key
    typed : (trees i.node.0).type ≡ reading.node_type

  fails-by-chance : {reading : Reading} {s s' : PagerState N E} {answer : LoadAnswer N} (run : LoadRun v Owner.Caller reading s answer s') → LoadAsksWell run
      → (trees : ℕ → Tree) → Loading s trees reading → (e : Error) → answer ≡ LoadAnswer.Refused e → IsOfChance e
  unfolding LoadAsksWell
  fails-by-chance (load-ends reading answer s s' step) asks trees l e is =
      let does = (subst (λ (a : LoadAnswer N). LoadDoes v s.core Owner.Caller reading (Some a) [] s'.core) is step.does.does).0 in
      let o : OfPagedOut v s.core trees reading load = record {
        shelf = l.paged.shelf;
        slots = l.paged.slots;
        i = i;
        height = l.paged.height;
        known = l.paged.known;
        typed = l.typed;
        root = l.root;
        open_load = l.open_load;
        may = grind (basics, l.open_load, own);
        fits = l.under.going.fits load l.open_load;
        asked = l.under.going.asked;
      } in
      only-chance v lawful s trees l.under.stands reading load asks.1.types l.ready l.under.going l.open_load e
      (cause v lawful s.core trees reading load o s'.core e does)
  fails-by-chance (load-goes-on reading frames answer s mid s' step more) asks trees l e is =
      let a = stepped lawful s mid trees load.key reading None frames l.under asks.0 asks.1 step in
      let goes = step.does.does in
      let given = (l.paged.slots i l.paged.known.slot l.paged.known.claimed).given in
      fails-by-chance more asks.2 a.trees' (record {
        under = a.still refl;
        open_load = goes-open v s.core mid.core Owner.Caller reading reading.load.0 load frames goes l.open_load;
        root = l.root;
        ready = goes-ready v lawful s.core mid.core reading asks.1.types load trees load.key reading.node_type l.under.well.whole.handles l.ready
            l.under.going.held (l.under.going.fits load l.open_load) frames goes;
        paged = paged-on a.after (caller-feels step).does.goes.stored l.paged;
        typed = ap (λ (t : Tree). t.type) (a.after.same i.node.0 given) ∙ l.typed;
      }) e is

-- ---- a pin

module _ {N E : Type 0} (v : Values N) (lawful : IsLawful v) {s : PagerState N E} {trees : ℕ → Tree} (at : Stands v s trees) (h : HandleNumber)
    (row : HandleRow) (owns : Owns s.core Owner.Caller h is_loose row) (i : Identity) (same : i.node ≡ row.node) (key : ℕ)
    (keyed : key_at s.core row.node.0 ≡ OptionalDataKey.Some key) (paged : PagedOut v s trees i key) where
  no-fault : handle_fault s.core Owner.Caller h is_loose ≡ None
  no-fault = grind (basics, owns.live, owns.own, owns.as_asked)

  no-cause : Only IsOfChance (handle_fault s.core Owner.Caller h is_loose)
  no-cause e is = absurd (cc (sym no-fault ∙ is))

  loading : {e : Error} {reading : Reading} {mid s' : PagerState N E} → LoadStarts v s h reading mid
      → (run : LoadRun v Owner.Caller reading mid (LoadAnswer.Refused e) s') → LoadAsksWell run → IsOfChance e
  loading {e} {reading} {mid} starts run asks =
      let b = load-begins v lawful s trees at.well at.settled at.stands starts in
      let rows : b.row ≡ row = same_some _ _ (sym b.owns.live ∙ owns.live) in
      let keys : b.key ≡ key = (grind (basics, rows, keyed, b.keyed)) in
      let typed : (trees b.row.node.0).type ≡ b.t = same_some _ _
      (sym (at.stands.typed b.row.node.0 (row-held s.core h b.row b.owns.live)) ∙ b.typed) in
      let nodes : i.node ≡ b.row.node = same ∙ ap (λ (x : HandleRow). x.node) (sym rows) in
      let ready : LoadReady mid.core reading.load (load_of h b.row b.t b.key) [] = record {
        begun = λ node u q root. let hs : h ≡ q = cc in record {
          row = b.row;
          live = subst (λ (x : HandleNumber). row_at mid.core x ≡ Some b.row) hs b.live;
          own = b.owns.own;
        };
        live = λ frame r among got. absurd (cc (among.1));
        once = tt;
      } in
      let l : Loading v lawful (load_of h b.row b.t b.key) refl i mid trees (fresh reading.load b.t) = record {
        under = b.under;
        open_load = b.open_load;
        root = refl;
        ready = ready;
        paged = paged-on b.after b.stored (subst (λ k. PagedOut v s trees i k) (sym keys) paged);
        typed = ap (λ (n : NodeNumber). (trees n.0).type) nodes ∙ typed;
      } in
      fails-by-chance v lawful (load_of h b.row b.t b.key) refl i run asks trees
      (subst (λ (z : Reading). Loading v lawful (load_of h b.row b.t b.key) refl i mid trees z) (sym b.new) l) e refl

  pin-by-chance : {e : Error} {s' : PagerState N E} (run : PinRun v s h (Err e) s') → PinAsksWell run → IsOfChance e
  pin-by-chance (pin-is-refused e s' c) asks = only-refused {P = IsOfChance} e c.step.refused
      (only-earlier _ _ no-cause (only-where _ _ (only-if IsOfChance _ Error.NumbersSpent tt))) tt
  pin-by-chance (load-is-refused e s' c) asks = only-refused {P = IsOfChance} e c.step.refused
      (only-earlier _ _ no-cause
      (only-where _ _ (only-earlier _ _ (only-if IsOfChance _ Error.NumbersSpent tt) (only-if IsOfChance _ Error.NumbersSpent tt)))) tt
  pin-by-chance (load-fails e reading mid s' starts run) asks = loading starts run asks

-- ---- a read

abbrev pub load_of_key : ℕ → OpenLoad
load_of_key key = record { owner = Owner.Caller; key = key; root = of_key }

-- a load of a key has begun
pub record KeyBegun {N E : Type 0} (v : Values N) (s : PagerState N E) (trees : ℕ → Tree) (key t : ℕ) (l : LoadNumber)
    (mid : PagerState N E) : Type 0 where
  pub open_load : mid.core.loads l.0 ≡ Some (load_of_key key)
  pub under : Under v mid trees key (fresh l t)
  pub after : After v s trees mid trees
  pub stored : KeepsStored s.core.stored mid.core.stored

module _ {N E : Type 0} (v : Values N) (lawful : IsLawful v) (s : PagerState N E) (trees : ℕ → Tree) (well : IsPagerWhole v s) (settled : HoldsSettled v s)
    (stands : PagerStandsFor v s trees) where
  pub key-begins : {key : ℕ} {l : LoadNumber} {mid : PagerState N E} (t : ℕ) → KeyStarts v s key l mid → KeyBegun v s trees key t l mid
  key-begins {key} {l} {mid} t starts =
      let b = starts.step.begins in let next = b.1.above in let a = b.2 in let load = load_of_key key in
      let goes : Goes nothing_felt s.core mid.core = (begins-key {lists = false} {Asks = Unit {0}} {Leaves = Unit {0}} _ starts.step).goes in
      record {
        open_load = a.loads l.0 ∙ ap (updated (s.core.last.load + 1) (Some load) s.core.loads) next
            ∙ updated-at (s.core.last.load + 1) (Some load) s.core.loads;
        under = under lawful s mid trees well settled stands goes starts.moves starts.whole s.core l t key of_key next a;
        after = begun lawful s mid trees well settled stands goes starts.moves starts.whole;
        stored = goes.stored;
      }

module _ {N E : Type 0} (v : Values N) (lawful : IsLawful v) {s : PagerState N E} {trees : ℕ → Tree} (at : Stands v s trees) (i : Identity) (key : ℕ)
    (paged : PagedOut v s trees i key) where
  read-by-chance : {t : ℕ} {r : Result N Error} {s' : PagerState N E} (run : ReadRun v s key t r s') → ReadAsksWell run → t ≡ type_of i.kind.0 → (e : Error)
      → r ≡ Err e → IsOfChance e
  read-by-chance (reading-is-refused f s' c) asks typed e is =
      let same : f ≡ e = cc in subst IsOfChance same (only-refused {P = IsOfChance} f c.step.refused (only-if IsOfChance _ Error.NumbersSpent tt) tt)
  read-by-chance {t} (reading-fails f l mid s' starts run) asks typed e is =
      let same : f ≡ e = cc in
      let b = key-begins v lawful s trees at.well at.settled at.stands t starts in
      let its = (paged.slots i paged.known.slot paged.known.claimed).typed in
      subst IsOfChance same (fails-by-chance v lawful (load_of_key key) refl i run asks trees (record {
        under = b.under;
        open_load = b.open_load;
        root = tt;
        ready = record { begun = λ node u q root. absurd (cc); live = λ frame r among got. absurd (cc (among.1)); once = tt };
        paged = paged-on b.after b.stored paged;
        typed = its ∙ sym typed;
      }) f refl)
  read-by-chance (load-reads x l mid s' starts run) asks typed e is = absurd (cc)

pub paged_out_is_pinned : {N B W : Type 0} (E : Type 0) (m : Seen N B W) → PagedOutIsPinned E m
paged_out_is_pinned E m s later s' trees h row i key e operations pin well nobody lawful settled stands asks pin_asks owns keyed same published =
    let a = all-leave m lawful operations (record { well = well; nobody = nobody; settled = settled; stands = stands }) asks in
    pin-by-chance m.values lawful a.stays.now h row owns i same key keyed (a.paged i key published) pin pin_asks

pub published_is_read : {N B W : Type 0} (E : Type 0) (m : Seen N B W) → PublishedIsRead E m
published_is_read E m s later s' trees i key t e operations read well nobody lawful settled stands asks read_asks typed published =
    let a = all-leave m lawful operations (record { well = well; nobody = nobody; settled = settled; stands = stands }) asks in
    read-by-chance m.values lawful a.stays.now i key (a.paged i key published) read read_asks typed e refl
