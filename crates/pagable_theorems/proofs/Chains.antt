-- A handle keeps serving for its reference, as does its clone; a key that was set stays set. And each event keeps trees: what it brings fits some trees
-- afterwards, as do all readings.
use Rattle.pagable_pager_spec.specs.{
  Basics.is_loose_kind,
  Calls.{SetKeyCall, row_of},
  Events.Ends,
  Kinds.{fits_mode, is_loose},
  Order.{InOrder, OnceEach, is_claim_of, steps_of},
  Pager.{EventBrings, IsReadingOf, StandsFor},
  Refusals.Owns,
  Rightness.{HasLetGo, IsRight, PinGives, StepsAreWithin, WorkerIsRight, claims_made, is_on_table},
  Runs.{EventDoes, Fact, HasRun, IsPremised, TakesWell, TreesAfter, TreesAlong, events_of, replies_of},
  Theorem.{HeadlineLaw, MeetsHeadline},
  Workers.{claim_fault, give_known, next_start, with_changed_slot},
  World.{SameShelf, published, to_publish, type_at},
  declared.{events.PinStep.PinStep, pinning.Pinning.Pinning},
}
use Rattle.pagable_theorems.proofs.{
  CallEffects.{begin-goes, pins},
  EventEffects.{ends-quiet, event-goes, site_of, walk-goes, works-free},
  FormsOfTrees.given-of,
  HandlesKept.{Stands, among-found, fell, found-number, goes-quiet, pins-hold, quiet-goes, stands-alike, stands-fell, stands-new, stands-whole, updated-at},
  HeldValues.moments-held,
  LoadProgress.{Going, given-nodes, going-new, going-of, going-on, going-step, pin_stands, tree-stays},
  LoadResults.{at-once, keys-right},
  Merkle.tree_readable,
  NewClaims.{EventTurns, HasGone, StandsIn, event-turns, goes-on, idle-stands, turns-keep, turns-stand},
  ReadingSteps.{is-reading-of, readings-on},
  SlotsGrow.{KeepsTask, ShelfGrows, grows, is-same, keeps-task, put-cases, puts-slot, true-false},
  StepBounds.{LoadsStand, Spares, event-on, reads-give, step-within, steps-left},
  TablesKept.{fits-on, keys-same},
  TreeProgress.{call-fits, fits-key, fits-nothing, none-comes, reading-fits, trees-go-on},
  Trees.{chains_join, one-small, same_some, sum-zero},
  Words.{Action, Among, ArcRef, AreMoments, Beginning, Bool, Change, Claim, CloneCall, Core, Event, EventReply, HandleNumber, HandleRow, HandlesAreWhole},
  Words.{Happens, HoldsSettled, Identity, IsIdle, IsLawful, IsMachineWhole, IsPublished, IsWellAsked, List, MachineState, Moment, NodeNumber, None, Ok, Option},
  Words.{Owner, Reading, Seen, Shelf, Slot, Some, Todo, Tree, Values, Walking, WorkDoes, WorkFits, WorkerAnswer, WorkerNumber, WorkerReply, WorkerState},
  Words.{WorkerSteps, World, above, any_mode, ap, append_assoc, arith, basics, false, false_from_ne_true, find_row, give, identity_of, inl, inr, is_owner},
  Words.{is_some, le_trans, nothing_felt, one, owner_worker, refl, row_at, rules, state_after, step_of, subst, sum_by-cons, sym, times, to_finish, to_item},
  Words.{to_load, to_pin, to_set, to_start, to_write, true, type_of, world_of, ℕ, [], ◌&&◌, ◌++◌, ◌+◌, ◌∙◌, ◌∷◌, ◌≡◌, ◌≤◌, ◌⊎◌},
}
use Rattle.pagable_theorems.specs.{
  SmallWorlds.RunsJoin,
  TreeSteps.{AllHold, ChangeFits, CoreGoes, EventFeels, HasHandle, HasPin, Holds, IsSteppedReading, KeyIsSet, KeysAreReady, KeysHeld, PinHolds, StandsAt},
  TreeSteps.{WaitsHeld, by-call, by-key, by-nothing, by-reading},
}
use Rattle.std.proofs.{Common.append-nil, Math.Nat.zero-add, lemmas.List.{Sums.sum_by-append, map-append}}
use Rattle.std.specs.Prelude.{is_none}

module _ {c : Change} {w w' : Core} (goes : CoreGoes c w w') where
  pub stands-on : {r : ArcRef} {h : HandleNumber} → StandsAt w r h → StandsAt w' r h
  stands-on {r} {h} s =
      let a = s.node_given in let b = goes.nodes in let c = s.given in let d = goes.handles in
      record {
        node_given = omega arith;
        given = omega arith;
        is = λ row live. let was = goes.rows h.0 row live s.given in grind (basics, s.is was.was was.live);
      }

  pub key-on : {n : ℕ} → KeyIsSet w n → KeyIsSet w' n
  key-on {n} s = let a = s.given in let b = goes.nodes in record {
    given = omega arith;
    keyed = λ cell live. grind (basics, goes.cells n cell live, s.keyed);
  }

  pub waits-on : (todo : List Todo) → WaitsHeld w todo → WaitsHeld w' todo
  waits-on (to_finish o ∷ below) (h, waits) = (stands-on h, waits-on below waits)
  waits-on (to_item written keys ∷ below) waits = waits-on below waits
  waits-on x0 waits = grind basics

  -- where the worker keeps handles
  all-on : (v : ℕ) → ((n : ℕ) → HasHandle w v n → HasHandle w' v n) → (todo : List Todo) → AllHold w v todo → AllHold w' v todo
  all-on v keeps [] all = tt
  all-on v keeps (to_publish r key height ∷ below) (h, waits) = ((λ kind. (key-on (h kind).0, keeps r.node.0 (h kind).1)), waits-on below waits)
  all-on v keeps (x ∷ below) (h, waits) = (search (rules, stands-on), waits-on below waits)

-- nothing is to be said against a claim: the reference's handle is of its node and fits its kind, and the node is there
pub record IsClaimable (w : Core) (r : ArcRef) : Type 0 where
  pub row : HandleRow
  pub live : row_at w r.handle ≡ Some row
  pub at : row.node ≡ r.node
  pub fits : fits_mode r.kind.0 row.mode ≡ true
  pub typed : type_at w r.node.0 ≡ Some (type_of r.kind.0)

pub may-claim : (w : Core) (r : ArcRef) → claim_fault w r ≡ None → IsClaimable w r
may-claim w r may = grind basics

module _ {w : Core} (whole : HandlesAreWhole w) where
  handle-given : (h : HandleNumber) (row : HandleRow) → row_at w h ≡ Some row → h.0 ≤ w.last.handle
  handle-given h row live = omega (arith, (whole.numbered row (among-found h.0 w.rows row live)).1, found-number h.0 w.rows row live)

  pub claimed-stands : (r : ArcRef) → claim_fault w r ≡ None → StandsAt w r r.handle
  claimed-stands r may = search (rules, may-claim, given-of, handle-given, basics)

  -- a clone stands for what its handle stands for
  pub clone-stands : {w' : Core} {me : Owner} (r : ArcRef) (k : HandleNumber) → StandsAt w r r.handle → CloneCall w me r.handle (Ok k) w' → StandsAt w' r k
  clone-stands {w'} {me} r k s call =
      let row = call.made.0 in let old = s.is row call.made.1 in let above : k.0 ≡ w.last.handle + 1 = call.made.2.above in let a =
      call.made.3 in let b = s.node_given in
      let s_made = stands-new w.last.handle w.rows (row_of (w.last.handle + 1) row.node row.mode me) (λ h among. (whole.numbered h among).1) refl in
      grind (basics, find_row, among-found, found-number, above, is_loose)

-- ---- what workers hold they hold after each event, and each cell whose key was published by a loose reference has a key

module _ (w : Core) (v : ℕ) where
  started : (place : ℕ) (rs : List ArcRef) (x : Todo) (below : List Todo) → Holds w v x → WaitsHeld w below → WaitsHeld w (x ∷ below)
      → AllHold w v (next_start place rs ++ x ∷ below)
  started place x1 x below h waits all = grind basics

  given : (r : ArcRef) (key height : ℕ) (below : List Todo) → WaitsHeld w below → AllHold w v (give r key height below)
  given r key height x3 waits = grind (basics, started, above)

  known : (r : ArcRef) (key height : ℕ) (below : List Todo) → WaitsHeld w below → AllHold w v (give_known r key height below)
  known r key height x3 waits = grind (basics, given)

-- the worker has the handle still through which it has set a key
still-held : {w w' : Core} (v : ℕ) (r : ArcRef) (through : HandleNumber) (key : ℕ) (u : Unit {0}) → HandlesAreWhole w → StandsAt w r through
    → SetKeyCall w (owner_worker v) through key (Ok u) w' → HasHandle w' v r.node.0
still-held {w} {w'} v r through key u whole s call =
    let held : (row : HandleRow) → Owns w (owner_worker v) through any_mode row → Stands w'.last.handle w'.rows through.0 row → HasHandle w' v r.node.0 =
    λ row owns stands.
    record { h = through; row = row; live = stands.live; own = owns.own; at = ap (λ (n : NodeNumber). n.0) (s.is row owns.live).0 } in elim call.does [
      | inl refused ↦ absurd (cc)
      | inr (row, owns, inl (other, told, a)) ↦ held row owns (stands-alike a (stands-whole whole through.0 row owns.live))
      | inr (row, owns, inr (loose, f)) ↦ let s =
          stands-whole whole through.0 row owns.live in
          held row owns (stands-fell f (λ n is. absurd (cc (sym owns.own ∙ is))) refl s)
    ]

-- a key that is known afterwards was known, or P holds
abbrev Reveals : Shelf → Shelf → (Identity → Type 0) → Type 0
Reveals shelf shelf' P = (i : Identity) (key height : ℕ) → IsPublished shelf' i key height → IsPublished shelf i key height ⊎ P i

changed-reveals : (shelf shelf' : Shelf) (P : Identity → Type 0) (i : Identity) (f : Slot → Slot) → SameShelf (with_changed_slot shelf i f) shelf'
    → ((old : Slot) (key height : ℕ) → (f old).outcome ≡ published key height → (old.outcome ≡ published key height) ⊎ P i) → Reveals shelf shelf' P
changed-reveals shelf shelf' P i f same back j key height p = grind (basics, same_some, is-same, known)

module _ {N B W : Type 0} (m : Seen N B W) (v : ℕ) (s s' : WorkerState) (whole : HandlesAreWhole s.core) where
  abbrev pub KeyThere : Identity → Type 0
  KeyThere i = is_loose_kind i.kind.0 ≡ true → KeyIsSet s'.core i.node.0

  -- what a step leaves to be held, and which keys it makes known
  pub record Leaves : Type 0 where
    pub all : AllHold s'.core v s'.todo
    pub reveals : Reveals s.shelf s'.shelf KeyThere

  leaves : {next : List Todo} → s'.todo ≡ next → AllHold s'.core v next → Reveals s.shelf s'.shelf KeyThere → Leaves
  leaves e all reveals = record { all = subst (λ x. AllHold s'.core v x) (sym e) all; reveals = reveals }

  stays : ((i : Identity) → s'.shelf.slots i ≡ s.shelf.slots i) → {next : List Todo} → s'.todo ≡ next → AllHold s'.core v next → Leaves
  stays same e all = leaves e all (λ i key height p. inl (keys-same (λ j. sym (same j)) i key height p))

  stepped : {c : Change} (todo : List Todo) (step : Action W) → s.todo ≡ todo → WorkDoes m v s todo step s' → CoreGoes c s.core s'.core → AllHold s.core v todo
      → Leaves
  stepped (to_start r place ∷ below) (Action.Claim i (Ok Claim.Claimed)) e (is, c) f (h, waits) =
      let t = c.finds.1.2 in
      leaves t.list_is (stands-on f (claimed-stands whole r c.finds.0), waits-on f below waits) (grind (arith, put-cases, known))
  stepped (to_pin r place ∷ below) (Action.Pin i (Ok (PinStep.Pinned k))) e (is, p) f (h, waits) = let t = p.pins.2 in
      let stands : StandsAt s'.core r p.pins.0 = elim p.pins.1 [
        | inl (row, same, clone) ↦ subst (λ h. StandsAt s'.core r h) (sym same) (clone-stands whole r k h clone)
        | inr (row, (mid, clone, pin)) ↦ stands-on (pins {lists = false} {Asks = Unit {0}} {Leaves = Unit {0}} {c = nothing_felt} (works-free v)
            (Ok (Pinning.Pinned k)) pin).goes
            (clone-stands whole r p.pins.0 h clone)
      ] in stays t.table_stays.slots t.list_is (stands, waits-on f below waits)
  stepped (to_pin r place ∷ below) (Action.Pin i (Ok (PinStep.LoadBegun l))) e (is, p) f (h, waits) = let t = p.pins.2 in
      stays t.table_stays.slots t.list_is (
        stands-on (begin-goes (Ok (Beginning.Load l p.pins.1.1.1)) p.pins.1.1.3)
            (clone-stands whole r p.pins.0 h p.pins.1.1.2),
        waits-on f below waits,
      )
  stepped (to_load r place through reading ∷ below) (Action.Pin i (Ok (PinStep.Pinned k))) e (is, p) f (h, waits) = let t = p.goes.1 in
      stays t.table_stays.slots t.list_is (stands-on f h, waits-on f below waits)
  stepped (to_load r place through reading ∷ below) (Action.Pin i (Ok PinStep.LoadStepMade)) e (is, p) f (h, waits) = let t = p.goes.2 in
      stays t.table_stays.slots t.list_is (stands-on f h, waits-on f below waits)
  stepped (to_write r place through ∷ below) (Action.Write i (Ok out)) e (is, p) f (h, waits) =
      let t = p.writes in
      leaves t.list_is
      (started s'.core v place (m.written_of out).references _ below (stands-on f h) (waits-on f below waits) (stands-on f h, waits-on f below waits))
      (changed-reveals s.shelf s'.shelf KeyThere (identity_of r) (λ slot. record slot { references = Some (m.written_of out).references }) t.table_is
      (λ old key height is. inl is))
  stepped (to_finish o ∷ below) (Action.Store i (Ok key)) e (is, p) f (h, waits) = let t =
      p.goes in stays t.table_stays.slots t.list_is (stands-on f h, waits-on f below waits)
  stepped (to_set r through key height ∷ below) (Action.SetKey i (Ok u)) e (is, p) f (h, waits) = let t = p.goes in
      stays t.table_stays.slots t.list_is (
        elim p.sets.does [
          | inl (kind, sets) ↦ (let there : is_loose_kind r.kind.0 ≡ true
              → KeyIsSet s'.core r.node.0 = grind (basics, goes-quiet, fell, updated-at) in
              λ loose. (there loose, still-held v r through key u whole h sets))
          | inr (held, done, a) ↦ λ loose. absurd (cc)
        ],
        waits-on f below waits,
      )
  stepped _ step e does f all = grind (basics, stays, leaves, same_some, known, waits-on f, given)

module _ {N B W : Type 0} (m : Seen N B W) (u u' : World) {c : Change} (goes : CoreGoes c u.core u'.core) (held : KeysHeld u)
    (whole : HandlesAreWhole u.core) where
  abbrev SlotsHeld : Shelf → Type 0
  SlotsHeld shelf = (i : Identity) (key height : ℕ) → IsPublished shelf i key height → is_loose_kind i.kind.0 ≡ true → KeyIsSet u'.core i.node.0

  a-step : StandsIn u' → (k : WorkerNumber) (r : WorkerReply W) (s : WorkerSteps m u k r u') → SlotsHeld s.after.shelf × AllHold u'.core k.0 s.after.todo
  a-step work k r s =
      let w = s.walking in
      let l = stepped m k.0 (site_of u w) s.after whole w.todo r.action refl s.does.does
      (walk-goes m k.0 (site_of u w) s.after w.todo r.action s.does.does).goes (held.walks k.0 w s.at) in
      let ends = quiet-goes nothing_felt (ends-quiet r.answer k.0 s.ends) in
      let slots : SlotsHeld s.after.shelf = λ i key height p kind.
      elim (l.reveals i key height p) [ inl was ↦ key-on goes (held.slots w.table i key height was kind) | inr set ↦ key-on ends (set kind) ] in
      (slots, after (all-on ends) l.all r.answer s.ends refl)
    where
      -- where it has answered nothing is left to be done, and where it hasn't it keeps what it has
      after : ((v : ℕ) → ((n : ℕ) → HasHandle s.after.core v n → HasHandle u'.core v n) → (todo : List Todo) → AllHold s.after.core v todo
          → AllHold u'.core v todo)
          → AllHold s.after.core k.0 s.after.todo → (a : Option WorkerAnswer) → Ends a k.0 s.after.core u'.core → r.answer ≡ a
          → AllHold u'.core k.0 s.after.todo
      after on all None e none = on k.0 (λ n h. (grind (basics, find_row))) s.after.todo all
      after on all (Some a) e is = subst (λ todo. AllHold u'.core k.0 todo)
          (sym ((work.workers k.0 _ (s.work.same_walkings k.0 ∙ updated-at k.0 _ u.work.walkings)).done a is)) tt

  keys-hold : (event : Event N B W) (reply : EventReply N B W) → EventTurns m u event reply u' → StandsIn u'
      → ((n : ℕ) → step_of n event reply ≡ [] → Spares (owner_worker n) u.core u'.core)
      → KeysHeld u'
  keys-hold event reply turns work spares =
      let h = turns-keep m turns SlotsHeld (λ n shelf w. AllHold u'.core n w.todo)
      (λ a b same slots i key height p. slots i key height (keys-same (λ j. sym (same j)) i key height p))
      (λ a b more slots n w all. all)
      (λ t shelf more same i key height p kind. key-on goes (held.slots t i key height (keys-same (λ j. sym (same j)) i key height p) kind))
      (λ n w none there. all-on goes n (λ q. λ h. let s = (spares n none).each h.h.0 h.row h.own (stands-whole whole h.h.0 h.row h.live) in
      record { h = h.h; row = h.row; live = s.live; own = h.own; at = h.at }) w.todo (held.walks n w there))
      (λ n shelf t task. (let s = started u'.core n 0 in grind (basics, s))) (λ k r s at one more. a-step work k r s) turns.own in
      record { walks = h.walks; slots = h.slots }

keys-ready : {N E : Type 0} (v : Values N) (s : MachineState N E) (trees : ℕ → Tree) → WorkFits v s trees → KeysHeld (world_of s) → KeysAreReady v s trees
keys-ready v s trees fit held k key row sets =
    grind (basics, same_some, tree_readable, sets.there, sets.sets, sets.owns)

module _ {N E B W : Type 0} (m : Seen N B W) (s : MachineState N E) (trees : ℕ → Tree) where
  reading-takes : (event : Event N B W) (reply : EventReply N B W) (reading : Reading) → IsSteppedReading (world_of s) event reading
      → IsWellAsked m.values s trees event reply
      → TakesWell m.values s.pager reading
  reading-takes x0 reply reading x3 well = grind basics

  module _ (stands : StandsFor m.values s trees) (readings : (reading : Reading) → IsReadingOf s.work reading → Going m.values s.pager trees reading) where
    event-fits : (lawful : IsLawful m.values) (s' : MachineState N E) → HoldsSettled m.values s.pager → IsMachineWhole m.values s
        → IsMachineWhole m.values s' → KeysAreReady m.values s trees
        → (event : Event N B W) (reply : EventReply N B W) {c : Change} → CoreGoes c s.pager.core s'.pager.core → IsWellAsked m.values s trees event reply
        → EventFeels m.values (world_of s) event reply (world_of s') c → (trees' : ℕ → Tree)
        × ChangeFits m.values c (EventBrings m.values (world_of s) event) s.pager s'.pager trees trees'
    event-fits lawful s' settled whole whole' ready event reply goes well (by-call c call answer called replied feels keeps) =
        let asked = rw (called, replied) at well in
        let f = call-fits lawful settled whole.pager whole'.pager stands.pager c call answer goes asked feels in (f.0, rw called f.1)
    event-fits lawful s' settled whole whole' ready event reply goes well (by-reading c reading answer frames stepped opens feels steps) =
        let g = going-of s trees readings reading (is-reading-of (world_of s) event reading stepped) in
        let f = reading-fits lawful settled whole.pager whole'.pager stands.pager reading (reading-takes event reply reading stepped well) g.fits
        (given-nodes reading.frames g.held) goes opens feels in
        (f.0, (grind basics))
    event-fits lawful s' settled whole whole' ready event reply goes well (by-key k key row is sets keeps) =
        let reads = ready k key row sets in (
          trees,
          fits-key lawful settled whole.pager whole'.pager stands.pager _ row.node.0 key (λ n x brings. (grind (basics, same_some)))
              (tree-stays goes.stored reads),
        )
    event-fits lawful s' settled whole whole' ready event reply goes well (by-nothing stays keeps) =
        let none = none-comes lawful settled whole.pager whole'.pager stands.pager in
        (trees, fits-nothing lawful settled whole.pager whole'.pager stands.pager _ (λ n x brings unset is. absurd (none n x goes unset is (stays n x brings))))

-- Trees stay along chains, pins and reads give them, and keys are right.

-- ---- a machine that stands for trees stands for them after each event, with all that its loads read

module _ {N E B W : Type 0} (m : Seen N B W) (s s' : MachineState N E) (trees trees' : ℕ → Tree) (whole : IsMachineWhole m.values s')
    (stands : StandsFor m.values s' trees') where
  pin-gives : (event : Event N B W) (reply : EventReply N B W) → PinHolds event reply s'.pager.core → PinGives m.values s trees event reply s' trees'
  pin-gives x0 x1 pinned = let given = λ (k : HandleNumber) (h : HasPin s'.pager.core k). pin_stands s'.pager trees' k h.row whole.pager stands.pager h.live
      h.is in grind (basics, given)

-- what holds of a machine and its trees along a chain
pub record IsGoingOn {N E : Type 0} (v : Values N) (s : MachineState N E) (trees : ℕ → Tree) : Type 0 where
  pub whole : IsMachineWhole v s
  pub work : StandsIn (world_of s)
  pub settled : HoldsSettled v s.pager
  pub stands : StandsFor v s trees
  pub readings : (reading : Reading) → IsReadingOf s.work reading → Going v s.pager trees reading
  pub fits : WorkFits v s trees
  pub held : KeysHeld (world_of s)

module _ {N E B W : Type 0} (m : Seen N B W) (lawful : IsLawful m.values) where
  pub idle-goes : (s : MachineState N E) (trees : ℕ → Tree) → IsMachineWhole m.values s → IsIdle s → HoldsSettled m.values s.pager → StandsFor m.values s trees
      → IsGoingOn m.values s trees
  idle-goes s trees whole idle settled stands = grind (basics, idle-stands)

  pub goes : (s : MachineState N E) (trees : ℕ → Tree) (x : Moment N E B W) → IsGoingOn m.values s trees → EventDoes m s x.event x.reply x.after
      → IsPremised m.values s trees x.event x.reply x.after → (trees' : ℕ → Tree) × TreesAfter m (IsRight m.values) s trees x.event x.reply x.after trees'
      × IsGoingOn m.values x.after trees'
  goes s trees x on does premised =
      let g = event-goes m (world_of s) (world_of x.after) x.event x.reply premised.stays_open does.step.happens in
      let felt = g.feels on.whole.pager.whole (λ n w is. (on.work.workers n w is).waits) in
      let ready = keys-ready m.values s trees on.fits on.held in
      let f = event-fits m s trees on.stands on.readings lawful x.after on.settled on.whole does.whole ready x.event x.reply g.goes premised.well felt in
      let pager = trees-go-on lawful on.settled on.whole.pager does.whole.pager on.stands.pager does.moves g.goes f.1 in
      let readings = readings-on (Going m.values x.after.pager f.0) (λ reading is. going-on on.whole.pager does.whole.pager on.stands.pager g.goes f.1 reading
      (on.readings reading is))
      (λ reading new. going-new x.after.pager f.0 reading new.0 new.2) (λ reading frames load is at read.
      going-step on.whole.pager does.whole.pager on.stands.pager g.goes f.1 reading frames load at (going-of s trees on.readings reading is) read) felt in
      let stands : StandsFor m.values x.after f.0 = record { pager = pager; readings = λ reading is. (readings reading is).fits } in
      let turns = event-turns m (world_of s) (world_of x.after) on.work (λ v w there. (on.whole.walkings v w there).table.1) x.event x.reply
      does.step.happens in
      let fits = fits-on m s x.after trees f.0 (record { kept = g.goes.stored; last = g.goes.nodes; trees = f.1.same }) on.fits on.whole on.stands.pager
      on.settled lawful on.work x.event x.reply turns does.writes premised.well in
      let work = turns-stand m turns on.work in
      let held = keys-hold m (world_of s) (world_of x.after) g.goes on.held on.whole.pager.whole.handles x.event x.reply turns work
      (λ n others. g.spares n on.whole.pager.whole.owners_there others) in
      let pins = pins-hold m (world_of s) (world_of x.after) x.event x.reply on.whole.pager.whole.handles does.step.happens in
      let keys = keys-right m s x.after trees f.0 on.fits fits on.whole does.whole stands on.held held x.event x.reply does.step.happens in
      let so : IsRight m.values s trees x.event x.reply x.after f.0 = search (rules, pin-gives, reads-give) in
      (f.0, record { keeps = f.1.same; stands = stands; so = so }, assumption (does.whole, work, premised.settled, stands, readings, fits, held))

  -- what follows of each moment, and of what stays true of the machine and of the moments that are left, holds along each chain
  pub along-with : (P : Fact N E B W) (I : MachineState N E → List (Moment N E B W) → Type 0)
      → ((s : MachineState N E) (trees trees' : ℕ → Tree) (x : Moment N E B W) (xs : List (Moment N E B W)) → IsGoingOn m.values s trees → I s (x ∷ xs)
      → IsMachineWhole m.values x.after
      → Happens m (world_of s) x.event x.reply (world_of x.after) → IsWellAsked m.values s trees x.event x.reply
      → IsRight m.values s trees x.event x.reply x.after trees' → P s trees x.event x.reply x.after trees' × I x.after xs)
      → (s : MachineState N E) (trees : ℕ → Tree) (moments : List (Moment N E B W)) → IsGoingOn m.values s trees → I s moments → AreMoments m s moments
      → TreesAlong m P s trees moments
  along-with P I follows s trees [] on so does = tt
  along-with P I follows s trees (x ∷ xs) on so (does, more) = λ premised.
      let (trees', a, after) = goes s trees x on does premised in
      let f = follows s trees trees' x xs on so does.whole does.step.happens premised.well a.so in
      (trees', record { keeps = a.keeps; stands = a.stands; so = f.0 }, along-with P I follows x.after trees' xs after f.1 more)

-- What each chain comes to: claims, workers and loads; and with trees, the headline.

-- ---- claims: each event claims on a table only what wasn't claimed there, and what one worker claimed is among its table's claims

abbrev pub claim_made : {N B W : Type 0} → (ℕ → Option Walking) → ℕ → Identity → Event N B W → EventReply N B W → ℕ
claim_made walkings t i (Event.WorkerStep v) (EventReply.WorkerMoved (Ok reply)) = one (is_on_table t (walkings v.0) && is_claim_of i reply.action)
claim_made walkings t i event reply = 0

module _ {N B W : Type 0} (walkings : ℕ → Option Walking) (t : ℕ) (i : Identity) where
  claims-cons : (event : Event N B W) (reply : EventReply N B W) (more : List (Event N B W)) (rest : List (EventReply N B W))
      → claims_made walkings t i (event ∷ more) (reply ∷ rest) ≡ claim_made walkings t i event reply + claims_made walkings t i more rest
  unfolding claims_made
  claims-cons x0 x1 more rest = grind (basics, zero-add)

  -- what one worker of the table claimed is among them
  own-claims : (n : ℕ) (w : Walking) → walkings n ≡ Some w → w.table ≡ t → (happened : List (Event N B W)) (replied : List (EventReply N B W))
      → times (is_claim_of {W = W} i) (steps_of n happened replied) ≤ claims_made walkings t i happened replied
  unfolding steps_of claims_made
  own-claims n w there on (event ∷ more) (reply ∷ rest) =
      grind (
        basics,
        sum_by-append,
        one,
        is_claim_of,
        step_of,
        steps_of,
        claims-cons,
        times,
        is_on_table,
        sum_by-cons,
        claim_made,
        own-claims n w there on more rest,
      )
  own-claims n w there on x4 x5 = grind basics

  -- each event claims what wasn't claimed, where workers keep their tables
  module _ (m : Seen N B W) (u u' : World) (grow : (q : ℕ) → ShelfGrows (u.work.shelves q) (u'.work.shelves q))
      (keeps : (v : ℕ) (w : Walking) → u.work.walkings v ≡ Some w → KeepsTask walkings v w) where
    is-still : one (is_some ((u.work.shelves t).slots i)) ≤ one (is_some ((u'.work.shelves t).slots i))
    is-still = grind (basics, grow t i)

    event-claims : (event : Event N B W) (reply : EventReply N B W) → Happens m u event reply u'
        → one (is_some ((u.work.shelves t).slots i)) + claim_made walkings t i event reply ≤ one (is_some ((u'.work.shelves t).slots i))
    event-claims (Event.WorkerStep v) (EventReply.WorkerMoved (Ok reply)) h =
        let s = h.moves in let k = keeps v.0 s.walking s.at in
        let after = (s.work.same_shelves s.walking.table).slots i ∙ ap (λ (x : Shelf). x.slots i) (updated-at s.walking.table s.after.shelf u.work.shelves) in
        grind (basics, is-still, puts-slot, is-same)
    event-claims x0 x1 h = grind (basics, is-still)

module _ {N E B W : Type 0} (m : Seen N B W) where
  -- what a chain of these events comes to
  record Arrives (s s' : MachineState N E) (happened : List (Event N B W)) (replied : List (EventReply N B W)) : Type 0 where
    work : StandsIn (world_of s')
    whole : IsMachineWhole m.values s'
    loads : LoadsStand m.values.types (world_of s')
    keeps : (v : ℕ) (w : Walking) → s.work.walkings v ≡ Some w → KeepsTask s'.work.walkings v w
    gone : (n : ℕ) (past : List (Action W)) → HasGone m.written_of n s.work.shelves (s.work.walkings n) past
        → HasGone m.written_of n s'.work.shelves (s'.work.walkings n) (past ++ steps_of n happened replied)
    claims : (t : ℕ) (i : Identity) → one (is_some ((s.work.shelves t).slots i)) + claims_made s'.work.walkings t i happened replied ≤ one
        (is_some ((s'.work.shelves t).slots i))

  arrives : (s : MachineState N E) (moments : List (Moment N E B W)) → AreMoments m s moments → IsMachineWhole m.values s → StandsIn (world_of s)
      → LoadsStand m.values.types (world_of s)
      → Arrives s (state_after s moments) (events_of moments) (replies_of moments) × StepsAreWithin m.values s moments
  unfolding state_after steps_of claims_made
  arrives s [] chain whole work loads = (grind (basics, append-nil), tt)
  arrives s (x ∷ xs) (does, chain) whole work loads =
      let turns =
      event-turns m (world_of s) (world_of x.after) work (λ v w there. (whole.walkings v w there).table.1) x.event x.reply does.step.happens in
      let t = turns.turned in let last = (state_after x.after xs).work.walkings in
      let waits = λ (n : ℕ) (w : Walking) (is : s.work.walkings n ≡ Some w). (work.workers n w is).waits in
      let (rest, within) = arrives x.after xs chain does.whole (turns-stand m turns work)
      (event-on m s x.after whole x.event x.reply does.step.happens waits loads) in
      let on : (v : ℕ) (w : Walking) → s.work.walkings v ≡ Some w → KeepsTask last v w = λ v w there.
      let k = keeps-task turns.who s.work.shelves x.after.work.shelves s.work.walkings x.after.work.walkings t v w there in let l =
      rest.keeps v k.now k.there in
      record { now = l.now; there = l.there; table = l.table ∙ k.table; task = l.task ∙ k.task } in
      let gone = λ (n : ℕ) (past : List (Action W)) (gone : HasGone m.written_of n s.work.shelves (s.work.walkings n) past).
      subst (λ k. HasGone m.written_of n (state_after x.after xs).work.shelves (last n) k)
      (append_assoc past (step_of n x.event x.reply) (steps_of n (events_of xs) (replies_of xs)))
      (rest.gone n (past ++ step_of n x.event x.reply) (goes-on m (world_of s) (world_of x.after) x.event x.reply work turns n past gone)) in
      let each = λ (q : ℕ) (i : Identity).
      event-claims last q i m (world_of s) (world_of x.after) (λ p. grows turns.who (s.work.shelves p) (x.after.work.shelves p) (t.changes p)) on x.event
      x.reply does.step.happens in
      let cons = λ (q : ℕ) (i : Identity). claims-cons last q i x.event x.reply (events_of xs) (replies_of xs) in let now =
      step-within m s x.after whole loads x.event x.reply does.step.happens in (
        record {
          work = rest.work;
          whole = rest.whole;
          loads = rest.loads;
          keeps = on;
          gone = gone;
          claims = λ q i. omega (arith, cons q i, each q i, rest.claims q i);
        },
        (now, within),
      )

-- all that steps have come to
module _ {N E B W : Type 0} (m : Seen N B W) (s end : MachineState N E) (happened : List (Event N B W)) (replied : List (EventReply N B W)) (idle : IsIdle s)
    (all : Arrives m s end happened replied) where
  worker : (n : ℕ) (walking : Walking) → end.work.walkings n ≡ Some walking → WorkerIsRight m.written_of (world_of end) n walking (steps_of n happened replied)
  worker n walking there =
      let let_go : (answer : WorkerAnswer) → walking.answer ≡ Some answer → HasLetGo (world_of end) n (end.work.shelves walking.table) = λ answer is.
      let rests : end.pager.core.workers n ≡ false = (all.whole.walkings n walking there).at_work ∙ ap is_none is in
      let own : (h : HandleRow) → Among end.pager.core.rows h → (b : Bool) → is_owner (owner_worker n) h.owner ≡ b → one (is_owner (owner_worker n) h.owner)
      ≡ 0 =
      λ h among b e. grind (basics, true-false, all.whole.pager.whole.owners_there.workers h n among, rests) in
      grind (basics, own, all.work.workers n walking there, sum-zero, false_from_ne_true, true-false, rests) in
      let nobody =
      subst (λ o. HasGone m.written_of n s.work.shelves o []) (sym (idle.walkings n)) refl in
      let went = rw there at (all.gone n [] nobody) in
      let order : InOrder m.written_of walking.task (steps_of n happened replied) = record { left = walking.todo; leads = went.leads } in
      let few : (i : Identity) → times (is_claim_of i) (steps_of n happened replied) ≤ 1 =
      λ i. le_trans (own-claims end.work.walkings walking.table i n walking there refl happened replied) (grind (basics, one-small)) in
      let once : OnceEach (steps_of n happened replied) =
      record { claim = few; later = λ stage i. at-once stage i m.written_of walking.task (steps_of n happened replied) walking.todo went.leads (few i) } in
      let within = went.within in record { order = order; once = once; bounded = omega arith; met = went.met; let_go = let_go }

pub headline_law : {N B W : Type 0} (E : Type 0) (m : Seen N B W) → HeadlineLaw E m
headline_law E m start moments whole idle chain =
    let (all, within) = arrives m start moments chain whole (idle-stands start idle) (grind basics) in let end = state_after start moments in
    record {
      chain = chain;
      work = record {
        claims_right = record {
          at_most_once = grind (basics, one-small, all.claims);
          met = λ t i is.
              let c : (slot : Slot) × ((end.work.shelves t).slots i ≡ Some slot) = grind basics in
              let a = all.work.slots t i c.0 c.1 in record { n = c.0.worker; walking = a.walking; there = a.there; on_table = a.on_table; meets = a.meets };
        };
        workers = worker m start end (events_of moments) (replies_of moments) idle all;
        loads = steps-left m.values end all.loads;
      };
      loads = within;
      trees = λ trees stands lawful settled. along-with m lawful (IsRight m.values) (λ s xs. Unit {0})
          (λ s trees trees' x xs on so whole' happens asked right. (right, tt))
          start trees moments (idle-goes m lawful start trees whole idle settled stands) tt chain;
      holds = λ brings held. moments-held m start moments chain brings (record { well = whole.pager; held = held });
    }

module _ {N E B W : Type 0} (m : Seen N B W) where
  -- whatever has run meets the headline
  pub run-meets : {old new : MachineState N E} {happened : List (Event N B W)} {replied : List (EventReply N B W)} → HasRun m old happened replied new
      → MeetsHeadline m old happened replied new
  run-meets run = record {
    run = run;
    right = λ start before whole idle chain ends. headline_law E m start (before ++ run.moments) whole idle
        ((chains_join E m).joins start before run.moments chain (subst (λ s. AreMoments m s run.moments) (sym ends) run.chain));
  }

pub runs_join : {N B W : Type 0} (E : Type 0) (m : Seen N B W) → RunsJoin E m
runs_join {N} {B} {W} E m = record {
  joins = λ old mid new happened more replied rest a b.
      let xs = a.run.moments in let ys = b.run.moments in run-meets m (record {
        moments = xs ++ ys;
        events_are = map-append (λ x. x.event) xs ys ∙ ap (λ (l : List (Event N B W)). l ++ events_of ys) a.run.events_are
            ∙ ap (λ (l : List (Event N B W)). happened ++ l) b.run.events_are;
        replies_are = map-append (λ x. x.reply) xs ys ∙ ap (λ (l : List (EventReply N B W)). l ++ replies_of ys) a.run.replies_are
            ∙ ap (λ (l : List (EventReply N B W)). replied ++ l) b.run.replies_are;
        ends = (chains_join E m).ends old xs ys ∙ ap (λ (s : MachineState N E). state_after s ys) a.run.ends ∙ b.run.ends;
        chain = (chains_join E m).joins old xs ys a.run.chain (subst (λ s. AreMoments m s ys) (sym a.run.ends) b.run.chain);
      });
}
