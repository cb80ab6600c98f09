-- A worker's turns that claim a node, pin or load it and write it are, by what their calls did, the worker's turns.
use Rattle.pagable_core.specs.declared.context.writing.SerializedData.{SerializedData}
use Rattle.pagable_load.proofs.{LoadSteps.none_comes, PinsAndReads.goes_open}
use Rattle.pagable_load.specs.{
  Frames.{IsLoadOf, frames_of, reading_of},
  LoadSteps.{IsSameLoad, TriesStep},
  Outcomes.{answer_of as answers},
  PinStart.Shares,
  WorkerCalls.{BeginsAt, TakesReference},
  declared.{access.PinnedOrLoading.PinnedOrLoading, reading.{LoadOutcome.LoadOutcome, Reading.Reading as Own}},
}
use Rattle.pagable_pageout.proofs.Words.{
  Action,
  ArcRef,
  Claim,
  Environments,
  Equalities,
  Err,
  Error,
  HandleNumber,
  Hashes,
  IsPagerWhole,
  List,
  MakesCall,
  NeedsNoPager,
  Nodes,
  None,
  Ok,
  Option,
  Orders,
  Owner,
  PagerState,
  PartialOrders,
  PerformsTask,
  Result,
  SameShelf,
  Shelf,
  Some,
  StepResult,
  Task,
  Todo,
  Turn,
  Values,
  Written,
  acts_map,
  ap,
  arc_value,
  arith,
  back_of,
  basics,
  claim_result,
  false,
  identity_of,
  if_there,
  if◌then◌else◌,
  inl,
  inr,
  plain,
  refl,
  same_some,
  subst,
  sym,
  tells_map,
  tests,
  to_start,
  true,
  was_refused,
  with_changed_slot,
  written_of,
  ℕ,
  [],
  ◌+◌,
  ◌∙◌,
  ◌∷◌,
  ◌≡◌,
}
use Rattle.pagable_pageout.specs.{
  Joint.FitsAtPlace,
  Slots.{MakesClaim, WouldFind, claimed_shelf, with_references},
  Table.IsResultOf,
  Tasks.fails,
  Turns.{ClaimFits, Fits, HoldsPin, IsForm, IsLoading, IsOfKind, IsPinned, IsTaskAfterClaim, LeavesFit, TaskFits, Turned, WriteRefused, WritesForm, answer_in},
  Turns.{claim_todo, plain_took, worker_state},
  declared.claims.ClaimResult.ClaimResult,
}
use Rattle.pagable_pager_spec.specs.{
  Access.ReadingStep,
  Basics.{LoadNumber, NodeNumber, type_of},
  Kinds.owner_worker,
  Loads.{EndsPinned, gone_on},
  Pager.{HandlesAreWhole, HoldsItsNodes, Moves, TodoBrings, TookWrites, ValueCall},
  Workers.{ClaimStep, Finds, PinsAtOnce, Turns, WorkDoes, WorkerState, answer_after, claim_fault, fresh, is_counted_claim, open_node, with_wait},
  World.{Alike, Cell, Core, Frame, OpenLoad, Reading, Root, of_cell, of_key, one_more, result_map, to_load, to_write},
  declared.events.PinStep.PinStep,
}
use Rattle.pagable_theorems.proofs.{
  Chains.{claimed-stands, clone-stands, may-claim},
  EventEffects.walk-goes,
  HandlesKept.{Goes, PinOf, clone-call, end-call, low-handle, low-whole, not-loose, pin-call, pins-by},
}
use Rattle.pagable_theorems.specs.TreeSteps.{Change, StandsAt}
use Rattle.std.proofs.Common.{◌==◌}
use Rattle.std.specs.{Option.option_map, Prelude.{IfErr, IfOk}, declared.{alloc.Global.Global, sync.Arc.Arc}}

pub alike : (w : Core) → Alike w w
alike w = grind basics

module _ {core : Core} {s s' : Shelf} {r : ArcRef} {place : ℕ} {below : List Todo} where
  turns : {shelf : Shelf} {todo : List Todo} → SameShelf shelf s' → Turns (worker_state core s (to_start r place ∷ below)) shelf todo
      (worker_state core s' todo)
  turns same = record { pager_stays = alike core; table_is = same; list_is = refl }

finds : (core : Core) (v : ℕ) (s s' : Shelf) (r : ArcRef) (place : ℕ) (below : List Todo) (c : Claim) → WouldFind v s (identity_of r) place c
    → SameShelf (claimed_shelf v s (identity_of r) c) s'
    → Finds v (worker_state core s (to_start r place ∷ below)) r place below c (worker_state core s' (claim_todo r place below (Ok c)))
finds core v s s' r place below c w same = grind (basics, turns)

module _ {core : Core} {s s' : Shelf} {r : ArcRef} {place : ℕ} {below : List Todo} where
  pub claims-there : {v : ℕ} {result : Result Claim Error} → claim_fault core r ≡ None → MakesClaim v s (identity_of r) place result s'
      → ClaimStep v (worker_state core s (to_start r place ∷ below)) r place below result (worker_state core s' (claim_todo r place below result))
  claims-there {result = result} none there = grind (basics, turns, finds)

  pub refuses : {v : ℕ} {e : Error} → claim_fault core r ≡ Some e → SameShelf (with_wait s v None) s'
      → ClaimStep v (worker_state core s (to_start r place ∷ below)) r place below (Err e) (worker_state core s' (claim_todo r place below (Err e)))
  refuses h same = record { finds = tt; refused = (inl h, turns same) }

-- ---- the turn

kind-claimed : (w : Core) (r : ArcRef) → HandlesAreWhole w → claim_fault w r ≡ None → IsOfKind w r
kind-claimed w r whole may = grind (basics, may-claim, claimed-stands, same_some)

module _ {X XN XH XK XV : Type 0} {g : Environments X XN XH XK XV} {gh : Hashes XH} {go : Orders XK} {gq : Equalities XK} {gp : PartialOrders XK}
    {gn : Nodes XN X XN XH XK XV} where
  pub claim-fits : (r : ArcRef) (place : ℕ) (claim : Result (ClaimResult X XN XH XK XV g gh go gq gp gn) Error) → IfOk claim (IsResultOf (identity_of r))
      → IfOk claim (FitsAtPlace place) → ClaimFits r place claim
  claim-fits r place claim own near = grind tests

  -- a task that needs nothing fits
  pub plain-fits : (n : ℕ) (w : Core) (t : Task X XN XH XK XV g gh go gq gp gn) → NeedsNoPager t → TaskFits n w t
  plain-fits n w task plain = grind tests

  claim-leaves : (n : ℕ) (w : Core) (shelf : Shelf) (s' : WorkerState) (r : ArcRef) (place : ℕ) (below : List Todo)
      (claim : Result (ClaimResult X XN XH XK XV g gh go gq gp gn) Error) (task : Task X XN XH XK XV g gh go gq gp gn) → HandlesAreWhole w
      → IsTaskAfterClaim r place claim task
      → ClaimStep n (worker_state w shelf (to_start r place ∷ below)) r place below (claim_result claim) s' → TaskFits n w task
  claim-leaves n w shelf s' r place below claim task whole leaves c = grind (basics, claimed-stands, kind-claimed, plain-fits)

  pub start-turns : {N E : Type 0} {v : Values N} {me : Owner} {n : ℕ} {shelf shelf' : Shelf} {r : ArcRef} {place : ℕ} {below after : List Todo}
      (claim : Result (ClaimResult X XN XH XK XV g gh go gq gp gn) Error) {task : Task X XN XH XK XV g gh go gq gp gn} → after
      ≡ claim_todo r place below (claim_result claim)
      → IsTaskAfterClaim r place claim task
      → (s : PagerState N E) → ClaimStep n (worker_state s.core shelf (to_start r place ∷ below)) r place below (claim_result claim)
      (worker_state s.core shelf' (claim_todo r place below (claim_result claim)))
      → PerformsTask v me n shelf (Task.Start r place) below shelf' (record {
        action = Action.Claim (identity_of r) (claim_result claim);
        turn = Turn.Goes task;
        counted = is_counted_claim (claim_result claim);
      }) after s s
  start-turns claim {task} is leaves s c = grind (basics, turns, claim-leaves)

  -- a claim that isn't made
  pub start-refused : {N E : Type 0} {v : Values N} {me : Owner} {n : ℕ} {shelf shelf' : Shelf} {r : ArcRef} {place : ℕ} {below after : List Todo}
      {task : Task X XN XH XK XV g gh go gq gp gn} → after ≡ fails (was_refused Error.NumbersSpent) (back_of (Some r.handle) below)
      → NeedsNoPager task → SameShelf (with_wait shelf n None) shelf' → (s : PagerState N E)
      → PerformsTask v me n shelf (Task.Start r place) below shelf' (record {
        action = Action.Claim (identity_of r) (Err Error.NumbersSpent);
        turn = Turn.Goes task;
        counted = true;
      }) after s s
  start-refused {task = task} is plain same s = grind (basics, start-turns, finds, alike)

pub ruleset claiming = (basics, claims-there, refuses, claim-fits)

-- ---- what was written is a form of the node's value

module _ {N E : Type 0} {v : Values N} {s : PagerState N E} {r : ArcRef} {pin : HandleNumber} where
  shared-some : {x : N} → ValueCall s pin (Ok (Some x)) → IsPinned v s r pin → (s.values r.node.0 ≡ Some x) × (v.node_type x ≡ type_of r.kind.0)
  shared-some {x} call p = let held : s.values r.node.0 ≡ Some x = grind basics in
      (held, p.kind.typed (v.node_type x) (p.whole.typed r.node.0 x held))

  module _ {X : Type 0} {see : X → N} where
    pub forms-other : {y : X} {e : Error} {t : ℕ} → t ≡ v.node_type (see y) → (t ≡ type_of r.kind.0 → ⊥) → Shares see s pin (Ok (Some y))
        → WritesForm v s r pin (Err e)
    forms-other is differs shared = record { written = λ p. tt; refused = λ p. absurd (differs (is ∙ (shared-some shared.given p).1)) }

    pub forms-none : {e : Error} → Shares see s pin (Ok None) → WritesForm v s r pin (Err e)
    forms-none shared = grind basics

    pub forms-unshared : {e : Error} → Shares see s pin (Err e) → WritesForm v s r pin (Err e)
    forms-unshared shared = grind basics

  -- what was written is told by the same, or OutOfMemory
  pub forms-told : (w told : Written) → told ≡ w → WritesForm v s r pin (Ok w) → WritesForm v s r pin (Ok told)
  forms-told w told same forms = subst (λ x. WritesForm v s r pin (Ok x)) (sym same) forms

  pub forms-short : (e : Error) → e ≡ Error.OutOfMemory → WritesForm v s r pin (Err e)
  forms-short e is = grind basics

  module _ {W X : Type 0} (see : W → Written) {at : X → N} where
    pub forms-from : {y : X} (result : Result W Error) → IfOk result (λ d. IsForm v (at y) (see d)) → IfErr result (λ e. WriteRefused v (at y) e)
        → Shares at s pin (Ok (Some y)) → WritesForm v s r pin (result_map see result)
    forms-from result is why shared = grind (basics, shared-some shared.given)

pub ruleset forming = (tests, tells_map, forms-told, forms-short)

-- ---- the turn

module _ {X XN XH XK XV : Type 0} {g : Environments X XN XH XK XV} {gh : Hashes XH} {go : Orders XK} {gq : Equalities XK} {gp : PartialOrders XK}
    {gn : Nodes XN X XN XH XK XV} {N E : Type 0} {v : Values N} {me : Owner} {n : ℕ} {s : PagerState N E} {r : ArcRef} {place : ℕ}
    {through pin : HandleNumber} where
  is-pinned : Fits {g = g} {gh = gh} {go = go} {gq = gq} {gp = gp} {gn = gn} v me n (Task.Write r place through pin) s → IsPinned v s r pin
  is-pinned f = record { whole = f.whole; kind = f.task_fits.0; pins = f.task_fits.1.pins }

  module _ {shelf shelf' : Shelf} {below after : List Todo} {task : Task X XN XH XK XV g gh go gq gp gn} (plain : NeedsNoPager task) where
    pub write-turns : {told : Arc SerializedData Global} → WritesForm v s r pin (Ok (written_of (arc_value told)))
        → SameShelf (with_changed_slot shelf (identity_of r) (with_references (written_of (arc_value told)).references)) shelf'
        → after ≡ open_node r place through (written_of (arc_value told)) below
        → PerformsTask v me n shelf (Task.Write r place through pin) below shelf'
        (record { action = Action.Write (identity_of r) (Ok told); turn = Turn.Goes task; counted = true }) after s s
    write-turns forms same is = grind (basics, alike, is-pinned, plain-fits)

    pub write-fails : {e : Error} → WritesForm v s r pin (Err e) → SameShelf shelf shelf' → after ≡ fails (was_refused e) (back_of None below)
        → PerformsTask v me n shelf (Task.Write r place through pin) below shelf'
        (record { action = Action.Write (identity_of r) (Err e); turn = Turn.Goes task; counted = true }) after s s
    write-fails forms same is = grind (basics, is-pinned, alike, plain-fits)

-- ---- a turn that pins what was claimed, or loads it, is the worker's

module _ {c : Change} {w w' : Core} (goes : Goes c w w') where
  pub kind-on : {r : ArcRef} → IsOfKind w r → IsOfKind w' r
  kind-on {r} k = record { given = let a = k.given in let b = goes.nodes in omega arith; typed = λ t is. of-cell t (w'.cells r.node.0) refl is }
    where
      of-cell : (t : ℕ) (found : Option Cell) → w'.cells r.node.0 ≡ found → if_there (λ (cell : Cell). Some cell.node_type) None found ≡ Some t → t
          ≡ type_of r.kind.0
      of-cell t None live is = absurd (cc)
      of-cell t (Some cell) live is = elim (goes.cells r.node.0 cell live) [
        | inl kept ↦ sym (same_some _ _ is) ∙ kept.typed ∙ k.typed kept.was.node_type
            (ap (λ (found : Option Cell). if_there (λ (x : Cell). Some x.node_type) None found) kept.live)
        | inr (next, bears) ↦ let a = k.given in absurd (omega arith)
      ]

-- ---- the new pin

pins-as : {w : Core} {me : Owner} {node : NodeNumber} {r : ArcRef} {k : HandleNumber} → PinOf w me node k → node ≡ r.node → HoldsPin w me r k
pins-as p at = record { pins = record { row = p.pin.row; live = p.pin.live; at = p.at ∙ at; pins = p.pin.is }; own = p.own }

at-once-pins : {w w' : Core} {me : Owner} {r : ArcRef} {through k : HandleNumber} → HandlesAreWhole w → StandsAt w r r.handle → PinsAtOnce w me r through k w'
    → HoldsPin w' me r k
at-once-pins {w} {w'} {me} {r} {through} {k} whole stands does = elim does [
  | inl (is, same, clone) ↦
      let c = clone-call w w' (low-whole whole) me r.handle k clone in
      pins-as (pins-by w' k (w.last.handle + 1) clone.made.2.above c.2 (not-loose c.0.mode (rw (same_some _ _ (sym is.live ∙ c.1)) at is.sort)))
      (stands.is c.0 c.1).0
  | inr (is, (mid, copy, pin)) ↦
      pins-as (pin-call mid w' (low-handle w mid _ _ _ (low-whole whole) copy.made.3) me through k pin)
      ((clone-stands whole r through stands copy).is pin.pins.0 pin.pins.1.live).0
]

-- ---- a load that has begun

begun-loads : {w w' : Core} {n : ℕ} {r : ArcRef} {through : HandleNumber} {l : LoadNumber} {key : ℕ} {own : Own} → HandlesAreWhole w → StandsAt w r r.handle
    → BeginsAt w (owner_worker n) r through l key w' → own.load ≡ l → own.key ≡ key → own.for_cell ≡ true → IsLoading w' n r through own
begun-loads {w} {w'} {n} {r} {through} {l} {key} whole stands (is, (mid, clone, begin)) same_load same_key cell =
    let b = begin.begins.2 in
    let next : l.0 ≡ mid.last.load + 1 = b.2.above in
    let one : (l.0 == mid.last.load + 1) ≡ true = grind tests in
    let new : OpenLoad = record { owner = owner_worker n; key = key; root = of_cell begin.begins.0.node b.4.0 through } in
    record {
      is = record {
        load = new;
        owned = record { stands_open = rw same_load (b.4.2.loads l.0 ∙ ap (λ c. if c then Some new else mid.loads l.0) one); own = refl };
        key = sym same_key;
        sort = sym cell;
      };
      for_cell = cell;
      t = b.4.0;
      root = ap (λ q. of_cell q b.4.0 through) ((clone-stands whole r through stands clone).is begin.begins.0 begin.begins.1.live).0;
    }

-- ---- a load that goes on, and one that ends with the pin

abbrev node-in : NodeNumber → Root → NodeNumber
node-in other (of_cell node t h) = node
node-in other of_key = other

end-pins : {N : Type 0} {v : Values N} {w w' : Core} {n : ℕ} {r : ArcRef} {through : HandleNumber} {own : Own} {k : HandleNumber} → HandlesAreWhole w
    → IsLoading w n r through own → EndsPinned v w (owner_worker n) (reading_of own) k w' → HoldsPin w' (owner_worker n) r k
end-pins {w = w} {w'} {n} {r} {through} {own} {k} whole is e =
    let may = e.ended.installs.2 in
    let same : may.load ≡ is.is.load = same_some _ _ (sym may.owned.stands_open ∙ is.is.owned.stands_open) in
    pins-as (end-call w w' (low-whole whole) (owner_worker n) own.load e.x _ _ k (λ m is. absurd (cc)) e.ended)
    (sym (ap (node-in r.node) may.of_node) ∙ ap (λ (x : OpenLoad). node-in r.node x.root) same ∙ ap (node-in r.node) is.root)

-- ---- the turns

pub same-shelf : (shelf : Shelf) → SameShelf shelf shelf
same-shelf shelf = record { slots = λ i. refl; waits = λ q. refl }

-- no entry goes back where there was none
pub none-back : (below : List Todo) → back_of None below ≡ None
none-back [] = refl
none-back (x ∷ below) = refl

module _ {X XN XH XK XV : Type 0} {g : Environments X XN XH XK XV} {gh : Hashes XH} {go : Orders XK} {gq : Equalities XK} {gp : PartialOrders XK}
    {gn : Nodes XN X XN XH XK XV} {N E : Type 0} {v : Values N} {me : Owner} {n : ℕ} {r : ArcRef} {place : ℕ} {through : HandleNumber} {own : Own} where
  stepped : {s t : PagerState N E} {outcome : Option (LoadOutcome N)} {frames : List Frame}
      → Fits {g = g} {gh = gh} {go = go} {gq = gq} {gp = gp} {gn = gn} v me n (Task.Load r place through own) s → TriesStep v me own s (Ok outcome) frames t
      → ReadingStep v (owner_worker n) (reading_of own) s (option_map answers outcome) frames t
  stepped {s} {t} {outcome} {frames} f steps =
      subst (λ o. IsLoadOf s.core o own → ReadingStep v o (reading_of own) s (option_map answers outcome) frames t) f.me_is steps.does f.task_fits.1.is

-- a step of the worker that leaves the table, from what it does
module _ {X XN XH XK XV : Type 0} {g : Environments X XN XH XK XV} {gh : Hashes XH} {go : Orders XK} {gq : Equalities XK} {gp : PartialOrders XK}
    {gn : Nodes XN X XN XH XK XV} {N E : Type 0} {v : Values N} {n : ℕ} {shelf : Shelf} where
  by-does : {todo : List Todo} {moved : StepResult X XN XH XK XV g gh go gq gp gn} {after : List Todo} {s t : PagerState N E}
      → WorkDoes (plain v) n (worker_state s.core shelf todo) todo (plain_took moved.action) (worker_state t.core shelf after)
      → answer_after todo (plain_took moved.action)
      ≡ answer_in moved.turn → Moves (TodoBrings v s.core todo) s t → Moves (λ k x. HoldsItsNodes v s x) s t
      → TookWrites v (λ w. w) s (plain_took moved.action) → IsPagerWhole v t → ((c : Change) → Goes c s.core t.core → LeavesFit n t.core moved.turn)
      → Turned v n shelf todo s shelf moved after t
  by-does {todo} {moved} {after} {s} {t} does answers moves holds writes whole fits =
      let goes = walk-goes (plain v) n (worker_state s.core shelf todo) (worker_state t.core shelf after) todo (plain_took moved.action) does in
      record {
        does = record { does = does };
        answers = answers;
        moves = moves;
        holds = holds;
        writes = writes;
        whole = whole;
        fits = fits goes.change goes.goes;
      }

  module _ {me : Owner} {r : ArcRef} {place : ℕ} {below : List Todo} where
    pub pin-holds : {through k : HandleNumber} (s t : PagerState N E)
        → MakesCall v (λ w'. TakesReference s.core me r (Ok (PinnedOrLoading.Held through k)) w') s t
        → PerformsTask {g = g} {gh = gh} {go = go} {gq = gq} {gp = gp} {gn = gn} v me n shelf (Task.Pin r place) below shelf
        (record { action = Action.Pin (identity_of r) (Ok (PinStep.Pinned k)); turn = Turn.Goes (Task.Write r place through k); counted = true })
        (to_write r place through ∷ below) s t
    pin-holds {through} {k} s t call = record {
      counts = refl;
      turns = λ f.
          let takes = subst (λ o. PinsAtOnce s.core o r through k t.core) f.me_is call.step.takes in
          by-does (refl, record { pins = (through, takes, record { table_stays = same-shelf shelf; list_is = refl }); refused = tt }) refl
          (none_comes call.moves) (none_comes call.moves) tt call.whole
          (λ c goes. (kind-on goes f.task_fits.1, at-once-pins f.whole.whole.handles f.task_fits.0 takes));
    }

    pub pin-begins : {through : HandleNumber} {l : LoadNumber} {key : ℕ} {own : Own} → reading_of own ≡ fresh l (type_of r.kind.0) → own.key ≡ key
        → own.for_cell ≡ true → (s t : PagerState N E)
        → MakesCall v (λ w'. TakesReference s.core me r (Ok (PinnedOrLoading.Begun through l key)) w') s t
        → PerformsTask {g = g} {gh = gh} {go = go} {gq = gq} {gp = gp} {gn = gn} v me n shelf (Task.Pin r place) below shelf
        (record { action = Action.Pin (identity_of r) (Ok (PinStep.LoadBegun l)); turn = Turn.Goes (Task.Load r place through own); counted = true })
        (to_load r place through (reading_of own) ∷ below) s t
    pin-begins {through} {l} {key} is same_key cell s t call = record {
      counts = refl;
      turns = λ f.
          let takes = subst (λ o. BeginsAt s.core o r through l key t.core) f.me_is call.step.takes in
          by-does (
            refl,
            record {
              pins = (
                through,
                (takes.0, (takes.1.0, key, takes.1.1, takes.1.2)),
                record { table_stays = same-shelf shelf; list_is = ap (λ x. to_load r place through x ∷ below) is },
              );
              refused = tt;
            },
          ) refl (none_comes call.moves)
          (none_comes call.moves) tt call.whole
          (λ c goes. (kind-on goes f.task_fits.1, begun-loads f.whole.whole.handles f.task_fits.0 takes (ap (λ (x : Reading). x.load) is) same_key cell));
    }

    pub pin-fails : {e : Error} {task : Task X XN XH XK XV g gh go gq gp gn} {after : List Todo} → NeedsNoPager task → after
        ≡ fails (was_refused e) (back_of (Some r.handle) below) → (s t : PagerState N E)
        → MakesCall v (λ w'. TakesReference s.core me r (Err e) w') s t
        → PerformsTask v me n shelf (Task.Pin r place) below shelf
        (record { action = Action.Pin (identity_of r) (Err e); turn = Turn.Goes task; counted = true }) after s t
    pin-fails {task = task} plain-task is s t call = grind (basics, same-shelf, none_comes, plain-fits)

    module _ {through : HandleNumber} {own : Own} where
      pub load-goes : {new : Own} {frames : List Frame} → frames ≡ frames_of new.top new.below.items → IsSameLoad own new (one_more own.steps)
          → (s t : PagerState N E)
          → TriesStep v me own s (Ok None) frames t → PerformsTask {g = g} {gh = gh} {go = go} {gq = gq} {gp = gp} {gn = gn} v me n shelf
          (Task.Load r place through own) below shelf (record {
            action = Action.Pin (identity_of r) (Ok PinStep.LoadStepMade);
            turn = Turn.Goes (Task.Load r place through new);
            counted = false;
          }) (to_load r place through (reading_of new) ∷ below) s t
      load-goes {new} {frames} at is_same s t call = record {
        counts = refl;
        turns = λ f.
            let step = stepped f call in
            let same : reading_of new ≡ gone_on (reading_of own) frames = rw (is_same.load, is_same.node_type, is_same.steps, at) refl in
            let old = f.task_fits.1 in
            by-does (
              refl,
              record {
                goes = (frames, step.does, record { table_stays = same-shelf shelf; list_is = ap (λ x. to_load r place through x ∷ below) same });
                refused = tt;
              },
            ) refl step.moves (step.holds f.whole) tt step.whole
            (λ c goes. (
              kind-on goes f.task_fits.0,
              record {
                is = record {
                  load = old.is.load;
                  owned = record {
                    stands_open = rw is_same.load
                        (goes_open v (owner_worker n) s.core t.core (reading_of own) frames step.does.does ∙ old.is.owned.stands_open);
                    own = old.is.owned.own;
                  };
                  key = old.is.key ∙ sym is_same.key;
                  sort = old.is.sort ∙ sym is_same.for_cell;
                };
                for_cell = is_same.for_cell ∙ old.for_cell;
                t = old.t;
                root = old.root;
              },
            ));
      }

      pub load-pins : {k : HandleNumber} {read : Option (Arc N Global)} {frames : List Frame} (s t : PagerState N E)
          → TriesStep v me own s (Ok (Some (LoadOutcome.Pinned k read))) frames t
          → PerformsTask {g = g} {gh = gh} {go = go} {gq = gq} {gp = gp} {gn = gn} v me n shelf (Task.Load r place through own) below shelf
          (record { action = Action.Pin (identity_of r) (Ok (PinStep.Pinned k)); turn = Turn.Goes (Task.Write r place through k); counted = false })
          (to_write r place through ∷ below) s t
      load-pins s t call = record {
        counts = refl;
        turns = λ f.
            let step = stepped f call in
            let end = step.does.does.0 in
            by-does (refl, record { goes = (record { does = (end, refl) }, record { table_stays = same-shelf shelf; list_is = refl }); refused = tt }) refl
            step.moves (step.holds f.whole) tt step.whole (λ c goes. (kind-on goes f.task_fits.0, end-pins f.whole.whole.handles f.task_fits.1 end));
      }

      pub load-fails : {e : Error} {frames : List Frame} {task : Task X XN XH XK XV g gh go gq gp gn} {after : List Todo} → NeedsNoPager task → after
          ≡ fails (was_refused e) (back_of (Some r.handle) below)
          → (s t : PagerState N E) → TriesStep v me own s (Ok (Some (LoadOutcome.Refused e))) frames t
          → PerformsTask v me n shelf (Task.Load r place through own) below shelf
          (record { action = Action.Pin (identity_of r) (Err e); turn = Turn.Goes task; counted = false }) after s t
      load-fails {task = task} plain-task is s t call = grind (basics, stepped, same-shelf, plain-fits)

      -- a load of a cell reads out nothing
      pub load-reads-none : (x : N) (frames : List Frame) (moved : StepResult X XN XH XK XV g gh go gq gp gn) (after : List Todo) → moved.counted ≡ false
          → (s t : PagerState N E) → TriesStep v me own s (Ok (Some (LoadOutcome.Read x))) frames t
          → PerformsTask v me n shelf (Task.Load r place through own) below shelf moved after s t
      load-reads-none x frames moved after uncounted s t call = grind (basics, stepped, same_some)

pub ruleset pinning = (tests, acts_map, load-reads-none)
