-- A load keeps trees from begin to end: what it pins stands for its node's tree, and what it reads for the tree that its key reads as. Each stage happens once:
-- what is still to be done and what was done are together at most what was claimed. So each published key is its tree's, each returned key is its task's, and
-- what a worker met that returns a key is paged out. A worker's steps up to its result: none of its own claims waits any more, and the others' claims are
-- unchanged.
use Rattle.pagable_pager_spec.specs.{
  Access.{AccessState, AllHaveResults, KeyStarts, LoadAsksWell, LoadRun, LoadStarts, PinLaw, ReadLaw, ReadingStep, WalkStep, WorkerRun, load-ends},
  Access.{load-goes-on, worker-ends, worker-goes-on},
  Basics.{is_loose_kind, longest_path},
  Kinds.has_key,
  LoadCalls.with_load,
  Loads.{LoadDoes, gone_on},
  Order.{Follows, Leads, is_claim_of, is_later_of},
  Pager.{Moves, SameTrees, StandsFor, kids_of},
  Rightness.{AnswerIsKey, AnswerLeavesAll, AreKeysOf, FailedElsewhere, IsKeyOfTask, IsMetFailure, LeavesAll, Meets, PublishIsKey, ReadIsRight, meets-below},
  Rightness.{meets-entry, meets-of-item},
  Runs.TakesWell,
  Workers.{first_todo, fresh, is_open_outcome, next_start},
  World.{Fault, Root, is_identity, of_key, to_publish},
}
use Rattle.pagable_theorems.proofs.{
  CallEffects.{begin-goes, begins-key},
  Decoding.{among-left, among-right},
  EventEffects.site_of,
  FormsOfTrees.{cell-of, keys-of, known-of, tree-form},
  HandlesKept.{Goes, rows-then, updated-at},
  LoadProgress.{Going, given-nodes, going-new, going-step, row-held, settled-on, stands-here, was-open},
  Merkle.{one_item_key, one_key},
  NewClaims.{FailsMet, answered as was-answered, failed-elsewhere, failed-stays, fails-stay, first-met, follows-met, goes-same, stands-on},
  ReadingSteps.{ReadingFelt, caller-free, reading-feels},
  SlotsGrow.{AllStand, AllWait, Covers, Goes as ShelfGoes, HasNoFailed, first-stands, grows, some-none, some-same},
  StepBounds.{hands, read-right},
  TablesKept.{all-known, all-low, done-on, keys-same, stands-for},
  TreeProgress.{fits-nothing, reading-fits, trees-go-on},
  Trees.{same-number, same_some, steps_follow},
  Words.{Action, Alike, ArcRef, Blob, Bool, Claim, Core, Event, EventReply, Frame, FramesFit, HandleNumber, Happens, HoldsSettled, Identity, IsLawful},
  Words.{IsMachineWhole, IsPagerWhole, IsPublished, Last, List, LoadAnswer, LoadNumber, MachineState, Mode, None, Ok, OpenLoad, Option, OptionalDataKey, Owner},
  Words.{PagerStandsFor, PagerState, Reading, ReadingFeels, Seen, Shelf, Slot, Some, Task, Todo, Tree, Values, Walking, WorkDoes, WorkFits, WorkerAnswer},
  Words.{WorkerNumber, WorkerReply, WorkerState, WorkerSteps, Written, answer_after, ap, append_assoc, arith, basics, cases_Bool, false, give, held},
  Words.{identity_of, if_there, inl, inr, is_some, key_at, nat_eq, nothing_felt, of_cell, of_entry, of_item, one, refl, subst, sum_by-cons, sym, times},
  Words.{to_fail, to_finish, to_item, to_load, to_pin, to_release, to_set, to_start, to_write, true, with_handle, world_of, ℕ, [], ◌&&◌, ◌++◌, ◌+◌, ◌==◌, ◌∙◌},
  Words.{◌∷◌, ◌≡◌, ◌≤◌},
}
use Rattle.pagable_theorems.specs.TreeSteps.{AllHold, Ground, HasHandle, IsDone, KeyIsSet, KeysHeld, RowsGo, Waits, Walks, ground_of}
use Rattle.pagable_value_spec.specs.Merkle.{KeyOfItem}
use Rattle.std.proofs.Math.Nat.{zero-add}
use Rattle.std.specs.Prelude.{nat_le}

-- the pager stands for trees, and what the load has read fits them
pub record Under {N E : Type 0} (v : Values N) (s : PagerState N E) (trees : ℕ → Tree) (key : ℕ) (reading : Reading) : Type 0 where
  pub settled : HoldsSettled v s
  pub well : IsPagerWhole v s
  pub stands : PagerStandsFor v s trees
  pub going : Going v s trees reading
  pub keyed : (load : OpenLoad) → s.core.loads reading.load.0 ≡ Some load → load.key ≡ key

-- what a step of a caller's load does, as trees feel it
pub caller-feels : {N E : Type 0} {v : Values N} {s s' : PagerState N E} {reading : Reading} {answer : Option (LoadAnswer N)} {frames : List Frame}
    → ReadingStep v Owner.Caller reading s answer frames s' → ReadingFelt v s.core Owner.Caller reading answer frames s'.core
caller-feels {N} {v = v} {s} {s'} {reading} {answer} {frames} step =
    let seen : Seen N Blob Written = record { values = v; blob_of = λ b. b; written_of = λ w. w } in
    reading-feels seen s.core Owner.Caller caller-free s'.core reading answer frames step.does

-- each node keeps its tree, and each handle its node
pub record After {N E : Type 0} (v : Values N) (s : PagerState N E) (trees : ℕ → Tree) (s' : PagerState N E) (trees' : ℕ → Tree) : Type 0 where
  pub same : SameTrees s.core.last.node trees trees'
  pub nodes : s.core.last.node ≤ s'.core.last.node
  pub stands : PagerStandsFor v s' trees'
  pub handles : s.core.last.handle ≤ s'.core.last.handle
  pub rows : RowsGo s.core.last.handle s.core.rows s'.core.rows

pub after-then : {N E : Type 0} {v : Values N} {s m t : PagerState N E} {trees mid after : ℕ → Tree} → After v s trees m mid → After v m mid t after
    → After v s trees t after
after-then a b = record {
  same = λ n within. b.same n (omega arith) ∙ a.same n within;
  nodes = omega arith;
  stands = b.stands;
  handles = omega arith;
  rows = rows-then _ _ _ _ _ a.handles a.rows b.rows;
}

module _ {N E : Type 0} {v : Values N} (lawful : IsLawful v) where
  -- what a step comes to: a load that goes on is so again, and the value that it answers is that of its key
  pub record Stepped (s : PagerState N E) (trees : ℕ → Tree) (key : ℕ) (reading : Reading) (answer : Option (LoadAnswer N)) (frames : List Frame)
      (s' : PagerState N E) : Type 0 where
    pub trees' : ℕ → Tree
    pub after : After v s trees s' trees'
    pub still : answer ≡ None → Under v s' trees' key (gone_on reading frames)
    pub right : (x : N) → answer ≡ Some (LoadAnswer.Read x) → ReadIsRight v s' key x

  pub stepped : (s s' : PagerState N E) (trees : ℕ → Tree) (key : ℕ) (reading : Reading) (answer : Option (LoadAnswer N)) (frames : List Frame)
      → Under v s trees key reading → HoldsSettled v s' → TakesWell v s reading
      → ReadingStep v Owner.Caller reading s answer frames s' → Stepped s trees key reading answer frames s'
  stepped s s' trees key reading answer frames u settled' takes step =
      let felt = caller-feels step in
      let feels = felt.feels u.well.whole.handles in
      let fit = reading-fits lawful u.settled u.well step.whole u.stands reading takes u.going.fits
      (given-nodes reading.frames u.going.held) felt.does.goes felt.opens feels in
      let stands = trees-go-on lawful u.settled u.well step.whole u.stands step.moves felt.does.goes fit.1 in
      record {
        trees' = fit.0;
        after = record { same = fit.1.same; nodes = felt.does.goes.nodes; stands = stands; handles = felt.does.goes.handles; rows = felt.does.goes.rows };
        still = λ none.
            let load = felt.opens none in
            let going = going-step u.well step.whole u.stands felt.does.goes fit.1 reading frames load.0 load.1 u.going
            (subst (λ (o : Option (LoadAnswer N)). ReadingFeels v s.core reading o frames s'.core felt.change) none feels) in
            record {
              settled = settled';
              well = step.whole;
              stands = stands;
              going = going;
              keyed = λ other there. u.keyed other (was-open felt.does.goes reading.load.0 other u.going.within there);
            };
        right = λ x is.
            let read = (subst (λ (o : Option (LoadAnswer N)). LoadDoes v s.core Owner.Caller reading o frames s'.core) is step.does.does).0 in
            let load = read.of_key_load in subst (λ q. ReadIsRight v s' q x) (u.keyed load.load load.open_load)
            (read-right lawful s s' trees fit.0 fit.1.same felt.does.goes.stored step.whole stands reading takes.types u.going load.load load.open_load x
            read.reads_root
            (hands reading.load (v.references x) u.well.whole.handles read.handed));
      }

  comes : {reading : Reading} {s s' : PagerState N E} {answer : LoadAnswer N} (run : LoadRun v Owner.Caller reading s answer s') → LoadAsksWell run
      → (trees : ℕ → Tree) (key : ℕ) → Under v s trees key reading → Stepped s trees key reading (Some answer) [] s'
  unfolding LoadAsksWell
  comes (load-ends reading answer s s' step) asks trees key u = stepped s s' trees key reading (Some answer) [] u asks.0 asks.1 step
  comes (load-goes-on reading frames answer s mid s' step more) asks trees key u =
      let a = stepped s mid trees key reading None frames u asks.0 asks.1 step in
      let rest = comes more asks.2 a.trees' key (a.still refl) in
      record { trees' = rest.trees'; after = after-then a.after rest.after; still = λ none. absurd (cc); right = rest.right }

  module _ (s mid : PagerState N E) (trees : ℕ → Tree) (well : IsPagerWhole v s) (settled : HoldsSettled v s) (stands : PagerStandsFor v s trees)
      (does : Goes nothing_felt s.core mid.core) (moves : Moves (λ n x. ⊥) s mid) (whole : IsPagerWhole v mid) where
    pub begun : After v s trees mid trees
    begun = search (
      does.nodes,
      does.handles,
      does.rows,
      trees-go-on lawful settled well whole stands moves does
          (fits-nothing lawful settled well whole stands (λ n x. ⊥) (λ n x comes none is. absurd comes)),
    )

    pub under : (w : Core) (l : LoadNumber) (t key : ℕ) (root : Root) → l.0 ≡ w.last.load + 1 → Alike (with_load w key root Owner.Caller) mid.core
        → Under v mid trees key (fresh l t)
    unfolding FramesFit
    under w l t key root next a =
        let still = settled-on v settled moves in
        let going = going-new {v = v} mid trees (fresh l t) refl (omega (arith, ap (λ (x : Last). x.load) a.last)) in
        grind (basics, same_some, still, whole, begun.stands, going)

-- a load of a cell by one call keeps trees
pub pin-after : {N E : Type 0} (v : Values N) (s mid s' : PagerState N E) (h : HandleNumber) (reading : Reading) (answer : LoadAnswer N)
    (run : LoadRun v Owner.Caller reading mid answer s') → IsPagerWhole v s
    → LoadStarts v s h reading mid → LoadAsksWell run → IsLawful v → HoldsSettled v s → (trees : ℕ → Tree) → PagerStandsFor v s trees
    → (trees' : ℕ → Tree) × After v s trees s' trees'
pin-after v s mid s' h reading answer run well starts asks lawful settled trees stands =
    let c = starts.begins in let b = c.step.begins.2 in
    let first = begun lawful s mid trees well settled stands (begin-goes _ c.step) c.moves c.whole in
    let f : (t : ℕ) × (reading ≡ fresh reading.load t) = grind (basics, same_some) in
    let u = under lawful s mid trees well settled stands (begin-goes _ c.step) c.moves c.whole (with_handle s.core
    c.step.begins.0.node Mode.LooseUnpinned (Owner.Load reading.load)) reading.load f.0 starts.key (of_cell c.step.begins.0.node b.4.0 h) b.2.above b.4.2 in
    let r = comes lawful run asks trees starts.key (subst (λ z. Under v mid trees starts.key z) (sym f.1) u) in
    (r.trees', after-then first r.after)

-- so does a load of a key, and a value that it reads stands for the tree that the key reads as
pub read-after : {N E : Type 0} (v : Values N) (s mid s' : PagerState N E) (key t : ℕ) (l : LoadNumber) (answer : LoadAnswer N)
    (run : LoadRun v Owner.Caller (fresh l t) mid answer s') → IsPagerWhole v s
    → KeyStarts v s key l mid → LoadAsksWell run → IsLawful v → HoldsSettled v s → (trees : ℕ → Tree) → PagerStandsFor v s trees
    → (trees' : ℕ → Tree) × After v s trees s' trees' × ((x : N) → answer ≡ LoadAnswer.Read x → ReadIsRight v s' key x)
read-after v s mid s' key t l answer run well starts asks lawful settled trees stands =
    let b = starts.step.begins in
    let goes : Goes nothing_felt s.core mid.core = (begins-key {lists = false} {Asks = Unit {0}} {Leaves = Unit {0}} _ starts.step).goes in
    let first = begun lawful s mid trees well settled stands goes starts.moves starts.whole in
    let u = under lawful s mid trees well settled stands goes starts.moves starts.whole s.core l t key of_key b.1.above b.2 in
    let r = comes lawful run asks trees key u in
    (r.trees', after-then first r.after, λ x is. r.right x (ap Some is))

pub pin_law : {N E : Type 0} (v : Values N) → PinLaw E v
pin_law v s mid s' h k reading x row run well starts asks live held lawful settled trees stands =
    let r = pin-after v s mid s' h reading (LoadAnswer.Pinned k) run well starts asks lawful settled trees stands in
    (r.0, r.1.same, r.1.stands, stands-here (r.1.stands.stands row.node.0 (row-held s'.core k row live)) held)

pub read_law : {N E : Type 0} (v : Values N) → ReadLaw E v
read_law v s mid s' key t l x run well starts asks settled_value lawful settled trees stands =
    let r = read-after v s mid s' key t l (LoadAnswer.Read x) run well starts asks lawful settled trees stands in (r.0, r.1.same, r.1.stands, r.2 x refl)

-- the stage k is this one or comes after it, from p on
abbrev from : ℕ → ℕ → Bool → ℕ
from k p b = one (nat_le p k && b)

-- whether steps of the stage about the identity are to be done for this
abbrev left : ℕ → Identity → Todo → ℕ
left k i (to_pin r place) = from k 0 (is_identity i (identity_of r))
left k i (to_load r place through reading) = from k 1 (is_identity i (identity_of r))
left k i (to_write r place through) = from k 2 (is_identity i (identity_of r))
left k i (to_finish o) = from k 3 (is_identity i (identity_of o.reference))
left k i (to_set r through key height) = from k 4 (is_identity i (identity_of r))
left k i (to_publish r key height) = from k 5 (is_identity i (identity_of r))
left k i (to_release r key height) = from k 6 (is_identity i (identity_of r))
left k i _ = 0

-- something is done above what waits, and a reference is started for what waits for it
abbrev IsWay : List Todo → Type 0
IsWay [] = Unit {0}
IsWay (to_start r place ∷ []) = ⊥
IsWay (x ∷ below) = AllWait below

module _ (k : ℕ) (i : Identity) where
  abbrev all-left : List Todo → ℕ
  all-left [] = 0
  all-left (x ∷ todo) = left k i x + all-left todo

  started : (place : ℕ) (rs : List ArcRef) (x : Todo) (below : List Todo) → AllWait (x ∷ below)
      → (all-left (next_start place rs ++ x ∷ below) ≡ all-left (x ∷ below)) × IsWay (next_start place rs ++ x ∷ below)
  started place x1 x2 below more = grind (basics, zero-add)

  given : (r : ArcRef) (key height : ℕ) (below : List Todo) → AllWait below → (all-left (give r key height below) ≡ all-left below)
      × IsWay (give r key height below)
  given r key height x3 waits = grind (basics, started)

  abbrev at : ArcRef → Bool
  at r = is_identity i (identity_of r)

  goes-up : (p : ℕ) (r : ArcRef) (m n : ℕ) → m ≡ from k (p + 1) (at r) + n → one (k == p && at r) + m ≤ 0 + (from k p (at r) + n)
  goes-up p r m n is = grind basics

  ends : (p : ℕ) (r : ArcRef) (m n : ℕ) → m ≤ n → one (k == p && at r) + m ≤ 0 + (from k p (at r) + n)
  ends p r m n few = grind basics

  failed : {next : List Todo} {fault : Fault} {back : Option HandleNumber} (todo : List Todo) → next ≡ to_fail fault back ∷ []
      → (one false + all-left next ≤ one false + all-left todo) × IsWay next
  failed todo e = rw e (omega arith, tt)

  module _ {W : Type 0} (f : W → Written) where
    -- one step: what is of the stage, with what is left of it, is at most a claim with what was left before
    goes : (todo : List Todo) (step : Action W) (next : List Todo) → IsWay todo → Follows f todo step next
        → (one (is_later_of k i step) + all-left next ≤ one (is_claim_of i step) + all-left todo) × IsWay next
    goes (to_start r place ∷ []) step next way follows = absurd way
    goes _ step next way follows = grind (basics, failed, started, given, goes-up, ends)

    along : (todo : List Todo) (steps : List (Action W)) (last : List Todo) → IsWay todo → Leads f todo steps last
        → times (is_later_of k i) steps + all-left last ≤ times (is_claim_of i) steps + all-left todo
    along todo [] last way is = subst (λ t. 0 + all-left t ≤ 0 + all-left todo) (sym is) (omega arith)
    along todo (step ∷ steps) last way (mid, follows, leads) =
        let a = goes todo step mid way follows in let more = along mid steps last a.1 leads in
        omega (arith, sum_by-cons (λ s. one (is_later_of k i s)) step steps, sum_by-cons (λ s. one (is_claim_of i s)) step steps)

    after-release : (r : ArcRef) (key height : ℕ) (steps : List (Action W)) (last : List Todo) → Leads f (to_release r key height ∷ []) steps last
        → times (is_later_of k i) steps ≤ 1
    after-release r key height (Action.Release j ∷ x ∷ more) last (mid, (is, e), (after, follows, leads)) = absurd (subst (λ m. Follows f m x after) e follows)
    after-release r key height x3 last x5 = grind basics

    -- a step that neither claims nor is of the stage
    once-more : (step : Action W) (steps : List (Action W)) → one (is_later_of k i step) ≡ 0 → times (is_later_of k i) steps ≤ 1
        → times (is_later_of k i) (step ∷ steps) ≤ 1
    once-more step steps is few = grind basics

    few-claims : (step : Action W) (steps : List (Action W)) → times (is_claim_of i) (step ∷ steps) ≤ 1
        → one (is_claim_of i step) + times (is_claim_of i) steps ≤ 1
    few-claims step steps few = subst (λ n. n ≤ 1) (sum_by-cons (λ s. one (is_claim_of i s)) step steps) few

    -- what is left to be done is no more than was claimed
    bounded : (t d s n c : ℕ) → t + d ≤ s + n → n ≤ c → c + s ≤ 1 → t ≤ 1
    bounded t d s n c less few most = omega arith

    -- the entry of a listed cell, which may be known already
    entry : (r : ArcRef) (place : ℕ) (steps : List (Action W)) (last : List Todo) → Leads f (to_start r place ∷ []) steps last → times (is_claim_of i) steps ≤ 1
        → times (is_later_of k i) steps ≤ 1
    entry r place [] last leads few = omega arith
    entry r place (Action.Claim j (Ok Claim.Claimed) ∷ steps) last (mid, (is, e), leads) few =
        let few_left : one (at r) + times (is_claim_of i) steps ≤ 1 = subst (λ j. one (is_identity i j) + times (is_claim_of i) steps ≤ 1) is
        (few-claims (Action.Claim j (Ok Claim.Claimed)) steps few) in
        grind (basics, once-more, bounded, along)
    entry r place (Action.Claim j (Ok Claim.Waiting) ∷ steps) last (mid, (is, e), leads) few =
        let less : times (is_claim_of i) steps ≤ 1 = omega (arith, few-claims (Action.Claim j (Ok Claim.Waiting)) steps few) in
        grind (basics, once-more, entry r place steps last (subst (λ m. Leads f m steps last) e leads) less)
    entry r place (step ∷ steps) last (mid, follows, leads) few = grind (basics, once-more, bounded, along, few-claims, after-release)

    -- what the automaton accepts, with no identity claimed twice, has each stage at most once after its claim
    pub at-once : (task : Task) (steps : List (Action W)) (last : List Todo) → Leads f (first_todo task) steps last → times (is_claim_of i) steps ≤ 1
        → times (is_later_of k i) steps ≤ 1
    at-once x0 steps last leads few = grind (basics, started, bounded, along, zero-add, entry)

module _ {N B W : Type 0} (m : Seen N B W) (n : ℕ) (g : Ground) (task : Task) (s s' : WorkerState) where
  -- what the answer of a key comes from
  pub answered : (todo : List Todo) (step : Action W) → WorkDoes m n s todo step s' → Walks m.values g s.shelf task todo → (key : ℕ) → answer_after todo step
      ≡ Some (WorkerAnswer.Key key)
      → IsDone m.values s.shelf task key × ((i : Identity) → s'.shelf.slots i ≡ s.shelf.slots i)
  unfolding Waits
  answered (to_item written ks ∷ below) (Action.Store i (Ok k)) (is, p) (of_it, known) key e =
      let to : k ≡ key = cc in let b = p.stored.stores in
      let done = subst (λ t. IsDone m.values s.shelf t key) (sym of_it)
      (ks, all-known s.shelf longest_path written.references ks p.all known, sym to ∙ b.0, all-low s.shelf longest_path written.references ks p.all known) in
      let t = p.goes in search (done, t.table_stays.slots)
  answered x0 x1 x2 x3 key e = grind basics

module _ {N E : Type 0} (v : Values N) (s : MachineState N E) (trees : ℕ → Tree) (fit : WorkFits v s trees) (t : ℕ) where
  abbrev shelf : Shelf
  shelf = s.work.shelves t

  is-key : (task : Task) (key : ℕ) → IsDone v shelf task key → IsKeyOfTask v trees task key
  is-key (of_item written) key (keys, known, is, lows) =
      let each = keys-of (stands-for v (ground_of s trees) shelf (fit.slots t)) written.references keys known in
      let k : KeyOfItem v.hash v.types written.bytes (kids_of trees written.references) key = record { keys = keys; each = each; is = is } in
      (k, λ canonical other o. one_item_key.one v.hash v.types written.bytes (kids_of trees written.references) other key canonical o k)
  is-key (of_entry h i) key (height, p) =
      let k = (stands-for v (ground_of s trees) shelf (fit.slots t) i key height p).right.is_key in
      (k, λ canonical other o. one_key v.hash v.types (trees i.node.0) other key canonical o k)

  met : (task : Task) (key : ℕ) → IsDone v shelf task key → (i : Identity) → Meets shelf task i → (k : ℕ) × ((h : ℕ) × IsPublished shelf i k h)
  met task key done i (meets-of-item written r is among) = let d = subst (λ x. IsDone v shelf x key) is done in let p =
      known-of shelf written.references d.0 d.1 r among in (p.0, p.1)
  met task key done i (meets-entry h j is) = let d = subst (λ x. IsDone v shelf x key) is done in (key, d)
  met task key done i (meets-below j slot references r above there wrote among) =
      let p = met task key done j above in let q = p.1.1 in
      let same : q.slot ≡ slot = same_some _ _ (sym q.claimed ∙ there) in
      let b = (fit.slots t j q.slot q.claimed).publishes p.0 p.1.0 q.known in
      let w : b.0.references ≡ references = same_some _ _ (sym b.1 ∙ ap (λ (z : Slot). z.references) same ∙ wrote) in
      let p = known-of shelf references b.2.keys (subst (λ (z : List ArcRef). AreKeysOf shelf z b.2.keys) w b.2.known) r among in (p.0, p.1)

-- a live cell whose key was set has one
key-known : (w : Core) (n : ℕ) → KeyIsSet w n → is_some (w.cells n) ≡ true → (key : ℕ) × (key_at w n ≡ OptionalDataKey.Some key)
key-known w n set live = elim (key_at w n) as (λ own. has_key own ≡ true → (key : ℕ) × (own ≡ OptionalDataKey.Some key))
    [ OptionalDataKey.Some key ↦ λ is. (key, refl) | OptionalDataKey.None ↦ λ is. absurd (cc) ] (grind (basics, if_there, set.keyed))

-- a cell whose key is published has one by then
set-by-then : {N B W : Type 0} (m : Seen N B W) (n : ℕ) (s s' : WorkerState) (todo : List Todo) (i : Identity) (key height : ℕ)
    → WorkDoes m n s todo (Action.Publish i key height) s' → AllHold s.core n todo
    → ((k : ℕ) → HasHandle s.core n k → is_some (s.core.cells k) ≡ true) → is_loose_kind i.kind.0 ≡ true → (set : ℕ)
    × (key_at s.core i.node.0 ≡ OptionalDataKey.Some set)
set-by-then m n s s' (to_publish r k h ∷ below) i key height does all live kind =
    subst (λ (j : Identity). (set : ℕ) × (key_at s.core j.node.0 ≡ OptionalDataKey.Some set)) (sym does.0)
    (let at = all.0 (subst (λ (j : Identity). is_loose_kind j.kind.0 ≡ true) does.0 kind) in key-known s.core r.node.0 at.0 (live r.node.0 at.1))
set-by-then m n s s' todo i key height does all live kind = absurd does

module _ {N B W E : Type 0} (m : Seen N B W) (s s' : MachineState N E) (trees trees' : ℕ → Tree) (before : WorkFits m.values s trees)
    (after : WorkFits m.values s' trees')
    (earlier : IsMachineWhole m.values s) (whole : IsMachineWhole m.values s')
    (stands : StandsFor m.values s' trees') (held_before : KeysHeld (world_of s)) (held : KeysHeld (world_of s')) where
  module _ (n : WorkerNumber) (reply : WorkerReply W) (w : WorkerSteps m (world_of s) n reply (world_of s')) where
    done : (key : ℕ) → reply.answer ≡ Some (WorkerAnswer.Key key) → IsDone m.values (s'.work.shelves w.walking.table) w.walking.task key
    done key is =
        let a = answered m n.0 (ground_of s trees) w.walking.task (site_of (world_of s) w.walking) w.after w.walking.todo reply.action w.does.does
        (before.walks n.0 w.walking w.at) key (sym w.answers ∙ is) in
        done-on (keys-same (λ i. (w.work.same_shelves w.walking.table).slots i
        ∙ ap (λ (x : Shelf). x.slots i) (updated-at w.walking.table w.after.shelf s.work.shelves) ∙ a.1 i))
        m.values w.walking.task key a.0

    -- the worker as it is afterwards
    is-after : (P : Walking → Type 0) → P (record w.walking { todo = w.after.todo; steps = reply.steps; answer = reply.answer }) → (walking : Walking)
        → s'.work.walkings n.0 ≡ Some walking → P walking
    is-after P p walking there = grind (basics, same_some, updated-at)

  left-all : (t : ℕ) (task : Task) (key : ℕ) → IsDone m.values (s'.work.shelves t) task key → LeavesAll m.values s'.pager (s'.work.shelves t) trees' task
  left-all t task key done = record {
    blobs = λ i meets.
        let (k, rest) = met m.values s' trees' after t task key done i meets in let (height, p) = rest in
        let f = after.slots t i p.slot p.claimed in let b = f.publishes k height p.known in let w = b.2.wrote in
        search (p.claimed, b.1, p, b.2.is_stored, b.2.known, w.is, tree-form w);
    cells = λ i meets kind live.
        let p = met m.values s' trees' after t task key done i meets in let k = key-known s'.pager.core i.node.0 (held.slots t i p.0 p.1.0 p.1.1 kind) live in
        let handles = whole.pager.whole.handles in record { key = k.0; set = k.1; reads = (grind basics) };
  }

  -- each key that is published is its tree's, and a cell had one by then; each that is answered is its task's, and what was met then is left paged out, with
  -- keys of its cells
  pub keys-right : (event : Event N B W) (reply : EventReply N B W) → Happens m (world_of s) event reply (world_of s')
      → PublishIsKey m.values s trees event reply s' trees' × AnswerIsKey m.values s trees event reply s' trees'
      × AnswerLeavesAll m.values s trees event reply s' trees'
  keys-right (Event.WorkerStep n) (EventReply.WorkerMoved (Ok reply)) is =
      let w = is.moves in (
        λ i key height e.
            let does = subst (λ (k : Action W). WorkDoes m n.0 (site_of (world_of s) w.walking) w.walking.todo k w.after) e w.does.does in
            let set = set-by-then m n.0 (site_of (world_of s) w.walking) w.after w.walking.todo i key height does (held_before.walks n.0 w.walking w.at) (λ k h.
            subst (λ k. is_some (s.pager.core.cells k) ≡ true) h.at (cell-of earlier.pager.whole.handles h.row.node.0 (row-held s.pager.core h.h h.row h.live)))
            in (grind basics, set),
        λ walking key there e. is-after n reply w (λ x. IsKeyOfTask m.values trees' x.task key)
            (is-key m.values s' trees' after w.walking.table w.walking.task key (done n reply w key e)) walking there,
        λ walking key there e. is-after n reply w (λ x. LeavesAll m.values s'.pager (s'.work.shelves x.table) trees' x.task)
            (left-all w.walking.table w.walking.task key (done n reply w key e)) walking there,
      )
  keys-right event reply is = (tt, tt, tt)

module _ {N E B W : Type 0} (m : Seen N B W) (n : ℕ) (task : Task) (C : Type 0) where
  went : {todo next : List Todo} {s s' : AccessState N E} {step : Action W} → WalkStep m n todo s step next s' → AllStand s.shelf n task todo
      → Covers s.shelf n todo
      → ShelfGoes n task s.shelf (answer_after todo step) s'.shelf next
  went {todo} {next} {s} {s'} {step} w all covers = subst (λ t. ShelfGoes n task s.shelf (answer_after todo step) s'.shelf t) (sym w.goes_on)
      (goes-same n task s.shelf w.after.shelf s'.shelf _ w.after.todo w.shelf_is.slots
      (stands-on m n task (record { core = s.pager.core; shelf = s.shelf; todo = todo }) w.after todo refl all covers step w.does.does))

  -- What a worker leaves with its answer: of its own claims, and of others'. And what it failed with was met where, if C, what its list fails with was met,
  -- and none of its claims had failed.
  pub at-answer : {todo : List Todo} {s s' : AccessState N E} {steps : List (Action W)} {answer : WorkerAnswer} → WorkerRun m n todo s steps answer s'
      → (past : List (Action W)) → AllStand s.shelf n task todo
      → Covers s.shelf n todo → (C → HasNoFailed s.shelf n × FailsMet n s.shelf past todo)
      → ((i : Identity) (slot : Slot) → s'.shelf.slots i ≡ Some slot → slot.worker ≡ n → is_open_outcome slot.outcome ≡ false)
      × ((i : Identity) (slot : Slot) → s'.shelf.slots i ≡ Some slot → nat_eq slot.worker n ≡ false → s.shelf.slots i ≡ Some slot)
      × (C → IsMetFailure s'.shelf n (past ++ steps) answer)
  at-answer (worker-ends todo next step answer s s' w is) past all covers met =
      let g = went w all covers in let grown = grows n s.shelf s'.shelf g.changes in (
        λ i slot there own.
            grind basics,
        λ i slot there other. grind (basics, some-same),
        λ c. was-answered n s'.shelf (past ++ step ∷ []) todo step answer is
            (fails-stay n s.shelf s'.shelf past _ todo grown (λ x (i, at). among-left past (step ∷ []) i x at) (met c).1),
      )
  at-answer (worker-goes-on todo next step steps answer s mid s' w is more) past all covers met =
      let g = went w all covers in let grown = grows n s.shelf mid.shelf g.changes in
      let site : WorkerState = record { core = s.pager.core; shelf = s.shelf; todo = todo } in
      let on : C → HasNoFailed mid.shelf n × FailsMet n mid.shelf (past ++ step ∷ []) next = λ c.
      let (clean, fails) = met c in
      let already : (i : Identity) → step ≡ Action.Claim i (Ok Claim.AlreadyFailed) → FailedElsewhere mid.shelf n i =
      λ i is. failed-stays n s.shelf mid.shelf i grown (failed-elsewhere m n site w.after todo i
      (subst (λ (x : Action W). WorkDoes m n site todo x w.after) is w.does.does) clean) in
      let follows = follows-met n mid.shelf (past ++ step ∷ []) m.written_of todo step w.after.todo (steps_follow m n site w.after step w.does)
      (among-right past (step ∷ []) 0 step refl) already
      (fails-stay n s.shelf mid.shelf past _ todo grown (λ x (i, at). among-left past (step ∷ []) i x at) fails) in
      (g.unfailed is clean, subst (λ t. FailsMet n mid.shelf (past ++ step ∷ []) t) (sym w.goes_on) follows) in
      let a = at-answer more (past ++ step ∷ []) g.all g.covers on in
      let met : C → IsMetFailure s'.shelf n (past ++ step ∷ steps) answer =
      λ c. subst (λ past. IsMetFailure s'.shelf n past answer) (append_assoc past (step ∷ []) steps) (a.2 c) in
      grind (basics, some-same, a.0, a.1, met)

-- of an item: where each claim of its table had a result, each has one
pub item-answered : {N E B W : Type 0} (m : Seen N B W) (n : ℕ) (item : Written) {s s' : AccessState N E} {steps : List (Action W)} {answer : WorkerAnswer}
    → WorkerRun m n (first_todo (of_item item)) s steps answer s' → AllHaveResults s.shelf → AllHaveResults s'.shelf
item-answered m n item {s} {s'} run all =
    let a = at-answer m n (of_item item) ⊥ run [] (first-stands s.shelf n (of_item item))
    (λ i slot there own still. absurd (let e = all i slot there in grind arith)) (λ c. absurd c) in
    (λ i slot there. elim (cases_Bool (nat_eq slot.worker n)) [
      | inl e ↦ a.0 i slot there (same-number slot.worker n e)
      | inr e ↦ all i slot (a.1 i slot there e)
    ])

-- of an entry, on a table of no claims: nobody had failed before
pub entry-answered : {N E B W : Type 0} (m : Seen N B W) (n : ℕ) (h : HandleNumber) (j : Identity) {s s' : AccessState N E} {steps : List (Action W)}
    {answer : WorkerAnswer}
    → WorkerRun m n (first_todo (of_entry h j)) s steps answer s' → ((i : Identity) → s.shelf.slots i ≡ None) → answer ≡ WorkerAnswer.AlreadyFailed → ⊥
entry-answered {W = W} m n h j {s} {s'} {steps} run none is =
    let a = at-answer m n (of_entry h j) (Unit {0}) run [] (first-stands s.shelf n (of_entry h j)) (λ i slot there own still. some-none there (none i))
    (λ c. (λ i slot there own. some-none there (none i), first-met {W = W} n s.shelf [] (of_entry h j))) in
    let (i, among, failed) = subst (λ x. IsMetFailure s'.shelf n steps x) is (a.2 tt) in
    some-none (a.1 i failed.slot failed.claimed failed.of_another) (none i)
