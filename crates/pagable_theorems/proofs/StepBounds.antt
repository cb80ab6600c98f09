-- What a load of a key hands over is right, and how many steps an open load still needs. An event leaves the handles of other workers as they are, and what the
-- cache gives for a kind and a key, if the node is held before and after. A worker's step leaves the handles of the list too, so the list gets no shorter. Two
-- kinds or keys never get one identity through one cache, and one kind and key gets the same identity as long as its node is held.
use Rattle.pagable_pager_spec.specs.{
  Calls.{ReleaseCall, with_node},
  Events.Ends,
  LoadCalls.{HandOverCall, is_owned_in, numbers_of},
  Loads.{LoadDoes, asks, gone_on, handles_of, need_of, needs_nested, nested_frame, to_adopt, with_got},
  Order.{IsWithinBound, Unfolds, UnfoldsFrom, after_kinds, unfolds},
  Pager.{FrameFits, IsReadingOf, IsWhole, NodeStands, OwnersAreThere, SameTrees, StandsFor},
  Rightness.{LoadsHaveStepsLeft, ReadGives, ReadIsRight, StepIsWithin},
  Runs.{EventDoes, ReadsAsValue},
  WorkerClaims.{GetsReference, IsFilledByReading, LeavesCache, OneIdentityLaw, StaysAlive},
  World.{type_at, usable},
}
use Rattle.pagable_theorems.proofs.{
  CallEffects.{gets-known as was-known, releases},
  Decoding.{asks-by-kinds, decodes, kinds-pushed, kinds_of, read_stands},
  Effects.{Effect, IsHeldFor, IsOther, can-use, list-apart, named, stays-alike, stays-fell},
  EventEffects.{AllWaitWell, ends-spare, event-goes, walk-goes},
  FormsOfTrees.{given-of, owned-once},
  HandlesKept.{Goes, IsShut, KnowsNext, Stands, a-handle, adopts, alike, among-found, fell-anyhow, found-number, goes-quiet, none-found, once, quiet-goes},
  HandlesKept.{quiet-then, same-owner, stands-changed, stands-fell, stands-whole},
  LoadProgress.{Going, asked, eager-nested, first-fits, frames-stay, given-nodes, going-of, row-held, was-open},
  ReadingSteps.{cached-rows, caller-free, got-born, got-fallen, got-known, is-cached, reading-feels, reading-open, reading-stands, readings-on},
  TreeProgress.{adopted-over, root-key},
  Trees.{at-most-sum, counted, one-true, same-number, same_some, self-number},
  Words.{Action, Alike, Among, ArcRef, AreMoments, Blob, Bool, Call, Change, Core, Error, Event, EventReply, Frame, FramesFit, GetsKnown, HandleNumber},
  Words.{HandleRow, HandlesAreWhole, Happens, IsLawful, IsMachineWhole, IsPagerWhole, IsReadableType, IsReference, IsWellAsked, KeepsOpen, Kind, Last, List},
  Words.{LoadAnswer, LoadNumber, MachineState, Moment, NodeNumber, None, Ok, OpenLoad, Option, OptionalDataKey, Owner, PagerStandsFor, PagerState, Reading},
  Words.{ReadingFeels, ReadsRoot, Result, Seen, Some, Tree, Types, Values, WorkerAnswer, WorkerState, World, adopted, and_parts, ap, arith, basics},
  Words.{false, find_row, first_key, held, inl, inr, is_eager, is_handle, is_in, is_owned_by, length, mode_of, moved, next_in, next_node, not, nothing_felt},
  Words.{one, owner_worker, refl, root_frame, rules, slice_get_within, state_after, step_of, subst, suc, sum_by-cons, sym, times, true, type_of, with_handle},
  Words.{world_of, zero, ℕ, [], ◌&&◌, ◌*◌, ◌++◌, ◌+◌, ◌<◌, ◌==◌, ◌∙◌, ◌∷◌, ◌≡◌, ◌≤◌, ◌⊎◌},
}
use Rattle.pagable_theorems.specs.{
  SmallWorlds.LoadsAloneFillCache,
  TreeSteps.{EventFeels, GetsRow, HandsOver, IsFresh, KeepsStored, Knows, Needs, gets-known, gets-lazy, makes-known, makes-node, reading-ends, reads-blob},
  TreeSteps.reads-root,
}
use Rattle.std.proofs.{Common.get_or, lemmas.{List.{Edits.length-remove, Sums.sum_by-remove}, Option.{get_or_from_slice_get, slice_get-get_or}}}
use Rattle.std.specs.List.{remove}
use Rattle.pagable_pager_spec.specs.Workers as workers
pub use Rattle.pagable_theorems.proofs.Effects.{IsEntered, Spares, both-none as neither, entered-of, named-among, spares-then}

-- A load of a key that answers a value hands over the value's references: each was the load's, and is the caller's then.

in-numbers : (rs : List ArcRef) (r : ArcRef) → Among rs r → is_in (numbers_of (handles_of rs)) r.handle.0 ≡ true
unfolding is_in
in-numbers (x ∷ rs) r (suc i, is) = grind (basics, in-numbers rs r)
in-numbers x0 r x2 = grind (basics, self-number)

pub hands : {w w' : Core} (l : LoadNumber) (references : List ArcRef) → HandlesAreWhole w → HandOverCall w Owner.Caller l (handles_of references) (Ok tt) w'
    → HandsOver w l references w'
hands {w} {w'} l references whole c r among =
    let hs = handles_of references in let numbered = in-numbers references r among in
    let n = named w (Owner.Load l) [] hs (grind (basics, neither)) r.handle numbered in
    let stood = stands-changed (λ (row : HandleRow). is_in (numbers_of hs) row.number.0) (λ row. record row { owner = Owner.Caller }) (λ h. refl)
    (stands-whole whole r.handle.0 n.row n.live) in
    let moves : is_in (numbers_of hs) n.row.number.0 ≡ true = ap (is_in (numbers_of hs)) (found-number r.handle.0 w.rows n.row n.live) ∙ numbered in
    let now : Stands w.last.handle (moved (is_in (numbers_of hs)) Owner.Caller w.rows) r.handle.0 (record n.row { owner = Owner.Caller }) = rw moves at stood in
    let stays : (is_owned_in w (Owner.Load l) r.handle.0 && not (is_in (numbers_of hs) r.handle.0)) ≡ false = grind basics in
    let after = stands-fell c.hands.1.falls (λ n e. cc) stays now in (n.row, n.live, n.own, after.live)

-- A value that a load of a key answers stands for the tree that the key reads as, and the caller has its references.

-- the tree of each node that was got is of its kind's type
pub got-typed : {types : Types} {stored : ℕ → Option Blob} {trees : ℕ → Tree} (frame : Frame) → FrameFits types stored trees frame → (r : ArcRef)
    → Among frame.got r
    → (trees r.node.0).type ≡ type_of r.kind.0
got-typed frame fits r (place, is) =
    let few = slice_get_within frame.got place r is in let most = fits.few in
    (fits.got place _ r is (slice_get-get_or frame.blob.keys place 0 (omega arith))).typed

module _ {N E : Type 0} {v : Values N} (lawful : IsLawful v) (s s' : PagerState N E) (trees trees' : ℕ → Tree) (same : SameTrees s.core.last.node trees trees')
    (stored : KeepsStored s.core.stored s'.core.stored) (whole' : IsPagerWhole v s') (stands' : PagerStandsFor v s' trees') where
  -- what a load of a key answers is right, and the caller has its references
  pub read-right : (reading : Reading) → ((frame : Frame) → Among reading.frames frame → IsReadableType v.types frame.node_type) → Going v s trees reading
      → (load : OpenLoad) → s.core.loads reading.load.0 ≡ Some load → (x : N) → ReadsRoot v reading x
      → HandsOver s.core reading.load (v.references x) s'.core → ReadIsRight v s' load.key x
  read-right reading types g load open_load x root hands =
      let front : Among reading.frames root.root = subst (λ fs. Among fs root.root) (sym root.frames) (zero, refl) in let readable = types root.root front in
      let after = frames-stay v.types load.key reading.node_type s.core.stored s'.core.stored trees trees' s.core.last.node reading.frames stored same
      (given-nodes reading.frames g.held) (g.fits load open_load) in
      let here = subst (λ fs. FramesFit v.types s'.core.stored trees' load.key reading.node_type fs) root.frames after in
      let fits = first-fits v.types load.key reading.node_type s'.core.stored trees' root.root [] here in
      let owned : (r : ArcRef) → Among (v.references x) r → IsReference s'.core Owner.Caller r = λ r among.
      let got = (decodes lawful root.root x readable fits root.decoded).got r among in
      let moved = hands r among in let row : HandleRow = moved.0 in let there = g.held root.root r front got in
      let stood = there.is row moved.1 moved.2 in
      let live = row-held s'.core r.handle (record row { owner = Owner.Caller }) moved.3 in
      let typed : type_at s'.core r.node.0 ≡ Some (trees' r.node.0).type =
      stands'.typed r.node.0 (subst (λ (n : NodeNumber). 0 < held n.0 s'.core.rows) stood.0 live) in
      let of_kind : type_at s'.core r.node.0 ≡ Some (type_of r.kind.0) = typed ∙ ap (λ (t : ℕ). Some t) (got-typed root.root fits r got) in
      record { row = record row { owner = Owner.Caller }; live = moved.3; at = stood.0; owned = refl; fits = stood.1; typed = of_kind } in
      let nodes_stand : (r : ArcRef) → Among (v.references x) r → NodeStands v s' r.node.0 (trees' r.node.0) =
      λ r among. stands'.stands r.node.0 (given-of whole'.whole.handles r.node.0 (owned r among).typed).0 in
      let under = root-key v.types s'.core.stored trees' load.key reading.node_type root.root here in record {
        stands = subst (λ n. ReadsAsValue v s' x n) under (read_stands lawful s' trees' root.root x readable fits root.decoded nodes_stand);
        own = owned;
      }

module _ {N E B W : Type 0} (m : Seen N B W) (lawful : IsLawful m.values) (s s' : MachineState N E) (trees trees' : ℕ → Tree)
    (whole : IsMachineWhole m.values s) (whole' : IsMachineWhole m.values s')
    (readings : (reading : Reading) → IsReadingOf s.work reading → Going m.values s.pager trees reading)
    (same : SameTrees s.pager.core.last.node trees trees') (stands' : StandsFor m.values s' trees') where
  pub reads-give : (event : Event N B W) (reply : EventReply N B W) → EventDoes m s event reply s' → IsWellAsked m.values s trees event reply
      → ReadGives m.values s trees event reply s' trees'
  reads-give (Event.LoadStep l) (EventReply.LoadMoved (Ok reply)) does asked = λ load x open_load ended.
      let h = does.step.happens.moves in
      let read = (subst (λ (a : Option (LoadAnswer N)). LoadDoes m.values s.pager.core Owner.Caller h.reading a h.frames s'.pager.core) ended h.does.does).0 in
      let stored = (reading-feels m s.pager.core Owner.Caller caller-free s'.pager.core h.reading reply.ended h.frames h.does).does.goes.stored in
      let going = going-of s trees readings h.reading (reading-stands (world_of s) whole.pager.whole l h.reading h.at) in
      read-right lawful s.pager s'.pager trees trees' same stored whole'.pager stands'.pager h.reading (asked h.reading h.at).types going load
      (reading-open s whole l h.reading h.at open_load) x read.reads_root
      (hands h.reading.load (m.values.references x) whole.pager.whole.handles read.handed)
  reads-give event reply does asked = tt

-- How many steps an open load still needs: at most two for each reference that its blobs still take, with all that it leads to, and one for each of its blobs.

root-unfolds : {types : Types} {store : ℕ → Option Blob} {t key many longest : ℕ} → Unfolds types store t key many longest → (blob : Blob) → store key
    ≡ Some blob
    → UnfoldsFrom types store t blob [] many longest
root-unfolds {types} {store} (unfolds t key many longest other there from) blob is =
    subst (λ b. UnfoldsFrom types store t b [] many longest) (same_some _ _ (sym there ∙ is)) from

-- it takes a reference of this kind under this key, and then the rest
takes : {types : Types} {store : ℕ → Option Blob} {t many longest : ℕ} {blob : Blob} {kinds : List ℕ} → UnfoldsFrom types store t blob kinds many longest
    → (kind : Kind) (key : ℕ)
    → after_kinds types t blob kinds ≡ asks kind key → (rest deepest : ℕ) × UnfoldsFrom types store t blob (kinds ++ kind.0 ∷ []) rest deepest
    × (rest + 1 ≤ many)
    × (is_eager kind.0 ≡ true → (below deep : ℕ) × Unfolds types store (type_of kind.0) key below deep × (many ≡ 1 + below + rest))
takes x0 kind key asked_is = grind basics

-- a blob of which references of these kinds were got, and what waits below it
pub record Owing (types : Types) (store : ℕ → Option Blob) (frame : Frame) (kinds : List ℕ) (Below : ℕ → Type 0) (owed : ℕ) : Type 0 where
  many : ℕ
  longest : ℕ
  more : ℕ
  from : UnfoldsFrom types store frame.node_type frame.blob kinds many longest
  below : Below more
  sum : owed ≡ 2 * many + 1 + more

-- blobs that wait for a reference of this kind, which is being read
abbrev pub Waits : Types → (ℕ → Option Blob) → Kind → List Frame → ℕ → Type 0
Waits types store kind [] owed = owed ≡ 0
Waits types store kind (frame ∷ below) owed = Owing types store frame (kinds_of frame.got ++ kind.0 ∷ []) (λ more. Waits types store frame.kind below more) owed

-- all of them; and where none is open yet, a root that takes so many references
abbrev pub Owes : Types → (ℕ → Option Blob) → ℕ → List Frame → ℕ → Type 0
Owes types store many [] owed = owed ≡ 2 * many + 2
Owes types store many (frame ∷ below) owed = Owing types store frame (kinds_of frame.got) (λ more. Waits types store frame.kind below more) owed

owes-some : (types : Types) (store : ℕ → Option Blob) (many : ℕ) (frames : List Frame) (owed : ℕ) → Owes types store many frames owed → 1 ≤ owed
owes-some types store many x3 owed x5 = grind basics

-- it needs less afterwards
pub record OwesLess (types : Types) (store : ℕ → Option Blob) (many : ℕ) (frames : List Frame) (owed : ℕ) : Type 0 where
  pub now : ℕ
  pub owes : Owes types store many frames now
  pub less : now + 1 ≤ owed

module _ (types : Types) (store : ℕ → Option Blob) (many : ℕ) where
  owes-root : (t key longest owed : ℕ) (blob : Blob) → Unfolds types store t key many longest → store key ≡ Some blob → Owes types store many [] owed
      → OwesLess types store many (root_frame key t blob ∷ []) owed
  owes-root t key longest owed blob under is o = record {
    now = 2 * many + 1 + 0;
    owes = record { many = many; longest = longest; more = 0; from = root-unfolds under blob is; below = refl; sum = refl };
    less = omega arith;
  }

  owes-blob : (frames : List Frame) (kind : Kind) (key owed : ℕ) (blob : Blob) → need_of types frames ≡ needs_nested kind key → store key ≡ Some blob
      → Owes types store many frames owed
      → OwesLess types store many (nested_frame kind key blob ∷ frames) owed
  owes-blob [] kind key owed blob needs is o = absurd (cc)
  owes-blob (top ∷ below) kind key owed blob needs is o =
      let t = takes o.from kind key (asks-by-kinds types top.node_type top.blob top.got kind key (asked below (next_in types top) kind key (inl needs))) in
      let a = t.4 (eager-nested below (next_in types top) kind key needs) in
      let under : Waits types store kind (top ∷ below) (2 * t.0 + 1 + o.more) =
      record { many = t.0; longest = t.1; more = o.more; from = t.2; below = o.below; sum = refl } in
      let s = o.sum in let e = a.3 in
      record {
        now = 2 * a.0 + 1 + (2 * t.0 + 1 + o.more);
        owes = record {
          many = a.0;
          longest = a.1;
          more = 2 * t.0 + 1 + o.more;
          from = root-unfolds a.2 blob is;
          below = under;
          sum = refl;
        };
        less = omega arith;
      }

  owes-got : (frames : List Frame) (kind : Kind) (key owed : ℕ) (row : HandleRow) → Needs types frames kind key → Owes types store many frames owed
      → OwesLess types store many (with_got kind row frames) owed
  owes-got [] kind key owed row needs o = grind basics
  owes-got (top ∷ below) kind key owed row needs o =
      let t = takes o.from kind key (asks-by-kinds types top.node_type top.blob top.got kind key (asked below (next_in types top) kind key needs)) in
      let s = o.sum in let f = t.3 in
      let after = subst (λ ks. UnfoldsFrom types store top.node_type top.blob ks t.0 t.1)
      (sym (kinds-pushed top.got (record { kind = kind; node = row.node; handle = row.number }))) t.2 in
      record {
        now = 2 * t.0 + 1 + o.more;
        owes = record { many = t.0; longest = t.1; more = o.more; from = after; below = o.below; sum = refl };
        less = omega arith;
      }

  owes-made : (top : Frame) (below : List Frame) (owed : ℕ) (row : HandleRow) → need_of types (top ∷ below) ≡ to_adopt
      → Owes types store many (top ∷ below) owed
      → OwesLess types store many (with_got top.kind row below) owed
  owes-made top x1 owed row needs o = grind (basics, adopted-over, kinds-pushed)

-- a load's step, where what was stored is still
module _ {N : Type 0} {v : Values N} {w w' : Core} (store : ℕ → Option Blob) (kept : KeepsStored w.stored store) (reading : Reading) (load : OpenLoad)
    (frames : List Frame) (many longest owed : ℕ)
    (open_load : w.loads reading.load.0 ≡ Some load) (under : Unfolds v.types store reading.node_type load.key many longest)
    (o : Owes v.types store many reading.frames owed) where
  owes-less : {c : Change} → ReadingFeels v w reading None frames w' c → OwesLess v.types store many frames owed
  owes-less (reads-root l blob none_read at stored answer is) = search (rules, reads-root, owes-root)
  owes-less (reads-blob kind key blob needs stored answer is) = grind (basics, owes-blob)
  owes-less (gets-known kind key n row needs known got answer is) = subst (λ fs. OwesLess v.types store many fs owed) (sym is)
      (owes-got v.types store many reading.frames kind key owed row needs o)
  owes-less (gets-lazy kind key row needs got answer is) = subst (λ fs. OwesLess v.types store many fs owed) (sym is)
      (owes-got v.types store many reading.frames kind key owed row (inr needs) o)
  owes-less (makes-known x r n row known got answer is) = search (rules, makes-known, owes-made)
  owes-less (makes-node x r row got answer is) = search (rules, makes-node, owes-made)
  owes-less (reading-ends end answer is) = absurd (cc)

-- Each step of a load of the caller's is within its bound, and one that is open has a step left, along every chain.

-- its steps so far, with those that it still needs, are within the bound, whatever is stored yet
abbrev pub Bounded : Types → (ℕ → Option Blob) → ℕ → Reading → Type 0
Bounded types store key reading = (more : ℕ → Option Blob) → KeepsStored store more → (many longest : ℕ) → Unfolds types more reading.node_type key many longest
    → (owed : ℕ) × Owes types more many reading.frames owed × (reading.steps + owed ≤ 2 * many + 2)

bounded-step : {N : Type 0} {v : Values N} {w w' : Core} {c : Change} (reading : Reading) (load : OpenLoad) (frames : List Frame) → w.loads reading.load.0
    ≡ Some load
    → Bounded v.types w.stored load.key reading → ReadingFeels v w reading None frames w' c → Bounded v.types w.stored load.key (gone_on reading frames)
bounded-step reading load frames open_load b feels more kept many longest under = search (rules, owes-less)

nothing-unfolds : {types : Types} {store : ℕ → Option Blob} {t key many longest : ℕ} → ((q : ℕ) → store q ≡ None) → Unfolds types store t key many longest → ⊥
nothing-unfolds none (unfolds t key many longest blob there from) = absurd (cc (none key))

-- each load, of the caller's or of a worker's, was given its number and is bounded
abbrev IsBounded : Types → World → Reading → Type 0
IsBounded types u reading = (reading.load.0 ≤ u.core.last.load) × ((load : OpenLoad) → u.core.loads reading.load.0 ≡ Some load
    → Bounded types u.core.stored load.key reading)

fresh-bounded : (types : Types) (u : World) (reading : Reading) → IsFresh u.core reading → IsBounded types u reading
fresh-bounded types u reading new = (
  new.2,
  λ load o more k many longest d.
      (2 * many + 2, subst (λ fs. Owes types more many fs (2 * many + 2)) (sym new.0) refl, omega arith),
)

abbrev AllBounded : Types → World → Type 0
AllBounded types u = (reading : Reading) → IsReadingOf u.work reading → IsBounded types u reading

-- so it is, or nothing is stored any more
abbrev pub LoadsStand : Types → World → Type 0
LoadsStand types u = IsShut u.core ⊎ AllBounded types u

module _ {N E B W : Type 0} (m : Seen N B W) (s s' : MachineState N E) (whole : IsMachineWhole m.values s) where
  bounded-of : AllBounded m.values.types (world_of s) → (reading : Reading) → IsReadingOf s.work reading ⊎ IsFresh s.pager.core reading
      → IsBounded m.values.types (world_of s) reading
  bounded-of all reading (inl there) = all reading there
  bounded-of all reading (inr new) = fresh-bounded m.values.types (world_of s) reading new

  kept-bounded : {c : Change} → Goes c s.pager.core s'.pager.core → (reading : Reading) → IsBounded m.values.types (world_of s) reading
      → IsBounded m.values.types (world_of s') reading
  kept-bounded goes reading b = grind (basics, was-open)

  all-on : {event : Event N B W} {reply : EventReply N B W} {c : Change} → Goes c s.pager.core s'.pager.core → AllBounded m.values.types (world_of s)
      → EventFeels m.values (world_of s) event reply (world_of s') c → AllBounded m.values.types (world_of s')
  all-on goes all = readings-on (λ r. IsBounded m.values.types (world_of s') r) (λ r is. kept-bounded goes r (all r is))
      (fresh-bounded m.values.types (world_of s'))
      (λ r frames load stands at feels. let before = bounded-of all r stands in
      kept-bounded goes (gone_on r frames) (before.0, λ load was. bounded-step r load frames was (before.1 load was) feels))

  pub event-on : (event : Event N B W) (reply : EventReply N B W) → Happens m (world_of s) event reply (world_of s') → AllWaitWell (world_of s)
      → LoadsStand m.values.types (world_of s)
      → LoadsStand m.values.types (world_of s')
  event-on event reply h waits stands = let cases : KeepsOpen event ⊎ (event ≡ Event.Call Call.Close) = grind basics in elim cases [
    | inr closes ↦ inl (grind basics)
    | inl keeps ↦
        let g = event-goes m (world_of s) (world_of s') event reply keeps h in
        elim stands [ inl shut ↦ inl (g.goes.shut shut) | inr all ↦ inr (all-on g.goes all (g.feels whole.pager.whole waits)) ]
  ]

  pub step-within : LoadsStand m.values.types (world_of s) → (event : Event N B W) (reply : EventReply N B W) → Happens m (world_of s) event reply (world_of s')
      → StepIsWithin m.values s event reply
  step-within (inl shut) (Event.LoadStep l) (EventReply.LoadMoved (Ok reply)) h =
      λ reading load at open_load many longest under. absurd (nothing-unfolds shut.1 under)
  -- a load that makes a step was bounded, and is where it goes on
  step-within (inr all) (Event.LoadStep l) (EventReply.LoadMoved (Ok reply)) h = λ reading load at open_load.
      let x = h.moves in let is_open = reading-open s whole l x.reading x.at open_load in
      let was : Bounded m.values.types s.pager.core.stored load.key x.reading =
      (bounded-of all x.reading (reading-stands (world_of s) whole.pager.whole l x.reading x.at)).1 load is_open in
      let f = reading-feels m s.pager.core Owner.Caller caller-free s'.pager.core x.reading reply.ended x.frames x.does in
      let after : reply.ended ≡ None → Bounded m.values.types s.pager.core.stored load.key (gone_on x.reading x.frames) =
      λ none. bounded-step x.reading load x.frames is_open was
      (subst (λ a. ReadingFeels m.values s.pager.core x.reading a x.frames s'.pager.core f.change) none (f.feels whole.pager.whole.handles)) in
      let within : IsWithinBound m.values.types s.pager.core.stored x.reading.node_type load.key reply = let counts =
      x.counts in λ many longest under. search (rules, owes-some) in
      subst (λ (r : Reading). IsWithinBound m.values.types s.pager.core.stored r.node_type load.key reply) (same_some _ _ (sym x.at ∙ at)) within
  step-within stands event reply h = tt

pub steps-left : {N E : Type 0} (v : Values N) (s : MachineState N E) → LoadsStand v.types (world_of s) → LoadsHaveStepsLeft v (world_of s)
steps-left v s (inl shut) reading load is is_open = λ many longest under. absurd (nothing-unfolds shut.1 under)
steps-left v s (inr all) reading load is is_open = let b = (all reading is).1 load is_open in λ many longest under. search (rules, owes-some)

pub event-spares : {N B W : Type 0} (m : Seen N B W) (v : ℕ) (u u' : World) → OwnersAreThere u.core → (event : Event N B W) (reply : EventReply N B W)
    → step_of v event reply ≡ [] → KeepsOpen event
    → Happens m u event reply u' → Spares (owner_worker v) u.core u'.core
event-spares m v u u' there event reply others still h = (event-goes m u u' event reply still h).spares v there others

keeps-open : {N B W : Type 0} (event : Event N B W) → LeavesCache event → KeepsOpen event
keeps-open x0 leaves = grind basics

-- the list isn't who steps, and no entry of it is taken
listed : {me : Owner} (w : Core) → (me ≡ Owner.List → ⊥) → IsOther me false w Owner.List
listed w other = record { apart = list-apart; other = other; listing_error = λ yes. absurd (cc) }

-- a worker's step leaves the handles of the list
pub walk-spares-list : {N B W : Type 0} (m : Seen N B W) (u : ℕ) (s s' : WorkerState) (w' : Core) (step : Action W) (answer : Option WorkerAnswer)
    → workers.WalkDoes m u s step s' → Ends answer u s'.core w'
    → Spares Owner.List s.core w'
walk-spares-list m u s s' w' step answer does ends =
    ends-spare Owner.List list-apart u (λ is. absurd (cc)) answer ends ((walk-goes m u s s' s.todo step does.does).does.spares Owner.List
    (listed s.core (λ is. absurd (cc))))

pub release-spares-list : {w w' : Core} {h : HandleNumber} (r : Result (Unit {0}) Error) → ReleaseCall w Owner.Caller h r w' → Spares Owner.List w w'
release-spares-list {w} {w'} {h} r c = let e : Effect Owner.Caller false (Unit {0}) (Unit {0}) false nothing_felt w w' =
    releases h r c in e.spares Owner.List (listed w (λ is. absurd (cc)))

-- A list of whose handles none goes gets no shorter.

abbrev has : ℕ → HandleNumber → Bool
has q h = h.0 == q

-- what has each number as often is as long
fewer : (xs ys : List HandleNumber) → ((q : ℕ) → times (has q) xs ≤ times (has q) ys) → length xs ≤ length ys
fewer [] ys le = omega arith
fewer (x ∷ xs) ys le =
    let y = counted (λ h. one (has x.0 h)) ys (grind (basics, self-number, le x.0, sum_by-cons (λ h. one (has x.0 h)) x xs)) in
    let lt = slice_get_within ys y.1.0 y.0 y.1.1 in
    let same : (get_or ys y.1.0 y.0).0 ≡ x.0 = ap (λ (h : HandleNumber). h.0) (get_or_from_slice_get ys y.1.0 y.0 y.0 y.1.1)
    ∙ same-number _ _ (one-true _ y.2) in
    let rest = fewer xs (remove ys y.1.0)
    (λ q. grind (basics, le q, sum_by-cons (λ h. one (has q h)) x xs, sum_by-remove (λ h. one (has q h)) ys y.1.0 y.0 lt)) in
    omega (arith, length-remove ys y.1.0 lt)

pub found : {w : Core} → HandlesAreWhole w → (q : ℕ) (x : HandleRow) → Among w.rows x → x.number.0 ≡ q → find_row q w.rows ≡ Some x
found {w} whole q x among is = by (find_row q w.rows) refl
  where
    by : (f : Option HandleRow) → find_row q w.rows ≡ f → find_row q w.rows ≡ Some x
    by None e = absurd (none-found q w.rows x e among is)
    by (Some r) e = e ∙ ap (λ (y : HandleRow). Some y) (once w.rows whole.ordered r x (among-found q w.rows r e) among (found-number q w.rows r e ∙ sym is))

pub none-shorter : {w w' : Core} → IsWhole w → IsWhole w' → Spares Owner.List w w' → length w.list ≤ length w'.list
none-shorter {w} {w'} whole whole' spares = fewer w.list w'.list (λ q. each q (times (own q) w.rows) refl)
  where
    own : ℕ → HandleRow → Bool
    own q h = is_handle q h && is_owned_by Owner.List h

    each : (q n : ℕ) → times (own q) w.rows ≡ n → times (has q) w.list ≤ times (has q) w'.list
    each q zero e = omega (arith, whole.owners_there.listed q)
    each q (suc n) e =
        let x = counted (λ h. one (own q h)) w.rows (omega arith) in
        let both = and_parts (is_handle q x.0) (is_owned_by Owner.List x.0) (one-true _ x.2) in
        let s = spares.each q x.0 (same-owner Owner.List x.0.owner both.1)
        (stands-whole whole.handles q x.0 (found whole.handles q x.0 x.1 (same-number _ _ both.0))) in
        let there = at-most-sum (λ h. one (own q h)) w'.rows x.0 (among-found q w'.rows x.0 s.live) in
        let a = whole.owners_there.listed q in let b = whole'.owners_there.listed q in let c = x.2 in
        omega (arith, there, owned-once whole.handles Owner.List q, a, b, c)

-- a reference that is got is of the node that the cache gives, and has as long as the node is held; or of the next one where it gives none
data Got (w : Core) (kind : Kind) (key n : ℕ) (w' : Core) : Type 0 where
  got-old : usable w kind.0 key ≡ Some n → Goes nothing_felt w w' → (IsHeldFor kind.0 key n w'.rows → IsEntered kind.0 key n w'.cache w'.cells)
      → Got w kind key n w'
  got-new : usable w kind.0 key ≡ None → n ≡ w.last.node + 1 → (l : LoadNumber) (own : OptionalDataKey) (references : List ArcRef)
      → Alike (adopted w l kind key own references) w'
      → Got w kind key n w'

held-by : {w w' : Core} {n : ℕ} {row : _} (kind : Kind) (key : ℕ) → GetsRow w w' kind n row → IsHeldFor kind.0 key n w'.rows
held-by {w' = w'} {row = row} kind key g = record {
  row = row;
  live = among-found row.number.0 w'.rows row g.live;
  at = g.at;
  pins_it = λ is. grind basics;
}

record Gotten (w : Core) (kind : Kind) (key n : ℕ) (w' : Core) : Type 0 where
  held : IsHeldFor kind.0 key n w'.rows
  from : Got w kind key n w'

module _ {w w' : Core} (whole : IsWhole w) (kind : Kind) (key n : ℕ) (g : GetsReference w kind key n w') where
  old : (m : ℕ) → usable w kind.0 key ≡ Some m → GetsRow w w' kind m g.row → Goes nothing_felt w w'
      → (IsEntered kind.0 key m w.cache w.cells → IsHeldFor kind.0 key m w'.rows → IsEntered kind.0 key m w'.cache w'.cells) → Gotten w kind key n w'
  old m is gets q enters = subst (λ x. Gotten w kind key x w') (sym gets.at ∙ g.at)
      (record { held = held-by kind key gets; from = got-old is q (enters (entered-of kind.0 key m w is)) })

  known : GetsKnown w g.l kind key g.k w' → Gotten w kind key n w'
  known c = old c.n c.known (got-known whole.handles kind g.k g.row g.made c.next.above c.n (Owner.Load g.l) c.leaves)
      (was-known {me = Owner.Caller} {lists = false} {Asks = Unit {0}} {Leaves = Unit {0}} c).goes (λ e h. stays-alike kind.0 key c.n c.leaves e h)

  new : (own : OptionalDataKey) (references : List ArcRef) → g.k.0 ≡ w.last.handle + 1 → usable w kind.0 key ≡ None
      → Alike (adopted w g.l kind key own references) w' → Gotten w kind key n w'
  new own references above none a =
      let gets = got-born whole.handles kind g.k g.row g.made above g.l key own references a in
      let next = sym gets.at ∙ g.at in
      record { held = subst (λ x. IsHeldFor kind.0 key x w'.rows) next (held-by kind key gets); from = got-new none (sym next) g.l own references a }

  got : Gotten w kind key n w'
  got = elim g.gets [
    | inl asked ↦ known asked.gives.2
    | inr (inl lazy) ↦ elim lazy.makes.3 [ inl c ↦ known c | inr (none, few, next, a) ↦ new (OptionalDataKey.Some key) [] next.above none a ]
    | inr (inr (t, references, c)) ↦ elim c.makes [
      | inl (m, is, f) ↦
          let gets = got-fallen whole.handles kind g.k g.row g.made c.next.above m (Owner.Load g.l) f in
          old m is gets (quiet-goes nothing_felt (quiet-then (a-handle w _ _ (Owner.Load g.l)) (fell-anyhow f))) (λ e h. stays-fell kind.0 key m f.falls e h)
      | inr (none, few, a) ↦ new (first_key kind.0 key) references c.next.above none a
    ]
  ]

-- the node was given, and each entry of the cache that names it is of this kind and key
record IsKnownOnce (kind key n : ℕ) (w : Core) : Type 0 where
  given : n ≤ w.last.node
  only : (k q : ℕ) → w.cache k q ≡ Some n → (k ≡ kind) × (q ≡ key)

once-goes : (kind key n : ℕ) {c : Change} {w w' : Core} → Goes c w w' → KnowsNext c w → IsKnownOnce kind key n w → IsKnownOnce kind key n w'
once-goes kind key n {w = w} g next once = let few = once.given in record {
  given = omega (arith, few, g.nodes);
  only = λ k q is. grind (arith, g.cache k q n is, once.only k q, next k q n, few);
}

once-got : {w w' : Core} (kind : Kind) (key n : ℕ) → IsWhole w → IsFilledByReading w → Got w kind key n w' → IsKnownOnce kind.0 key n w'
once-got {w} kind key n whole filled (got-old is q enters) = grind (arith, is-cached, once-goes, known)
once-got {w} {w'} kind key n whole filled (got-new none next l own references a) =
    let g = goes-quiet (adopts w l kind key own references) (alike a) in
    let made = with_handle (with_node w (type_of kind.0) own references) (next_node w) (mode_of kind.0) (Owner.Load l) in
    let last = ap (λ (x : Last). x.node) (a.last ∙ (cached-rows made kind key (next_node w)).1) in
    record { given = omega arith; only = λ k q is. grind (arith, g.cache k q n is, whole.cache k q n, next) }

module _ {N B W E : Type 0} (m : Seen N B W) (kind : Kind) (key n : ℕ) where
  along : (s : MachineState N E) (xs : List (Moment N E B W)) → IsMachineWhole m.values s → AreMoments m s xs
      → ((x : Moment N E B W) → Among xs x → LeavesCache x.event)
      → IsKnownOnce kind.0 key n s.pager.core → IsMachineWhole m.values (state_after s xs) × IsKnownOnce kind.0 key n (state_after s xs).pager.core
      × (StaysAlive kind n xs → IsEntered kind.0 key n s.pager.core.cache s.pager.core.cells → IsHeldFor kind.0 key n s.pager.core.rows
      → usable (state_after s xs).pager.core kind.0 key ≡ Some n)
  unfolding state_after
  along s [] whole chain leaves once = (whole, once, λ alive e h. can-use kind.0 key n s.pager.core e h)
  along s (x ∷ xs) whole (does, more) leaves once =
      let kept = leaves x (zero, refl) in
      let g = event-goes m (world_of s) (world_of x.after) x.event x.reply (keeps-open x.event kept) does.step.happens in
      let (whole', once', used) = along x.after xs does.whole more (λ y (i, is). leaves y (suc i, is))
      (once-goes kind.0 key n g.goes (g.knows whole.pager.whole kept) once) in (
        whole',
        once',
        λ (a, alive) e h.
            let h' : IsHeldFor kind.0 key n x.after.pager.core.rows = record {
              row = a.row;
              live = a.live;
              at = a.at;
              pins_it = λ is. grind basics;
            } in
            used alive ((g.lasts kept kind.0 key n).lasts e h h') h',
      )

known-twice : (c : Change) (w : Core) (kind key k q n : ℕ) → Knows c w kind key n → Knows c w k q n → (k ≡ kind) × (q ≡ key)
known-twice x0 w kind key k q n a b = grind basics

filled-goes : {c : Change} {w w' : Core} → IsWhole w → Goes c w w' → KnowsNext c w → IsFilledByReading w → IsFilledByReading w'
filled-goes {c} {w} whole g next filled kind key k q n a b =
    let old : (kind key : ℕ) → w.cache kind key ≡ Some n → (k q : ℕ) → Knows c w k q n → ⊥ =
    λ kind key was k q new. omega (arith, (whole.cache kind key n was).given, next k q n new) in
    elim (g.cache kind key n a) [
      | inl was ↦ elim (g.cache k q n b) [ inl too ↦ filled kind key k q n was too | inr new ↦ absurd (old kind key was k q new) ]
      | inr new ↦ elim (g.cache k q n b) [ inl was ↦ absurd (old k q was kind key new) | inr too ↦ known-twice c w kind key k q n new too ]
    ]

filled-along : {N E B W : Type 0} (m : Seen N B W) (s : MachineState N E) (xs : List (Moment N E B W)) → IsMachineWhole m.values s → AreMoments m s xs
    → ((x : Moment N E B W) → Among xs x → LeavesCache x.event)
    → IsFilledByReading s.pager.core → IsFilledByReading (state_after s xs).pager.core
unfolding state_after
filled-along m s [] whole chain leaves filled = filled
filled-along m s (x ∷ xs) whole (does, more) leaves filled =
    let kept = leaves x (zero, refl) in
    let g = event-goes m (world_of s) (world_of x.after) x.event x.reply (keeps-open x.event kept) does.step.happens in
    filled-along m x.after xs does.whole more (λ y (i, is). leaves y (suc i, is)) (filled-goes whole.pager.whole g.goes (g.knows whole.pager.whole kept) filled)

pub loads_alone_fill_cache : {N B W : Type 0} (E : Type 0) (m : Seen N B W) → LoadsAloneFillCache E m
loads_alone_fill_cache E m = record { new = λ s new kind key k q n a b. absurd (cc (new.cache kind key)); stays = filled-along m }

same : {u last : Core} (kind other_kind : Kind) (key other_key n other_n : ℕ) → Got u other_kind other_key other_n last
    → (IsKnownOnce kind.0 key n u → other_n ≡ n → other_key ≡ key) × (usable u kind.0 key ≡ Some n → other_kind ≡ kind → other_key ≡ key → other_n ≡ n)
same {u} {last} kind other_kind key other_key n other_n got = grind (basics, is-cached)

pub one_identity_law : {N B W : Type 0} (E : Type 0) (m : Seen N B W) → OneIdentityLaw E m
one_identity_law E m w first between last kind other_kind key other_key n other_n whole filled opened gets whole' chain leaves gets' =
    let a = got whole kind key n gets in
    let s = along m kind key n first between whole' chain leaves (once-got kind key n whole filled a.from) in
    let b = got s.0.pager.whole other_kind other_key other_n gets' in
    let (differs, equals) = same kind other_kind key other_key n other_n b.from in
    record {
      differ = λ same_kind. differs s.1;
      same = λ same_kind same_key alive. equals
          (s.2 alive (grind (basics, stays-alike, self-number)) a.held) same_kind same_key;
    }
