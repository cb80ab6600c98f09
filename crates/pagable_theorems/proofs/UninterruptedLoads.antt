-- If no load is interrupted, a load whose key a page-out has published fails only by chance: while the load makes its steps, what it has got stays live and its
-- own, each handle once, and so does the handle that began it.
use Rattle.pagable_pager_spec.specs.{
  Calls.{Asked, row_of, with_node},
  Events.{LoadSteps, ReadingsAre, reading_at},
  LoadCalls.BeginCall,
  Loads.{GoesOn, IsDecoded, LoadDoes, MakesNode, gone_on, handles_of, with_got},
  Refusals.named_fault,
  Runs.TakesWell,
  WorkerClaims.{IsLoadOfPagedOut, IsOfChance, LoadIsSound, StandTogether, of_load, turn_of},
  declared.events.LoadReply.LoadReply,
}
use Rattle.pagable_theorems.proofs.{
  Chains.{IsGoingOn, along-with, idle-goes},
  Decoding.{AreApart, decodes, fine, reads-once},
  Effects.{moved-free, named-among, with-one},
  HandlesKept.{Has, NotValues, Stands, found-number, good, has-alike, low-changed, low-whole, new-handle, stands-alike, stands-fell, stands-whole, updated-at},
  LoadFaults.{Cause, IsForm, by-chance, by-handle, by-names, by-references, load-cause},
  LoadProgress.{AllGot, Going, all-more, all-new, asked, first-fits, going-of, pushed, row-held},
  ReadingSteps.{cached-rows, reading-number, reading-open, reading-stands},
  StepBounds.got-typed,
  Trees.same_some,
  Words.{Alike, Among, ArcRef, Beginning, Bool, Call, Core, Err, Error, Event, EventReply, Frame, FramesFit, GetsKnown, HandleNumber, HandleRow},
  Words.{HandlesAreWhole, Happens, IsLawful, IsMachineWhole, IsReadableType, IsReference, IsWellAsked, Kind, List, LoadAnswer, LoadNumber, MachineState, Mode},
  Words.{Moment, NodeNumber, None, Ok, OpenLoad, Option, OptionalDataKey, Owner, PagerStandsFor, PagerState, Reading, Reply, Seen, Some, Tree, Values, adopted},
  Words.{ap, arith, basics, false, false_from_ne_true, find_row, held, if_there, inl, inr, is_in, is_named_by, is_some, mode_of, next_node, of_cell},
  Words.{owner_value, references_fault, refl, root_frame, row_at, rules, slice_get, subst, suc, sym, type_of, with_handle, world_of, zero, ℕ, [], ◌+◌, ◌<◌},
  Words.{◌==◌, ◌∙◌, ◌∷◌, ◌≡◌, ◌⊎◌},
}
use Rattle.pagable_theorems.specs.{DepthLaws.{HasBegun, IsBeginOf, UninterruptedLoadsAreSound}, TreeSteps.FramesHeld}

-- each handle was got in one place
abbrev GotOnce : List Frame → Type 0
GotOnce [] = Unit {0}
GotOnce (frame ∷ below) = AreApart frame.got × ((r : ArcRef) → Among frame.got r → AllGot (λ q. q.handle.0 ≡ r.handle.0 → ⊥) below) × GotOnce below

once-got : (frames : List Frame) (kind : Kind) (row : HandleRow) → AllGot (λ r. r.handle.0 < row.number.0) frames → GotOnce frames
    → GotOnce (with_got kind row frames)
once-got [] kind row small o = o
once-got (top ∷ below) kind row small o =
    let new : ArcRef = record { kind = kind; node = row.node; handle = row.number } in
    -- one of the old ones isn't the new one
    let old-isnt : (frame : Frame) (r q : ArcRef) → Among (top ∷ below) frame → Among frame.got r → new ≡ q → r.handle.0 ≡ q.handle.0 → ⊥ =
    λ frame r q among got is same.
    omega (arith, small frame r among got, ap (λ (g : ArcRef). g.handle.0) is) in (
      λ j l r q at there same. elim (pushed top.got new j r at) [
        | inl a ↦ elim (pushed top.got new l q there) [ inl b ↦ o.0 j l r q a b same | inr b ↦ absurd (old-isnt top r q (zero, refl) (j, a) b.1 same) ]
        | inr a ↦ elim (pushed top.got new l q there) [ inl b ↦ absurd (old-isnt top q r (zero, refl) (l, b) a.1 (sym same)) | inr b ↦ a.0 ∙ sym b.0 ]
      ],
      λ r (j, at) frame q (i, is) got same. elim (pushed top.got new j r at)
          [ inl a ↦ o.1 r (j, a) frame q (i, is) got same | inr a ↦ old-isnt frame q r (suc i, is) got a.1 same ],
      o.2,
    )

-- a row stays where values' references move and a handle comes
module _ (w w' : Core) (l : LoadNumber) (kind : Kind) (key : ℕ) (own : OptionalDataKey) (references : List ArcRef) where
  abbrev born : Core
  born = with_node w (type_of kind.0) own references

  abbrev known : Core
  known = adopted w l kind key own references

  to-known : {q : ℕ} {row : HandleRow} → let m = with_handle born (next_node w) (mode_of kind.0) (Owner.Load l) in
      Stands m.last.handle m.rows q row → Stands known.last.handle known.rows q row
  to-known {q} {row} s = grind (basics, cached-rows)

  adopted-keeps : {q : ℕ} {row : HandleRow} → Alike known w' → is_named_by references q ≡ false → Stands w.last.handle w.rows q row
      → Stands w'.last.handle w'.rows q row
  adopted-keeps {q} {row} a free s =
      stands-alike a (to-known (with-one born (next_node w) (mode_of kind.0) (Owner.Load l)
      (moved-free (Owner.Load l) (is_named_by references) (owner_value (w.last.node + 1)) free s)))

  adopted-new : HandlesAreWhole w → Alike known w' → Stands w'.last.handle w'.rows (w.last.handle + 1)
      (row_of (w.last.handle + 1) (next_node w) (mode_of kind.0) (Owner.Load l))
  adopted-new whole a = stands-alike a (to-known (new-handle born (next_node w) (mode_of kind.0) (Owner.Load l)
      (low-changed w.last.handle w.rows (λ h. is_named_by references h.number.0) (λ h. record h { owner = owner_value (w.last.node + 1) }) (λ h. refl)
      (low-whole whole))))

not-named : (rs : List ArcRef) (q : ℕ) → ((g : ArcRef) → Among rs g → g.handle.0 ≡ q → ⊥) → is_named_by rs q ≡ false
not-named rs q none = false_from_ne_true (is_named_by rs q) (λ e. let (r, among, same) = named-among rs q e in none r among same)

-- The load's handles are its own, each got once; and the handle that began it is the caller's.
pub record LoadReady (w : Core) (l : LoadNumber) (load : OpenLoad) (frames : List Frame) : Type 0 where
  pub begun : (node : NodeNumber) (t : ℕ) (h : HandleNumber) → load.root ≡ of_cell node t h → Has w Owner.Caller h
  pub live : AllGot (λ r. Has w (Owner.Load l) r.handle) frames
  pub once : GotOnce frames

-- each of its blobs is of a type that is read back
abbrev TypesAreRead : {N : Type 0} → Values N → Reading → Type 0
TypesAreRead v reading = (frame : Frame) → Among reading.frames frame → IsReadableType v.types frame.node_type

-- A load's own step leaves it ready: what it has got is its own, and the caller has the handle that began it.

module _ {N : Type 0} (v : Values N) (lawful : IsLawful v) (w w' : Core) (reading : Reading) (takes : TypesAreRead v reading) (load : OpenLoad)
    (trees : ℕ → Tree) (root_key root_type : ℕ)
    (whole : HandlesAreWhole w)
    (ready : LoadReady w reading.load load reading.frames) (held : FramesHeld w reading.load reading.frames)
    (fit : FramesFit v.types w.stored trees root_key root_type reading.frames) where
  abbrev l : LoadNumber
  l = reading.load

  -- what stands of a handle that isn't named goes on to stand
  abbrev Keeps : (ℕ → Bool) → Type 0
  Keeps named = (q : ℕ) (row : HandleRow) → named q ≡ false → NotValues row.owner → Stands w.last.handle w.rows q row → Stands w'.last.handle w'.rows q row

  has-on : (named : ℕ → Bool) → Keeps named → (owner : Owner) → NotValues owner → (h : HandleNumber) → named h.0 ≡ false → Has w owner h → Has w' owner h
  has-on named keeps owner own h free has =
      let s = keeps h.0 has.row free (subst NotValues (sym has.own) own) (stands-whole whole h.0 has.row has.live) in
      record { row = has.row; live = s.live; own = has.own }

  -- what these frames have got, and the handle that began the load, stay
  still-ready : (named : ℕ → Bool) → Keeps named → (fs : List Frame) → ((h : HandleNumber) → Has w Owner.Caller h → named h.0 ≡ false)
      → AllGot (λ r. named r.handle.0 ≡ false) fs
      → AllGot (λ r. Has w (Owner.Load l) r.handle) fs → GotOnce fs → LoadReady w' l load fs
  still-ready named keeps fs callers frees live once =
      let stay = λ (frame : Frame) (r : ArcRef) (among : Among fs frame) (got : Among frame.got r). has-on named keeps (Owner.Load l)
      (λ n is. absurd (cc)) r.handle (frees frame r among got)
      (live frame r among got) in
      record {
        begun = λ node t h root. let has = ready.begun node t h root in has-on named keeps Owner.Caller (λ n is. absurd (cc)) h (callers h has) has;
        live = stay;
        once = once;
      }

  small : AllGot (λ r. r.handle.0 < w.last.handle + 1) reading.frames
  small frame r among got = omega (arith, (held frame r among got).given)

  -- a handle was got
  got-ready : (fs : List Frame) (kind : Kind) (row : HandleRow) (k : HandleNumber) (new : HandleRow) → row_at w' k ≡ Some row → k.0 ≡ w.last.handle + 1
      → Stands w'.last.handle w'.rows (w.last.handle + 1) new → new.owner ≡ Owner.Load l → AllGot (λ r. r.handle.0 < w.last.handle + 1) fs
      → LoadReady w' l load fs
      → LoadReady w' l load (with_got kind row fs)
  got-ready fs kind row k new made next s own below still =
      let same : row ≡ new = same_some _ _ (sym made ∙ ap (λ n. find_row n w'.rows) next ∙ s.live) in
      let number = found-number k.0 w'.rows row made in
      let there : row_at w' row.number ≡ Some row = ap (λ n. find_row n w'.rows) number ∙ made in
      let owned : row.owner ≡ Owner.Load l = ap (λ (x : HandleRow). x.owner) same ∙ own in
      let here : Has w' (Owner.Load l) row.number = record { row = row; live = there; own = owned } in
      let once = once-got fs kind row (λ frame r among got. omega (arith, below frame r among got)) still.once in
      record { begun = still.begun; live = all-more (λ r. Has w' (Owner.Load l) r.handle) fs kind row here still.live; once = once }

  -- where no handle is given up
  all-ready : Keeps (λ q. false) → LoadReady w' l load reading.frames
  all-ready keeps = still-ready (λ q. false) keeps reading.frames (λ h has. refl) (λ frame r among got. refl) ready.live ready.once

  known-ready : (kind : Kind) (key : ℕ) (k : HandleNumber) (row : HandleRow) → GetsKnown w l kind key k w' → row_at w' k ≡ Some row
      → LoadReady w' l load (with_got kind row reading.frames)
  known-ready kind key k row c made =
      let new = stands-alike c.leaves (new-handle w (record { 0 = c.n }) (mode_of kind.0) (Owner.Load l) (low-whole whole)) in
      got-ready reading.frames kind row k _ made c.next.above new refl small
      (all-ready (λ q x free own s. stands-alike c.leaves (with-one w (record { 0 = c.n }) (mode_of kind.0) (Owner.Load l) s)))

  -- what was read became a node: its references go, and what was got for the blobs below stays
  node-ready : (frames : List Frame) (g : MakesNode v w Owner.Caller reading frames w')
      → LoadReady w' l load (with_got g.reads_node.top.kind g.row g.reads_node.below)
  node-ready frames g =
      let top = g.reads_node.top in let below = g.reads_node.below in let is = g.reads_node.frames in
      let c = g.adopted.adopts in let refs = v.references g.x in
      let here = rw is at fit in let now = rw is at ready in let small_all = rw is at small in
      let was_got = (decodes lawful top g.x (takes top (subst (λ fs. Among fs top) (sym is) (zero, refl)))
      (first-fits v.types root_key root_type w.stored trees top below here) g.reads_node.decoded).got in
      let caller-free : (h : HandleNumber) → Has w Owner.Caller h → is_named_by refs h.0 ≡ false = λ h has. not-named refs h.0 (λ x named same.
      let a = good w (Owner.Load l) [] refs c.good x named in cc) in
      -- no reference names the handle that comes
      let new-free : is_named_by refs (w.last.handle + 1) ≡ false = not-named refs (w.last.handle + 1)
      (λ x named same. omega (arith, small_all top x (zero, refl) (was_got x named))) in
      let by : (new : HandleRow) → Stands w'.last.handle w'.rows (w.last.handle + 1) new → new.owner ≡ Owner.Load l → Keeps (is_named_by refs)
      → LoadReady w' l load (with_got top.kind g.row below) =
      λ new s own keeps. got-ready below top.kind g.row g.k new g.made c.next.above s own (λ frame r (i, e) got. small_all frame r (suc i, e) got)
      (still-ready (is_named_by refs) keeps below caller-free
      (λ frame r among got. not-named refs r.handle.0 (λ x named same. now.once.1 x (was_got x named) frame r among got (sym same)))
      (λ frame r (i, e) got. now.live frame r (suc i, e) got) now.once.2) in
      elim c.makes [
        | inl (n, usable, f) ↦ by _ (stands-fell f.falls (λ m e. cc) new-free
            (new-handle w (record { 0 = n }) (mode_of top.kind.0) (Owner.Load l) (low-whole whole))) refl
            (λ q x free no s. stands-fell f.falls no free (with-one w (record { 0 = n }) (mode_of top.kind.0) (Owner.Load l) s))
        | inr (none, few, a) ↦ by _ (adopted-new w w' l top.kind top.key _ refs whole a) refl
            (λ q x free no s. adopted-keeps w w' l top.kind top.key _ refs a free s)
      ]

  -- a blob was read
  asked-ready : Asked w w' → (frame : Frame) → frame.got ≡ [] → LoadReady w' l load (frame ∷ reading.frames)
  asked-ready a frame none =
      let still = all-ready (λ q row free own s. stands-alike {w = record w { failures = w'.failures }} a.leaves s) in
      let once : GotOnce (frame ∷ reading.frames) = rw none (λ j l r q at. absurd (cc), λ r (j, at). absurd (cc), still.once) in
      search (still.begun, all-new (λ r. Has w' (Owner.Load l) r.handle) frame reading.frames none still.live, once)

  pub goes-ready : (frames : List Frame) → GoesOn v w Owner.Caller reading frames w' → LoadReady w' l load frames
  unfolding is_named_by
  goes-ready frames (inl g) = rw g.goes (rw g.first at (asked-ready g.asked.gives.2.asked (root_frame g.load.key reading.node_type g.blob) refl))
  goes-ready frames (inr (inl g)) = subst (λ fs. LoadReady w' l load fs) (sym g.goes) (known-ready g.kind g.key g.k g.row g.asked.gives.2 g.made)
  goes-ready frames (inr (inr (inl g))) = subst (λ fs. LoadReady w' l load fs) (sym g.goes) (asked-ready g.asked.gives.2.1.asked _ refl)
  goes-ready frames (inr (inr (inr (inl g)))) = subst (λ fs. LoadReady w' l load fs) (sym g.goes) (elim g.asked.makes.3 [
    | inl c ↦ known-ready g.kind g.key g.k g.row c g.made
    | inr (none, few, next, a) ↦
        got-ready reading.frames g.kind g.row g.k _ g.made next.above (adopted-new w w' l g.kind g.key (OptionalDataKey.Some g.key) [] whole a) refl small
        (all-ready (λ q x free own s. adopted-keeps w w' l g.kind g.key (OptionalDataKey.Some g.key) [] a refl s))
  ])
  goes-ready frames (inr (inr (inr (inr g)))) = subst (λ fs. LoadReady w' l load fs) (sym g.goes) (node-ready frames g)

-- where references have no fault, their handles have none
none-named : (w : Core) (owner : Owner) (seen : List ℕ) (rs : List ArcRef) → references_fault w owner seen rs ≡ None
    → named_fault w owner seen (handles_of rs) ≡ None
unfolding references_fault named_fault
none-named w owner seen [] is = refl
none-named w owner seen (r ∷ rs) is = grind (basics, none-named w owner (r.handle.0 ∷ seen) rs)

-- a load that is ready has no fault in its references, nor in the handle that began it: so it fails by chance alone
module _ {N E : Type 0} (v : Values N) (lawful : IsLawful v) (s : PagerState N E) (trees : ℕ → Tree) (stands : PagerStandsFor v s trees) (reading : Reading)
    (load : OpenLoad) (types : TypesAreRead v reading) (ready : LoadReady s.core reading.load load reading.frames) (going : Going v s trees reading)
    (open_load : s.core.loads reading.load.0 ≡ Some load) where
  references-fine : (frame : Frame) (below : List Frame) (x : N) → reading.frames ≡ frame ∷ below
      → (decoded : IsDecoded v frame x) → IsForm v frame → references_fault s.core (Owner.Load reading.load) [] (v.references x) ≡ None
  unfolding is_in
  references-fine frame below x is decoded form =
      let fits = first-fits v.types load.key reading.node_type s.core.stored trees frame below (rw is at (going.fits load open_load)) in
      let front = subst (λ fs. Among fs frame) (sym is) (zero, refl) in
      let good-one : (r : ArcRef) → Among (v.references x) r → IsReference s.core (Owner.Load reading.load) r = λ r among.
      let got = (decodes lawful frame x (types frame front) fits decoded).got r among in let b = ready.live frame r front got in
      let stood = (going.held frame r front got).is b.row b.live b.own in
      let live = subst (λ (n : NodeNumber). 0 < held n.0 s.core.rows) stood.0 (row-held s.core r.handle b.row b.live) in
      record {
        row = b.row;
        live = b.live;
        at = stood.0;
        owned = b.own;
        fits = stood.1;
        typed = stands.typed r.node.0 live ∙ ap (λ (n : ℕ). Some n) (got-typed frame fits r got);
      } in
      fine s.core (Owner.Load reading.load) [] (v.references x) good-one (λ r among. refl) (λ q.
      let few = reads-once v.types frame.node_type frame.blob form.refs frame.got form.form form.kinds (subst GotOnce is ready.once).0 decoded.own
      decoded.read q in
      omega (arith, lawful.refers x decoded.own decoded.means (λ r. r.handle.0 == q), few))

  pub only-chance : (e : Error) → Cause v s.core load reading e → IsOfChance e
  only-chance e (by-chance chance) = chance
  only-chance e (by-references frame below y frames decoded form fault) = absurd (cc (references-fine frame below y frames decoded form))
  only-chance e (by-names frame below y frames decoded form fault) =
      absurd (cc (none-named s.core (Owner.Load reading.load) [] (v.references y) (references-fine frame below y frames decoded form)))
  only-chance e (by-handle node t h root fault) = absurd (grind (basics, ready.begun node t h root))

begin-turn : {N B W : Type 0} (n : ℕ) (event : Event N B W) (reply : EventReply N B W) → IsBeginOf n event reply → turn_of event reply ≡ of_load n
begin-turn n x1 x2 is = grind basics

-- the load, if it is open and read, is ready
abbrev Ready : {N E : Type 0} → MachineState N E → LoadNumber → Type 0
Ready s l = (reading : Reading) (load : OpenLoad) → reading_at (world_of s) l ≡ Some reading → s.pager.core.loads l.0 ≡ Some load
    → LoadReady s.pager.core l load reading.frames

module _ {N B W E : Type 0} (m : Seen N B W) (s s' : MachineState N E) (whole : IsMachineWhole m.values s) (whole' : IsMachineWhole m.values s') where
  by-call : (h : HandleNumber) (k l : LoadNumber) (key : ℕ) → BeginCall s.pager.core Owner.Caller h (Ok (Beginning.Load k key)) s'.pager.core
      → ReadingsAre s.work.readings (world_of s')
      → k.0 ≡ l.0 → Ready s' l
  by-call h k l key b are same = λ reading load at open_load.
      let g = b.begins in let row = g.0 in let next = g.2.2.above in let a = g.2.4.2 in
      let there : s'.pager.core.loads l.0 ≡ Some (record { owner = Owner.Caller; key = key; root = of_cell row.node g.2.4.0 h }) =
      grind (basics, updated-at) in
      let st = stands-alike a (with-one s.pager.core row.node Mode.LooseUnpinned (Owner.Load k) (stands-whole whole.pager.whole.handles h.0 row g.1.live)) in
      -- a load of a number that wasn't given yet isn't read
      let unread : (r : Reading) → s.work.readings l.0 ≡ Some r → r.frames ≡ [] = λ r e.
      absurd (omega (arith, (whole.pager.whole.loads.numbered l.0 (ap is_some (whole.readings l.0 r e).open_load)).1)) in
      let empty : reading.frames ≡ [] = grind (basics, unread) in
      rw empty (record {
        begun = λ node t q root. let hs : h ≡ q = cc in record {
          row = row;
          live = subst (λ (x : HandleNumber). row_at s'.pager.core x ≡ Some row) hs st.live;
          own = g.1.own;
        };
        live = λ frame r among got. absurd (cc (among.1));
        once = tt;
      })

  begin-ready : (l : LoadNumber) (event : Event N B W) (reply : EventReply N B W) → IsBeginOf l.0 event reply → Happens m (world_of s) event reply (world_of s')
      → Ready s' l
  begin-ready l (Event.LoadStart h) (EventReply.Started (Ok (Beginning.Load k key))) is x = by-call h k l key x.step x.readings is
  begin-ready l (Event.Call (Call.LoadBegin h)) (EventReply.CallReply (Reply.Begun (Ok (Beginning.Load k key)))) is x =
      by-call h k l key x.step.does x.readings is
  begin-ready l event reply is x = grind basics

-- a load's own step, where the chain goes on
module _ {N B W E : Type 0} (m : Seen N B W) (lawful : IsLawful m.values) (s s' : MachineState N E) (trees : ℕ → Tree)
    (on : IsGoingOn m.values s trees) (whole' : IsMachineWhole m.values s') where
  abbrev core : Core
  core = s.pager.core

  -- what is asked of the load's step
  abbrev LoadAsked : LoadNumber → Type 0
  LoadAsked l = (reading : Reading) → reading_at (world_of s) l ≡ Some reading → TakesWell m.values s.pager reading

  step-ready : (l : LoadNumber) (reply : LoadReply N) (answer : Option (LoadAnswer N)) → reply.ended ≡ answer
      → LoadSteps m.values (world_of s) l reply (world_of s') → LoadAsked l → Ready s l → Ready s' l
  step-ready l reply (Some end) e x asks ready reading load at open_load = grind (basics, updated-at, reading-number s on.whole l x.reading x.at)
  step-ready l reply None e x asks ready reading load at open_load =
      let number = reading-number s on.whole l x.reading x.at in
      let was : core.loads l.0 ≡ Some load = grind basics in let a =
      going-of s trees on.readings x.reading (reading-stands (world_of s) on.whole.pager.whole l x.reading x.at) in
      let before = subst (λ k. LoadReady core k load x.reading.frames) (sym number) (ready x.reading load x.at was) in
      let go = subst (λ o. LoadDoes m.values core Owner.Caller x.reading o x.frames s'.pager.core) e x.does.does in
      let fits = a.fits load (reading-open s on.whole l x.reading x.at was) in
      let after = goes-ready m.values lawful core s'.pager.core x.reading
      (asks x.reading x.at).types load trees load.key x.reading.node_type on.whole.pager.whole.handles before a.held fits x.frames go in
      let now = (rw (open_load, e) at (x.readings l.0)) ∙ updated-at l.0 (Some (gone_on x.reading x.frames)) s.work.readings in
      let same = same_some _ _ (rw now at at) in rw (← same, ← number) after

  sound : (l : LoadNumber) (reply : LoadReply N) → LoadSteps m.values (world_of s) l reply (world_of s') → LoadAsked l → Ready s l
      → (load : OpenLoad) (e : Error)
      → core.loads l.0 ≡ Some load → IsLoadOfPagedOut s load → reply.ended ≡ Some (LoadAnswer.Refused e) → IsOfChance e
  sound l reply x asks ready load e open_load paged ended =
      let number = reading-number s on.whole l x.reading x.at in
      let r = subst (λ k. LoadReady core k load x.reading.frames) (sym number) (ready x.reading load x.at open_load) in
      let g = going-of s trees on.readings x.reading (reading-stands (world_of s) on.whole.pager.whole l x.reading x.at) in
      only-chance m.values lawful s.pager trees on.stands.pager x.reading load (asks x.reading x.at).types r g
      (reading-open s on.whole l x.reading x.at open_load) e (load-cause m lawful s s' trees trees on l reply x load e open_load paged ended)

  load-step-ready : (l : LoadNumber) (reply : EventReply N B W) → Happens m (world_of s) (Event.LoadStep l) reply (world_of s') → LoadAsked l → Ready s l
      → Ready s' l
  load-step-ready l (EventReply.LoadMoved (Ok reply)) is asks ready reading load at open_load =
      step-ready l reply _ refl is.moves asks ready reading load at open_load
  load-step-ready l (EventReply.LoadMoved (Err e)) is asks ready reading load at open_load =
      let st = is.refused.1 in
      let was : core.loads l.0 ≡ Some load = sym (st.core.loads l.0) ∙ open_load in
      let same : s'.work.readings l.0 ≡ s.work.readings l.0 = st.readings l.0
      ∙ ap (λ (o : Option OpenLoad). if_there (λ (z : OpenLoad). s.work.readings l.0) None o) open_load in
      let here : reading_at (world_of s) l ≡ Some reading = rw (same, st.core.loads l.0) at at in
      let b = ready reading load here was in search (rules, has-alike, st.core, b.begun, b.live, b.once)
  load-step-ready l reply is asks ready reading load at open_load = absurd is

  turn-ready : (l : LoadNumber) (event : Event N B W) (reply : EventReply N B W) → Happens m (world_of s) event reply (world_of s')
      → IsWellAsked m.values s trees event reply → turn_of event reply ≡ of_load l.0 → Ready s l → Ready s' l
  turn-ready l event reply is asks turn ready =
      let cases : IsBeginOf l.0 event reply ⊎ ((k : LoadNumber) × (k.0 ≡ l.0) × (event ≡ Event.LoadStep k)) = grind basics in
      elim cases [
        | inl begins ↦ begin-ready m s s' on.whole whole' l event reply begins is
        | inr (k, same, e) ↦
            let own : event ≡ Event.LoadStep l = e ∙ ap (λ (q : LoadNumber). Event.LoadStep q) (ap (λ n. let q : LoadNumber = record { 0 = n } in q) same) in
            load-step-ready l reply (subst (λ (x : Event N B W). Happens m (world_of s) x reply (world_of s')) own is)
            (subst (λ (x : Event N B W). IsWellAsked m.values s trees x reply) own asks) ready
      ]

module _ {N B W E : Type 0} (m : Seen N B W) where
  -- whenever the load makes a step, it has begun by then in what is left, or it is ready, and all up to that step is its own
  abbrev Stage : MachineState N E → LoadNumber → List (Moment N E B W) → ℕ → Type 0
  Stage s l xs k = HasBegun xs l.0 k ⊎ (Ready s l × ((i : ℕ) (a : Moment N E B W) → i < k → slice_get xs i ≡ Some a → turn_of a.event a.reply ≡ of_load l.0))

  abbrev Stages : MachineState N E → List (Moment N E B W) → Type 0
  Stages s xs = (k : ℕ) (c : Moment N E B W) (l : LoadNumber) → slice_get xs k ≡ Some c → c.event ≡ Event.LoadStep l → Stage s l xs k

  module _ (lawful : IsLawful m.values) (s : MachineState N E) (trees : ℕ → Tree) (on : IsGoingOn m.values s trees) (x : Moment N E B W)
      (xs : List (Moment N E B W)) (whole' : IsMachineWhole m.values x.after) (is : Happens m (world_of s) x.event x.reply (world_of x.after))
      (asks : IsWellAsked m.values s trees x.event x.reply)
      (together : StandTogether (x ∷ xs)) where
    next-stage : Stages s (x ∷ xs) → Stages x.after xs
    next-stage stages k c l at step = elim (stages (suc k) c l at step) [
      | inl h ↦ by h.i h.a h.before h.at h.begins
      | inr (r, own) ↦ inr (
        turn-ready m lawful s x.after trees on whole' l x.event x.reply is asks (own 0 x (omega arith) refl) r,
        λ i a lt at. own (suc i) a (omega arith) at,
      )
    ]
      where
        by : (i : ℕ) (a : Moment N E B W) → i < suc k → slice_get (x ∷ xs) i ≡ Some a → IsBeginOf l.0 a.event a.reply → Stage x.after l xs k
        by (suc i) a before there begins = inl (record { i = i; a = a; before = omega arith; at = there; begins = begins })
        by zero a before there begins =
            let same : a ≡ x = cc in
            let here = subst (λ (y : Moment N E B W). IsBeginOf l.0 y.event y.reply) same begins in
            let turn = begin-turn l.0 x.event x.reply here in
            inr (
              begin-ready m s x.after on.whole whole' l x.event x.reply here is,
              λ j b lt later. together 0 (suc j) (suc k) x b c (omega arith) (omega arith) refl later at
                  (λ nobody. cc (sym turn ∙ nobody)) (ap (λ (v : Event N B W). turn_of v c.reply) step ∙ sym turn) ∙ turn,
            )

    load-sound : Stages s (x ∷ xs) → (trees' : ℕ → Tree) (event : Event N B W) (reply : EventReply N B W) → x.event ≡ event
        → Happens m (world_of s) event reply (world_of x.after) → IsWellAsked m.values s trees event reply → LoadIsSound s trees event reply x.after trees'
    load-sound stages trees' (Event.LoadStep l) (EventReply.LoadMoved (Ok reply)) same h asked = λ load e open_load paged ended. elim (stages 0 x l refl same) [
      | inl begun ↦ absurd (omega arith)
      | inr (ready, own) ↦ sound m lawful s x.after trees on whole' l reply h.moves asked ready load e open_load paged ended
    ]
    load-sound stages trees' event reply same h asked = tt

pub sound_law : {N B W : Type 0} (E : Type 0) (m : Seen N B W) → UninterruptedLoadsAreSound E m
sound_law E m start moments together begun trees whole idle chain stands lawful settled =
    along-with m lawful LoadIsSound (λ s xs. StandTogether xs × Stages m s xs) (λ s trees trees' x xs on so whole' is asks right. (
      load-sound m lawful s trees on x xs whole' is asks so.0 so.1 trees' x.event x.reply refl is asks,
      (
        λ i j k p q r lt lt2 at a b. so.0 (suc i) (suc j) (suc k) p q r (omega arith) (omega arith) at a b,
        next-stage m lawful s trees on x xs whole' is asks so.0 so.1,
      ),
    ))
    start trees moments (idle-goes m lawful start trees whole idle settled stands) (together, λ k c l at step. inl (begun k c l at step)) chain
