-- What a load reads fits, and still fits after its step, whatever it gets; and a node with its value in memory gives its tree.
use Rattle.pagable_pager_spec.specs.{
  Kinds.{is_at, is_pin},
  Loads.{Next, asks, gone_on, need_at, need_of, needs_lazy, needs_nested, nested_frame, with_got},
  Pager.{FrameFits, IsReadingOf, Moves, NodeStands, ReadsNodeTree, SameTrees},
  Rightness.GivesTree,
}
use Rattle.pagable_theorems.proofs.{
  Decoding.{FramesAsked, asks_next, none-got, one-got},
  FormsOfTrees.cell-of,
  HandlesKept.among-found,
  Trees.{at-most-sum, followed-all, same_some, self-number},
  Words.{Among, ArcRef, Blob, Change, Core, Frame, FramesFit, HandleNumber, HandleRow, HandlesAreWhole, HoldsSettled, IsPagerWhole, Kind, List, LoadNumber},
  Words.{MachineState, None, OpenLoad, Option, PagerStandsFor, PagerState, Reading, ReadingFeels, ReadingFits, ReadsTree, Some, Tree, Types, ValueStands},
  Words.{Values, ap, arith, basics, held, inl, inr, is_eager, is_pinning, length, length-append, next_in, one, pins, refl, root_frame, row_at, slice_get},
  Words.{slice_get_within, subst, suc, sym, true, type_of, zero, ℕ, [], ◌++◌, ◌<◌, ◌∙◌, ◌∷◌, ◌≡◌, ◌≤◌, ◌⊎◌},
}
use Rattle.pagable_theorems.specs.{
  TreeSteps.{ChangeFits, CoreGoes, FramesHeld, GetsRow, GotStands, IsFresh, KeepsStored, Needs, gets-known, gets-lazy, makes-known, makes-node, reading-ends},
  TreeSteps.{reads-blob, reads-root},
}

-- what holds of each reference that was got
abbrev pub AllGot : (ArcRef → Type 0) → List Frame → Type 0
AllGot P frames = (frame : Frame) (r : ArcRef) → Among frames frame → Among frame.got r → P r

pub asked : (below : List Frame) (next : Next) (kind : Kind) (key : ℕ) → (need_at below next ≡ needs_nested kind key)
    ⊎ (need_at below next ≡ needs_lazy kind key) → next ≡ asks kind key
asked x0 x1 kind key x4 = grind basics

pub pushed : {X : Type 0} (xs : List X) (y : X) (i : ℕ) (x : X) → slice_get (xs ++ y ∷ []) i ≡ Some x → (slice_get xs i ≡ Some x) ⊎ ((i ≡ length xs) × (y ≡ x))
pushed (z ∷ xs) y (suc i) x is = elim (pushed xs y i x is) [ inl old ↦ inl old | inr new ↦ inr (omega arith, new.1) ]
pushed x0 y x2 x is = grind basics

module _ {stored stored' : ℕ → Option Blob} {types : Types} (kept : KeepsStored stored stored') where
  pub tree-stays : {key : ℕ} {t : Tree} → ReadsTree stored types key t → ReadsTree stored' types key t
  tree-stays {t = t} h = record { own = h.own; reads = grind basics; follows = followed-all (λ n key m r. grind basics) h.follows }

  pub node-stays : {trees trees' : ℕ → Tree} {key t n : ℕ} → trees' n ≡ trees n → ReadsNodeTree types stored trees key t n
      → ReadsNodeTree types stored' trees' key t n
  node-stays {key = key} same h = record {
    typed = ap (λ (z : Tree). z.type) same ∙ h.typed;
    reads = subst (λ (z : Tree). ReadsTree stored' types key z) (sym same) (tree-stays h.reads);
  }

  frame-stays : {trees trees' : ℕ → Tree} {frame : Frame} (last : ℕ) → SameTrees last trees trees' → ((r : ArcRef) → Among frame.got r → r.node.0 ≤ last)
      → FrameFits types stored trees frame → FrameFits types stored' trees' frame
  frame-stays {frame = frame} last same given h =
      record {
        is = kept frame.key frame.blob h.is;
        few = h.few;
        got = λ place key r is at. node-stays (same r.node.0 (given r (place, is)))
            (h.got place key r is at);
      }

module _ {types : Types} {stored : ℕ → Option Blob} {trees : ℕ → Tree} where
  new-fits : (frame : Frame) → frame.got ≡ [] → stored frame.key ≡ Some frame.blob → FrameFits types stored trees frame
  new-fits frame none_got is = grind arith

  got-fits : (frame : Frame) (q : ArcRef) (key : ℕ) → slice_get frame.blob.keys (length frame.got) ≡ Some key
      → ReadsNodeTree types stored trees key (type_of q.kind.0) q.node.0
      → FrameFits types stored trees frame → FrameFits types stored trees (record frame { got = frame.got ++ q ∷ [] })
  got-fits frame q key next read h = record {
    is = h.is;
    few = omega (arith, length-append frame.got (q ∷ []), slice_get_within frame.blob.keys (length frame.got) key next);
    got = λ place k r is at. elim (pushed frame.got q place r is) [
      | inl old ↦ h.got place k r old at
      | inr new ↦ let same : k ≡ key = cc in
          rw (same, ← new.1) read
    ];
  }

module _ (types : Types) (root_key root_type : ℕ) where
  -- what was read goes on fitting where what was stored stays and each node that was given keeps its tree
  pub frames-stay : (stored stored' : ℕ → Option Blob) (trees trees' : ℕ → Tree) (last : ℕ) (frames : List Frame) → KeepsStored stored stored'
      → SameTrees last trees trees'
      → AllGot (λ r. r.node.0 ≤ last) frames → FramesFit types stored trees root_key root_type frames → FramesFit types stored' trees' root_key root_type frames
  unfolding FramesFit
  frames-stay stored stored' trees trees' last [] kept same given h = tt
  frames-stay stored stored' trees trees' last (frame ∷ []) kept same given (fits, key, typed) =
      (frame-stays kept last same (λ r among. given frame r (zero, refl) among) fits, key, typed)
  frames-stay stored stored' trees trees' last (frame ∷ next ∷ rest) kept same given (fits, typed, next_is, more) =
      let below = frames-stay stored stored' trees trees' last (next ∷ rest) kept same (λ f r among got. given f r (suc among.0, among.1) got) more in
      (frame-stays kept last same (λ r among. given frame r (zero, refl) among) fits, typed, next_is, below)

  module _ (stored : ℕ → Option Blob) (trees : ℕ → Tree) where
    -- and with a handle that the innermost blob gets, of a node whose tree the key reads as
    grown : (frame : Frame) (below : List Frame) (kind : Kind) (key : ℕ) (row : HandleRow) → next_in types frame ≡ asks kind key
        → ReadsNodeTree types stored trees key (type_of kind.0) row.node.0
        → FramesFit types stored trees root_key root_type (frame ∷ below) → FramesAsked types (frame ∷ below)
        → FramesFit types stored trees root_key root_type (with_got kind row (frame ∷ below)) × FramesAsked types (with_got kind row (frame ∷ below))
    unfolding FramesFit FramesAsked
    grown frame [] kind key row next read (fits, key_is, typed) got = (
      (got-fits frame _ key (asks_next types frame kind key next) read fits, key_is, typed),
      one-got frame.got _ _ key got next refl,
    )
    grown frame (under ∷ rest) kind key row next read (fits, typed, over, more) (got, eager, asked, below) = (
      (got-fits frame _ key (asks_next types frame kind key next) read fits, typed, over, more),
      (one-got frame.got _ _ key got next refl, eager, asked, below),
    )

    pub first-fits : (top : Frame) (below : List Frame) → FramesFit types stored trees root_key root_type (top ∷ below) → FrameFits types stored trees top
    unfolding FramesFit
    first-fits top x1 h = grind basics

module _ (P : ArcRef → Type 0) where
  all-none : (frames : List Frame) → frames ≡ [] → AllGot P frames
  all-none frames bare frame r among got = let there = subst (λ fs. Among fs frame) bare among in absurd (cc (there.1))

  pub all-new : (frame : Frame) (frames : List Frame) → frame.got ≡ [] → AllGot P frames → AllGot P (frame ∷ frames)
  all-new frame frames bare all f r (zero, is) (place, there) = grind basics
  all-new frame frames bare all f r (suc i, is) among = all f r (i, is) among

  pub all-more : (frames : List Frame) (kind : Kind) (row : HandleRow) → P (record { kind = kind; node = row.node; handle = row.number }) → AllGot P frames
      → AllGot P (with_got kind row frames)
  all-more [] kind row new all frame r (i, is) got = absurd (cc)
  all-more (top ∷ below) kind row new all frame r (suc i, is) got = all frame r (suc i, is) got
  all-more (top ∷ below) kind row new all frame r (zero, is) (j, there) =
      let grown : record top { got = top.got ++ record { kind = kind; node = row.node; handle = row.number } ∷ [] } ≡ frame = cc in
      elim (pushed top.got _ j r (subst (λ (f : Frame). slice_get f.got j ≡ Some r) (sym grown) there))
      [ inl old ↦ all top r (zero, refl) (j, old) | inr last ↦ subst P last.1 new ]

pub row-held : (w : Core) (k : HandleNumber) (row : HandleRow) → row_at w k ≡ Some row → 0 < held row.node.0 w.rows
row-held w k row is = grind (basics, self-number, at-most-sum (λ h. one (is_at row.node.0 h)) w.rows row (among-found k.0 w.rows row is))

pub row-pins : (w : Core) (k : HandleNumber) (row : HandleRow) → row_at w k ≡ Some row → is_pinning row.mode ≡ true → 0 < pins row.node.0 w.rows
row-pins w k row is pinning = grind (basics, self-number, at-most-sum (λ h. one (is_pin row.node.0 h)) w.rows row (among-found k.0 w.rows row is))

pub stands-here : {N E : Type 0} {v : Values N} {s : PagerState N E} {n : ℕ} {t : Tree} {x : N} → NodeStands v s n t → s.values n ≡ Some x → ValueStands v s x t
stands-here x0 is = grind basics

-- each handle that pins gives the tree that its node was made with
pub pin_stands : {N E : Type 0} {v : Values N} (s : PagerState N E) (trees : ℕ → Tree) (k : HandleNumber) (row : HandleRow) → IsPagerWhole v s
    → PagerStandsFor v s trees → row_at s.core k ≡ Some row
    → is_pinning row.mode ≡ true → GivesTree v s trees k
pin_stands {N} s trees k row whole represents live pinning =
    let held_there = row-held s.core k row live in
    let p = row-pins s.core k row live pinning in let valued = whole.valued row.node.0 in let x : (x : N) × (s.values row.node.0 ≡ Some x) = grind basics in
    record { row = row; x = x.0; live = live; held = x.1; stands = stands-here (represents.stands row.node.0 held_there) x.1 }

-- ---- what a load has got is what its blobs asked for, and goes on to be so

-- what is read together with a value is asked for through a reference that isn't loose
pub eager-nested : (below : List Frame) (next : Next) (kind : Kind) (key : ℕ) → need_at below next ≡ needs_nested kind key → is_eager kind.0 ≡ true
eager-nested x0 x1 kind key is = grind basics

frames-on : {c : Change} {w w' : Core} → CoreGoes c w w' → (l : LoadNumber) (frames : List Frame) → FramesHeld w l frames → FramesHeld w' l frames
frames-on goes l frames held frame r among got =
    let g = held frame r among got in
    record {
      given = omega arith;
      node_given = omega arith;
      is = λ row live own. g.is row (let a = goes.rows r.handle.0 row live g.given in a.live ∙ ap Some (a.mine l own)) own;
    }

got-new : {w w' : Core} (l : LoadNumber) (kind : Kind) (n : ℕ) (row : HandleRow) → HandlesAreWhole w' → GetsRow w w' kind n row
    → GotStands w' l (record { kind = kind; node = row.node; handle = row.number })
got-new {w' = w'} l kind n row whole g = grind (basics, (whole.nodes_numbered row.node.0 (cell-of whole row.node.0 (row-held w' row.number row g.live))).1)

-- what was read fits, what was got names nodes as it should, and was asked for
pub record FitAfter {N : Type 0} (v : Values N) (w : Core) (trees : ℕ → Tree) (reading : Reading) (load : OpenLoad) (frames : List Frame) : Type 0 where
  pub fit : FramesFit v.types w.stored trees load.key reading.node_type frames
  pub held : FramesHeld w reading.load frames
  pub asked : FramesAsked v.types frames

pub given-nodes : {w : Core} {l : LoadNumber} (frames : List Frame) → FramesHeld w l frames → AllGot (λ r. r.node.0 ≤ w.last.node) frames
given-nodes frames held frame r among got = (held frame r among got).node_given

pub record Going {N E : Type 0} (v : Values N) (s : PagerState N E) (trees : ℕ → Tree) (reading : Reading) : Type 0 where
  pub within : reading.load.0 ≤ s.core.last.load
  pub fits : ReadingFits v s trees reading
  pub held : FramesHeld s.core reading.load reading.frames
  pub asked : FramesAsked v.types reading.frames

-- one that has just begun
pub going-new : {N E : Type 0} {v : Values N} (s : PagerState N E) (trees : ℕ → Tree) (reading : Reading) → reading.frames ≡ []
    → reading.load.0 ≤ s.core.last.load → Going v s trees reading
unfolding FramesFit FramesAsked
going-new {v = v} s trees reading bare within = search (bare, all-none, within)

-- one that makes a step: the machine's, or one that has just begun
pub going-of : {N E : Type 0} {v : Values N} (s : MachineState N E) (trees : ℕ → Tree)
    → ((reading : Reading) → IsReadingOf s.work reading → Going v s.pager trees reading) → (reading : Reading)
    → IsReadingOf s.work reading ⊎ IsFresh s.pager.core reading → Going v s.pager trees reading
going-of s trees readings reading (inl is) = readings reading is
going-of s trees readings reading (inr new) = going-new s.pager trees reading new.0 new.2

-- a load that is open afterwards and was given was open before
pub was-open : {c : Change} {w w' : Core} → CoreGoes c w w' → (l : ℕ) (load : OpenLoad) → l ≤ w.last.load → w'.loads l ≡ Some load → w.loads l ≡ Some load
was-open goes l load within is = elim (goes.loads l load is) [ inl was ↦ was | inr (above, begins) ↦ absurd (omega arith) ]

module _ {N E : Type 0} {v : Values N} {s s' : PagerState N E} {trees trees' : ℕ → Tree} (whole : IsPagerWhole v s) (whole' : IsPagerWhole v s')
    (stands : PagerStandsFor v s trees) where
  module _ (reading : Reading) (load : OpenLoad) where
    -- the blob of the reference that it needs is read
    fit-nested : (frames : List Frame) (kind : Kind) (key : ℕ) (blob : Blob) → need_of v.types frames ≡ needs_nested kind key → s'.core.stored key ≡ Some blob
        → FitAfter v s'.core trees' reading load frames → FitAfter v s'.core trees' reading load (nested_frame kind key blob ∷ frames)
    unfolding FramesFit FramesAsked
    fit-nested [] kind key blob needs is f = absurd (cc)
    fit-nested (top ∷ below) kind key blob needs is f =
        let next = asked below (next_in v.types top) kind key (inl needs) in
        let held = all-new (GotStands s'.core reading.load) (nested_frame kind key blob) (top ∷ below) refl f.held in
        let asked = eager-nested below (next_in v.types top) kind key needs in
        record { fit = (new-fits (nested_frame kind key blob) refl is, refl, next, f.fit); held = held; asked = (none-got [] refl, asked, next, f.asked) }

    -- the innermost blob gets what it asks for next
    fit-grown : (top : Frame) (below : List Frame) (kind : Kind) (key n : ℕ) (row : HandleRow) → next_in v.types top ≡ asks kind key
        → GetsRow s.core s'.core kind n row
        → ReadsNodeTree v.types s'.core.stored trees' key (type_of kind.0) n → FitAfter v s'.core trees' reading load (top ∷ below)
        → FitAfter v s'.core trees' reading load (with_got kind row (top ∷ below))
    fit-grown top below kind key n row next got reads_n f =
        let read = subst (λ m. ReadsNodeTree v.types s'.core.stored trees' key (type_of kind.0) m) (sym got.at) reads_n in
        let held = all-more (GotStands s'.core reading.load) (top ∷ below) kind row (got-new reading.load kind n row whole'.whole.handles got) f.held in
        let both = grown v.types load.key reading.node_type s'.core.stored trees' top below kind key row next read f.fit f.asked in
        search (both.0, held, both.1)

    fit-got : (frames : List Frame) (kind : Kind) (key n : ℕ) (row : HandleRow) → Needs v.types frames kind key → GetsRow s.core s'.core kind n row
        → ReadsNodeTree v.types s'.core.stored trees' key (type_of kind.0) n → FitAfter v s'.core trees' reading load frames
        → FitAfter v s'.core trees' reading load (with_got kind row frames)
    fit-got [] kind key n row needs got reads_n f = f
    fit-got (top ∷ below) kind key n row needs got reads_n f = fit-grown top below kind key n row (asked below (next_in v.types top) kind key needs) got reads_n
        f

    fit-made : (top : Frame) (below : List Frame) (n : ℕ) (row : HandleRow) → GetsRow s.core s'.core top.kind n row
        → ReadsNodeTree v.types s'.core.stored trees' top.key (type_of top.kind.0) n
        → FitAfter v s'.core trees' reading load (top ∷ below) → FitAfter v s'.core trees' reading load (with_got top.kind row below)
    unfolding FramesFit FramesAsked
    fit-made top [] n row got reads_n f = record { fit = tt; held = all-none (GotStands s'.core reading.load) [] refl; asked = tt }
    fit-made top (next ∷ below) n row got reads_n f = fit-grown next below top.kind top.key n row f.fit.2 got reads_n
        (record { fit = f.fit.3; held = λ frame r among there. f.held frame r (suc among.0, among.1) there; asked = f.asked.3 })

  module _ {c : Change} {comes : ℕ → N → Type 0} (goes : CoreGoes c s.core s'.core) (fits : ChangeFits v c comes s s' trees trees') where
    known-reads : (kind : Kind) (key n : ℕ) → s.core.cache kind.0 key ≡ Some n → ReadsNodeTree v.types s'.core.stored trees' key (type_of kind.0) n
    known-reads kind key n known = node-stays goes.stored (fits.same n (whole.whole.cache kind.0 key n known).given) (stands.cache kind.0 key n known)

    fit-still : (reading : Reading) (load : OpenLoad) (frames : List Frame) → FitAfter v s.core trees reading load frames
        → FitAfter v s'.core trees' reading load frames
    fit-still reading load frames f = search (frames-stay, goes.stored, fits.same, given-nodes, f.held, f.fit, frames-on, goes, f.asked)

  felt-after : (reading : Reading) (load : OpenLoad) (frames : List Frame) {c : Change} {comes : ℕ → N → Type 0} → CoreGoes c s.core s'.core
      → ChangeFits v c comes s s' trees trees'
      → s.core.loads reading.load.0 ≡ Some load → ReadingFeels v s.core reading None frames s'.core c → FitAfter v s'.core trees' reading load reading.frames
      → FitAfter v s'.core trees' reading load frames
  unfolding FramesFit FramesAsked
  felt-after reading load frames goes fits open_load (reads-root l blob none_read at stored answer is) g =
      grind (basics, same_some, root_frame, new-fits, none-got, held, all-new, all-none)
  felt-after reading load frames goes fits open_load (reads-blob kind key blob needs stored answer is) g =
      subst (FitAfter v s'.core trees' reading load) (sym is) (fit-nested reading load reading.frames kind key blob needs (goes.stored key blob stored) g)
  felt-after reading load frames goes fits open_load (gets-known kind key n row needs known got answer is) g =
      subst (FitAfter v s'.core trees' reading load) (sym is) (fit-got reading load reading.frames kind key n row needs got
      (known-reads goes fits kind key n known) g)
  felt-after reading load frames goes fits open_load (gets-lazy kind key row needs got answer is) g =
      subst (FitAfter v s'.core trees' reading load) (sym is) (fit-got reading load reading.frames kind key _ row (inr needs) got
      (fits.knows kind.0 key _ (refl, refl, refl)) g)
  felt-after reading load frames goes fits open_load (makes-known x made n row known got answer is) g =
      let before = subst (FitAfter v s'.core trees' reading load) made.frames g in
      subst (FitAfter v s'.core trees' reading load) (sym is) (fit-made reading load made.top made.below n row got
      (known-reads goes fits made.top.kind made.top.key n known) before)
  felt-after reading load frames goes fits open_load (makes-node x made row got answer is) g =
      let before = subst (FitAfter v s'.core trees' reading load) made.frames g in
      subst (FitAfter v s'.core trees' reading load) (sym is) (fit-made reading load made.top made.below _ row got
      (fits.knows made.top.kind.0 made.top.key _ (refl, refl, refl)) before)
  felt-after reading load frames goes fits open_load (reading-ends end answer is) g = absurd (cc)

  module _ {c : Change} {comes : ℕ → N → Type 0} (goes : CoreGoes c s.core s'.core) (fits : ChangeFits v c comes s s' trees trees') where
    still-within : (l : ℕ) → l ≤ s.core.last.load → l ≤ s'.core.last.load
    still-within l within = omega arith

    pub going-on : (reading : Reading) → Going v s trees reading → Going v s' trees' reading
    going-on reading g =
        let fit : ReadingFits v s' trees' reading = λ load is. let was = was-open goes reading.load.0 load g.within is in
        (fit-still goes fits reading load reading.frames (record { fit = g.fits load was; held = g.held; asked = g.asked })).fit in
        search (still-within reading.load.0 g.within, fit, frames-on goes reading.load reading.frames g.held, g.asked)

    pub going-step : (reading : Reading) (frames : List Frame) (load : OpenLoad) → s.core.loads reading.load.0 ≡ Some load → Going v s trees reading
        → ReadingFeels v s.core reading None frames s'.core c → Going v s' trees' (gone_on reading frames)
    going-step reading frames load opened g feels =
        let before = fit-still goes fits reading load reading.frames (record { fit = g.fits load opened; held = g.held; asked = g.asked }) in
        let after = felt-after reading load frames goes fits opened feels before in
        let fit : ReadingFits v s' trees' (gone_on reading frames) = λ other at.
        subst (λ (z : OpenLoad). FramesFit v.types s'.core.stored trees' z.key reading.node_type frames)
        (same_some _ _ (sym opened ∙ was-open goes reading.load.0 other g.within at)) after.fit in
        search (still-within reading.load.0 g.within, fit, after.held, after.asked)

-- ---- what becomes of values

-- what comes by the one way comes by the other
pub moves-as : {N E : Type 0} {comes comes' : ℕ → N → Type 0} {s s' : PagerState N E} → ((n : ℕ) (x : N) → s'.values n ≡ Some x → comes n x → comes' n x)
    → Moves comes s s' → Moves comes' s s'
moves-as on moves = record {
  each = λ n x is. elim (moves.each n x is) [ inl was ↦ inl was | inr (none, came) ↦ inr (none, on n x is came) ];
  environment = moves.environment;
}

-- where no value comes, those that are there are settled still
pub settled-on : {N E : Type 0} (v : Values N) {s s' : PagerState N E} → HoldsSettled v s → Moves (λ n x. ⊥) s s' → HoldsSettled v s'
settled-on v settled moves n x is = elim (moves.each n x is) [ inl was ↦ settled n x was | inr came ↦ absurd came.1 ]
