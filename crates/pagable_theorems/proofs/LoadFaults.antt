-- Why a load fails whose key a page-out has published: by chance, or by a handle.
use Rattle.pagable_pager_spec.specs.{
  Basics.longest_path,
  Events.{LoadSteps, reading_at},
  LoadCalls.{LazyCall, LoadFetchCall, ask_fault, is_known, node_fault},
  Loads.{Fails, IsDecoded, LoadDoes, RefusesNode, RefusesRoot, asks, handles_of, is_broken, need_of, needs_lazy, needs_nested, reads},
  Refusals.{AreHandlesFull, Refused, earlier, handle_fault, load_fault, named_fault, reference_fault, refused_if, row_fault, where_so},
  Rightness.AreKeysOf,
  WorkerClaims.{IsLoadOfPagedOut, IsOfChance},
  World.{Root, of_key},
  declared.{calls.FetchTarget.FetchTarget, events.LoadReply.LoadReply},
}
use Rattle.pagable_theorems.proofs.{
  Chains.IsGoingOn,
  Decoding.{Ahead, FramesAsked, GotAsked, IsFormOf, all-done, at-place, comes-to, kinds_of, one-left},
  FormsOfTrees.known-of,
  LoadProgress.{asked, eager-nested, going-of},
  ReadingSteps.{reading-number, reading-open, reading-stands},
  TreeProgress.adopted-over,
  Trees.{same_some, self-number},
  Words.{ArcRef, Blob, Bool, Core, Err, Error, Event, EventReply, Frame, FramesFit, HandleNumber, HandleRow, Happens, Identity, IsLawful, IsPublished},
  Words.{IsReadableType, Kind, List, LoadAnswer, LoadNumber, MachineState, Meaning, Mode, NodeNumber, None, Ok, OpenLoad, Option, Owner, Reading, Seen, Shelf},
  Words.{Some, Tree, Values, above, any_mode, ap, arith, basics, blob_of, false, identity_of, inl, inr, is_eager, length, next_in, not, of_cell},
  Words.{references_fault, slice_get, subst, sym, true, type_of, world_of, ℕ, [], ◌+◌, ◌==◌, ◌∙◌, ◌∷◌, ◌≡◌, ◌≤◌, ◌⊎◌},
}
use Rattle.pagable_theorems.specs.{DepthLaws.{IsOfHandles, LoadOfPagedOutIsFaultless}, TreeSteps.{AllLow, Ground, Needs, SlotsFit}}

-- ---- what a load reads of a key that a page-out has published: each blob is a form of a tree, asks for references whose keys are known, and lies within the
-- path's limit

-- the blob is a form of some value, and all of its references were got
pub record IsForm {N : Type 0} (v : Values N) (frame : Frame) : Type 0 where
  pub refs : List ArcRef
  pub form : IsFormOf v.types frame.node_type frame.blob refs
  pub kinds : kinds_of frame.got ≡ kinds_of refs

as-many-keys : (shelf : Shelf) (rs : List ArcRef) (keys : List ℕ) → AreKeysOf shelf rs keys → length keys ≡ length rs
as-many-keys shelf (r ∷ rs) (k ∷ ks) all = omega (arith, as-many-keys shelf rs ks all.1)
as-many-keys shelf x1 x2 all = grind basics

above-eager : (kind h limit : ℕ) → is_eager kind ≡ true → above kind h ≤ limit → h + 1 ≤ limit
above-eager kind h limit is le = grind basics

module _ {N : Type 0} (v : Values N) (g : Ground) (shelf : Shelf) (fit : SlotsFit v g shelf) where
  abbrev stored : ℕ → Option Blob
  stored = g.stored

  abbrev trees : ℕ → Tree
  trees = g.trees

  -- the blob is a form of a tree over references whose keys are known, and whose heights are within this one
  record IsKnown (frame : Frame) (height : ℕ) : Type 0 where
    refs : List ArcRef
    form : IsFormOf v.types frame.node_type frame.blob refs
    keys : AreKeysOf shelf refs frame.blob.keys
    lows : AllLow shelf height refs

  known-frame : (frame : Frame) (i : Identity) (height : ℕ) → IsPublished shelf i frame.key height → frame.node_type ≡ (trees i.node.0).type → stored frame.key
      ≡ Some frame.blob → IsKnown frame height
  known-frame frame i height p typed is =
      let f = fit i p.slot p.claimed in let b = f.publishes frame.key height p.known in
      let written = b.0 in let w = b.2.wrote in
      let there : v.types.nodes frame.node_type ≡ Some w.shape = ap v.types.nodes typed ∙ w.is in
      let same : blob_of written.bytes b.2.keys ≡ frame.blob = same_some _ _ (sym b.2.is_stored ∙ is) in
      let form : IsFormOf v.types frame.node_type (blob_of written.bytes b.2.keys) written.references =
      search (
        there,
        subst (IsReadableType v.types)
            (sym typed) w.can w.shape there,
        w.form,
        as-many-keys shelf written.references b.2.keys b.2.known,
        w.once,
      ) in
      search (
        subst (λ (x : Blob). IsFormOf v.types frame.node_type x written.references) same form,
        subst (λ (x : Blob). AreKeysOf shelf written.references x.keys) same b.2.known,
        b.2.low,
      )

  -- what is asked for has a key that is known
  record IsAsked (kind : Kind) (key height : ℕ) : Type 0 where
    r : ArcRef
    below : ℕ
    known : IsPublished shelf (identity_of r) key below
    of_kind : r.kind ≡ kind
    within : above kind.0 below ≤ height

  asked-known : (frame : Frame) (height : ℕ) (k : IsKnown frame height) → Ahead v.types frame.node_type frame.blob k.refs frame.got → (kind : Kind) (key : ℕ)
      → next_in v.types frame ≡ asks kind key
      → IsAsked kind key height
  asked-known frame height k (all-done own is all) kind key next = absurd (cc (sym is ∙ next))
  asked-known frame height k (one-left done left r q split same there is) kind key next =
      let at : slice_get k.refs (length done) ≡ Some r = ap (λ (rs : List ArcRef). slice_get rs (length done)) split ∙ at-place done r left in
      let kinds : r.kind ≡ kind = cc in
      let keys : q ≡ key = cc in let g = known-of shelf k.refs frame.blob.keys k.keys r (length done, at) in
      let p = subst (λ x. (h : ℕ) × IsPublished shelf (identity_of r) x h) (same_some _ _ (sym g.2 ∙ there) ∙ keys) g.1 in let l = k.lows r (length done, at) in
      let h : l.below ≡ p.0 = let k = l.known in grind (arith, same_some) in
      record {
        r = r;
        below = p.0;
        known = p.1;
        of_kind = kinds;
        within = subst (λ (x : Kind). above x.0 p.0 ≤ height) kinds
            (subst (λ x. above r.kind.0 x ≤ height) h l.within);
      }

  module _ (root_key root_type : ℕ) (i : Identity) (limit : ℕ) (p : IsPublished shelf i root_key limit) (typed : (trees i.node.0).type ≡ root_type) where
    first-asked : (frame : Frame) (below : List Frame) → FramesAsked v.types (frame ∷ below) → GotAsked v.types frame.node_type frame.blob frame.got
    unfolding FramesAsked
    first-asked frame x1 h = grind basics

    -- the innermost blob is known, with its height within what the path leaves
    top-known : (frame : Frame) (below : List Frame) → FramesFit v.types stored trees root_key root_type (frame ∷ below) → FramesAsked v.types (frame ∷ below)
        → (height : ℕ) × IsKnown frame height × (height + length (frame ∷ below) ≤ limit + 1)
    unfolding FramesFit FramesAsked
    top-known frame [] (fits, key, of_type) got =
        let k = known-frame frame i limit (subst (λ q. IsPublished shelf i q limit) (sym key) p) (of_type ∙ sym typed) fits.is in
        (limit, k, omega arith)
    top-known frame (under ∷ rest) (fits, of_type, next, more) (got, eager, next2, more_asked) =
        let (height, known, left) = top-known under rest more more_asked in
        let a = asked-known under height known (comes-to v.types under.node_type under.blob known.refs known.form (first-asked under rest more_asked))
        frame.kind frame.key next in
        let f = fit (identity_of a.r) a.known.slot a.known.claimed in
        let right : frame.node_type ≡ (trees a.r.node.0).type = of_type ∙ ap (λ (x : Kind). type_of x.0) (sym a.of_kind) ∙ sym f.typed in
        let k = known-frame frame (identity_of a.r) a.below a.known right fits.is in
        (a.below, k, omega (arith, above-eager frame.kind.0 a.below height eager a.within, left))

    -- what a load needs that reads it
    needed : (frames : List Frame) → FramesFit v.types stored trees root_key root_type frames → FramesAsked v.types frames → (kind : Kind) (key : ℕ)
        → Needs v.types frames kind key
        → (blob : Blob) × (stored key ≡ Some blob) × (is_eager kind.0 ≡ true → length frames ≤ longest_path)
    needed (frame ∷ below) fits got kind key needs =
        let (height, known, left) = top-known frame below fits got in
        let k = comes-to v.types frame.node_type frame.blob known.refs known.form (first-asked frame below got) in
        let a = asked-known frame height known k kind key (asked below (next_in v.types frame) kind key needs) in
        let b = (fit (identity_of a.r) a.known.slot a.known.claimed).publishes key a.below a.known.known in (
          _,
          b.2.is_stored,
          λ eager. omega (
            arith,
            above-eager kind.0 a.below height eager a.within,
            left,
            ((fit i p.slot p.claimed).publishes root_key limit p.known).2.within,
          ),
        )
    needed x0 fits got kind key x5 = grind basics

    -- the innermost blob is so, where it is read
    pub formed : (frame : Frame) (below : List Frame) → FramesFit v.types stored trees root_key root_type (frame ∷ below) → FramesAsked v.types (frame ∷ below)
        → (own : Meaning ArcRef)
        → next_in v.types frame ≡ reads own → IsForm v frame
    formed frame below fits got own is =
        let known = (top-known frame below fits got).1 in
        let next = comes-to v.types frame.node_type frame.blob known.refs known.form (first-asked frame below got) in
        record { refs = known.refs; form = known.form; kinds = grind (basics, next) }

    -- nothing of it is refused as faulty
    not-broken : (frames : List Frame) → FramesFit v.types stored trees root_key root_type frames → FramesAsked v.types frames → (e : Error)
        → need_of v.types frames ≡ is_broken e → ⊥
    not-broken [] fits got e is = cc
    not-broken (frame ∷ below) fits got e is =
        let known = (top-known frame below fits got).1 in
        grind (basics, next_in, v, comes-to v.types frame.node_type frame.blob known.refs known.form (first-asked frame below got))

pub either : (a b : Option Error) (e : Error) → earlier a b ≡ Some e → (a ≡ Some e) ⊎ (b ≡ Some e)
either None b e is = inr is
either (Some x) None e is = inl is
either (Some x) (Some y) e is = grind basics

abbrev pub Only : (Error → Type 0) → Option Error → Type 0
Only P told = (e : Error) → told ≡ Some e → P e

pub only-earlier : {P : Error → Type 0} (a b : Option Error) → Only P a → Only P b → Only P (earlier a b)
only-earlier a b first second e is = elim (either a b e is) [ inl p ↦ first e p | inr q ↦ second e q ]

pub only-if : (P : Error → Type 0) (b : Bool) (f : Error) → P f → Only P (refused_if b f)
only-if P x0 f p e is = grind basics

pub only-where : {P : Error → Type 0} (b : Bool) (told : Option Error) → Only P told → Only P (where_so b told)
only-where true told only e is = only e is
only-where false told only e is = absurd (cc)

pub only-node : (P : Error → Type 0) (w : Core) (kind : Kind) (key : ℕ) → P Error.NumbersSpent → Only P (node_fault w kind key)
only-node P w kind key p e is = grind (basics, only-if P, only-earlier {P = P})

pub only-refused : {P : Error → Type 0} {cause before : Option Error} {full : Type 0} {w w' : Core} (e : Error) → Refused cause before full w e w'
    → Only P cause → P Error.OutOfMemory → P e
only-refused {P} e r by memory = elim r.why [ inl is ↦ by e is | inr wanting ↦ subst P (sym wanting.0) memory ]

never : (b : Bool) (f e : Error) → b ≡ false → refused_if b f ≡ Some e → ⊥
never _ f e is so = cc

-- Why it is refused: by chance, by a reference of what was read (as a value's own, or by its handle alone), or by the handle that began it.
pub data Cause {N : Type 0} (v : Values N) (w : Core) (load : OpenLoad) (reading : Reading) (e : Error) : Type 0 where
  by-chance : IsOfChance e → Cause v w load reading e
  by-references : (frame : Frame) (below : List Frame) (x : N) → reading.frames ≡ frame ∷ below → (decoded : IsDecoded v frame x) → IsForm v frame
      → references_fault w (Owner.Load reading.load) [] (v.references x) ≡ Some e → Cause v w load reading e
  by-names : (frame : Frame) (below : List Frame) (x : N) → reading.frames ≡ frame ∷ below → (decoded : IsDecoded v frame x) → IsForm v frame
      → named_fault w (Owner.Load reading.load) [] (handles_of (v.references x)) ≡ Some e → Cause v w load reading e
  by-handle : (node : NodeNumber) (t : ℕ) (h : HandleNumber) → load.root ≡ of_cell node t h → handle_fault w Owner.Caller h any_mode ≡ Some e
      → Cause v w load reading e

-- the load is of a key, or of a cell of this type
abbrev pub IsOfType : Root → ℕ → Type 0
IsOfType (of_cell node u h) t = u ≡ t
IsOfType of_key t = Unit {0}

-- The caller's load of a key that a page-out has published, on a table that fits the trees. What it has read fits them too.
pub record OfPagedOut {N : Type 0} (v : Values N) (w : Core) (trees : ℕ → Tree) (reading : Reading) (load : OpenLoad) : Type 0 where
  pub shelf : Shelf
  pub slots : SlotsFit v (record { stored = w.stored; last = w.last.node; trees = trees }) shelf
  pub i : Identity
  pub height : ℕ
  pub known : IsPublished shelf i load.key height
  pub typed : (trees i.node.0).type ≡ reading.node_type
  pub root : IsOfType load.root reading.node_type
  pub open_load : w.loads reading.load.0 ≡ Some load
  pub may : load_fault w Owner.Caller reading.load ≡ None
  pub fits : FramesFit v.types w.stored trees load.key reading.node_type reading.frames
  pub asked : FramesAsked v.types reading.frames

module _ {N : Type 0} (v : Values N) (lawful : IsLawful v) (w : Core) (trees : ℕ → Tree) (reading : Reading) (load : OpenLoad)
    (o : OfPagedOut v w trees reading load) where
  abbrev ground : Ground
  ground = record { stored = w.stored; last = w.last.node; trees = trees }

  found : (blob : Blob) × (w.stored load.key ≡ Some blob)
  found = let b = (o.slots o.i o.known.slot o.known.claimed).publishes load.key o.height o.known.known in (_, b.2.is_stored)

  abbrev C : Error → Type 0
  C e = Cause v w load reading e

  no-load-fault : (P : Error → Type 0) → Only P (load_fault w Owner.Caller reading.load)
  no-load-fault P e is = absurd (cc (sym is ∙ o.may))

  need-there : (kind : Kind) (key : ℕ) → Needs v.types reading.frames kind key → (blob : Blob) × (w.stored key ≡ Some blob)
      × (is_eager kind.0 ≡ true → length reading.frames ≤ longest_path)
  need-there = needed v ground o.shelf o.slots load.key reading.node_type o.i o.height o.known o.typed reading.frames o.fits o.asked

  front : (frames : List Frame) (kind : Kind) (key : ℕ) → need_of v.types frames ≡ needs_nested kind key → is_eager kind.0 ≡ true
  front x0 kind key is = grind (basics, eager-nested)

  form-of : (frame : Frame) (below : List Frame) → reading.frames ≡ frame ∷ below → (x : N) → IsDecoded v frame x → IsForm v frame
  form-of frame below is x decoded = formed v ground o.shelf o.slots load.key reading.node_type o.i o.height o.known o.typed frame below
      (subst (λ fs. FramesFit v.types w.stored trees load.key reading.node_type fs) is o.fits) (subst (λ fs. FramesAsked v.types fs) is o.asked) decoded.own
      decoded.read

  ask-chance : (want : FetchTarget) (mid : Core) (e : Error)
      → Refused (ask_fault w Owner.Caller reading.load want) (ask_fault w Owner.Caller reading.load want) ((is_known w want ≡ true) × AreHandlesFull w) w e
      mid → IsOfChance e
  ask-chance want mid e r = only-refused {P = IsOfChance} e r (only-earlier _ _ (no-load-fault _) (λ e is. grind (basics, only-if IsOfChance))) tt

  nested-asked : (kind : Kind) (key : ℕ) (blob : Blob) (mid : Core) (e : Error) → w.stored key ≡ Some blob
      → LoadFetchCall w Owner.Caller reading.load (FetchTarget.Nested kind key) (Err e) mid → IsOfChance e
  nested-asked kind key blob mid e is c = elim c.refused [
    | inl r ↦ ask-chance (FetchTarget.Nested kind key) mid e r
    | inr (other, owned, vain) ↦ (grind basics)
  ]

  of-lazy : (mid : Core) (e : Error) (kind : Kind) (key : ℕ) → need_of v.types reading.frames ≡ needs_lazy kind key
      → LazyCall w Owner.Caller reading.load kind key (Err e) mid → IsOfChance e
  of-lazy mid e kind key needs c = only-refused {P = IsOfChance} e c.refused
      (only-earlier _ _ (no-load-fault _) (only-earlier _ _ (λ f so. absurd (never _ Error.WrongKind f (grind basics) so))
      (only-node IsOfChance w kind key tt))) tt

  of-node : (mid : Core) (e : Error) → RefusesNode v w Owner.Caller reading e mid → C e
  unfolding FramesFit FramesAsked
  of-node mid e r =
      let n = r.reads_node in
      let right : (is_eager n.top.kind.0 ≡ true) × (n.top.node_type ≡ type_of n.top.kind.0) = grind (basics, o.fits, o.asked, adopted-over) in
      only-refused {P = C} e r.adopted.refused.1 (only-earlier _ _ (no-load-fault _)
      (only-earlier _ _ (λ f so. absurd (never _ Error.WrongMode f (grind basics) so))
      (only-earlier _ _ (λ f so. absurd (never _ Error.WrongKind f (ap (λ x. not (x == (type_of n.top.kind.0))) (n.decoded.typed ∙ right.1)
      ∙ ap not (self-number (type_of n.top.kind.0))) so))
      (only-earlier _ _ (λ f a. by-references n.top n.below r.x n.frames n.decoded (form-of n.top n.below n.frames r.x n.decoded) a)
      (λ f a. by-chance (only-node IsOfChance w n.top.kind n.top.key tt f a)))))) (by-chance tt)

  of-root : (mid : Core) (e : Error) → RefusesRoot v w Owner.Caller reading e mid → C e
  unfolding FramesFit
  of-root mid e r = elim r.refuses [
    | inr (is, handed) ↦
        let same : is.load ≡ load = same_some _ _ (sym is.open_load ∙ o.open_load) in
        only-earlier {P = C} _ _ (no-load-fault _) (only-earlier _ _ (λ f a. absurd (grind (basics, same, o.open_load, is.sort)))
        (λ f a. by-names r.reads_root.root [] r.x r.reads_root.frames r.reads_root.decoded
        (form-of r.reads_root.root [] r.reads_root.frames r.x r.reads_root.decoded) a)) e handed.refused.0
    | inl (is, ended) ↦
        let same : is.load ≡ load = same_some _ _ (sym is.open_load ∙ o.open_load) in
        only-refused {P = C} e ended.refused.1 (only-earlier _ _ (no-load-fault _) (only-earlier _ _
        (λ f a. by-chance (grind (basics, same, is.sort, o.open_load, o.root, o.fits, either, never, only-if IsOfChance, self-number)))
        (λ f a. by-references r.reads_root.root [] r.x r.reads_root.frames r.reads_root.decoded
        (form-of r.reads_root.root [] r.reads_root.frames r.x r.reads_root.decoded) a)))
        (by-chance tt)
  ]

  pub cause : (w' : Core) (e : Error) → Fails v w Owner.Caller reading e w' → C e
  cause w' e (inr r) =
      let c = r.ended.refused in
      let same : c.may.load ≡ load = same_some _ _ (sym c.may.owned.stands_open ∙ o.open_load) in
      by-handle c.node (v.node_type r.x) c.h (ap (λ (x : OpenLoad). x.root) (sym same) ∙ c.may.of_node) c.why
  cause w' e (inl gives) = elim gives.meets [
    | inl (refuses, a) ↦
        by-chance (grind (
          basics,
          not-broken v ground o.shelf o.slots load.key reading.node_type o.i o.height o.known o.typed reading.frames o.fits o.asked,
        ))
    | inr (inl (first, asked)) ↦ by-chance (grind (basics, ask-chance, same_some, o.open_load, found))
    | inr (inr (inl (kind, key, needs, inl asked))) ↦ let n = need-there kind key (inl needs) in by-chance (nested-asked kind key n.0 gives.mid e n.1 asked)
    | inr (inr (inl (kind, key, needs, inr (blob, is, deep, asked)))) ↦
        absurd (omega (arith, (need-there kind key (inl needs)).2 (front reading.frames kind key needs)))
    | inr (inr (inr (inl (kind, key, needs, asked)))) ↦ by-chance (of-lazy gives.mid e kind key needs asked)
    | inr (inr (inr (inr (inl node)))) ↦ of-node gives.mid e node
    | inr (inr (inr (inr (inr root)))) ↦ of-root gives.mid e root
  ]

by-row : (w : Core) (r : ArcRef) (b : Bool) (row : HandleRow) → Only IsOfHandles (row_fault w r (refused_if b Error.NotYours) row)
by-row w r b row e is = grind basics

of-reference : (w : Core) (owner : Owner) (seen : List ℕ) (r : ArcRef) → Only IsOfHandles (reference_fault w owner seen r)
of-reference w owner seen r e is = grind (basics, by-row)

pub by-all : (w : Core) (owner : Owner) (seen : List ℕ) (rs : List ArcRef) → Only IsOfHandles (references_fault w owner seen rs)
unfolding references_fault
by-all w owner seen [] e is = absurd (cc)
by-all w owner seen (r ∷ rs) e is = grind (basics, of-reference, by-all w owner (r.handle.0 ∷ seen) rs)

pub by-handle-row : (w : Core) (me : Owner) (h : HandleNumber) (fits : Mode → Bool) → Only IsOfHandles (handle_fault w me h fits)
by-handle-row w me h fits e is = grind basics

pub by-all-names : (w : Core) (owner : Owner) (seen : List ℕ) (hs : List HandleNumber) → Only IsOfHandles (named_fault w owner seen hs)
unfolding named_fault
by-all-names w owner seen [] e is = absurd (cc)
by-all-names w owner seen (h ∷ hs) e is = only-earlier {P = IsOfHandles} _ _ (λ f so. grind basics) (by-all-names w owner (h.0 ∷ seen) hs) e is

module _ {N B W E : Type 0} (m : Seen N B W) (lawful : IsLawful m.values) (s s' : MachineState N E) (trees trees' : ℕ → Tree)
    (on : IsGoingOn m.values s trees) where
  -- a load whose key was published, as the machine makes its steps
  of-paged-out : (l : LoadNumber) (reading : Reading) (load : OpenLoad) → reading_at (world_of s) l ≡ Some reading
      → load_fault s.pager.core Owner.Caller l ≡ None → s.pager.core.loads l.0 ≡ Some load → IsLoadOfPagedOut s load
      → OfPagedOut m.values s.pager.core trees reading load
  of-paged-out l reading load at may open_load paged =
      let number = reading-number s on.whole l reading at in
      let there = reading-open s on.whole l reading at open_load in
      let going = going-of s trees on.readings reading (reading-stands (world_of s) on.whole.pager.whole l reading at) in
      let own : (s.work.readings l.0 ≡ Some reading → reading.node_type ≡ paged.1) = λ is.
      let a = on.whole.readings l.0 reading is in rw (same_some _ _ (sym a.open_load ∙ open_load), paged.3) at a.typed in
      let of-type : reading.node_type ≡ paged.1 = grind (basics, own) in
      let out = paged.4 in
      record {
        shelf = s.work.shelves out.t;
        slots = on.fits.slots out.t;
        i = out.i;
        height = out.height;
        known = out.known;
        typed = ap (λ n. (trees n).type) out.of_node
            ∙ (on.stands.pager.loads l.0 load paged.0 paged.1 paged.2 open_load paged.3).typed ∙ sym of-type;
        root = subst (λ (x : Root). IsOfType x reading.node_type) (sym paged.3) (sym of-type);
        open_load = there;
        may = ap (load_fault s.pager.core Owner.Caller) number ∙ may;
        fits = going.fits load there;
        asked = going.asked;
      }

  pub load-cause : (l : LoadNumber) (reply : LoadReply N) (x : LoadSteps m.values (world_of s) l reply (world_of s')) (load : OpenLoad) (e : Error)
      → s.pager.core.loads l.0 ≡ Some load
      → IsLoadOfPagedOut s load → reply.ended ≡ Some (LoadAnswer.Refused e) → Cause m.values s.pager.core load x.reading e
  load-cause l reply x load e open_load paged is =
      let fails = subst (λ a. LoadDoes m.values s.pager.core Owner.Caller x.reading a x.frames s'.pager.core) is x.does.does in
      cause m.values lawful s.pager.core trees x.reading load (of-paged-out l x.reading load x.at x.may open_load paged) s'.pager.core e fails.0

  pub load-faultless : (event : Event N B W) (reply : EventReply N B W) → Happens m (world_of s) event reply (world_of s')
      → LoadOfPagedOutIsFaultless s trees event reply s' trees'
  load-faultless (Event.LoadStep l) (EventReply.LoadMoved (Ok reply)) is = λ load e open_load paged ended.
      grind (basics, by-all, by-all-names, by-handle-row, load-cause l reply is.moves load e open_load paged ended)
  load-faultless event reply is = tt
