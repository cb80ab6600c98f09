-- After each turn the pager stands for the trees that it stood for; what was written of each open node is a form of its
-- tree; and each key that was found is read as its node's tree, and is its Merkle key if the keys that cells had are
-- Merkle keys.
use Rattle.pagable_changes.proofs.{
  CellKeys.{IsQuiet, KeysGo, SetsAt, all-keys, quiet-keys, set-keys},
  FormsOverKeys.{alone, blob-reads, both-all, cell-key, each-has, first-down, first-same, first_of, has-now, key_now, ok-map, seen_in, self-equal},
}
use Rattle.pagable_changes.proofs.Passing.{passes}
use Rattle.pagable_changes.specs.{
  Changes.{AllHaveKeys, FinishFails, FinishesOpenNode, FoundKeys, HasKey, OpenChildFails, OpenNodeFails, OpensNode, PagesOutChanged, PagesOutKeyless},
  Changes.{PinNodeFails, PinsLoosely, PinsNode, RecordsKey, ReleasesBoth, ReleasesPath, Stage, StoresBlob, Turn, TurnFails, Turns, Walks, all-is-stored},
  Changes.{EndsTurns, a-turn-fails, blob-is-refused, both-go, cell-gets-key, cell-has-key, cell-is-away, cell-is-not-pinned, cell-is-pinned, cell-is-taken},
  Changes.{clone-is-refused, goes-down, goes-up, handle-is-of-no-cell, has-key, isnt-entered, isnt-left, isnt-taken, isnt-written, key-is-found},
  Changes.{key-is-refused, key-was-found, next-is-lost, no-handle, no-memory-for-path, no-turn, node-is-refused, node-is-taken, none-is-open},
  Changes.{nothing-is-stored, nothing_found, one-goes, one-goes-first, one-more-turn, pin-is-refused, root-has-key, root-has-none, root-is-refused},
  Changes.{root-is-walked, stage, turns-are-spent, walk-is-refused, way-is-too-deep, written_of},
  Keys.{ChangedLaw, HasMerkleKeys, KeylessWrites, TurnWrites, TurnsWrite, WalkWrites, Writes},
  declared.{keys.FoundKey.FoundKey, nodes.OpenNode.OpenNode},
}
use Rattle.pagable_pager_spec.specs.{
  Access.MakesCall,
  Basics.{Among, ArcRef, Blob, Error, HandleNumber, NodeNumber, OptionalDataKey},
  Events.CallDoes,
  Kinds.{held, is_loose},
  Pager.{IsPagerWhole, NodeStands, PagerState, SameTrees, away, here, kids_of},
  Refusals.Owns,
  Runs.{AsksWell, KeepsOpen},
  World.{Core, IsLawful, Values, Written, key_at, row_at},
  declared.{calls.{Call.Call, Reply.Reply}, events.Event.Event, handle_row.{HandleRow.HandleRow, Owner.Owner}},
}
use Rattle.pagable_theorems.proofs.{
  CallEffects.calls-go,
  Decoding.{among-left, among-right},
  FormsOfTrees.{given-of, leads-on, tree-form, wrote},
  HandlesKept.{among-found, found-number, rows-self},
  LoadProgress.{row-held, tree-stays},
  LoadResults.{After, after-then},
  Operations.{Stands, plain-stays},
  ReadingSteps.caller-free,
  Trees.{same-number, same_some},
}
use Rattle.pagable_theorems.specs.TreeSteps.{CallFeels, Change, CoreGoes, FollowsTo, Ground, KeepsStored, WroteTree}
use Rattle.pagable_value_spec.specs.{Canonical.IsReadableType, Merkle.{KeyOf, KeysOf, blob_of, key-of}, Trees.{ReadsTree, Tree, type_of}}
use Rattle.std.proofs.{
  Common.{Err, IfOk, List, Ok, Result, Some, ap, arith, if◌then◌else◌, inl, inr, refl, subst, sym, ℕ, [], ◌<◌, ◌==◌, ◌∙◌, ◌∷◌, ◌≡◌, ◌≤◌},
  lemmas.Bool.{Decides.nat_tests, cases_Bool},
}

-- each of these types is read back
abbrev AreReadable : {N : Type 0} → Values N → (ℕ → Type 0) → Type 0
AreReadable v writes = (t : ℕ) → writes t → IsReadableType v.types t

-- M: that each cell that had a key where the page-out began had the Merkle key of its tree
module _ {N E : Type 0} (v : Values N) (lawful : IsLawful v) (M : Type 0) where
  abbrev AreKeyed : PagerState N E → (ℕ → Tree) → Type 0
  AreKeyed s trees = M → HasMerkleKeys v s trees

  -- ---- what calls leave

  record Went (s : PagerState N E) (trees : ℕ → Tree) (s' : PagerState N E) : Type 0 where
    pub trees' : ℕ → Tree
    pub after : After v s trees s' trees'
    pub now : Stands v s' trees'
    pub kept : KeepsStored s.core.stored s'.core.stored
    pub keys : AreKeyed s trees → AreKeyed s' trees'

  abbrev went-same : {s : PagerState N E} {trees : ℕ → Tree} → Stands v s trees → Went s trees s
  went-same {s} {trees} at = record {
    trees' = trees;
    after = record { same = λ n within. refl; nodes = omega arith; stands = at.stands; handles = omega arith; rows = rows-self _ _ _ refl };
    now = at;
    kept = λ q b is. is;
    keys = λ keyed. keyed;
  }

  abbrev went-then : {s mid s' : PagerState N E} {trees : ℕ → Tree} (a : Went s trees mid) → Went mid a.trees' s' → Went s trees s'
  went-then a b = record {
    trees' = b.trees';
    after = after-then a.after b.after;
    now = b.now;
    kept = λ q x is. b.kept q x (a.kept q x is);
    keys = λ keyed. b.keys (a.keys keyed);
  }

  -- keys are the trees' after a call, where what it set is
  keys-on : (s s' : PagerState N E) {trees trees' : ℕ → Tree} {SetAt : ℕ → ℕ → Type 0} → IsPagerWhole v s → KeysGo s.core s'.core SetAt
      → SameTrees s.core.last.node trees trees'
      → (M → (n key : ℕ) → SetAt n key → KeyOf v.hash v.types (trees n) key) → AreKeyed s trees → AreKeyed s' trees'
  keys-on s s' {trees} {trees'} well go same sets keyed m n key is =
      let (typed, had) = go.each n key is in
      let within = (given-of well.whole.handles n typed.1).1 in
      let its_key : KeyOf v.hash v.types (trees n) key = elim had [ inl was ↦ keyed m n key was | inr set ↦ sets m n key set ] in
      rw (← (same n within)) at its_key

  by-call : {does : Core → Type 0} {s s' : PagerState N E} {trees : ℕ → Tree} {SetAt : ℕ → ℕ → Type 0} (call : Call N Blob) (reply : Reply N Blob)
      → ((c : Change) → CallFeels v s.core Owner.Caller call reply s'.core c → CoreGoes c s.core s'.core → KeysGo s.core s'.core SetAt)
      → (M → (n key : ℕ) → SetAt n key → KeyOf v.hash v.types (trees n) key) → KeepsOpen {N = N} {B = Blob} {W = Written} (Event.Call call)
      → MakesCall v does s s' → (does s'.core → CallDoes (seen_in v) s.core Owner.Caller call reply s'.core) → AsksWell v s trees call reply → Stands v s trees
      → Went s trees s'
  by-call {s = s} {s'} call reply keys_go sets stays_open c is asks at =
      let r = (plain-stays (seen_in v) lawful call reply at c (is c.step) stays_open asks).0 in
      let g = calls-go (seen_in v) s.core Owner.Caller caller-free s'.core call reply stays_open (is c.step) in
      record {
        trees' = r.trees';
        after = r.after;
        now = r.now;
        kept = g.does.goes.stored;
        keys = keys-on s s' at.well (keys_go g.change g.feels g.does.goes) r.after.same sets;
      }

  quietly : {does : Core → Type 0} {s s' : PagerState N E} {trees : ℕ → Tree} (call : Call N Blob) (reply : Reply N Blob) → IsQuiet call
      → KeepsOpen {N = N} {B = Blob} {W = Written} (Event.Call call) → MakesCall v does s s'
      → (does s'.core → CallDoes (seen_in v) s.core Owner.Caller call reply s'.core)
      → AsksWell v s trees call reply → Stands v s trees → Went s trees s'
  quietly call reply quiet = by-call call reply (λ c feels goes. quiet-keys feels quiet goes) (λ m n key set. absurd set)

  lets-go : {s s' : PagerState N E} {trees : ℕ → Tree} {c k : HandleNumber} → ReleasesBoth v c k s s' → Stands v s trees → Went s trees s'
  lets-go {c = c} {k} (both-go told freed mid s' first last) at =
      let a = quietly (Call.Release k) (Reply.Done told) tt tt first (λ d. d) tt at in
      went-then a (quietly (Call.Release c) (Reply.Done freed) tt tt last (λ d. d) tt a.now)
  lets-go {k = k} (one-goes told s' same first) at = quietly (Call.Release k) (Reply.Done told) tt tt first (λ d. d) tt at

  pins-go : {s s' : PagerState N E} {trees : ℕ → Tree} {c : HandleNumber} {r : Result HandleNumber Error} → PinsLoosely v c s r s' → Stands v s trees
      → Went s trees s'
  pins-go {c = c} (cell-is-pinned k s' call) at = quietly (Call.Pin c) (Reply.Pin _) tt tt call (λ d. d) tt at
  pins-go {c = c} (cell-is-away key s' call) at = quietly (Call.Pin c) (Reply.Pin _) tt tt call (λ d. d) tt at
  pins-go {c = c} (cell-is-not-pinned e s' call) at = quietly (Call.Pin c) (Reply.Pin _) tt tt call (λ d. d) tt at

  takes-go : {s s' : PagerState N E} {trees : ℕ → Tree} {r : ArcRef} {c k : HandleNumber} → PinsNode v r s c k s' → Stands v s trees → Went s trees s'
  takes-go {r = r} (cell-is-taken c k told mid low s' loose clones loosens pins) at =
      let a = quietly (Call.Clone r.handle) (Reply.Handle (Ok c)) tt tt clones (λ d. d) tt at in
      let b = quietly (Call.IntoPagable c) (Reply.Handle told) tt tt loosens (λ d. d) tt a.now in
      went-then a (went-then b (pins-go pins b.now))
  takes-go {r = r} (node-is-taken c s' loose clones) at = quietly (Call.Clone r.handle) (Reply.Handle (Ok c)) tt tt clones (λ d. d) tt at

  fails-to-take : {s s' : PagerState N E} {trees : ℕ → Tree} {r : ArcRef} {e : Error} → PinNodeFails v r s e s' → Stands v s trees → Went s trees s'
  fails-to-take {r = r} (clone-is-refused e s' clones) at = quietly (Call.Clone r.handle) (Reply.Handle (Err e)) tt tt clones (λ d. d) tt at
  fails-to-take {r = r} (pin-is-refused c told freed e mid low late s' clones loosens pins releases) at =
      let a = quietly (Call.Clone r.handle) (Reply.Handle (Ok c)) tt tt clones (λ d. d) tt at in
      let b = quietly (Call.IntoPagable c) (Reply.Handle told) tt tt loosens (λ d. d) tt a.now in
      let d = pins-go pins b.now in
      went-then a (went-then b (went-then d (quietly (Call.Release c) (Reply.Done freed) tt tt releases (λ x. x) tt d.now)))

  fails-to-enter : {s s' : PagerState N E} {trees : ℕ → Tree} {r : ArcRef} {e : Error} → OpenNodeFails v r s e s' → Stands v s trees → Went s trees s'
  fails-to-enter (isnt-taken e s' fails) at = fails-to-take fails at
  fails-to-enter (isnt-written e c k mid s' takes why lets) at = let a = takes-go takes at in went-then a (lets-go lets a.now)

  goes-nowhere : {s s' : PagerState N E} {trees : ℕ → Tree} {r : ArcRef} {o : OpenNode} {e : Error} → OpenChildFails v r o s e s' → Stands v s trees
      → Went s trees s'
  goes-nowhere (way-is-too-deep far) at = went-same at
  goes-nowhere no-memory-for-path at = went-same at
  goes-nowhere (node-is-refused e s' fails) at = fails-to-enter fails at

  -- ---- what was written and found fits the trees

  abbrev ground : PagerState N E → (ℕ → Tree) → Ground
  ground s trees = record { stored = s.core.stored; last = s.core.last.node; trees = trees }

  -- the key reads as the node's tree, and is its Merkle key
  record KeyReads (s : PagerState N E) (trees : ℕ → Tree) (n key : ℕ) : Type 0 where
    pub given : n ≤ s.core.last.node
    pub reads : ReadsTree s.core.stored v.types key (trees n)
    pub is_key : M → KeyOf v.hash v.types (trees n) key

  -- what was written of the node is a form of its tree, and the handle by which its key is set is the node's
  record OpenFits (s : PagerState N E) (trees : ℕ → Tree) (o : OpenNode) : Type 0 where
    pub given : o.reference.node.0 ≤ s.core.last.node
    pub wrote : WroteTree v.types (ground s trees) o.reference.node.0 (written_of o.written)
    pub typed : (r : ArcRef) → Among (written_of o.written).references r → (trees r.node.0).type ≡ type_of r.kind.0
    pub small : o.cloned.0 ≤ s.core.last.handle
    pub cloned : (row : HandleRow) → row_at s.core o.cloned ≡ Some row → row.node ≡ o.reference.node

  abbrev FoundFits : PagerState N E → (ℕ → Tree) → FoundKeys → Type 0
  FoundFits s trees found = (n : ℕ) (k : FoundKey) → found n ≡ Some k → KeyReads s trees n k.key

  key-on : {s s' : PagerState N E} {trees : ℕ → Tree} (a : Went s trees s') {n key : ℕ} → KeyReads s trees n key → KeyReads s' a.trees' n key
  key-on {s' = s'} a {n} {key} k = record {
    given = let more = a.after.nodes in let g = k.given in omega (arith, more, g);
    reads = rw (← (a.after.same n k.given)) at (tree-stays a.kept k.reads);
    is_key = λ m. rw (← (a.after.same n k.given)) at (k.is_key m);
  }

  wrote-on : {s s' : PagerState N E} {trees : ℕ → Tree} (a : Went s trees s') {n : ℕ} {written : Written} → n ≤ s.core.last.node
      → WroteTree v.types (ground s trees) n written
      → WroteTree v.types (ground s' a.trees') n written
  wrote-on {s} {s'} {trees} a {n} {written} given w =
      let same = a.after.same n given in
      let inside : (r : ArcRef) → Among written.references r → r.node.0 ≤ s'.core.last.node = λ r among. let le = w.given r among in let more =
      a.after.nodes in omega (arith, le, more) in
      let follows : FollowsTo a.trees' written.references w.own (a.trees' n).meaning =
      leads-on (rw (← same) at w.follows)
      (λ r own among. (among, a.after.same r.node.0 (w.given r among))) in
      let can = rw (← same) at w.can in
      record {
        shape = w.shape;
        own = w.own;
        is = ap (λ (t : Tree). v.types.nodes t.type) same ∙ w.is;
        can = can;
        form = w.form;
        follows = follows;
        given = inside;
        once = w.once;
      }

  open-on : {s s' : PagerState N E} {trees : ℕ → Tree} (a : Went s trees s') {o : OpenNode} → OpenFits s trees o → OpenFits s' a.trees' o
  open-on {s} {s'} {trees} a {o} f = record {
    given = let more = a.after.nodes in let g = f.given in omega (arith, more, g);
    wrote = wrote-on a f.given f.wrote;
    typed = λ r among. ap (λ (t : Tree). t.type) (a.after.same r.node.0 (f.wrote.given r among)) ∙ f.typed r among;
    small = let more = a.after.handles in let g = f.small in omega (arith, more, g);
    cloned = λ row live. let was = a.after.rows o.cloned.0 row live f.small in sym was.at ∙ f.cloned was.was was.live;
  }

  enters-fit : {s s' : PagerState N E} {trees : ℕ → Tree} {r : ArcRef} {depth : ℕ} {o : OpenNode} → OpensNode v r depth s o s'
      → IsReadableType v.types (type_of r.kind.0) → Stands v s trees
      → (a : Went s trees s') × OpenFits s' a.trees' o
  enters-fit {s} {s'} {trees} {r} {depth} {o} e readable at =
      let a = takes-go e.takes at in
      let w = e.writes in
      let at_node = w.pin_at.found in
      let shows = w.writes.shown.found in
      let x = w.writes.x in
      let rows : at_node.0 ≡ shows.0 = same_some _ _ (sym at_node.1 ∙ shows.1) in
      let nodes : shows.0.node ≡ r.node = ap (λ (row : HandleRow). row.node) (sym rows) ∙ sym at_node.2 in
      let has : s'.values r.node.0 ≡ Some x = ap (λ n. s'.values n.0) (sym nodes) ∙ shows.2.1 in
      let well = a.now.well in
      let typed = well.typed r.node.0 x has in
      let live = given-of well.whole.handles r.node.0 typed in
      let o_is = e.of in
      let cloned = w.at.found in
      let type_is : type_of r.kind.0 ≡ (a.trees' r.node.0).type =
      sym w.writes.typed ∙ same_some _ _ (sym typed ∙ a.now.stands.typed r.node.0 live.0) in
      let written : WroteTree v.types (ground s' a.trees') r.node.0 (written_of o.written) =
      wrote a.now.stands well a.now.settled lawful r.node.0 (written_of o.written) (subst (λ t. IsReadableType v.types t) type_is readable)
      (record { x = x; held = has; form = w.writes.form.form; listed = w.writes.form.listed }) in (
        a,
        record {
          given = subst (λ (q : ArcRef). q.node.0 ≤ s'.core.last.node) (sym o_is) live.1;
          wrote = subst (λ (q : ArcRef). WroteTree v.types (ground s' a.trees') q.node.0 (written_of o.written)) (sym o_is) written;
          typed = λ q among.
              let is = well.references r.node.0 x q has (rw w.writes.form.listed at among) in
              same_some _ _ (sym (a.now.stands.typed q.node.0 (given-of well.whole.handles q.node.0 is.typed).0) ∙ is.typed);
          small = rw (found-number o.cloned.0 s'.core.rows cloned.0 cloned.1) at (well.whole.handles.numbered cloned.0
              (among-found o.cloned.0 s'.core.rows cloned.0 cloned.1)).1;
          cloned = λ row is. ap (λ (q : HandleRow). q.node) (same_some _ _ (sym is ∙ cloned.1)) ∙ sym cloned.2 ∙ ap (λ (q : ArcRef). q.node) (sym o_is);
        },
      )

  key-fits : {s : PagerState N E} {n : ℕ} {t : Tree} → NodeStands v s n t → (key : ℕ) → key_at s.core n ≡ OptionalDataKey.Some key
      → ReadsTree s.core.stored v.types key t
  key-fits (here n x own t there typed means stands fits) key set = fits key set
  key-fits (away n key2 t none keyed2 fits) key set = fits key set

  -- ---- the blob over the keys that are there reads as the node's tree

  has-reads : {s : PagerState N E} {trees : ℕ → Tree} {found : FoundKeys} {r : ArcRef} {key : ℕ} → Stands v s trees → AreKeyed s trees
      → FoundFits s trees found
      → HasKey found s.core r key → KeyReads s trees r.node.0 key
  has-reads {s} {trees} {r = r} {key} at keyed fits (cell-has-key key2 loose node keys) =
      let live = rw (← node.found.2) at (row-held s.core r.handle node.found.0 node.found.1) in
      record {
        given = (given-of at.well.whole.handles r.node.0 (at.stands.typed r.node.0 live)).1;
        reads = key-fits (at.stands.stands r.node.0 live) key2 (cell-key r node keys);
        is_key = λ m. keyed m r.node.0 key2 (cell-key r node keys);
      }
  has-reads at keyed fits (key-was-found k eager is) = fits _ k is

  found-on : {s s' : PagerState N E} {trees : ℕ → Tree} (a : Went s trees s') {found : FoundKeys} → FoundFits s trees found → FoundFits s' a.trees' found
  found-on a fits = λ n k is. key-on a (fits n k is)

  -- the blob is stored
  record Stored (s : PagerState N E) (trees : ℕ → Tree) (o : OpenNode) (key : ℕ) (mid : PagerState N E) : Type 0 where
    pub went : Went s trees mid
    pub fits : OpenFits mid went.trees' o
    pub reads : KeyReads mid went.trees' o.reference.node.0 key

  stores-fit : {s mid : PagerState N E} {trees : ℕ → Tree} {o : OpenNode} {found : FoundKeys} {key : ℕ} {keys : List ℕ}
      → AllHaveKeys found s.core (written_of o.written).references keys
      → StoresBlob v s (blob_of (written_of o.written).bytes keys) (Ok key) mid → Stands v s trees → AreKeyed s trees → OpenFits s trees o
      → FoundFits s trees found → Stored s trees o key mid
  stores-fit {s} {mid} {trees} {o} {found} {key} {keys} have stores at keyed fits founds =
      let blob = blob_of (written_of o.written).bytes keys in
      let a = quietly (Call.Store blob) (Reply.Stored (Ok key)) tt tt stores (λ d. d) tt at in
      let f = open-on a fits in
      let is_stored : mid.core.stored key ≡ Some blob = stores.step.stores.1.adds.each key
      ∙ ap (λ b. if b then Some blob else s.core.stored key) (self-equal key) in
      let each : (r : ArcRef) → Among (written_of o.written).references r
      → ((a.trees' r.node.0).type ≡ type_of r.kind.0) × ReadsTree mid.core.stored v.types (key_now found s.core r) (a.trees' r.node.0) = λ r among.
      let h = each-has have r among in (
        f.typed r among,
        rw (← (has-now h.1)) at (key-on a (has-reads at keyed founds h.1)).reads,
      ) in
      let kids : M → KeysOf v.hash v.types (kids_of a.trees' (written_of o.written).references) keys = λ m.
      all-keys a.trees' have (λ r q among has. rw (← f.typed r among) ((key-on a (has-reads at keyed founds has)).is_key m)) in
      let is_key : M → KeyOf v.hash v.types (a.trees' o.reference.node.0) key = λ m.
      rw (← stores.step.stores.0) at (key-of (a.trees' o.reference.node.0) f.wrote.shape (written_of o.written).bytes
      (kids_of a.trees' (written_of o.written).references) keys f.wrote.is
      (tree-form f.wrote) (kids m)) in
      record { went = a; fits = f; reads = record { given = f.given; reads = blob-reads f.wrote have each is_stored; is_key = is_key } }

  -- the key that is set through the node's handle is its tree's
  set-is-key : {s : PagerState N E} {trees : ℕ → Tree} {o : OpenNode} {key : ℕ} → OpenFits s trees o → KeyReads s trees o.reference.node.0 key
      → M → (n q : ℕ) → SetsAt s.core o.cloned key n q → KeyOf v.hash v.types (trees n) q
  set-is-key {trees = trees} {o} f k m n q (row, live, at_node, is) =
      let node : n ≡ o.reference.node.0 = at_node ∙ ap (λ (x : NodeNumber). x.0) (f.cloned row live) in
      rw (node, is) (k.is_key m)

  -- its key is set, or found from now on
  record Set (s : PagerState N E) (trees : ℕ → Tree) (found' : FoundKeys) (s' : PagerState N E) : Type 0 where
    pub went : Went s trees s'
    pub found : FoundFits s' went.trees' found'

  sets-fit : {s s' : PagerState N E} {trees : ℕ → Tree} {o : OpenNode} {found found' : FoundKeys} {known : FoundKey} → RecordsKey v found o known s found' s'
      → Stands v s trees → OpenFits s trees o
      → FoundFits s trees found → KeyReads s trees o.reference.node.0 known.key → Set s trees found' s'
  sets-fit {s} {trees = trees} {o} {known = known} (cell-gets-key found' s' loose sets same) at f founds k =
      let b = by-call (Call.SetDataKey o.cloned known.key) (Reply.Done (Ok tt)) (λ c feels goes. set-keys o.cloned known.key (refl, refl) feels goes)
      (set-is-key f k) tt sets (λ d. d)
      (λ row owns. rw (← (f.cloned row owns.live)) at k.reads) at in
      record { went = b; found = λ n x is. key-on b (founds n x (sym (same n) ∙ is)) }
  sets-fit {s} {trees = trees} {o} {known = known} (key-is-found found' eager there others) at f founds k = record {
    went = went-same at;
    found = λ n y was. elim (cases_Bool (n == o.reference.node.0)) [
      | inl e ↦
          let same = same-number n o.reference.node.0 e in
          let y_is : y ≡ known = same_some _ _ (sym was ∙ ap found' same ∙ there) in
          let keys : known.key ≡ y.key = ap (λ (z : FoundKey). z.key) (sym y_is) in
          rw (← same) at (rw keys at k)
      | inr e ↦ founds n y (sym (others n (λ same. absurd (grind (arith, nat_tests)))) ∙ was)
    ];
  }

  record Left (s : PagerState N E) (trees : ℕ → Tree) (o : OpenNode) (key : ℕ) (found' : FoundKeys) (s' : PagerState N E) : Type 0 where
    pub went : Went s trees s'
    pub found : FoundFits s' went.trees' found'
    pub reads : KeyReads s' went.trees' o.reference.node.0 key

  leaves-fit : {s s' : PagerState N E} {trees : ℕ → Tree} {o : OpenNode} {found found' : FoundKeys} {key : ℕ} → FinishesOpenNode v found s o key found' s'
      → Stands v s trees → AreKeyed s trees
      → OpenFits s trees o → FoundFits s trees found → Left s trees o key found' s'
  leaves-fit l at keyed fits founds =
      let a = stores-fit l.have l.stores at keyed fits founds in
      let b = sets-fit l.sets a.went.now a.fits (found-on a.went founds) a.reads in
      let d = lets-go l.lets b.went.now in
      record { went = went-then a.went (went-then b.went d); found = found-on d b.found; reads = key-on d (key-on b.went a.reads) }

  finish_open_node-fails : {s s' : PagerState N E} {trees : ℕ → Tree} {o : OpenNode} {found : FoundKeys} {e : Error} → FinishFails v found s o e s'
      → Stands v s trees
      → AreKeyed s trees
      → OpenFits s trees o → FoundFits s trees found → Went s trees s'
  finish_open_node-fails (nothing-is-stored e why) at keyed fits founds = went-same at
  finish_open_node-fails (blob-is-refused e keys s' have stores) at keyed fits founds =
      quietly (Call.Store _) (Reply.Stored (Err e)) tt tt stores (λ d. d) tt at
  finish_open_node-fails {o = o} (key-is-refused e key keys mid s' have stores unset) at keyed fits founds =
      let a = stores-fit have stores at keyed fits founds in
      let asks = λ (row : HandleRow) (owns : Owns mid.core Owner.Caller o.cloned is_loose row).
      subst (λ n. ReadsTree mid.core.stored v.types key (a.went.trees' n.0)) (sym (a.fits.cloned row owns.live)) a.reads.reads in
      went-then a.went (by-call (Call.SetDataKey o.cloned key) (Reply.Done (Err e)) (λ c feels goes. set-keys o.cloned key (refl, refl) feels goes)
      (set-is-key a.fits a.reads) tt unset.refused (λ d. d) asks a.went.now)

  -- ---- turn by turn

  -- what stands open, what was found and the pager fit the trees, and the walk began at this reference
  record Fits (a : Stage N E) (trees : ℕ → Tree) (r : ArcRef) : Type 0 where
    pub at : Stands v a.pager trees
    pub keyed : AreKeyed a.pager trees
    pub node : OpenFits a.pager trees a.node
    pub path : (o : OpenNode) → Among a.path o → OpenFits a.pager trees o
    pub found : FoundFits a.pager trees a.found
    pub first : (first_of a.path a.node).reference ≡ r

  looks-further : {s : PagerState N E} {trees : ℕ → Tree} {o : OpenNode} (next : ℕ) → OpenFits s trees o → OpenFits s trees (record o { keyed = next })
  looks-further next f = record { given = f.given; wrote = f.wrote; typed = f.typed; small = f.small; cloned = f.cloned }

  turn-fits : {a b : Stage N E} {trees : ℕ → Tree} {r : ArcRef} (turn : Turn v a b) → AreReadable v (TurnWrites turn) → Fits a trees r
      → (w : Went a.pager trees b.pager) × Fits b w.trees' r
  turn-fits {a} {b} {trees} {r} (has-key b2 q key next at has one is) readable f =
      rw is (
        went-same f.at,
        record {
          at = f.at;
          keyed = f.keyed;
          node = looks-further next f.node;
          path = f.path;
          found = f.found;
          first = first-same a.path a.node next ∙ f.first;
        },
      )
  turn-fits {a} {b} {trees} {r} (goes-down b2 q depth at none leads waits same enters) readable f =
      let (w, node) = enters-fit enters (readable (type_of q.kind.0) refl) f.at in (
        w,
        record {
          at = w.now;
          keyed = w.keys f.keyed;
          node = node;
          path = rw waits (both-all a.path (a.node ∷ []) (λ o in_it. open-on w (f.path o in_it))
              (alone (OpenFits b.pager w.trees') a.node (open-on w f.node)));
          found = subst (FoundFits b.pager w.trees') (sym same) (found-on w f.found);
          first = ap (λ p. (first_of p b.node).reference) waits ∙ ap (λ (o : OpenNode). o.reference) (first-down a.path a.node b.node) ∙ f.first;
        },
      )
  turn-fits {a} {b} {trees} {r} (goes-up b2 key waits leaves) readable f =
      let l = leaves-fit leaves f.at f.keyed f.node f.found in
      let path = rw waits at f.path in (
        l.went,
        record {
          at = l.went.now;
          keyed = l.went.keys f.keyed;
          node = open-on l.went (path b.node (among-right b.path (b.node ∷ []) 0 b.node refl));
          path = λ o among. open-on l.went (path o (among-left b.path (b.node ∷ []) among.0 o among.1));
          found = l.found;
          first = sym (ap (λ (o : OpenNode). o.reference) (first-down b.path b.node a.node)) ∙ ap (λ p. (first_of p a.node).reference) (sym waits) ∙ f.first;
        },
      )

  turns-fit : {a b : Stage N E} {trees : ℕ → Tree} {r : ArcRef} (turns : Turns v a b) → AreReadable v (TurnsWrite turns) → Fits a trees r
      → (w : Went a.pager trees b.pager) × Fits b w.trees' r
  unfolding TurnsWrite
  turns-fit (no-turn a) readable f = (went-same f.at, f)
  turns-fit (one-more-turn a b c more last) readable f =
      let (w, g) = turns-fit more (λ t writes. readable t (inl writes)) f in
      let (u, h) = turn-fits last (λ t writes. readable t (inr writes)) g in (went-then w u, h)

  turn-fails : {a : Stage N E} {s' : PagerState N E} {trees : ℕ → Tree} {r : ArcRef} {e : Error} → TurnFails v a e s' → Fits a trees r → Went a.pager trees s'
  turn-fails (next-is-lost e q at vain) f = went-same f.at
  turn-fails (isnt-entered e q s' at none fails) f = goes-nowhere fails f.at
  turn-fails (isnt-left e s' fails) f = finish_open_node-fails fails f.at f.keyed f.node f.found

  turns-end : {a : Stage N E} {count : ℕ} {s' : PagerState N E} {trees : ℕ → Tree} {r : ArcRef} {e : Error} → EndsTurns v a count e s' → Fits a trees r
      → Went a.pager trees s'
  turns-end (a-turn-fails e s' fails) f = turn-fails fails f
  turns-end (turns-are-spent spent) f = went-same f.at

  gives-up : {path : List OpenNode} {s s' : PagerState N E} {trees : ℕ → Tree} → ReleasesPath v path s s' → Stands v s trees → Went s trees s'
  gives-up (none-is-open s) at = went-same at
  gives-up (one-goes-first path o s mid s' lets more) at = let a = lets-go lets at in went-then a (gives-up more a.now)

  begun : {s : PagerState N E} {trees : ℕ → Tree} {first : OpenNode} → Stands v s trees → AreKeyed s trees → OpenFits s trees first
      → Fits (stage [] first nothing_found s) trees first.reference
  begun at keyed fits = record { at = at; keyed = keyed; node = fits; path = λ o among. absurd cc; found = λ n k is. absurd cc; first = refl }

  walks-fit : {s s' : PagerState N E} {trees : ℕ → Tree} {first : OpenNode} {answer : Result ℕ Error} (walk : Walks v first s answer s')
      → AreReadable v (WalkWrites walk) → Stands v s trees → AreKeyed s trees → OpenFits s trees first
      → (w : Went s trees s') × IfOk answer (λ key. KeyReads s' w.trees' first.reference.node.0 key)
  walks-fit {first = first} (all-is-stored a b key turns none leaves) readable at keyed fits =
      let (w, g) = turns-fit turns readable (begun at keyed fits) in
      let l = leaves-fit leaves g.at g.keyed g.node g.found in
      let is : a.node.reference ≡ first.reference = sym (ap (λ p. (first_of p a.node).reference) none) ∙ g.first in
      (went-then w l.went, subst (λ (q : ArcRef). KeyReads b.pager l.went.trees' q.node.0 key) is l.reads)
  walks-fit (walk-is-refused a e mid low s' turns fails lets gives) readable at keyed fits =
      let (w, g) = turns-fit turns readable (begun at keyed fits) in
      let t = turns-end fails g in
      let u = lets-go lets t.now in
      (went-then w (went-then t (went-then u (gives-up gives u.now))), tt)

  keyless-fits : {s s' : PagerState N E} {trees : ℕ → Tree} {h : HandleNumber} {r : Result ℕ Error} (row : HandleRow) (run : PagesOutKeyless v s h r s')
      → AreReadable v (KeylessWrites run) → Stands v s trees → AreKeyed s trees
      → row_at s.core h ≡ Some row → (w : Went s trees s') × IfOk r (λ key. KeyReads s' w.trees' row.node.0 key)
  keyless-fits row (handle-is-of-no-cell e why) readable at keyed live = (went-same at, tt)
  keyless-fits row (root-is-refused q e s' root fails) readable at keyed live = (fails-to-enter fails at, tt)
  keyless-fits {s} {s'} row (root-is-walked q first answer mid s2 root enters walks) readable at keyed live =
      let (w, fits) = enters-fit enters (readable (type_of q.kind.0) (inl refl)) at in
      let (u, reads) = walks-fit walks (λ t writes. readable t (inr writes)) w.now (w.keys keyed) fits in
      let rows : root.at.found.0 ≡ row = same_some _ _ (sym root.at.found.1 ∙ live) in
      let nodes : first.reference.node ≡ row.node = ap (λ (x : ArcRef). x.node) enters.of ∙ root.at.found.2 ∙ ap (λ (x : HandleRow). x.node) rows in
      (went-then w u, subst (λ n. IfOk answer (λ key. KeyReads s' u.trees' n.0 key)) nodes reads)

  pages-fit : {s s' : PagerState N E} {trees : ℕ → Tree} {h : HandleNumber} {r : Result ℕ Error} (row : HandleRow) (run : PagesOutChanged v s h r s')
      → AreReadable v (Writes run) → Stands v s trees → AreKeyed s trees
      → row_at s.core h ≡ Some row → (w : Went s trees s') × IfOk r (λ key. KeyReads s' w.trees' row.node.0 key)
  pages-fit row (no-handle e keys) readable at keyed live = (went-same at, tt)
  pages-fit {s} {h = h} row (root-has-key key keys) readable at keyed live =
      let rows : keys.found.0 ≡ row = same_some _ _ (sym keys.found.1 ∙ live) in
      let set : key_at s.core row.node.0 ≡ OptionalDataKey.Some key = ap (λ (q : HandleRow). key_at s.core q.node.0) (sym rows) ∙ sym keys.found.2 in
      let held = row-held s.core h row live in (
        went-same at,
        record {
          given = (given-of at.well.whole.handles row.node.0 (at.stands.typed row.node.0 held)).1;
          reads = key-fits (at.stands.stands row.node.0 held) key set;
          is_key = λ m. keyed m row.node.0 key set;
        },
      )
  pages-fit row (root-has-none answer s' keys pages) readable at keyed live = keyless-fits row pages readable at keyed live

  -- the same of any handle
  any-fits : {s s' : PagerState N E} {trees : ℕ → Tree} {h : HandleNumber} {r : Result ℕ Error} (run : PagesOutChanged v s h r s')
      → AreReadable v (Writes run) → Stands v s trees → AreKeyed s trees → Went s trees s'
  any-fits (no-handle e keys) readable at keyed = went-same at
  any-fits (root-has-key key keys) readable at keyed = went-same at
  any-fits (root-has-none answer s' keys pages) readable at keyed = (keyless-fits keys.found.0 pages readable at keyed keys.found.1).0

pub changed_law : {N : Type 0} (E : Type 0) (v : Values N) → ChangedLaw E v
changed_law E v s s' h r well lawful = record {
  reads = λ run readable nobody settled row trees stands live.
      let (w, reads) = pages-fit v lawful (HasMerkleKeys v s trees) row run readable
      (record { well = well; nobody = nobody; settled = settled; stands = stands }) (λ m. m) live in
      record {
        trees' = w.trees';
        same = w.after.same;
        stands = w.after.stands;
        reads = ok-map r (λ key k. k.reads) reads;
        keys = w.keys (λ m. m);
        is_key = λ m. ok-map r (λ key k. k.is_key m) reads;
      };
  operates = λ run readable.
      let p = passes v run well in
      record {
        moves = p.moves;
        whole = p.whole;
        stay = λ nobody settled trees stands.
            let w = any-fits v lawful ⊥ run readable (record { well = well; nobody = nobody; settled = settled; stands = stands }) (λ m. absurd m) in
            record {
              trees' = w.trees';
              same = w.after.same;
              stands = w.after.stands;
              nobody = w.now.nobody;
              nodes = w.after.nodes;
              handles = w.after.handles;
              rows = w.after.rows;
              stored = w.kept;
            };
      };
}
