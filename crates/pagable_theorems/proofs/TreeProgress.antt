-- What a step brings fits some trees afterwards: if a pager stands for trees, each value and key leads to its node's tree by its own
-- references; and from that the pager stands for the trees again, so that each node can be treated by itself.
use Rattle.pagable_pager_spec.specs.{
  Basics.is_pinned_kind,
  Loads.{Next, ReadsNode, need_at, to_adopt},
  Pager.{CallBrings, IsCellOf, IsNewNode, KeyFits, MeaningStands, Moves, NodeStands, ReadingBrings, ReadsNodeTree, SameTrees, away, followed-stands, here},
  Pager.{integer-stands, none-stands, number-stands, pair-stands, pattern-stands, reference-stands, text-stands, variant-stands},
  Runs.{AsksWell, TakesWell},
}
use Rattle.pagable_theorems.proofs.{
  Decoding.{decodes, meant-refs},
  EventEffects.{new-node, old-node},
  FormsOfTrees.{cell-of, given-of, halves, held-of, leads-on, one-node, stands-leads},
  HandlesKept.updated-at,
  LoadProgress.{AllGot, first-fits, node-stays, tree-stays},
  Naturality.along-rename,
  Trees.{one_tree, same_some, tree_is},
  Words.{Among, ArcRef, Blob, Bool, Call, Change, Core, Frame, FramesFit, HoldsSettled, IsLawful, IsPagerWhole, IsReadableType, IsReference, List, LoadAnswer},
  Words.{Meaning, None, OpenLoad, Option, OptionalDataKey, Owner, PagerStandsFor, PagerState, Reading, ReadingFeels, ReadingFits, ReadsRoot, ReadsTree, Reply},
  Words.{Some, Tree, Types, Values, ap, arith, basics, bears_known, cases_lt, false, first_key, followed, held, if◌then◌else◌, inl, inr, integer-leads},
  Words.{is_some, key_at, none, nothing_felt, pair, reference, references_in, refl, rules, subst, sym, tree, true, type_of, updated, variant, zero, ℕ, [], ◌+◌},
  Words.{◌<◌, ◌==◌, ◌∙◌, ◌∷◌, ◌≡◌, ◌≤◌, ◌⊎◌},
}
use Rattle.pagable_theorems.specs.{
  TreeSteps.{CallFeels, ChangeFits, CoreGoes, Decoded, LeadsTo, NodeLeads, SameNode, StaysAway, ValueLeads, bears_node, feels-adopted, feels-away, feels-birth},
  TreeSteps.{feels-end, feels-key, feels-known, feels-lazy, feels-nothing, followed-leads, gets-lazy, makes-node, none-leads, number-leads, pair-leads},
  TreeSteps.{pattern-leads, reference-leads, sets_key, text-leads, variant-leads},
}
use Rattle.pagable_value_spec.specs.Meaning.{integer, number, pattern, text}

pub adopted-over : (below : List Frame) (next : Next) → need_at below next ≡ to_adopt → (frame : Frame) × (rest : List Frame) × (below ≡ frame ∷ rest)
adopted-over x0 x1 is = grind basics

pub root-key : (types : Types) (stored : ℕ → Option Blob) (trees : ℕ → Tree) (k t : ℕ) (frame : Frame) → FramesFit types stored trees k t (frame ∷ [])
    → frame.key ≡ k
unfolding FramesFit
root-key types stored trees k t frame h = h.1

module _ {N : Type 0} {v : Values N} (lawful : IsLawful v) where
  -- what becomes a node leads to a tree of its kind's type, as which its key reads
  node-decoded : (stored : ℕ → Option Blob) (trees : ℕ → Tree) (k t : ℕ) (reading : Reading) (x : N) (r : ReadsNode v reading x)
      → IsReadableType v.types r.top.node_type → FramesFit v.types stored trees k t reading.frames
      → Decoded v stored trees r.top x × (r.top.node_type ≡ type_of r.top.kind.0)
  unfolding FramesFit
  node-decoded stored trees k t reading x r readable fit = grind (basics, adopted-over, decodes, first-fits)

-- a meaning whose references' nodes have trees of their kinds' types leads to one
pub led : {trees : ℕ → Tree} (x : Meaning ArcRef) → ((r : ArcRef) → Among (references_in x) r → (trees r.node.0).type ≡ type_of r.kind.0) → (a : Meaning ⊥)
    × LeadsTo trees x a
unfolding references_in
led (number i) h = (number i, number-leads i)
led (integer z) h = (integer z, integer-leads z)
led (text t) h = (text t, text-leads t)
led (pattern t) h = (pattern t, pattern-leads t)
led none h = (none, none-leads)
led (pair x y) h =
    let p = halves (references_in x) (references_in y) h in
    let left = led x p.0 in
    let right = led y p.1 in
    (pair left.0 right.0, pair-leads x y left.0 right.0 left.1 right.1)
led (variant i x) h = let l = led x h in (variant i l.0, variant-leads i x l.0 l.1)
led {trees} (reference r) h = (followed r.kind.0 (trees r.node.0).meaning, reference-leads r _ (h r (zero, refl)) refl)
led (followed kind x) h = let l = led x h in (followed kind l.0, followed-leads kind x l.0 tt l.1)

-- ---- from what the pager stands for to what its values lead to

-- the references of a value's meaning are its own
own-refs : {N : Type 0} {v : Values N} → IsLawful v → (x : N) (own : Meaning ArcRef) → v.means x own → (r : ArcRef) → Among (references_in own) r
    → Among (v.references x) r
own-refs lawful x own means r among = meant-refs _ _ (λ is. sym (lawful.refers x own means is)) r among

-- a value whose references were given leads to its tree where those nodes keep their trees
value-on : {N : Type 0} {v : Values N} → IsLawful v → (last : ℕ) {trees trees' : ℕ → Tree} {x : N} {t : Tree} → SameTrees last trees trees'
    → ((r : ArcRef) → Among (v.references x) r → r.node.0 ≤ last) → ValueLeads v trees x t → ValueLeads v trees' x t
value-on lawful last {trees' = trees'} {x = x} {t = t} same few l =
    let leads : LeadsTo trees' l.own t.meaning = leads-on l.leads
    (λ r among typed. let e = same r.node.0 (few r (own-refs lawful x l.own l.means r among)) in (ap (λ (t : Tree). t.type) e ∙ typed, e)) in
    search (l.typed, l.means)

module _ {N E : Type 0} {v : Values N} {s : PagerState N E} {trees : ℕ → Tree} (lawful : IsLawful v) where
  module _ (settled : HoldsSettled v s) (well : IsPagerWhole v s) (stands : PagerStandsFor v s trees) where
    -- a value whose references are good, and which stands for a tree, leads to it
    value-leads : (x : N) (own : Meaning ArcRef) (t : Tree) (owner : _) → v.node_type x ≡ t.type → v.means x own → MeaningStands v s own t.meaning
        → ((r : ArcRef) → Among (v.references x) r → IsReference s.core owner r) → ValueLeads v trees x t
    value-leads x own t owner typed means meant good =
        let leads : LeadsTo trees own t.meaning = stands-leads meant (along-rename (λ r. r) own)
        (λ r among c same b node. grind (basics, given-of, same_some, one-node, good r (own-refs lawful x own means r among))) in
        search

    -- so does each value in memory; and each key reads as its node's tree
    node-leads : {n : ℕ} {t : Tree} → NodeStands v s n t → t ≡ trees n → NodeLeads v s trees n
    node-leads (here n x own t is typed means meant fits) e =
        grind (basics, key_at, same_some, value-leads x own t _ typed means meant (λ r among. well.references n x r is among))
    node-leads (away n key t nothing_there keyed fits) e = grind basics

abbrev pub AreLive : Core → Meaning ArcRef → Type 0
AreLive w x = (r : ArcRef) → Among (references_in x) r → 0 < held r.node.0 w.rows

module _ {N E : Type 0} {v : Values N} {s : PagerState N E} {trees : ℕ → Tree} (lawful : IsLawful v) (well : IsPagerWhole v s)
    (all : (n : ℕ) → 0 < held n s.core.rows → NodeLeads v s trees n) where
  node-by : (n : ℕ) (o : Option N) → s.values n ≡ o → 0 < held n s.core.rows
      → ((own : Meaning ArcRef) → LeadsTo trees own (trees n).meaning → AreLive s.core own → MeaningStands v s own (trees n).meaning)
      → NodeStands v s n (trees n)
  node-by n (Some x) is live follow =
      let l = (all n live).valued x is in
      let refs : AreLive s.core l.own = λ r among. (given-of well.whole.handles r.node.0
      (well.references n x r is (own-refs lawful x l.own l.means r among)).typed).0 in
      here n x l.own (trees n) is l.typed l.means (follow l.own l.leads refs) (all n live).keyed
  -- what has no value in memory has a key
  node-by n None is live follow =
      let k : (k : ℕ) × (key_at s.core n ≡ OptionalDataKey.Some k) = grind (basics, cell-of well.whole.handles n live, well.valued n) in
      away n k.0 (trees n) is k.1 (all n live).keyed

  stand : (m : Meaning ⊥) {own : Meaning ArcRef} {a : Meaning ⊥} → LeadsTo trees own a → m ≡ a → AreLive s.core own → MeaningStands v s own a
  unfolding references_in
  stand (pair c d) (pair-leads x y a b f g) e h =
      let p = halves (references_in x) (references_in y) h in
      let e1 : c ≡ a = cc in
      let e2 : d ≡ b = cc in
      pair-stands x y a b (stand c f e1 p.0) (stand d g e2 p.1)
  stand (variant j c) (variant-leads i x a f) e h = let same : c ≡ a = cc in variant-stands i x a (stand c f same h)
  stand (followed j c) (followed-leads kind x a n f) e h = let same : c ≡ a = cc in followed-stands kind x a (stand c f same h)
  stand (followed j c) (reference-leads r a typed meant) e h =
      let same : c ≡ (trees r.node.0).meaning = (let f : c ≡ a = cc in f ∙ sym meant) in
      reference-stands r a (subst (λ (t : Tree). NodeStands v s r.node.0 t) (tree_is typed meant)
      (node-by r.node.0 _ refl (h r (zero, refl)) (λ z l k. stand c l same k)))
  stand m (number-leads i) e h = number-stands i
  stand m l e h = first_of (search (integer-stands, text-stands, pattern-stands, none-stands), cc)

module _ {N E : Type 0} {v : Values N} {c : Change} {comes : ℕ → N → Type 0} {s s' : PagerState N E} {trees trees' : ℕ → Tree} (lawful : IsLawful v)
    (settled : HoldsSettled v s) (well : IsPagerWhole v s) (well' : IsPagerWhole v s') (stands : PagerStandsFor v s trees) (moves : Moves comes s s')
    (goes : CoreGoes c s.core s'.core)
    (fits : ChangeFits v c comes s s' trees trees') where
  moved-tree : (n : ℕ) {key : ℕ} → n ≤ s.core.last.node → ReadsTree s'.core.stored v.types key (trees n) → ReadsTree s'.core.stored v.types key (trees' n)
  moved-tree n {key} within reads = subst (λ t. ReadsTree s'.core.stored v.types key t) (sym (fits.same n within)) reads

  moved-value : (n : ℕ) (x : N) → s.values n ≡ Some x → ValueLeads v trees' x (trees' n)
  moved-value n x is =
      let live = given-of well.whole.handles n (well.typed n x is) in
      subst (λ z. ValueLeads v trees' x z) (sym (fits.same n live.1)) (value-on lawful s.core.last.node fits.same
      (λ r among. (given-of well.whole.handles r.node.0 (well.references n x r is among).typed).1)
      ((node-leads lawful settled well stands (stands.stands n live.0) refl).valued x is))

  keyed-old : (n : ℕ) → n ≤ s.core.last.node → SameNode c s.core s'.core n → KeyFits v s' n (trees' n)
  keyed-old n within same key is = elim same.key [
    | inl stays ↦ moved-tree n within (tree-stays goes.stored ((node-leads lawful settled well stands (stands.stands n (held-of well.whole.handles n same.was))
        refl).keyed key (sym stays ∙ is)))
    | inr (k, sets, set) ↦ let e : k ≡ key = (cc) in subst (λ q. ReadsTree s'.core.stored v.types q (trees' n)) e (moved-tree n within (fits.sets n k sets))
  ]

  leads-again : (n : ℕ) → 0 < held n s'.core.rows → NodeLeads v s' trees' n
  leads-again n live = search (rules, cell-of, cases_lt, keyed-old, old-node goes, new-node goes well.whole.handles, basics, moved-value)

  pub trees-go-on : PagerStandsFor v s' trees'
  trees-go-on = record {
    stands = λ n live. node-by lawful well' leads-again n _ refl live (λ z l k. stand lawful well' leads-again (trees' n).meaning l refl k);
    typed = λ n live. grind (basics, old-node goes, new-node goes well.whole.handles);
    loads = λ l load node t h is root. elim (goes.loads l load is) [
      | inl stays ↦ node-stays goes.stored (fits.same node.0 (well.whole.loads.roots l load node t h stays root).given.1)
          (stands.loads l load node t h stays root)
      | inr (above, begins) ↦
          let b = begins node t h root in
          let live = given-of well.whole.handles node.0 b.0 in
          let typed : (trees node.0).type ≡ t = same_some _ _ (sym (stands.typed node.0 live.0) ∙ b.0) in
          let reads = (node-leads lawful settled well stands (stands.stands node.0 live.0) refl).keyed load.key b.1 in
          node-stays goes.stored {trees = trees} (fits.same node.0 live.1) (record { typed = typed; reads = reads })
    ];
    cache = λ kind key n is. elim (goes.cache kind key n is) [
      | inl stays ↦ node-stays goes.stored (fits.same n (well.whole.cache kind key n stays).given) (stands.cache kind key n stays)
      | inr knows ↦ fits.knows kind key n knows
    ];
  }

with-below : (last : ℕ) (t : Tree) (trees : ℕ → Tree) → SameTrees last trees (updated (last + 1) t trees)
with-below last t trees n within = let e : (n == last + 1) ≡ false = grind basics in rw e refl

first-of : (b : Bool) (key k : ℕ) → (if b then OptionalDataKey.Some key else OptionalDataKey.None) ≡ OptionalDataKey.Some k → k ≡ key
first-of x0 key k e = grind basics

module _ {N E : Type 0} {v : Values N} {s s' : PagerState N E} {trees : ℕ → Tree} (lawful : IsLawful v) (settled : HoldsSettled v s) (well : IsPagerWhole v s)
    (well' : IsPagerWhole v s')
    (stands : PagerStandsFor v s trees) where
  abbrev last : ℕ
  last = s.core.last.node

  -- a value came to a live node
  live-after : (n : ℕ) (x : N) → s'.values n ≡ Some x → is_some (s'.core.cells n) ≡ true
  live-after n x is = cell-of well'.whole.handles n (given-of well'.whole.handles n (well'.typed n x is)).0

  -- where nothing is born and no value can come to an old node, none comes
  pub none-comes : (n : ℕ) (x : N) → CoreGoes nothing_felt s.core s'.core → s.values n ≡ None → s'.values n ≡ Some x → IsNewNode s.core n
      ⊎ StaysAway s.core s'.core n → ⊥
  none-comes n x goes x3 is x5 = grind (basics, live-after, cases_lt, old-node goes, new-node goes well.whole.handles)

  -- nothing is felt, and what comes to an old node fits
  pub fits-nothing : (comes : ℕ → N → Type 0) → ((n : ℕ) (x : N) → comes n x → s.values n ≡ None → s'.values n ≡ Some x → ValueLeads v trees x (trees n))
      → ChangeFits v nothing_felt comes s s' trees trees
  fits-nothing comes fit = grind basics

  pub fits-key : (comes : ℕ → N → Type 0) (m k : ℕ) → ((n : ℕ) (x : N) → comes n x → ⊥) → ReadsTree s'.core.stored v.types k (trees m)
      → ChangeFits v (sets_key m k) comes s s' trees trees
  fits-key comes m k unset reads = grind arith

  module _ (t0 : Tree) where
    abbrev more : ℕ → Tree
    more = updated (last + 1) t0 trees

    -- a node is born of this type and key, of a tree as which the key reads if it has one
    fits-born : (comes : ℕ → N → Type 0) (t : ℕ) (own : OptionalDataKey) → t0.type ≡ t
        → ((key : ℕ) → own ≡ OptionalDataKey.Some key → ReadsTree s'.core.stored v.types key t0)
        → ((n : ℕ) (x : N) → comes n x → s.values n ≡ None → s'.values n ≡ Some x → ValueLeads v more x (more n))
        → ChangeFits v (bears_node t own) comes s s' trees more
    fits-born comes t own typed reads fit = grind (basics, with-below, updated-at)

    fits-born-known : (comes : ℕ → N → Type 0) (k q : ℕ) (own : OptionalDataKey) → t0.type ≡ type_of k
        → ((key : ℕ) → own ≡ OptionalDataKey.Some key → key ≡ q)
        → ReadsTree s'.core.stored v.types q t0
        → ((n : ℕ) (x : N) → comes n x → s.values n ≡ None → s'.values n ≡ Some x → ValueLeads v more x (more n))
        → ChangeFits v (bears_known k q own) comes s s' trees more
    fits-born-known comes k q own typed same_key reads fit = grind (basics, with-below, updated-at)

    -- the value of the node that is born leads to that tree
    value-born : (c : Change) (n : ℕ) (x y : N) → CoreGoes c s.core s'.core → s'.values n ≡ Some x → x ≡ y → IsNewNode s.core n
        → ((r : ArcRef) → Among (v.references y) r → r.node.0 ≤ last) → ValueLeads v trees y t0 → ValueLeads v more x (more n)
    value-born c n x y goes is same new few l =
        rw (same, (new-node goes well.whole.handles n new (live-after n x is)).next, updated-at (last + 1) t0 trees)
        (value-on lawful last (with-below last t0 trees) few l)

  -- some trees after a call fit what it brings
  pub call-fits : {B : Type 0} (c : Change) (call : Call N B) (reply : Reply N B) → CoreGoes c s.core s'.core → AsksWell v s trees call reply
      → CallFeels v s.core Owner.Caller call reply s'.core c → (after : ℕ → Tree) × ChangeFits v c (CallBrings s.core call) s s' trees after
  call-fits c call reply goes asked (feels-nothing stays) = (
    _,
    fits-nothing _
        (λ n x brings unset is. absurd (none-comes n x goes unset is (stays n x brings))),
  )
  call-fits c call reply goes asked (feels-birth x brought good) =
      let some = lawful.has_meaning x in
      let l = led {trees = trees} some.0 (λ r among. let is = (good r (own-refs lawful x some.0 some.1 r among)).typed in
      same_some _ _ (sym (stands.typed r.node.0 (given-of well.whole.handles r.node.0 is).0) ∙ is)) in
      let born : (t : Tree) × (t.type ≡ v.node_type x) × ValueLeads v trees x t =
      (tree (v.node_type x) l.0, refl, record { own = some.0; typed = refl; means = some.1; leads = l.1 }) in
      let few = λ (r : ArcRef) (among : Among (v.references x) r). (given-of well.whole.handles r.node.0 (good r among).typed).1 in (
        _,
        fits-born born.0 _ _ OptionalDataKey.None born.1 (λ key is. absurd (cc)) (λ n y brings unset is. let b = brought n y brings in
            value-born born.0 _ n y x goes is b.0 b.1 few born.2),
      )
  call-fits c call reply goes asked (feels-away t key k) =
      let reads = tree-stays goes.stored asked.reads in (
        _,
        fits-born asked.read _ _ (OptionalDataKey.Some key) asked.typed (λ q is. let e : key ≡ q = cc in rw (← e) reads)
            (λ n y brings unset is. absurd brings),
      )
  call-fits c call reply goes asked (feels-key h key row owns) = (_, fits-key _ row.node.0 key (λ n y brings. brings) (tree-stays goes.stored (asked row owns)))
  call-fits c call reply goes asked (feels-known kind key h row owns typed) =
      let live = given-of well.whole.handles row.node.0 typed in
      let is_typed : (trees row.node.0).type ≡ type_of kind.0 = same_some _ _ (sym (stands.typed row.node.0 live.0) ∙ typed) in
      let reads : ReadsNodeTree v.types s'.core.stored trees key (type_of kind.0) row.node.0 =
      record { typed = is_typed; reads = tree-stays goes.stored (asked row owns) } in (trees, grind arith)
  call-fits c call reply goes asked (feels-adopted l kind key x k typed good) =
      let leads = value-leads lawful settled well stands x asked.stands.own asked.read (Owner.Load l) asked.stands.typed asked.stands.means asked.stands.stands
      good in
      let same = sym asked.stands.typed ∙ typed in let reads = tree-stays goes.stored asked.reads in
      let few = λ (r : ArcRef) (among : Among (v.references x) r). (given-of well.whole.handles r.node.0 (good r among).typed).1 in (
        _,
        fits-born-known asked.read _ kind.0 key _ same (first-of (is_pinned_kind kind.0) key) reads
            (λ n y brings unset is. value-born asked.read _ n y x goes is brings.0 brings.1 few leads),
      )
  call-fits c call reply goes asked (feels-lazy l kind key k) = (
    _,
    fits-born-known asked.read _ kind.0 key (OptionalDataKey.Some key) asked.typed (λ q is. cc) (tree-stays goes.stored asked.reads)
        (λ n y brings unset is. absurd brings),
  )
  call-fits c call reply goes asked (feels-end l x k good) =
      let leads = value-leads lawful settled well stands x in (
        _,
        fits-nothing _ (λ n y brings unset is. let meant = asked n brings.1 in
            rw brings.0 (leads meant.own (trees n) (Owner.Load l) meant.typed meant.means meant.stands good)),
      )

  module _ (reading : Reading) (takes : TakesWell v s reading) (fits : ReadingFits v s trees reading) (given : AllGot
      (λ r. r.node.0 ≤ last) reading.frames) where
    top-read : (x : N) (r : ReadsNode v reading x) → IsReadableType v.types r.top.node_type
    top-read x r = takes.types r.top (subst (λ fs. Among fs r.top) (sym r.frames) (zero, refl))

    module _ {c : Change} (goes : CoreGoes c s.core s'.core) where
      -- the value of a root that was read leads to its cell's tree
      root-leads : (n : ℕ) (x : N) → s'.values n ≡ Some x → ReadsRoot v reading x → IsCellOf s.core reading.load n
          → (n ≤ last) × ValueLeads v trees x (trees n) × ((r : ArcRef) → Among (v.references x) r → r.node.0 ≤ last)
      root-leads n x is root cell =
          let here = rw root.frames at (fits cell.load cell.open_load) in
          let d = decodes lawful root.root x (takes.types root.root (rw root.frames (zero, refl)))
          (first-fits v.types cell.load.key reading.node_type s.core.stored trees root.root [] here) root.decoded in
          let under = subst (λ q. ReadsTree s.core.stored v.types q d.t) (root-key v.types s.core.stored trees cell.load.key reading.node_type root.root here)
          d.reads in
          let within : n ≤ last = subst (λ m. m ≤ last) cell.is (well.whole.loads.roots reading.load.0 cell.load cell.node cell.t cell.h cell.open_load
          cell.root).given.1 in
          let old = old-node goes n within (live-after n x is) in
          let typed : (trees n).type ≡ v.node_type x = same_some _ _ (sym (stands.typed n (held-of well.whole.handles n old.was)) ∙ sym old.typed
          ∙ well'.typed n x is) in
          let cells = rw cell.is at (stands.loads reading.load.0 cell.load cell.node cell.t cell.h cell.open_load cell.root).reads in
          let same : d.t ≡ trees n = one_tree s.core.stored v.types cell.load.key d.t (trees n) (sym d.leads.typed ∙ sym typed) under cells in
          (within, subst (λ z. ValueLeads v trees x z) same d.leads, λ r among. given root.root r (rw root.frames (zero, refl)) (d.got r among))

      quiet : (n : ℕ) (x : N) → c ≡ nothing_felt → ReadingBrings v s.core reading n x → s'.values n ≡ Some x → ValueLeads v trees x (trees n)
      quiet n x nothing x3 is = grind (basics, live-after, root-leads, new-node goes well.whole.handles)

      -- a node is born, and the root's value comes to an old one
      root-on : (t0 : Tree) (n : ℕ) (x : N) → s'.values n ≡ Some x → ReadsRoot v reading x → IsCellOf s.core reading.load n
          → ValueLeads v (more t0) x (more t0 n)
      root-on t0 n x is root cell =
          let r = root-leads n x is root cell in let same = with-below last t0 trees in
          subst (λ z. ValueLeads v (more t0) x z) (sym (same n r.0)) (value-on lawful last same r.2 r.1)

    pub reading-fits : {c : Change} {answer : Option (LoadAnswer N)} {frames : List Frame} → CoreGoes c s.core s'.core
        → (answer ≡ None → (load : OpenLoad) × (s.core.loads reading.load.0 ≡ Some load))
        → ReadingFeels v s.core reading answer frames s'.core c → (after : ℕ → Tree) × ChangeFits v c (ReadingBrings v s.core reading) s s' trees after
    reading-fits goes opens (gets-lazy kind key row needs got answer is) =
        let asked = takes.keys kind key needs in
        let fit = fits-born-known asked.read (ReadingBrings v s.core reading) kind.0 key (OptionalDataKey.Some key) asked.typed (λ q e. cc)
        (tree-stays goes.stored asked.reads) in
        (_, fit (λ n x brings unset at. elim brings [ inl (reads, new) ↦ absurd (cc) | inr (root, cell) ↦ root-on goes asked.read n x at root cell ]))
    reading-fits goes opens (makes-node x reads row got answer is) =
        let load = opens answer in
        let fit = fits load.0 load.1 in
        let made = node-decoded lawful s.core.stored trees load.0.key reading.node_type reading x reads (top-read x reads) fit in
        let t0 = made.0.t in
        let fit_new = fits-born-known t0 (ReadingBrings v s.core reading) reads.top.kind.0 reads.top.key (first_key reads.top.kind.0 reads.top.key)
        (made.0.typed ∙ made.1) (first-of (is_pinned_kind reads.top.kind.0) reads.top.key) (tree-stays goes.stored made.0.reads) in (
          _,
          fit_new (λ n y brings unset at. elim brings [
            | inl (reads2, new) ↦
                let other = (node-decoded lawful s.core.stored trees load.0.key reading.node_type reading y reads2 (top-read y reads2) fit).0 in
                let top : reads2.top ≡ reads.top = (cc) in
                let moved : ReadsTree s.core.stored v.types reads.top.key other.t =
                subst (λ (f : Frame). ReadsTree s.core.stored v.types f.key other.t) top other.reads in
                let same : other.t ≡ t0 = one_tree s.core.stored v.types reads.top.key other.t t0
                (other.typed ∙ ap (λ (f : Frame). f.node_type) top ∙ sym made.0.typed) moved made.0.reads in
                let few = λ (r : ArcRef) (among : Among (v.references y) r). given reads2.top r
                (subst (λ fs. Among fs reads2.top) (sym reads2.frames) (zero, refl)) (other.got r among) in
                value-born t0 _ n y y goes at refl new few (subst (λ z. ValueLeads v trees y z) same other.leads)
            | inr (root, cell) ↦ root-on goes t0 n y at root cell
          ]),
        )
    reading-fits goes opens _ = (trees, fits-nothing _ (λ n x brings unset is. quiet goes n x refl brings is))
