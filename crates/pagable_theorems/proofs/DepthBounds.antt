-- Published heights are heights of trees: so no worker returns a key if too long a path, or a value without a form, is below its task; and why a claim is too
-- deep.
use Rattle.pagable_pager_spec.specs.{
  Basics.longest_path,
  Pager.{StandsFor, kids_of},
  Rightness.IsMetFailure,
  Runs.{Fact, TreesAlong},
  WorkerClaims.{HasNoForm, IsFormlessTask, IsTooDeepTask, KeyIsShallow, LeadsToNoForm, Reaches, in-first, in-part, in-rest, refers, refers-on},
  Workers.ClaimStep,
  World.is_identity,
}
use Rattle.pagable_theorems.proofs.{
  Chains.{IsGoingOn, along-with, headline_law, idle-goes},
  EventEffects.site_of,
  FormsOfTrees.{known-of, tree-form},
  HandlesKept.updated-at,
  LoadResults.answered,
  NewClaims.StandsIn,
  SlotsGrow.{AllStand, Covers, is-same, is_open_in},
  TablesKept.next-among,
  Trees.{Along, each-two, form-along, integer-along, none-along, number-along, pair-along, pattern-along, reference-along, same_some, text-along, tree_is},
  Trees.variant-along,
  Words.{Action, Among, ArcRef, AreMoments, Bool, Core, Err, Error, Event, EventReply, FollowsTo, Happens, HoldsSettled, Identity, IsIdle, IsLawful},
  Words.{IsMachineWhole, IsPublished, List, MachineState, Meaning, Moment, Ok, Seen, Shelf, Some, Task, Todo, Tree, Types, Values, Walking, WorkDoes, WorkFits},
  Words.{WorkerAnswer, WorkerState, Written, above, ap, arith, basics, followed, identity_of, if◌then◌else◌, inl, inr, is_eager, max, of_entry, of_item, pair},
  Words.{refl, subst, suc, sym, to_finish, to_item, to_start, tree, true, type_of, variant, world_of, zero, ℕ, ◌+◌, ◌<◌, ◌∙◌, ◌∷◌, ◌≡◌, ◌≤◌, ◌⊎◌},
}
use Rattle.pagable_theorems.specs.{
  DepthLaws.{ClaimIsDeep, MetDepthAlone, WaitsForAsker, WorkerReportsDepth},
  TreeSteps.{AllLow, BlobStands, Expects, Ground, IsAttained, IsDone, SlotsFit, Waits, Walks, WroteTree, followed-leads, ground_of, pair-leads, place_over},
  TreeSteps.{reference-leads, variant-leads},
}
use Rattle.pagable_value_spec.specs.{Height.{deepest_path, height}, Merkle.TreeForm, Writing.kind_of_arc}
use Rattle.std.proofs.lemmas.Bool.{or_cases}
use Rattle.std.specs.Prelude.{◌≢◌}

-- ---- what a tree's references lead to is part of it

-- how many references a meaning has, with all that they lead to
size : Meaning ⊥ → ℕ
size (pair a b) = size a + size b
size (variant n a) = size a
size (followed kind a) = suc (size a)
size _ = 0

height-within : (m : Meaning ⊥) → height m ≤ deepest_path m
unfolding height deepest_path
height-within (pair a b) = omega (arith, height-within a, height-within b)
height-within (variant n a) = height-within a
height-within x0 = grind basics

-- what the reference leads to is part of what the meaning says
record Part (trees : ℕ → Tree) (m : Meaning ⊥) (r : ArcRef) : Type 0 where
  top : above r.kind.0 (height (trees r.node.0).meaning) ≤ height m
  deep : deepest_path (trees r.node.0).meaning ≤ deepest_path m
  small : suc (size (trees r.node.0).meaning) ≤ size m

module _ (trees : ℕ → Tree) (rs : List ArcRef) (whole : Meaning ⊥) where
  parts-along : {own : Meaning ArcRef} {n : Meaning ⊥} → FollowsTo trees rs own n → height n ≤ height whole → deepest_path n ≤ deepest_path whole
      → size n ≤ size whole
      → Along ⊥ (λ r other. (other ≡ r) × Part trees whole r) own own
  unfolding height deepest_path size
  parts-along (pair-leads x y a b f g) h d s = pair-along _ _ _ _ (parts-along f (omega arith) (omega arith) (omega arith))
      (parts-along g (omega arith) (omega arith) (omega arith))
  parts-along (variant-leads i x a f) h d s = variant-along _ _ _ (parts-along f h d s)
  parts-along (reference-leads r a among is) h d s = grind (arith, reference-along, size)
  parts-along (followed-leads kind x a none f) h d s = absurd none
  parts-along x0 h d s = grind (basics, number-along, integer-along, text-along, pattern-along, none-along)

part-of : {types : Types} {g : Ground} {n : ℕ} {written : Written} → WroteTree types g n written → (r : ArcRef) → Among written.references r
    → Part g.trees (g.trees n).meaning r
part-of {g = g} {n} {written} w r among =
    let p = form-along (λ x y h. ap kind_of_arc h.0) w.form (parts-along g.trees written.references (g.trees n).meaning w.follows (omega arith) (omega arith)
    (omega arith)) in
    (each-two p.each r among).1.1

climbs : (e : Bool) (place h d top deep : ℕ) → (if e then h + 1 else 0) ≤ top → d ≤ deep → h ≤ d → longest_path < max ((if e then place + 1 else 0) + h) d
    → longest_path < max (place + top) deep
climbs x0 place h d top deep le few within long = grind basics

module _ {N : Type 0} (v : Values N) (g : Ground) (shelf : Shelf) (fit : SlotsFit v g shelf) where
  abbrev trees : ℕ → Tree
  trees = g.trees

  -- what was written of an identity whose key is known, under which it stands
  pub record Known (i : Identity) (key height : ℕ) : Type 0 where
    pub written : Written
    pub typed : (trees i.node.0).type ≡ type_of i.kind.0
    pub stands : BlobStands v g shelf i.node.0 written key height

  pub known : (i : Identity) (key height : ℕ) → IsPublished shelf i key height → Known i key height
  known i key height p = let f = fit i p.slot p.claimed in let b =
      f.publishes key height p.known in record { written = b.0; typed = f.typed; stands = b.2 }

  -- a height that references add is no more than that of the tree
  attained-height : (n : ℕ) (i : Identity) (h : ℕ) → size (trees i.node.0).meaning ≤ n → (written : Written)
      → WroteTree v.types g i.node.0 written
      → IsAttained shelf h written.references → h ≤ height (trees i.node.0).meaning
  attained-height n i h few written w (inl is) = omega arith
  attained-height zero i h few written w (inr a) = absurd (omega (arith, part-of w a.r a.among))
  attained-height (suc n) i h few written w (inr a) =
      let part = part-of w a.r a.among in
      let k = known (identity_of a.r) a.key a.below a.known in
      let below = attained-height n (identity_of a.r) a.below (omega arith) k.written k.stands.wrote k.stands.attained in
      grind basics

  -- a path that is too long from the reference's place is one of the task's
  leads-down : (n : ℕ) (task : Task) (r : ArcRef) (below : List Todo) → Expects task r below → Waits shelf task below → AllStand shelf n task below
      → longest_path < max (place_over r below + height (trees r.node.0).meaning) (deepest_path (trees r.node.0).meaning) → IsTooDeepTask trees task
  unfolding Waits
  leads-down n task r (to_finish o ∷ below) (more, e) (known, attained, place, reach, expects, waits) (stands, apart, all) long =
      let claim = stands.1 in
      let f = fit (identity_of o.reference) claim.slot claim.claimed in
      let part = part-of (f.writes o.written.references claim.written_so).1 r (next-among shelf o.written.references o.keys r more e) in
      let m = (trees r.node.0).meaning in
      let above_it = (trees o.reference.node.0).meaning in
      let up = climbs (is_eager r.kind.0) o.place (height m) (deepest_path m) (height above_it) (deepest_path above_it) part.top part.deep
      (height-within m) long in
      leads-down n task o.reference below expects waits all (subst (λ q. longest_path < max (q + height above_it) (deepest_path above_it)) place up)
  leads-down n task r (to_item written keys ∷ below) (more, e) (is, known) all long =
      let m = (trees r.node.0).meaning in
      subst (λ x. IsTooDeepTask trees x) (sym is) (r, next-among shelf written.references keys r more e, grind (basics, height-within m))
  leads-down n x1 r x3 x4 x5 x6 long = grind (basics, height-within)

  -- a worker comes upon no claim of its own that it is at: a tree is no part of itself
  not-below : (n : ℕ) (task : Task) (q : Identity) (r : ArcRef) (below : List Todo) → size (trees q.node.0).meaning ≤ size (trees r.node.0).meaning
      → Expects task r below → Waits shelf task below
      → AllStand shelf n task below → is_open_in q below ≡ true → ⊥
  unfolding Waits
  not-below n task q r (to_finish o ∷ below) few (more, e) (known, attained, place, reach, expects, waits) (stands, apart, all) is =
      let claim = stands.1 in
      let f = fit (identity_of o.reference) claim.slot claim.claimed in
      let part = part-of (f.writes o.written.references claim.written_so).1 r (next-among shelf o.written.references o.keys r more e) in
      elim (or_cases (is_identity q (identity_of o.reference)) (is_open_in q below) is) [
        | inl same ↦ absurd (omega (arith, ap (λ (j : Identity). size (trees j.node.0).meaning) (is-same q (identity_of o.reference) same)))
        | inr rest ↦ not-below n task q o.reference below (omega arith) expects waits all rest
      ]
  not-below n task q r x4 few x6 x7 x8 is = grind basics

  -- a claim that is too deep is so by a path of the task's, or another is at it that waits for the asker
  claim-deep : (n : ℕ) (task : Task) (core : Core) (todo : List Todo) (r : ArcRef) (place : ℕ) (below : List Todo) (s' : WorkerState)
      → ClaimStep n (record { core = core; shelf = shelf; todo = todo }) r place below (Err Error.TooDeep) s'
      → Expects task r below → Waits shelf task below → AllStand shelf n task below → Covers shelf n (to_start r place ∷ below) → place ≡ place_over r below
      → IsTooDeepTask trees task ⊎ WaitsForAsker shelf n (identity_of r)
  claim-deep n task core todo r place below s' c expects waits all covers at = elim c.refused.0 [
    | inl fault ↦ absurd (grind arith)
    | inr (inl (none_there, is, inl long)) ↦ inl (grind (basics, leads-down))
    | inr (inl (none_there, is, inr (inl (key, h, p, long)))) ↦
        let k = known (identity_of r) key h p in
        let few = attained-height (size (trees (identity_of r).node.0).meaning) (identity_of r) h (omega arith) k.written k.stands.wrote k.stands.attained in
        inl (grind (basics, leads-down))
    | inr (inl (none_there, is, inr (inr (slot, still, back)))) ↦
        let other : slot.worker ≢ n = λ own. not-below n task (identity_of r) r below (omega arith) expects waits all
        (covers (identity_of r) slot still.claimed own still.no_result_yet) in
        inr (record { slot = slot; still = still; another = other; back = back })
    | inr (inr (inl spent)) ↦ absurd (cc)
    | inr (inr (inr memory)) ↦ absurd (cc)
  ]

  -- ---- where a key is known, no path from its tree is too long

  -- what a meaning's references lead to is low, so the meaning is: its height is within this, and no path in it is too long
  shallow : (limit : ℕ) (rs : List ArcRef) → limit ≤ longest_path → AllLow shelf limit rs → {own : Meaning ArcRef} {n : Meaning ⊥} → FollowsTo trees rs own n
      → (m : Meaning ⊥) → n ≡ m
      → (height m ≤ limit) × (deepest_path m ≤ longest_path)
  unfolding height deepest_path
  shallow limit rs le lows (pair-leads x y a b h g) (pair c d) e = grind (
    basics,
    shallow limit rs le lows h c (cc),
    shallow limit rs le lows g d (cc),
  )
  shallow limit rs le lows (variant-leads i x a h) (variant j c) e = grind (basics, shallow limit rs le lows h c (cc))
  shallow limit rs le lows (reference-leads r a among is) (followed kind c) e =
      let l = lows r among in
      let k = known (identity_of r) l.key l.below l.known in
      let meanings : a ≡ c = cc in
      grind (basics, shallow l.below k.written.references k.stands.within k.stands.low k.stands.wrote.follows c (is ∙ meanings))
  shallow limit rs le lows (followed-leads kind x a none h) m e = absurd none
  shallow limit rs le lows follows x5 e = grind basics

  shallow-tree : (i : Identity) (key h : ℕ) → IsPublished shelf i key h → (height (trees i.node.0).meaning ≤ h)
      × (deepest_path (trees i.node.0).meaning ≤ longest_path)
  shallow-tree i key h p = let k = known i key h p in shallow h k.written.references k.stands.within k.stands.low k.stands.wrote.follows
      (trees i.node.0).meaning refl

  -- ---- and the tree has a form, and so has each that it reaches

  has-form : (i : Identity) {key height : ℕ} → Known i key height → HasNoForm v.types (trees i.node.0) → ⊥
  has-form i k formless =
      let same : k.stands.wrote.shape ≡ formless.shape = same_some _ _ (sym k.stands.wrote.is ∙ formless.is) in
      let kids = kids_of trees k.written.references in
      formless.none_within k.written.bytes kids (subst (λ x. TreeForm v.types x (trees i.node.0).meaning k.written.bytes kids) same (tree-form k.stands.wrote))

  below-has-form : {i : Identity} {key height : ℕ} (j : Known i key height) {own : Meaning ArcRef} {m n : Meaning ⊥} {u : Tree} → Reaches n u
      → FollowsTo trees j.written.references own m
      → n ≡ m → HasNoForm v.types u → ⊥
  below-has-form j (refers kind b) (reference-leads r a among is) e formless =
      let p = known-of shelf j.written.references j.stands.keys j.stands.known r among in
      let k = known (identity_of r) p.0 p.1.0 p.1.1 in
      let kinds : kind ≡ r.kind.0 = cc in
      let meanings : b ≡ a = cc in
      let same : tree (type_of kind) b ≡ trees r.node.0 = tree_is (ap type_of kinds ∙ sym k.typed) (meanings ∙ sym is) in
      has-form (identity_of r) k (subst (λ x. HasNoForm v.types x) same formless)
  below-has-form {i = i} {key = key} {height = top} j (refers-on kind b u reach) (reference-leads r a among is) e formless =
      let p = known-of shelf j.written.references j.stands.keys j.stands.known r among in
      let k = known (identity_of r) p.0 p.1.0 p.1.1 in
      let meanings : b ≡ a = cc in
      below-has-form {i = identity_of r} {key = p.0} {height = p.1.0} k reach k.stands.wrote.follows (meanings ∙ sym is) formless
  below-has-form j (in-first c d u reach) (pair-leads x y a b h g) e formless = below-has-form j reach h (cc) formless
  below-has-form j (in-rest c d u reach) (pair-leads x y a b h g) e formless = below-has-form j reach g (cc) formless
  below-has-form j (in-part n c u reach) (variant-leads i x a h) e formless = below-has-form j reach h (cc) formless
  below-has-form j reach (followed-leads kind x a none h) e formless = absurd none
  below-has-form j reach follows e formless = absurd (cc)

  has-forms : (i : Identity) (key height : ℕ) → IsPublished shelf i key height → LeadsToNoForm v.types (trees i.node.0) → ⊥
  has-forms i key height p (inl formless) = has-form i (known i key height p) formless
  has-forms i key height p (inr (u, reach, formless)) = let k = known i key height p in below-has-form k reach k.stands.wrote.follows refl formless

  -- a task that has come to a key leads down no path that is too long, and to no value that has no form
  pub task-is-fine : (task : Task) (key : ℕ) → IsDone v shelf task key → (¬ IsTooDeepTask trees task) × (¬ IsFormlessTask v.types trees task)
  task-is-fine (of_item written) key (keys, each, is, lows) = (
    λ (r, among, long). let l = lows r among in grind (basics, shallow-tree (identity_of r) l.key l.below l.known),
    λ (r, among, formless). let p = known-of shelf written.references keys each r among in has-forms (identity_of r) p.0 p.1.0 p.1.1 formless,
  )
  task-is-fine (of_entry h i) key (top, p) = (λ long. absurd (omega (arith, (shallow-tree i key top p).1)), has-forms i key top p)

module _ {N B W E : Type 0} (m : Seen N B W) (s s' : MachineState N E) (trees trees' : ℕ → Tree) (fit : WorkFits m.values s trees)
    (work : StandsIn (world_of s)) where
  pub key-is-shallow : (event : Event N B W) (reply : EventReply N B W) → Happens m (world_of s) event reply (world_of s')
      → KeyIsShallow m.values s trees event reply s' trees'
  key-is-shallow (Event.WorkerStep n) (EventReply.WorkerMoved (Ok reply)) is = λ walking key there e.
      let w = is.moves in
      let a = answered m n.0 (ground_of s trees) w.walking.task (site_of (world_of s) w.walking) w.after w.walking.todo reply.action w.does.does
      (fit.walks n.0 w.walking w.at) key (sym w.answers ∙ e) in
      grind (basics, same_some, task-is-fine m.values (ground_of s trees) (s.work.shelves w.walking.table) (fit.slots w.walking.table) w.walking.task key a.0)
  key-is-shallow event reply is = tt

  -- what a worker answers that leads down so, and met no other refusal
  pub depth-is-told : (event : Event N B W) (reply : EventReply N B W) → Happens m (world_of s) event reply (world_of s')
      → KeyIsShallow m.values s trees event reply s' trees'
      → WorkerReportsDepth m s trees event reply s' trees'
  depth-is-told (Event.WorkerStep n) (EventReply.WorkerMoved (Ok reply)) is shallow = λ start moments walking answer whole idle chain ends there e alone deep.
      let w = is.moves in
      let now : Walking = record w.walking { todo = w.after.todo; steps = reply.steps; answer = reply.answer } in
      let at : s'.work.walkings n.0 ≡ Some now = w.work.same_walkings n.0 ∙ updated-at n.0 (Some now) s.work.walkings in
      let right = headline_law E m start moments whole idle chain in
      let met = (right.work.workers n.0 now (ap (λ (x : MachineState N E). x.work.walkings n.0) ends ∙ at)).met answer e in
      of _ _ answer alone e met (λ key k.
      let fine = shallow walking key there k in elim deep [ inl long ↦ fine.0 long | inr formless ↦ fine.1 formless ])
    where
      of : (shelf : Shelf) (steps : List (Action W)) (answer : WorkerAnswer) → MetDepthAlone steps → reply.answer ≡ Some answer
          → IsMetFailure shelf n.0 steps answer
          → ((key : ℕ) → ¬ (reply.answer ≡ Some (WorkerAnswer.Key key))) → answer ≡ WorkerAnswer.Failed Error.TooDeep
      of _ steps (WorkerAnswer.Key key) alone e met none = absurd (none key e)
      of _ steps (WorkerAnswer.Failed f) alone e (step, among, is) none = ap WorkerAnswer.Failed (alone.0 step f among is)
      of _ steps WorkerAnswer.AlreadyFailed alone e (i, among, elsewhere) none = absurd (alone.1 i among)
  depth-is-told event reply is shallow = tt

  module _ (n : ℕ) (walking : Walking) (there : s.work.walkings n ≡ Some walking) where
    abbrev site : WorkerState
    site = site_of (world_of s) walking

    of-claim : (after : WorkerState) (todo : List Todo) (i : Identity) → WorkDoes m n site todo (Action.Claim i (Err Error.TooDeep)) after
        → AllStand site.shelf n walking.task todo → Covers site.shelf n todo
        → Walks m.values (ground_of s trees) site.shelf walking.task todo → IsTooDeepTask trees walking.task ⊎ WaitsForAsker site.shelf n i
    of-claim after (to_start r place ∷ below) i (is, c) (stands, apart, all) covers (at, (expects, waits)) =
        subst (λ (j : Identity). IsTooDeepTask trees walking.task ⊎ WaitsForAsker site.shelf n j) (sym is)
        (claim-deep m.values (ground_of s trees) site.shelf (fit.slots walking.table) n walking.task s.pager.core walking.todo r place below after c expects
        waits all covers at)
    of-claim after todo i does all covers walks = absurd does

  pub claim-is-deep : (event : Event N B W) (reply : EventReply N B W) → Happens m (world_of s) event reply (world_of s')
      → ClaimIsDeep s trees event reply s' trees'
  claim-is-deep x0 x1 is = grind (basics, same_some, of-claim)

module _ {N B W E : Type 0} (m : Seen N B W) (lawful : IsLawful m.values) (P : Fact N E B W) where
  pub along-first : ((s s' : MachineState N E) (trees trees' : ℕ → Tree) (event : Event N B W) (reply : EventReply N B W) → IsGoingOn m.values s trees
      → Happens m (world_of s) event reply (world_of s') → P s trees event reply s' trees')
      → (s : MachineState N E) (moments : List (Moment N E B W)) (trees : ℕ → Tree) → IsMachineWhole m.values s → IsIdle s → AreMoments m s moments
      → StandsFor m.values s trees → HoldsSettled m.values s.pager → TreesAlong m P s trees moments
  along-first follows s moments trees whole idle chain stands settled =
      along-with m lawful P (λ s xs. Unit {0}) (λ s trees trees' x xs on so whole happens asked right.
      (follows s x.after trees trees' x.event x.reply on happens, tt))
      s trees moments (idle-goes m lawful s trees whole idle settled stands) tt chain
