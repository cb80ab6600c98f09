-- A page-out brings no value into memory, and leaves a whole pager, since each of its calls does so.
use Rattle.pagable_changes.specs.{
  Changes.{EndsTurns, FinishFails, FinishesOpenNode, FoundKeys, OpenChildFails, OpenNodeFails, OpensNode, PagesOutChanged, PagesOutKeyless, PinNodeFails},
  Changes.{PinsLoosely, PinsNode, RecordsKey, ReleasesBoth, ReleasesPath, Stage, Turn, TurnFails, Turns, Walks, a-turn-fails, all-is-stored, blob-is-refused},
  Changes.{both-go, cell-gets-key, cell-is-away, cell-is-not-pinned, cell-is-pinned, cell-is-taken, clone-is-refused, goes-down, goes-up, handle-is-of-no-cell},
  Changes.{has-key, isnt-entered, isnt-left, isnt-taken, isnt-written, key-is-found, key-is-refused, next-is-lost, no-handle, no-memory-for-path, no-turn},
  Changes.{node-is-refused, node-is-taken, none-is-open, nothing-is-stored, one-goes, one-goes-first, one-more-turn, pin-is-refused, root-has-key},
  Changes.{root-has-none, root-is-refused, root-is-walked, turns-are-spent, walk-is-refused, way-is-too-deep},
  declared.{keys.FoundKey.FoundKey, nodes.OpenNode.OpenNode},
}
use Rattle.pagable_pager_spec.specs.{
  Access.MakesCall,
  Basics.{ArcRef, Error, HandleNumber},
  Pager.{IsPagerWhole, Moves, PagerState},
  World.{Core, Values},
}
use Rattle.std.proofs.Common.{List, Ok, Result, inl, inr, refl, ℕ, ◌∙◌}

module _ {N E : Type 0} (v : Values N) where
  pub record Passes (s s' : PagerState N E) : Type 0 where
    pub moves : Moves (λ n x. ⊥) s s'
    pub whole : IsPagerWhole v s'

  stays : {s : PagerState N E} → IsPagerWhole v s → Passes s s
  stays well = record { moves = record { each = λ n x is. inl is; environment = refl }; whole = well }

  then : {s mid s' : PagerState N E} → Passes s mid → Passes mid s' → Passes s s'
  then a b = record {
    moves = record {
      each = λ n x is. elim (b.moves.each n x is) [ inl was ↦ a.moves.each n x was | inr came ↦ absurd came.1 ];
      environment = b.moves.environment ∙ a.moves.environment;
    };
    whole = b.whole;
  }

  called : {does : Core → Type 0} {s s' : PagerState N E} → MakesCall v does s s' → Passes s s'
  called c = record { moves = c.moves; whole = c.whole }

  lets : {s s' : PagerState N E} {c k : HandleNumber} → ReleasesBoth v c k s s' → Passes s s'
  lets (both-go told freed mid s' first last) = then (called first) (called last)
  lets (one-goes told s' same first) = called first

  pins : {s s' : PagerState N E} {c : HandleNumber} {r : Result HandleNumber Error} → PinsLoosely v c s r s' → Passes s s'
  pins (cell-is-pinned k s' call) = called call
  pins (cell-is-away key s' call) = called call
  pins (cell-is-not-pinned e s' call) = called call

  takes : {s s' : PagerState N E} {r : ArcRef} {c k : HandleNumber} → PinsNode v r s c k s' → Passes s s'
  takes (cell-is-taken c k told mid low s' loose clones loosens pinned) = then (called clones) (then (called loosens) (pins pinned))
  takes (node-is-taken c s' loose clones) = called clones

  fails-to-take : {s s' : PagerState N E} {r : ArcRef} {e : Error} → PinNodeFails v r s e s' → Passes s s'
  fails-to-take (clone-is-refused e s' clones) = called clones
  fails-to-take (pin-is-refused c told freed e mid low late s' clones loosens pinned releases) =
      then (called clones) (then (called loosens) (then (pins pinned) (called releases)))

  fails-to-open : {s s' : PagerState N E} {r : ArcRef} {e : Error} → OpenNodeFails v r s e s' → Passes s s'
  fails-to-open (isnt-taken e s' fails) = fails-to-take fails
  fails-to-open (isnt-written e c k mid s' taken why lost) = then (takes taken) (lets lost)

  fails-below : {s s' : PagerState N E} {r : ArcRef} {o : OpenNode} {e : Error} → OpenChildFails v r o s e s' → IsPagerWhole v s → Passes s s'
  fails-below (way-is-too-deep far) well = stays well
  fails-below no-memory-for-path well = stays well
  fails-below (node-is-refused e s' fails) well = fails-to-open fails

  sets : {s s' : PagerState N E} {o : OpenNode} {found found' : FoundKeys} {known : FoundKey} → RecordsKey v found o known s found' s' → IsPagerWhole v s
      → Passes s s'
  sets (cell-gets-key found' s' loose call same) well = called call
  sets (key-is-found found' eager there others) well = stays well

  leaves : {s s' : PagerState N E} {o : OpenNode} {found found' : FoundKeys} {key : ℕ} → FinishesOpenNode v found s o key found' s' → Passes s s'
  leaves l = let a = called l.stores in then a (then (sets l.sets a.whole) (lets l.lets))

  fails-to-leave : {s s' : PagerState N E} {o : OpenNode} {found : FoundKeys} {e : Error} → FinishFails v found s o e s' → IsPagerWhole v s → Passes s s'
  fails-to-leave (nothing-is-stored e why) well = stays well
  fails-to-leave (blob-is-refused e keys s' have stores) well = called stores
  fails-to-leave (key-is-refused e key keys mid s' have stores unset) well = then (called stores) (called unset.refused)

  turned : {a b : Stage N E} → Turn v a b → IsPagerWhole v a.pager → Passes a.pager b.pager
  turned {a} (has-key b r key next at has one is) well = rw is (stays well)
  turned (goes-down b r depth at none way waits same enters) well = takes enters.takes
  turned (goes-up b key waits left) well = leaves left

  turns-pass : {a b : Stage N E} → Turns v a b → IsPagerWhole v a.pager → Passes a.pager b.pager
  turns-pass (no-turn a) well = stays well
  turns-pass (one-more-turn a b c more last) well = let p = turns-pass more well in then p (turned last p.whole)

  turn-fails : {a : Stage N E} {s' : PagerState N E} {e : Error} → TurnFails v a e s' → IsPagerWhole v a.pager → Passes a.pager s'
  turn-fails (next-is-lost e r at vain) well = stays well
  turn-fails (isnt-entered e r s' at none fails) well = fails-below fails well
  turn-fails (isnt-left e s' fails) well = fails-to-leave fails well

  turns-end : {a : Stage N E} {count : ℕ} {s' : PagerState N E} {e : Error} → EndsTurns v a count e s' → IsPagerWhole v a.pager → Passes a.pager s'
  turns-end (a-turn-fails e s' fails) well = turn-fails fails well
  turns-end (turns-are-spent spent) well = stays well

  gives-up : {path : List OpenNode} {s s' : PagerState N E} → ReleasesPath v path s s' → IsPagerWhole v s → Passes s s'
  gives-up (none-is-open s) well = stays well
  gives-up (one-goes-first path o s mid s' lost more) well = let p = lets lost in then p (gives-up more p.whole)

  walks-pass : {s s' : PagerState N E} {first : OpenNode} {answer : Result ℕ Error} → Walks v first s answer s' → IsPagerWhole v s → Passes s s'
  walks-pass (all-is-stored a b key turns none left) well = then (turns-pass turns well) (leaves left)
  walks-pass (walk-is-refused a e mid low s' turns fails lost gives) well =
      let p = turns-pass turns well in
      let q = turns-end fails p.whole in
      let l = lets lost in
      then p (then q (then l (gives-up gives l.whole)))

  keyless-passes : {s s' : PagerState N E} {h : HandleNumber} {r : Result ℕ Error} → PagesOutKeyless v s h r s' → IsPagerWhole v s → Passes s s'
  keyless-passes (handle-is-of-no-cell e why) well = stays well
  keyless-passes (root-is-refused r e s' root fails) well = fails-to-open fails
  keyless-passes (root-is-walked r first answer mid s' root enters walks) well = let p = takes enters.takes in then p (walks-pass walks p.whole)

  pub passes : {s s' : PagerState N E} {h : HandleNumber} {r : Result ℕ Error} → PagesOutChanged v s h r s' → IsPagerWhole v s → Passes s s'
  passes (no-handle e keys) well = stays well
  passes (root-has-key key keys) well = stays well
  passes (root-has-none answer s' keys pages) well = keyless-passes pages well
