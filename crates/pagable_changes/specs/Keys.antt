-- The law of a page-out that takes the keys of cells: nodes keep their trees, the returned key is read as the root's
-- tree, and it is the root's Merkle key if the keys that it took are Merkle keys.
use Rattle.pagable_changes.specs.Changes.{
  PagesOutChanged,
  PagesOutKeyless,
  Stage,
  Turn,
  Turns,
  Walks,
  all-is-stored,
  goes-down,
  goes-up,
  handle-is-of-no-cell,
  has-key,
  no-handle,
  no-turn,
  one-more-turn,
  root-has-key,
  root-has-none,
  root-is-refused,
  root-is-walked,
  walk-is-refused,
}
use Rattle.pagable_changes.specs.declared.nodes.OpenNode.{OpenNode}
use Rattle.pagable_pager_spec.specs.{
  Basics.{Error, HandleNumber, OptionalDataKey, ReadsTree, Tree, type_of},
  Pager.{IsPagerWhole, PagerStandsFor, PagerState, SameTrees},
  Runs.HoldsSettled,
  World.{IsLawful, Values, key_at, row_at},
  declared.handle_row.HandleRow.HandleRow,
}
use Rattle.pagable_theorems.specs.{CallerLaws.KeepsNodes, PageOutLaws.NobodyWorks}
use Rattle.pagable_value_spec.specs.{Canonical.IsReadableType, Merkle.KeyOf}
use Rattle.std.specs.Prelude.{IfOk, Result, Some, ℕ, ◌≡◌, ◌⊎◌}

-- the types of the values that turns write, that a walk writes, and that a page-out writes
module _ {N E : Type 0} {v : Values N} where
  abbrev pub TurnWrites : {a b : Stage N E} → Turn v a b → ℕ → Type 0
  TurnWrites (has-key b r key next at has one is) t = ⊥
  TurnWrites (goes-down b r depth at none leads waits same enters) t = t ≡ type_of r.kind.0
  TurnWrites (goes-up b key waits leaves) t = ⊥

  unfoldable pub TurnsWrite : {a b : Stage N E} → Turns v a b → ℕ → Type 0
  TurnsWrite (no-turn a) t = ⊥
  TurnsWrite (one-more-turn a b c more last) t = TurnsWrite more t ⊎ TurnWrites last t

  abbrev pub WalkWrites : {first : OpenNode} {s s' : PagerState N E} {r : Result ℕ Error} → Walks v first s r s' → ℕ
      → Type 0
  WalkWrites (all-is-stored a b key turns none leaves) t = TurnsWrite turns t
  WalkWrites (walk-is-refused a e mid low s' turns fails lets gives) t = TurnsWrite turns t

  abbrev pub KeylessWrites : {s s' : PagerState N E} {h : HandleNumber} {r : Result ℕ Error}
      → PagesOutKeyless v s h r s' → ℕ → Type 0
  KeylessWrites (handle-is-of-no-cell e why) t = ⊥
  KeylessWrites (root-is-refused r e s' root fails) t = ⊥
  KeylessWrites (root-is-walked r first answer mid s' root enters walks) t =
      (t ≡ type_of r.kind.0) ⊎ WalkWrites walks t

  abbrev pub Writes : {s s' : PagerState N E} {h : HandleNumber} {r : Result ℕ Error} → PagesOutChanged v s h r s' → ℕ
      → Type 0
  Writes (no-handle e keys) t = ⊥
  Writes (root-has-key key keys) t = ⊥
  Writes (root-has-none answer s' keys pages) t = KeylessWrites pages t

-- each cell that has a key has the Merkle key of its tree
abbrev pub HasMerkleKeys : {N E : Type 0} → Values N → PagerState N E → (ℕ → Tree) → Type 0
HasMerkleKeys v s trees = (n key : ℕ) → key_at s.core n ≡ OptionalDataKey.Some key → KeyOf v.hash v.types (trees n) key

-- Each node keeps its tree, and the pager stands for the trees; the returned key is read as the tree of node n; and if
-- each key was a Merkle key before, each key is one afterwards, the returned one too.
pub record LeavesTrees {N E : Type 0} (v : Values N) (s : PagerState N E) (trees : ℕ → Tree) (n : ℕ)
    (r : Result ℕ Error) (s' : PagerState N E) : Type 0 where
  pub trees' : ℕ → Tree
  pub same : SameTrees s.core.last.node trees trees'
  pub stands : PagerStandsFor v s' trees'
  pub reads : IfOk r (λ key. ReadsTree s'.core.stored v.types key (trees' n))
  pub keys : HasMerkleKeys v s trees → HasMerkleKeys v s' trees'
  pub is_key : HasMerkleKeys v s trees → IfOk r (λ key. KeyOf v.hash v.types (trees' n) key)

-- If each type that the page-out writes is read back, nobody works, no value in memory is written later, and the pager
-- stands for trees (so each key is read as its cell's tree), then the pager leaves trees as `LeavesTrees` says, for the
-- handle's node.
pub record KeepsTrees {N E : Type 0} (v : Values N) (s : PagerState N E) (h : HandleNumber) (r : Result ℕ Error)
    (s' : PagerState N E) : Type 0 where
  pub reads : (run : PagesOutChanged v s h r s') → ((t : ℕ) → Writes run t → IsReadableType v.types t)
      → NobodyWorks s.core → HoldsSettled v s
      → (row : HandleRow) (trees : ℕ → Tree) → PagerStandsFor v s trees
      → row_at s.core h ≡ Some row → LeavesTrees v s trees row.node.0 r s'
  -- each node keeps its tree, each handle its node, and no value comes into memory
  pub operates : (run : PagesOutChanged v s h r s') → ((t : ℕ) → Writes run t → IsReadableType v.types t)
      → KeepsNodes v s s'

-- each such page-out keeps trees so
abbrev pub ChangedLaw : {N : Type 0} → (E : Type 0) → Values N → Type 0
ChangedLaw {N} E v = (s s' : PagerState N E) (h : HandleNumber) (r : Result ℕ Error) → IsPagerWhole v s → IsLawful v
    → KeepsTrees v s h r s'
