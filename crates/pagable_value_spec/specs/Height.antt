-- Kinds of references, the children of a value, and how deep references lead. The value type t has the kinds 3t
-- (shared: an `Arc`), 3t + 1 (loose: a `PagableArc`) and 3t + 2 (pinned: a `PinnedPagableArc`).
use Rattle.pagable_value_spec.specs.{Meaning.{Meaning, followed, pair, variant}, Trees.{Tree, tree, type_of}}
use Rattle.std.specs.Prelude.{Bool, if◌then◌else◌, max, not, suc, true, zero, ℕ, ◌%◌, ◌+◌, ◌==◌, ◌≡◌, ◌⊎◌}

abbrev pub is_shared_kind : ℕ → Bool
is_shared_kind kind = kind % 3 == 0

abbrev pub is_loose_kind : ℕ → Bool
is_loose_kind kind = kind % 3 == 1

abbrev pub is_pinned_kind : ℕ → Bool
is_pinned_kind kind = kind % 3 == 2

-- Whether a load of a value also loads what a reference of this kind leads to. It does unless the kind is loose.
abbrev pub is_eager : ℕ → Bool
is_eager kind = not (is_loose_kind kind)

-- a child: the kind of a reference, and what the value means that it leads to
pub record Kid : Type 0 where
  pub kind : ℕ
  pub meaning : Meaning ⊥

abbrev pub kid : ℕ → Meaning ⊥ → Kid
kid kind meaning = record { kind = kind; meaning = meaning }

abbrev pub kind_of_kid : Kid → ℕ
kind_of_kid k = k.kind

abbrev pub tree_of_kid : Kid → Tree
tree_of_kid k = tree (type_of k.kind) k.meaning

-- how many references a path may have: a limit of this port
abbrev pub longest_path : ℕ
longest_path = 128

-- the height that a reference of this kind adds to its holder, if its target has this height; a loose one adds none
abbrev pub above : ℕ → ℕ → ℕ
above kind height = if is_eager kind then height + 1 else 0

-- how many references the longest path down from the tree's root has; a path has no loose reference
unfoldable pub height : Meaning ⊥ → ℕ
height (pair a b) = max (height a) (height b)
height (variant n a) = height a
height (followed kind a) = above kind (height a)
height _ = 0

-- a path of this many references leads down from the tree's root
unfoldable pub HasPath : ℕ → Meaning ⊥ → Type 0
HasPath n (pair a b) = HasPath n a ⊎ HasPath n b
HasPath n (variant x a) = HasPath n a
HasPath zero (followed kind a) = Unit {0}
HasPath (suc n) (followed kind a) = (is_eager kind ≡ true) × HasPath n a
HasPath n _ = n ≡ 0

-- how long the longest path in the tree is, from its root or from the target of a loose reference
unfoldable pub deepest_path : Meaning ⊥ → ℕ
deepest_path (pair a b) = max (deepest_path a) (deepest_path b)
deepest_path (variant n a) = deepest_path a
deepest_path (followed kind a) = max (above kind (height a)) (deepest_path a)
deepest_path _ = 0
