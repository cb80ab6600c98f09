-- Typed references of handles, and why a handle has none.
use Rattle.pagable_pager_spec.specs.{
  Basics.{ArcRef, Error, HandleNumber, NodeNumber},
  Pager.{PagerState, ValueCall},
  World.{Core, row_at, type_at},
  declared.handle_row.HandleRow.HandleRow,
}
use Rattle.std.specs.Prelude.{None, Ok, Option, Some, ℕ, ◌≡◌, ◌≢◌, ◌⊎◌}

-- the handle is live, and its node is this one and of this type
pub record IsNodeOfType (w : Core) (h : HandleNumber) (t : ℕ) (node : NodeNumber) : Type 0 where
  pub row : HandleRow
  pub live : row_at w h ≡ Some row
  pub at : node ≡ row.node
  pub typed : type_at w row.node.0 ≡ Some t

-- the reference, of the kind of this number, names the handle with its node, which is of this type
pub record Refers (w : Core) (h : HandleNumber) (t number : ℕ) (r : ArcRef) : Type 0 where
  pub at : IsNodeOfType w h t r.node
  pub handle : r.handle ≡ h
  pub kind : r.kind.0 ≡ number

-- no such handle is live, or its node is of another type
abbrev pub RefusesReference : Core → HandleNumber → ℕ → Error → Type 0
RefusesReference w h t Error.NoSuchHandle = row_at w h ≡ None
RefusesReference w h t Error.WrongKind = (row : HandleRow) × (row_at w h ≡ Some row) × (type_at w row.node.0 ≢ Some t)
RefusesReference w h t _ = ⊥

-- the handle pins its node, whose value holds this
pub record IsHeldBy {N T E : Type 0} (s : PagerState N E) (h : HandleNumber) (held : N → Option T)
    (y : T) : Type 0 where
  pub x : N
  pub pins : ValueCall s h (Ok (Some x))
  pub holds : held x ≡ Some y

-- no such handle is live, it pins nothing, its node is of another type or holds none of the type, or memory is lacking
abbrev pub RefusesHolding : {N T E : Type 0} → PagerState N E → HandleNumber → ℕ → (N → Option T) → Error → Type 0
RefusesHolding s h t held Error.NoSuchHandle = row_at s.core h ≡ None
RefusesHolding s h t held Error.WrongMode = ValueCall s h (Ok None)
RefusesHolding {N} s h t held Error.WrongKind = ((row : HandleRow) × (row_at s.core h ≡ Some row)
    × (type_at s.core row.node.0 ≢ Some t)) ⊎ ((x : N) × ValueCall s h (Ok (Some x)) × (held x ≡ None))
RefusesHolding s h t held Error.OutOfMemory = Unit {0}
RefusesHolding s h t held _ = ⊥
