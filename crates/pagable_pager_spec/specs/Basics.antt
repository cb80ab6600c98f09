-- The types that the specification of the pager uses, re-exported here; and functions on lists, and on functions of a
-- number.
use Rattle.std.specs.{
  Prelude.{Bool, List, None, Option, Some, false, if◌then◌else◌, map, slice_get, sum_by, ℕ, [], ◌==◌, ◌||◌, ◌∷◌, ◌≡◌},
}
pub use Rattle.pagable_pager_spec.specs.declared.{
  calls.{Call.Call, FetchTarget.FetchTarget, Found.Found, Reply.Reply},
  events.{Action.Action, Claim.Claim, Event.Event, EventReply.EventReply, LoadAnswer.LoadAnswer, LoadReply.LoadReply},
  events.{PinStep.PinStep, TableNumber.TableNumber, WorkerAnswer.WorkerAnswer, WorkerReply.WorkerReply},
  handle_row.{HandleRow.HandleRow, Owner.Owner},
  mode.Mode.Mode,
  pinning.{Beginning.Beginning, Pinning.Pinning},
}
pub use Rattle.pagable_value_spec.specs.{
  Blob.Blob,
  Height.{Kid, above, deepest_path, height, is_eager, is_loose_kind, is_pinned_kind, is_shared_kind, kind_of_kid},
  Height.longest_path,
  Meaning.Meaning,
  Shape.Shape,
  Trees.{ReadsTree, Tree, Types, tree, type_of},
  declared.{data_key.OptionalDataKey.OptionalDataKey, error.Error.Error},
  declared.numbers.{ArcRef.ArcRef, HandleNumber.HandleNumber, Identity.Identity, Kind.Kind, LoadNumber.LoadNumber},
  declared.numbers.{NodeNumber.NodeNumber, WorkerNumber.WorkerNumber},
}

-- 1 for true and 0 for false, so that a sum counts rows
abbrev pub one : Bool → ℕ
one b = if b then 1 else 0

-- the list contains x
abbrev pub Among : {X : Type 0} → List X → X → Type 0
Among xs x = (i : ℕ) × (slice_get xs i ≡ Some x)

-- how many elements pass the test
abbrev pub times : {X : Type 0} → (X → Bool) → List X → ℕ
times test xs = sum_by (λ x. one (test x)) xs

-- the list with f applied to the elements that pass the test
abbrev pub changed : {X : Type 0} → (X → Bool) → (X → X) → List X → List X
changed test f xs = map (λ x. if test x then f x else x) xs

unfoldable pub is_in : List ℕ → ℕ → Bool
is_in [] q = false
is_in (x ∷ xs) q = (x == q) || is_in xs q

-- the function with the value x at n
abbrev pub updated : {X : Type 0} → ℕ → X → (ℕ → X) → ℕ → X
updated n x f q = if q == n then x else f q

-- f of the value if there is one, and y otherwise
abbrev pub if_there : {X Y : Type 0} → (X → Y) → Y → Option X → Y
if_there f y None = y
if_there f y (Some x) = f x

abbrev pub or_else : {X : Type 0} → Option X → Option X → Option X
or_else (Some x) y = Some x
or_else None y = y

-- the two functions have the same value at every number
abbrev pub SameAt : {X : Type 0} → (ℕ → X) → (ℕ → X) → Type 0
SameAt f g = (q : ℕ) → g q ≡ f q
