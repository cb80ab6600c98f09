-- When handles, nodes and list agree, also in the midst of a cascade.
use Rattle.pagable_pager_spec.specs.{
  Basics.{one, times},
  Calls.row_of,
  Kinds.{held, is_at, is_handle, is_owned_by, owner_value, pins},
  declared.{handle_row.{HandleRow.HandleRow, Owner.Owner}, mode.Mode.Mode},
}
use Rattle.pagable_tables.specs.{
  HandleTable.{AreSound, IsNext, rows_of},
  Nodes.{counts_at, falls_in, holds_in, most_worker_handles_at, next_in, pins_in, refs_at},
  declared.{cascade.RefCounts.RefCounts, nodes.{Counts.Counts, NodeRow.NodeRow}, number_table.NumberTable.NumberTable},
}
use Rattle.pagable_value_spec.specs.declared.numbers.{ArcRef.ArcRef, NodeNumber.NodeNumber}
use Rattle.std.specs.{
  Prelude.{Bool, List, None, Option, Some, false, if◌then◌else◌, nat_lt, not, sum_by, true, ℕ, [], ◌&&◌, ◌+◌, ◌==◌},
  Prelude.{◌||◌, ◌∷◌, ◌≡◌, ◌≤◌},
}

-- a new entry of the list
abbrev pub entry : ℕ → NodeNumber → HandleRow
entry q node = row_of q node Mode.LooseUnpinned Owner.List

abbrev pub entries_of : Bool → ℕ → NodeNumber → List HandleRow
entries_of listed q node = if listed then entry q node ∷ [] else []

-- the dying nodes, from the first one on, by the numbers in their rows
abbrev pub Chain : (ℕ → Option Counts) → ℕ → List ℕ → Type 0
Chain at top [] = top ≡ 0
Chain at top (n ∷ ns) = (top ≡ n) × Chain at (next_in (at n)) ns

abbrev pub is_bare : List ArcRef → Bool
is_bare [] = true
is_bare (r ∷ rs) = false

-- A dying node has no handle, or no pin and a key. Another node has a handle, and has references only while its value
-- is in memory.
abbrev pub is_right : Counts → Bool → Bool
is_right c bare = if c.is_dying then c.holds == 0 || (c.pins == 0 && nat_lt 0 c.key) else nat_lt 0 c.holds
    && (nat_lt 0 c.pins || not (nat_lt 0 c.key) || bare)

abbrev pub Right : Option Counts → List ArcRef → Type 0
Right None refs = refs ≡ []
Right (Some c) refs = is_right c (is_bare refs) ≡ true

-- 1 if the row is that of the handle q and the value of the node n owns it, else 0
abbrev pub owns : HandleRow → ℕ → ℕ → ℕ
owns h n q = one (is_handle q h && is_owned_by (owner_value n) h)

abbrev pub owns_nothing : ℕ → ℕ → ℕ
owns_nothing n q = 0

-- how often references name a handle, and how often a node is in a list
abbrev pub named : ℕ → List ArcRef → ℕ
named q refs = times (λ (r : ArcRef). r.handle.0 == q) refs

abbrev pub often : ℕ → List ℕ → ℕ
often n ns = times (λ m. m == n) ns

-- Nodes by their counts and references, live handles, and the list of dying nodes agree. `extra` counts the handles
-- that a value owns besides those of its references.
pub record Fits (at : ℕ → Option Counts) (refs : ℕ → List ArcRef) (rows : List HandleRow) (top : ℕ) (stack : List ℕ)
    (extra : ℕ → ℕ → ℕ) : Type 0 where
  pub pinned : (n : ℕ) → pins_in (at n) ≡ pins n rows
  pub holding : (n : ℕ) → holds_in (at n) ≡ held n rows
  pub owned : (n q : ℕ) → named q (refs n) + extra n q ≡ sum_by (λ h. owns h n q) rows
  pub chain : Chain at top stack
  pub marked : (n : ℕ) → often n stack ≡ one (falls_in (at n))
  pub right : (n : ℕ) → Right (at n) (refs n)
  pub from_one : at 0 ≡ None

-- whether an owner is a worker; below: whether a worker owns a handle of the node
abbrev pub is_worker : Owner → Bool
is_worker (Owner.Worker v) = true
is_worker o = false

abbrev pub is_work : ℕ → HandleRow → Bool
is_work n h = is_at n h && is_worker h.owner

-- the bound in each node's row is at least the number of its handles that workers own
abbrev pub BoundsWorkerHandles : List HandleRow → NumberTable NodeRow → Type 0
BoundsWorkerHandles rows nodes = (n : ℕ) → times (is_work n) rows ≤ most_worker_handles_at nodes n

pub record IsSoundInCascade (t : RefCounts) (stack : List ℕ) (extra : ℕ → ℕ → ℕ) : Type 0 where
  pub sound : AreSound t.handles
  pub next : IsNext (t.last_handle + 1) t.handles.places.items
  pub fits : Fits (counts_at t.nodes) (refs_at t.nodes) (rows_of t) t.top stack extra
  pub worked : BoundsWorkerHandles (rows_of t) t.nodes

-- whether a value is the owner, and how many handles values own
abbrev pub is_value_owner : Owner → Bool
is_value_owner (Owner.Value n) = true
is_value_owner o = false

abbrev pub valued : List HandleRow → ℕ
valued rows = times (λ h. is_value_owner h.owner) rows
