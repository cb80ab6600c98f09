-- One step of the cascade: a handle is removed, an entry may be listed, a node starts dying or is finished.
use Rattle.pagable_pager_spec.specs.{
  Basics.{SameAt, changed, if_there, one, or_else, updated},
  Cascade.{left_rows, only_handle},
  Kinds.{held, is_handle, owner_value, pins},
  World.{Cell, greatest},
  declared.{handle_row.HandleRow.HandleRow, mode.Mode.Mode},
}
use Rattle.pagable_tables.specs.{
  CascadeInvariant.{IsSoundInCascade, entries_of, owns_nothing, valued},
  HandleTable.{AreSound, Becomes, IsNext, live, rows_of},
  Nodes.{cell_in, counts_at, falls_in, has_value},
  declared.{cascade.RefCounts.RefCounts, handle_table.Handles.Handles, nodes.Counts.Counts},
}
use Rattle.pagable_value_spec.specs.{
  declared.{data_key.OptionalDataKey.OptionalDataKey, error.Error.Error, numbers.NodeNumber.NodeNumber},
}
use Rattle.std.specs.{
  Prelude.{Bool, IfSome, List, None, Option, Some, false, if◌then◌else◌, is_some, length, nat_lt, not, sum_by, true},
  Prelude.{vec_capacity, ℕ, [], ◌&&◌, ◌*◌, ◌++◌, ◌+◌, ◌-◌, ◌<◌, ◌==◌, ◌||◌, ◌∷◌, ◌≡◌, ◌≢◌, ◌≤◌, ◌⊎◌},
  VecDeque.deque_capacity,
}

-- whether a handle of this mode is the last pin of a cell without a key
abbrev pub is_last_pin_without_key : Counts → Mode → Bool
is_last_pin_without_key c Mode.LoosePinned = c.pins == 1 && not (nat_lt 0 c.key)
is_last_pin_without_key c Mode.LooseUnpinned = false
is_last_pin_without_key c Mode.Pinned = c.pins == 1 && not (nat_lt 0 c.key)
is_last_pin_without_key c Mode.Shared = false

-- The counts after a handle was removed, or unpinned if it `stays`, and an entry was perhaps listed. A node starts
-- dying when it loses its last handle, or its last pin while it has a key.
abbrev pub is_fallen_by : Counts → Bool → ℕ → ℕ → Bool
is_fallen_by c pinning pins holds = not c.is_dying && (holds == 0 || (pinning && pins == 0 && nat_lt 0 c.key))

-- whether the node starts dying by it
abbrev pub falls_by_release : Counts → Bool → Bool → Bool → Bool
falls_by_release c pinning stays listed =
    is_fallen_by c pinning (c.pins - one pinning) ((if stays then c.holds else c.holds - 1) + one listed)

abbrev pub counts_after_release : Counts → Bool → Bool → Bool → ℕ → Counts
counts_after_release c pinning stays listed top =
    let pins = c.pins - one pinning in
    let holds = (if stays then c.holds else c.holds - 1) + one listed in
    let falls = falls_by_release c pinning stays listed in
    record c { pins = pins; holds = holds; is_dying = c.is_dying || falls; next = if falls then top else c.next }

-- why no entry can be listed: no handle number is left, or no place
abbrev pub CantList : RefCounts → Error → Type 0
CantList t Error.NumbersSpent = greatest ≤ t.last_handle
CantList t Error.OutOfMemory = (t.last_handle < greatest)
    × ((vec_capacity t.handles.places ≤ length (rows_of t))
    ⊎ (deque_capacity t.list ≤ length t.list.items))
CantList t e = ⊥

-- neither the handles nor the list have less capacity
pub record HasPlaces (old new : RefCounts) : Type 0 where
  pub handles : vec_capacity old.handles.places ≤ vec_capacity new.handles.places
  pub entries : deque_capacity old.list ≤ deque_capacity new.list

-- an entry for the node was added at the end of handles and list, or nothing was
pub record AddsEntryIf (old : RefCounts) (node : NodeNumber) (listed : Bool) (new : RefCounts) : Type 0 where
  pub sound : AreSound new.handles
  pub next : IsNext (new.last_handle + 1) new.handles.places.items
  pub rows : rows_of new ≡ rows_of old
      ++ entries_of listed (old.last_handle + 1) node
  pub list : new.list.items ≡ old.list.items ++ (if listed then record { 0 = old.last_handle + 1 } ∷ [] else [])
  pub last : new.last_handle ≡ old.last_handle + one listed
  pub left : listed ≡ true → old.last_handle < greatest
  pub places : HasPlaces old new
  pub nodes : new.nodes ≡ old.nodes
  pub top : new.top ≡ old.top

-- A wanted entry is added, or there is an error, and the first error is kept; if none is wanted nothing changes.
pub record AddsWantedEntry (old : RefCounts) (node : NodeNumber) (wanted listed : Bool) (new : RefCounts) : Type 0 where
  pub comes : AddsEntryIf old node listed new
  pub only : listed ≡ true → wanted ≡ true
  pub told : (listed ≡ true) ⊎ (wanted ≡ false) → new.listing_error ≡ old.listing_error
  pub why : listed ≡ false → wanted ≡ true → (e : Error) × CantList old e
      × (new.listing_error ≡ or_else old.listing_error (Some e))

-- the row of a loose handle without its pin
abbrev pub unpinned : HandleRow → HandleRow
unpinned x = record x { mode = Mode.LooseUnpinned }

-- the handle of the row x is removed, or unpinned if it `stays`
pub record RemovesOrUnpins (old : Handles) (x : HandleRow) (stays : Bool) (new : Handles) : Type 0 where
  pub becomes : Becomes old (if stays then changed (is_handle x.number.0) unpinned
      (live old.places.items) else left_rows (only_handle x.number) (live old.places.items)) new
  pub sums : (f : HandleRow → ℕ) → sum_by f (live new.places.items) + f x
      ≡ sum_by f (live old.places.items) + (if stays then f (unpinned x) else 0)
  pub there : (f : HandleRow → ℕ) → f x ≤ sum_by f (live old.places.items)

-- the nodes that are left are the same cells
abbrev pub CellsStay : (ℕ → Option Counts) → (ℕ → Option Counts) → Type 0
CellsStay old new = (n : ℕ) → is_some (new n) ≡ true → (is_some (old n) ≡ true) × (cell_in (new n) ≡ cell_in (old n))

-- a node that isn't dying afterwards wasn't before, and has its value or not as before
abbrev pub ValueStays : Option Counts → Option Counts → Type 0
ValueStays old new = falls_in new ≡ false → (falls_in old ≡ false) × (has_value new ≡ has_value old)

-- The handle of the row x is removed, or unpinned if it `stays`. Then an entry for its node may be listed.
pub record ReleasesWithoutCascade (old : RefCounts) (stack : List ℕ) (x : HandleRow) (stays lists : Bool)
    (new : RefCounts) : Type 0 where
  pub left : Handles
  pub leaves : RemovesOrUnpins old.handles x stays left
  pub counts : Counts
  pub is : counts_at old.nodes x.node.0 ≡ Some counts
  pub listed : Bool
  pub between : RefCounts
  pub comes : AddsWantedEntry (record old { handles = left }) x.node
      (lists && is_last_pin_without_key counts x.mode) listed between
  pub same : new ≡ record between { nodes = new.nodes; top = new.top }
  pub cells : CellsStay (counts_at old.nodes) (counts_at new.nodes)
  pub values : (n : ℕ) → ValueStays (counts_at old.nodes n) (counts_at new.nodes n)
  pub more : List ℕ
  pub falling : IsSoundInCascade new more owns_nothing
  pub long : length more ≤ length stack + 1
  -- if its handle stays, the node dies only if it has a key
  pub keyed : stays ≡ true → old.top ≡ 0 → new.top ≢ 0 → nat_lt 0 counts.key ≡ true

-- the counts of a node that the cascade has finished, None if it has no handle
abbrev pub finished_counts : Counts → Option Counts
finished_counts c = if c.holds == 0 then None else Some (record c { is_dying = false; next = 0 })

-- the value of the node is to be dropped: the node has no handle, or it has a key and no pin
abbrev pub HasFallen : (ℕ → Option Counts) → List HandleRow → ℕ → Type 0
HasFallen at rows n = (held n rows ≡ 0) ⊎ ((if_there (λ (c : Counts). nat_lt 0 c.key) false (at n) ≡ true)
    × (pins n rows ≡ 0))

-- the handle of the row x, which the value of the dying node n owned, is released
pub record FallsBy (old : RefCounts) (x : HandleRow) (n : ℕ) (lists : Bool) (new : RefCounts) : Type 0 where
  pub owner : x.owner ≡ owner_value n
  pub fallen : HasFallen (counts_at old.nodes) (rows_of old) n
  pub popped : RefCounts
  pub same : popped ≡ record old { nodes = popped.nodes }
  pub counts : (m : ℕ) → counts_at popped.nodes m ≡ counts_at old.nodes m
  pub stack : List ℕ
  pub gives : ReleasesWithoutCascade popped stack x false lists new

-- One step: a handle is released, or the first dying node is finished and its value may be dropped.
pub record Steps (old : RefCounts) (stack : List ℕ) (lists : Bool) (r : Option NodeNumber)
    (new : RefCounts) : Type 0 where
  pub rest : List ℕ
  pub falling : IsSoundInCascade new rest owns_nothing
  pub less : 2 * valued (rows_of new) + length rest < 2 * valued (rows_of old) +
      length stack
  pub cells : CellsStay (counts_at old.nodes) (counts_at new.nodes)
  pub values : (n : ℕ) → r ≢ Some (record { 0 = n }) → ValueStays (counts_at old.nodes n) (counts_at new.nodes n)
  pub gone : IfSome r (λ n. has_value (counts_at new.nodes n.0) ≡ false)
  pub fewer : length (rows_of new) ≤ length (rows_of old)
  pub unlisting : lists ≡ false → new.list.items ≡ old.list.items
  pub what : ((r ≡ Some (record { 0 = old.top })) × (new ≡ record old { nodes = new.nodes; top = new.top }))
      ⊎ ((x : HandleRow) × (n : ℕ) × (r ≡ None) × FallsBy old x n lists new)

-- whether it is this node
abbrev pub is_node : Option NodeNumber → ℕ → Bool
is_node None n = false
is_node (Some m) n = n == m.0

-- The counts of a node that gets a key: it dies if nothing pins it.
abbrev pub keyed : Counts → ℕ → ℕ → Counts
keyed c key top = record c { key = key; is_dying = c.pins == 0; next = if c.pins == 0 then top else c.next }

-- this node's cell gets the key, and others stay
abbrev pub GetsKey : (ℕ → Option Counts) → (ℕ → Option Counts) → ℕ → ℕ → Type 0
GetsKey old new n key = SameAt (updated n (if_there (λ (cell : Cell). Some
    (record cell { key = OptionalDataKey.Some key })) None (cell_in (old n))) (λ m. cell_in (old m)))
    (λ m. cell_in (new m))
