-- What a release has removed and listed so far: from the world before the call, over the world that the call made first
-- (w), to the tables.
use Rattle.pagable_pager_spec.specs.{
  Basics.times,
  Cascade.{AreNewEntries, IsClosed, IsWithin, MustList, TellsListing, is_keyed, left_rows},
  Kinds.{held, is_handle, is_owned_by, is_pin, is_shared, pins, sharing},
  World.{Core, HasRoom, greatest},
  declared.handle_row.{HandleRow.HandleRow, Owner.Owner},
}
use Rattle.pagable_tables.specs.{HandleTable.rows_of, Nodes.{cell_in, counts_at}, declared.cascade.RefCounts.RefCounts}
use Rattle.pagable_value_spec.specs.declared.{error.Error.Error, numbers.HandleNumber.HandleNumber}
use Rattle.std.specs.{
  Prelude.{Bool, Err, List, None, Ok, Option, Result, Some, filter, is_some, length, map, not, true, vec_capacity, ℕ},
  Prelude.{◌&&◌, ◌++◌, ◌+◌, ◌<◌, ◌==◌, ◌||◌, ◌≡◌, ◌≢◌, ◌≤◌, ◌⊎◌},
  VecDeque.deque_capacity,
}

-- ---- what a release has removed and listed so far

-- the world with the handles, nodes and list of the tables
abbrev pub with_tables : Core → RefCounts → Core
with_tables w t = record w {
  rows = rows_of t;
  cells = λ n. cell_in (counts_at t.nodes n);
  list = t.list.items;
  last = record w.last { handle = t.last_handle };
  places = record { handles = vec_capacity t.handles.places; entries = deque_capacity t.list };
}

-- the call's result, by the first error of listing
abbrev pub result_of_listing : Option Error → Result (Unit {0}) Error
result_of_listing None = Ok tt
result_of_listing (Some e) = Err e

-- whether the handle pins the node and isn't Shared
abbrev pub is_plain_pin : ℕ → HandleRow → Bool
is_plain_pin n h = is_pin n h && not (is_shared h.mode)

-- What a call has made of the world before it, before it releases handles.
pub record Begins (before w : Core) (lists : Bool) : Type 0 where
  -- cells are listed while the storage is open
  pub open_storage : lists ≡ not w.closed
  -- no node has more pins or Shared handles than before, or a plain pin if it had Shared ones
  pub fewer : (n : ℕ) → pins n w.rows ≤ pins n before.rows
  pub shared : (n : ℕ) → sharing n w.rows ≤ sharing n before.rows
  pub uniform : (n : ℕ) → (sharing n before.rows ≡ 0) ⊎ (times (is_plain_pin n) w.rows ≡ 0)
  -- the list names only handles that it owns, each at most once
  pub listed : (q : ℕ) → times (λ (h : HandleNumber). h.0 == q) w.list ≤ times
      (λ h. is_handle q h && is_owned_by Owner.List h) w.rows

-- From the world w, the given handles are removed, and others that had to be; the tables hold what is left and what was
-- listed.
pub record ReleasedSoFar (before w : Core) (given : ℕ → Bool) (lists : Bool) (t : RefCounts) : Type 0 where
  pub begins : Begins before w lists
  pub gone : ℕ → Bool
  pub entries : List HandleRow
  pub rows : rows_of t ≡ left_rows gone w.rows ++ entries
  pub list : t.list.items ≡ filter (λ (q : HandleNumber). not (gone q.0)) w.list
      ++ map (λ (h : HandleRow). h.number) entries
  pub last : t.last_handle ≡ w.last.handle + length entries
  pub within : t.last_handle ≤ greatest
  pub places : HasRoom w.places (with_tables w t).places
  pub cells : (n : ℕ) → is_some (counts_at t.nodes n) ≡ true → cell_in (counts_at t.nodes n) ≡ w.cells n
  pub holds : IsWithin w.rows given gone
  -- each closed set that contains the given handles contains all that were removed, whatever entries are still added to
  -- nodes with handles
  pub least : (s : ℕ → Bool) (final : List HandleRow) → ((n : ℕ) → held n (rows_of t) ≡ 0
      → held n final ≡ 0) → IsWithin w.rows given s
      → IsClosed w.rows (is_keyed w) final s → IsWithin w.rows gone s
  pub new : AreNewEntries w.last.handle entries
  pub only : (n : ℕ) → 0 < held n entries → MustList before w (with_tables w t) n × (held n entries ≡ 1)
  pub tells : TellsListing before w entries (result_of_listing t.listing_error) (with_tables w t)
  -- while a node is dying, there are no more rows than at first
  pub few : t.top ≢ 0 → length (rows_of t) ≤ length w.rows

-- A handle can be removed without the list: no entry that was added has its number, and what is left of the list is the
-- same without it.
pub record IsApart (before w : Core) (given : ℕ → Bool) (lists : Bool) (t : RefCounts)
    (f : ReleasedSoFar before w given lists t) (q : ℕ) : Type 0 where
  pub unentered : times (is_handle q) f.entries ≡ 0
  pub kept : filter (λ (h : HandleNumber). not (f.gone h.0 || h.0 == q)) w.list
      ≡ filter (λ (h : HandleNumber). not (f.gone h.0)) w.list
