-- Live handles in the order of their numbers, and what they become as a call changes them.
use Rattle.pagable_pager_spec.specs.declared.handle_row.HandleRow.{HandleRow}
use Rattle.pagable_tables.specs.declared.{cascade.RefCounts.RefCounts, handle_table.Handles.Handles, place.Place.Place}
use Rattle.std.specs.{
  List.AllPairs,
  Prelude.{All, Bool, List, if◌then◌else◌, length, true, vec_capacity, vec_len, ℕ, [], ◌+◌, ◌-◌, ◌<◌, ◌∷◌, ◌≡◌, ◌≤◌},
}

-- the rows that are live, in their order
abbrev pub live : List Place → List HandleRow
live [] = []
live (p ∷ ps) = if p.is_live then p.row ∷ live ps else live ps

abbrev pub rows_of : RefCounts → List HandleRow
rows_of t = live t.handles.places.items

abbrev pub alive : HandleRow → Place
alive row = record { row = row; is_live = true }

abbrev pub is_live_place : Place → Bool
is_live_place p = p.is_live

abbrev pub IsBefore : Place → Place → Type 0
IsBefore a b = a.row.number.0 < b.row.number.0

-- the number is above all that are in the table
abbrev pub IsNext : ℕ → List Place → Type 0
IsNext q places = All (λ p. p.row.number.0 < q) places

-- the places are in order, and the dead are counted
pub record AreCounted (h : Handles) : Type 0 where
  pub ordered : AllPairs IsBefore h.places.items
  pub counted : length (live h.places.items) + h.dead ≡ length h.places.items

-- The places are in order, the dead are counted, and at most half of the places are dead.
pub record AreSound (h : Handles) : Type 0 where
  pub ordered : AllPairs IsBefore h.places.items
  pub counted : length (live h.places.items) + h.dead ≡ length h.places.items
  pub few : h.dead ≤ length (live h.places.items)

-- how many rows can be added without a request for memory
abbrev pub room : Handles → ℕ
room h = vec_capacity h.places - (vec_len h.places - h.dead)

-- ---- what a call makes of the table, which stays in order and counted

-- the table holds these live rows
pub record Becomes (old : Handles) (are : List HandleRow) (new : Handles) : Type 0 where
  pub sound : AreSound new
  pub rows : live new.places.items ≡ are
  pub capacity : vec_capacity new.places ≡ vec_capacity old.places
  pub next : (q : ℕ) → IsNext q old.places.items → IsNext q new.places.items

-- the table holds the same live rows, with no less room
pub record Widens (old new : Handles) : Type 0 where
  pub sound : AreSound new
  pub rows : live new.places.items ≡ live old.places.items
  pub capacity : vec_capacity old.places ≤ vec_capacity new.places
  pub next : (q : ℕ) → IsNext q old.places.items → IsNext q new.places.items
