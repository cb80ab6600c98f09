-- Rows by their numbers: the place of a number, in chunks for 256 numbers each, and its row.
use Rattle.pagable_tables.specs.declared.number_table.NumberTable.{NumberTable}
use Rattle.std.specs.{
  Option.{option_and_then, option_map_or},
  Prelude.{List, Option, slice_get, vec_capacity, ℕ, ◌%◌, ◌/◌},
}

-- what is at a number's place, if the place exists
unfoldable pub place_at : {T : Type 0} → NumberTable T → ℕ → Option (Option T)
place_at t n = option_and_then (λ rows. slice_get rows.items (n % 256)) (slice_get t.chunks.items (n / 256))

-- the row of this number
unfoldable pub row_by : {T : Type 0} → NumberTable T → ℕ → Option T
row_by t n = option_and_then (λ row. row) (place_at t n)

-- the row at a place of a chunk
abbrev pub row_in : {T : Type 0} → List (Option T) → ℕ → Option T
row_in rows place = option_and_then (λ row. row) (slice_get rows place)

-- how many rows the chunk of this number has room for
abbrev pub chunk_capacity : {T : Type 0} → NumberTable T → ℕ → ℕ
chunk_capacity t n = option_map_or vec_capacity (slice_get t.chunks.items (n / 256)) 0
