use Rattle.pagable_tables.specs.NumberTable.{row_in}
use Rattle.std.proofs.Common.{None, length, ℕ, ◌<◌, ◌≡◌, ◌≤◌}
use Rattle.pagable_tables.proofs.number_table.trim.Given as goal

abbrev pub invariant-loop-end : goal.invariant-loop-end
invariant-loop-end g l = record { within : l.end ≤ length l.rows.items; few : l.end ≤ 256; none : (p : ℕ) → l.end ≤ p → p < 256 → row_in l.rows.items p ≡ None }

abbrev pub decreases-loop-end : goal.decreases-loop-end
decreases-loop-end g l = l.end
