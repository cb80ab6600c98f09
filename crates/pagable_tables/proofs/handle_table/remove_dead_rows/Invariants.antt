use Rattle.pagable_tables.proofs.Words.{length, live, take, ◌≡◌, ◌≤◌}
use Rattle.pagable_tables.proofs.handle_table.remove_dead_rows.Given as goal

abbrev pub invariant-loop-end : goal.invariant-loop-end
invariant-loop-end l = record { within : l.end ≤ length l.handles.places.items; rows : live (take l.end l.handles.places.items) ≡ live l.handles.places.items }

abbrev pub decreases-loop-end : goal.decreases-loop-end
decreases-loop-end l = l.end
