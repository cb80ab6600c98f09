use Rattle.pagable_tables.proofs.Words.{is_in, live, moved, numbers_of, take}
use Rattle.pagable_tables.specs.HandleTable.{Becomes}
use Rattle.pagable_tables.proofs.handle_table.hand_over_each.Given as goal

abbrev pub invariant-loop-handle : goal.invariant-loop-handle
invariant-loop-handle l = Becomes l.fn.handles (moved (is_in (numbers_of (take l.handle-index l.named))) l.owner (live l.fn.handles.places.items)) l.handles
