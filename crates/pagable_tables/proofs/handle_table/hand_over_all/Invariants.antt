use Rattle.pagable_tables.proofs.Words.{is_named_by, live, moved, take}
use Rattle.pagable_tables.specs.HandleTable.{Becomes}
use Rattle.pagable_tables.proofs.handle_table.hand_over_all.Given as goal

abbrev pub invariant-loop-reference : goal.invariant-loop-reference
invariant-loop-reference l = Becomes l.fn.handles (moved (is_named_by (take l.reference-index l.references)) l.owner (live l.fn.handles.places.items)) l.handles
