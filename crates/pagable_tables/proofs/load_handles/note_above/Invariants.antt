use Rattle.pagable_tables.specs.Core.{AreNoted, AreRaised}
use Rattle.pagable_tables.proofs.load_handles.note_above.Given as goal

abbrev pub invariant-loop-place : goal.invariant-loop-place
invariant-loop-place l = record { rows : AreRaised l.fn.loads l.loads; noted : AreNoted l.loads l.handles.places.items l.number l.place }
