use Rattle.pagable_pageout.proofs.{Waits.how-long, Words.{Bool, shelf_of}}
use Rattle.pagable_pageout.proofs.lent_table.LentTable.would_deadlock.Given as goal
use Rattle.pagable_pageout.specs.Slots.{TellsDeadlock}

-- where the worker that was come to leads, the first one does
abbrev pub invariant-loop-worker : goal.invariant-loop-worker
invariant-loop-worker g l = (b : Bool) → TellsDeadlock (shelf_of l.self) l.asker l.worker b → TellsDeadlock (shelf_of l.self) l.asker l.start b

abbrev pub decreases-loop-worker : goal.decreases-loop-worker
decreases-loop-worker g l = (how-long (shelf_of l.self) l.self.ends l.worker).0
