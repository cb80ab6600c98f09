use Rattle.pagable_changes.specs.Changes.{cell-is-away, cell-is-not-pinned, cell-is-pinned}
use Rattle.pagable_changes.proofs.nodes.pin_loosely.Goals as goal

pub returns-in-Ok-Pinned-clause-pins : goal.returns-in-Ok-Pinned-clause-pins
returns-in-Ok-Pinned-clause-pins g c = cell-is-pinned _ _ (rw c.in-Ok-Pinned.field-0-is at c.in-Ok-Pinned.ensures.called)

pub returns-in-Ok-NeedsLoad-clause-pins : goal.returns-in-Ok-NeedsLoad-clause-pins
returns-in-Ok-NeedsLoad-clause-pins g c = cell-is-away _ _ (rw c.in-Ok-NeedsLoad.field-0-is at c.in-Ok-NeedsLoad.ensures.called)

pub returns-in-Err-clause-pins : goal.returns-in-Err-clause-pins
returns-in-Err-clause-pins g c = cell-is-not-pinned _ _ c.in-Err.ensures.called
