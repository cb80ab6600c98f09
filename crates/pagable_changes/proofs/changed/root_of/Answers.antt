use Rattle.pagable_changes.specs.Changes.{no-such-handle, node-is-gone, type-has-no-kinds}
use Rattle.std.proofs.Common.{sym}
use Rattle.pagable_changes.proofs.changed.root_of.Goals as goal

pub returns-in-Err-clause-fails : goal.returns-in-Err-clause-fails
returns-in-Err-clause-fails g c = no-such-handle _ c.in-Err.ensures

pub returns-in_default-clause-fails : goal.returns-in_default-clause-fails
returns-in_default-clause-fails g c = node-is-gone _ c.in-Ok.ensures (sym c.in_default.ensures)

pub returns-in_default-loose_of-clause-fails : goal.returns-in_default-loose_of-clause-fails
returns-in_default-loose_of-clause-fails g c = type-has-no-kinds _ _ c.in-Ok.ensures (sym c.in-Some.ensures) c.in_default-loose_of.ensures.none
