use Rattle.pagable_changes.proofs.Changing.{sets-cell}
use Rattle.pagable_changes.specs.Changes.{key-is-found}
use Rattle.std.proofs.Common.{sym}
use Rattle.pagable_changes.proofs.turns.record_key.Goals as goal

pub returns-then-is_loose-clause-sets : goal.returns-then-is_loose-clause-sets
returns-then-is_loose-clause-sets g c = sets-cell _ c.args.node.now c.args.known _ _ _ c.set_key.result (sym c.if-is_loose.ensures) c.set_key.ensures.called

pub returns-clause-sets : goal.returns-clause-sets
returns-clause-sets g c = key-is-found _ (sym c.if-is_loose.ensures) c.put.ensures.here c.put.ensures.others
