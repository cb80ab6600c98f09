use Rattle.pagable_changes.specs.Changes.{to-deeper-node, to-older-cell}
use Rattle.std.proofs.Common.{arith, refl, sym}
use Rattle.pagable_changes.proofs.turns.depth_below.Goals as goal

pub returns-then-is_loose-clause-leads : goal.returns-then-is_loose-clause-leads
returns-then-is_loose-clause-leads c = to-older-cell (sym c.if-is_loose.ensures) (omega (arith, c.if-reference-node.false))

pub returns-clause-leads : goal.returns-clause-leads
returns-clause-leads c = to-deeper-node _ (sym c.if-is_loose.ensures) refl (omega (arith, c.if-node-ge-LONGEST_PATH.false))
