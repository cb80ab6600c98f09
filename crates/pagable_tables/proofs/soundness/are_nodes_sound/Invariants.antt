use Rattle.pagable_tables.specs.Soundness.{are_nodes_sound}
use Rattle.std.proofs.Common.{◌≡◌}
use Rattle.pagable_tables.proofs.soundness.are_nodes_sound.Given as goal

-- the nodes above this one are sound
abbrev pub invariant-loop-left : goal.invariant-loop-left
invariant-loop-left g l = are_nodes_sound l.t l.values l.t.last_node ≡ are_nodes_sound l.t l.values l.left

abbrev pub decreases-loop-left : goal.decreases-loop-left
decreases-loop-left g l = l.left
