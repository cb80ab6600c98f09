use Rattle.std.proofs.Common.{◌-◌}
use Rattle.blob_file.proofs.Walks.{Walks}
use Rattle.blob_file.proofs.scanning.find_end.Given as goal

abbrev pub invariant-loop-head : goal.invariant-loop-head
invariant-loop-head g l = Walks g.D.Disk l.at l.len l.index l.initial.disk l.disk

abbrev pub decreases-loop-head : goal.decreases-loop-head
decreases-loop-head g l = l.len - l.at
