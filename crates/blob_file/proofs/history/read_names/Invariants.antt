use Rattle.std.proofs.Common.{map, ◌-◌}
use Rattle.blob_file.specs.History.{said_by}
use Rattle.blob_file.proofs.Histories.{NameWalk}
use Rattle.blob_file.proofs.history.read_names.Given as goal

-- what was told of the batches so far
abbrev pub invariant-loop-at : goal.invariant-loop-at
invariant-loop-at g l = NameWalk g.D.Disk l.at l.len l.gate l.fn.disk l.disk (map said_by l.fn.told.items) (map said_by l.told.items)

abbrev pub decreases-loop-at : goal.decreases-loop-at
decreases-loop-at g l = l.len - l.at
