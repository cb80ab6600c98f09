use Rattle.std.proofs.Common.{length}
use Rattle.blob_file.proofs.RowWalks.{Takes}
use Rattle.blob_file.proofs.index.take_rows.Given as goal

abbrev pub invariant-loop-rest : goal.invariant-loop-rest
invariant-loop-rest l = Takes l.first l.bodies l.left l.rows l.rest l.initial.index l.index

abbrev pub decreases-loop-rest : goal.decreases-loop-rest
decreases-loop-rest l = length l.rest
