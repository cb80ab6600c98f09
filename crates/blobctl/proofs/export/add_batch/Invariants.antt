use Rattle.blobctl.specs.Shown.{Stays}
use Rattle.blobctl.proofs.export.add_batch.Given as goal

-- what the file shows is as it was
abbrev pub invariant-loop-listed : goal.invariant-loop-listed
invariant-loop-listed g l = Stays (g.B.Blobs.view l.fn.from) (g.B.Blobs.view l.from)
