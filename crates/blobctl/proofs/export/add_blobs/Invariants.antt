use Rattle.blobctl.specs.Shown.{Stays}
use Rattle.blobctl.proofs.export.add_blobs.Given as goal

-- what the file shows is as it was
abbrev pub invariant-loop-batch : goal.invariant-loop-batch
invariant-loop-batch g l = Stays (g.B.Blobs.view l.fn.from) (g.B.Blobs.view l.from)
