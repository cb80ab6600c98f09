use Rattle.blobctl.specs.Shown.{Stays}
use Rattle.blobctl.proofs.export.add_roots.Given as goal

-- what the file shows is as it was
abbrev pub invariant-loop-name : goal.invariant-loop-name
invariant-loop-name g l = Stays (g.B.Blobs.view l.fn.from) (g.B.Blobs.view l.from)
