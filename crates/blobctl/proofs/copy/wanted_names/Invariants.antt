use Rattle.blobctl.specs.Shown.{Stays}
use Rattle.blobctl.proofs.copy.wanted_names.Given as goal

-- what the file shows is as it was
abbrev pub invariant-loop-root : goal.invariant-loop-root
invariant-loop-root g l = Stays (g.B.Blobs.view l.fn.from) (g.B.Blobs.view l.from)
