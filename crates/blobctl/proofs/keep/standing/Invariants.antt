use Rattle.blobctl.specs.Shown.{Stays}
use Rattle.blobctl.proofs.keep.standing.Given as goal

-- what the file shows is as it was
abbrev pub invariant-loop-row : goal.invariant-loop-row
invariant-loop-row g l = Stays (g.B.Blobs.view l.fn.from) (g.B.Blobs.view l.from)
