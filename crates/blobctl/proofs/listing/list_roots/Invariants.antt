use Rattle.blobctl.specs.Shown.{Stays}
use Rattle.blobctl.proofs.listing.list_roots.Given as goal

-- what the file shows is as it was
abbrev pub invariant-loop-name : goal.invariant-loop-name
invariant-loop-name g l = Stays (g.B.Blobs.view l.fn.blobs) (g.B.Blobs.view l.blobs)
