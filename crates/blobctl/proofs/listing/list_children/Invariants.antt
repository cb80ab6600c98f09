use Rattle.blobctl.specs.Shown.{Stays}
use Rattle.blobctl.proofs.listing.list_children.Given as goal

-- what the file shows is as it was
abbrev pub invariant-loop-child : goal.invariant-loop-child
invariant-loop-child g l = Stays (g.B.Blobs.view l.fn.blobs) (g.B.Blobs.view l.blobs)
