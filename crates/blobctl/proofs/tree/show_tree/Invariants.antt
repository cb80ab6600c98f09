use Rattle.blobctl.specs.Shown.{Stays}
use Rattle.blobctl.proofs.tree.show_tree.Given as goal

-- what the file shows is as it was
abbrev pub invariant-steps : goal.invariant-steps
invariant-steps g l = Stays (g.B.Blobs.view l.fn.blobs) (g.B.Blobs.view l.blobs)
