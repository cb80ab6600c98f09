use Rattle.blobctl.specs.Shown.{Stays}
use Rattle.blobctl.proofs.diff.walk_from.Given as goal

-- what the file shows is as it was
abbrev pub invariant-keys : goal.invariant-keys
invariant-keys g l = Stays (g.B.Blobs.view l.fn.blobs) (g.B.Blobs.view l.blobs)
