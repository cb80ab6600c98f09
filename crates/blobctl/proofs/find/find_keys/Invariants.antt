use Rattle.blobctl.specs.Shown.{Stays}
use Rattle.blobctl.proofs.find.find_keys.Given as goal

-- what the file shows is as it was
abbrev pub invariant-loop-word : goal.invariant-loop-word
invariant-loop-word g l = Stays (g.B.Blobs.view l.fn.blobs) (g.B.Blobs.view l.blobs)
