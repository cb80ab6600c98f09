use Rattle.blobctl.specs.Digits.{begins}
use Rattle.std.proofs.Common.{take, ◌≡◌}
use Rattle.std.specs.List.{filter}
use Rattle.blobctl.proofs.find.blobs_that_begin.Given as goal

-- those of the blobs so far
abbrev pub invariant-loop-blob : goal.invariant-loop-blob
invariant-loop-blob l = l.found.items ≡ filter (λ it. begins l.digits it.key) (take l.blob-index l.all)
