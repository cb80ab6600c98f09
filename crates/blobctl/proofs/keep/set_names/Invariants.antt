use Rattle.std.proofs.Common.{IsTrue, ◌≡◌}
use Rattle.blobctl.proofs.keep.set_names.Given as goal

-- the blobs are as they were
abbrev pub invariant-loop-version : goal.invariant-loop-version
invariant-loop-version g l = record {
  blobs : IsTrue (g.B.Blobs.view l.to).is_honest → (g.B.Blobs.view l.to).blob ≡ (g.B.Blobs.view l.fn.to).blob;
  honest : IsTrue (g.B.Blobs.view l.to).is_honest → IsTrue (g.B.Blobs.view l.fn.to).is_honest;
}
