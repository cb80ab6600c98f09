use Rattle.std.proofs.Common.{map, take, ◌≡◌}
use Rattle.blobctl.proofs.keep.keys_of.Given as goal

-- the keys so far
abbrev pub invariant-loop-version : goal.invariant-loop-version
invariant-loop-version l = l.keys.items ≡ map (λ it. it.key) (take l.version-index l.kept)
