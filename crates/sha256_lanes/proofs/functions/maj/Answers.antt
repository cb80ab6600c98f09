use Rattle.sha256_lanes.proofs.Majority.{maj_short}
use Rattle.std.proofs.Common.{[], ◌∷◌}
use Rattle.sha256_lanes.proofs.functions.maj.Goals as goal

pub returns : goal.returns
returns c f g h x y z =
    rw (x, y, z)
    (λ i. maj_short (f 0) (g 0) (h 0) i ∷ maj_short (f 1) (g 1) (h 1) i ∷ maj_short (f 2) (g 2) (h 2) i ∷ maj_short (f 3) (g 3) (h 3) i ∷ [])
