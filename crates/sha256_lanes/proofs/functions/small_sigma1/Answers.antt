use Rattle.sha256_lanes.proofs.Shifts.{two_rotations}
use Rattle.sha256_lanes.specs.Lanes.{lanes}
use Rattle.std.proofs.Common.{Fits, refl, rules, subst, w32, [], ◌∷◌}
use Rattle.std.specs.Simd.Lanes.{Each1}
use Rattle.sha256_lanes.proofs.functions.small_sigma1.Goals as goal

pub returns : goal.returns
returns c f e =
    let each : Each1 (Fits w32) c.args.x = search rules in
    let fit : Each1 (Fits w32) (lanes f) = subst (Each1 (Fits w32)) e each in
    rw e
    (λ i. two_rotations 32 (f 0) 10 7 2 13 refl fit.0.fits i ∷ two_rotations 32 (f 1) 10 7 2 13 refl fit.1.0.fits i
    ∷ two_rotations 32 (f 2) 10 7 2 13 refl fit.1.1.0.fits i ∷ two_rotations 32 (f 3) 10 7 2 13 refl fit.1.1.1.0.fits i ∷ [])
