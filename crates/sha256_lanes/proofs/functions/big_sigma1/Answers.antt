use Rattle.sha256_lanes.proofs.Shifts.{three_rotations}
use Rattle.sha256_lanes.specs.Lanes.{lanes}
use Rattle.std.proofs.Common.{Fits, refl, rules, subst, w32, [], ◌∷◌}
use Rattle.std.specs.Simd.Lanes.{Each1}
use Rattle.sha256_lanes.proofs.functions.big_sigma1.Goals as goal

pub returns : goal.returns
returns c f e =
    let each : Each1 (Fits w32) c.args.x = search rules in
    let fit : Each1 (Fits w32) (lanes f) = subst (Each1 (Fits w32)) e each in
    rw e
    (λ i. three_rotations 32 (f 0) 6 5 14 7 refl fit.0.fits i ∷ three_rotations 32 (f 1) 6 5 14 7 refl fit.1.0.fits i
    ∷ three_rotations 32 (f 2) 6 5 14 7 refl fit.1.1.0.fits i ∷ three_rotations 32 (f 3) 6 5 14 7 refl fit.1.1.1.0.fits i ∷ [])
