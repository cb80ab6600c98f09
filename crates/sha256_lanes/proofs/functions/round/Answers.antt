use Rattle.sha256_lanes.specs.Lanes.{in_lanes}
use Rattle.std.proofs.Common.{ap, refl, slice_index, slice_index_or, ℕ, [], ◌≡◌}
use Rattle.sha256_lanes.proofs.functions.round.Goals as goal

pub returns : goal.returns
returns c s f state word =
    let at : (j : ℕ) → slice_index_or c.args.v j [] ≡ slice_index_or (in_lanes s) j [] = λ j. ap (λ v. slice_index_or v j []) state in
    let has : ℕ → ℕ → ℕ = λ j i. slice_index (s i) j in
    rw (
      c.big_sigma1.ensures (has 4) (at 4),
      c.ch.ensures (has 4) (has 5) (has 6) (at 4) (at 5) (at 6),
      c.big_sigma0.ensures (has 0) (at 0),
      c.maj.ensures (has 0) (has 1) (has 2) (at 0) (at 1) (at 2),
      state,
      word,
    )
    refl
