use Rattle.sha2.specs.Sha256.{rounds, schedule}
use Rattle.sha256_lanes.specs.Lanes.{in_lanes}
use Rattle.std.proofs.Common.{List, ap, arith, ℕ, ◌∙◌}
use Rattle.sha256_lanes.proofs.compress.run_rounds.Goals as goal

pub loop-turn-init : goal.loop-turn-init
unfolding rounds
loop-turn-init c b s words state = state

pub loop-turn-preserved : goal.loop-turn-preserved
loop-turn-preserved c b s words state =
    let after : ℕ → List (List ℕ) = λ n. in_lanes (λ i. rounds (s i) (schedule (b i) 48) n) in
    let half = c.run_four_rounds-half.ensures b s words (c.loop-turn.invariant b s words state) in
    c.run_four_rounds-after.ensures b s words half ∙ ap after (omega arith)
