use Rattle.sha2.specs.Sha256.{rounds, schedule}
use Rattle.sha256_lanes.specs.Lanes.{in_lanes}
use Rattle.std.proofs.Common.{List, ap, arith, ℕ, ◌∙◌}
use Rattle.sha256_lanes.proofs.compress.run_four_rounds.Goals as goal

pub returns : goal.returns
returns c b s words state =
    let after : ℕ → List (List ℕ) = λ n. in_lanes (λ i. rounds (s i) (schedule (b i) 48) n) in
    let one = c.run_round-v.ensures b s words state in
    let two = c.run_round-v-2.ensures b s words one in
    let three = c.run_round-v-3.ensures b s words (two ∙ ap after (omega arith)) in
    c.run_round.ensures b s words (three ∙ ap after (omega arith)) ∙ ap after (omega arith)
