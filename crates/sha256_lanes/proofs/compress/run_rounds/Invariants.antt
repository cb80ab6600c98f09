use Rattle.sha2.specs.Sha256.{rounds, schedule}
use Rattle.sha256_lanes.specs.Lanes.{HasWords, in_lanes}
use Rattle.std.proofs.Common.{List, ℕ, ◌*◌, ◌≡◌}
use Rattle.sha256_lanes.proofs.compress.run_rounds.Given as goal

abbrev pub invariant-loop-turn : goal.invariant-loop-turn
invariant-loop-turn l = (b s : ℕ → List ℕ) → HasWords l.words b 64 → l.fn.state ≡ in_lanes s
    → l.v ≡ in_lanes (λ i. rounds (s i) (schedule (b i) 48) (8 * l.turn))
