use Rattle.sha2.specs.Sha256.{hash_after, initial_hash_256, padded_message}
use Rattle.sha256_lanes.specs.Lanes.{four, in_lanes}
use Rattle.std.proofs.Common.{◌≡◌}
use Rattle.sha256_lanes.proofs.digest.hash_four.Given as goal

abbrev pub invariant-loop-number : goal.invariant-loop-number
invariant-loop-number l =
    l.state ≡ in_lanes (λ i. hash_after initial_hash_256 (padded_message (four l.first l.second l.third l.fourth i)) l.number)
