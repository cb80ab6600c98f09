use Rattle.sha256_lanes.specs.Lanes.{HasWords, four}
use Rattle.std.proofs.Common.{length, ◌≡◌}
use Rattle.sha256_lanes.proofs.schedule.load_blocks.Given as goal

abbrev pub invariant-loop-t : goal.invariant-loop-t
invariant-loop-t l = (length l.words ≡ 64) × HasWords l.words (four l.first l.second l.third l.fourth) l.t
