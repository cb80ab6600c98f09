use Rattle.sha2.specs.Sha256.{digest_bytes}
use Rattle.sha256_lanes.specs.Lanes.{in_lanes}
use Rattle.std.proofs.Common.{List, length, take, ℕ, ◌*◌, ◌≡◌}
use Rattle.sha256_lanes.proofs.digest.read_digest.Given as goal

abbrev pub invariant-loop-place : goal.invariant-loop-place
invariant-loop-place l = (length l.digest ≡ 32)
    × ((s : ℕ → List ℕ) → l.state ≡ in_lanes s → take (4 * l.place) l.digest ≡ digest_bytes (s l.lane) l.place)
