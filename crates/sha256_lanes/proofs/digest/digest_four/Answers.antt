use Rattle.sha2.specs.Sha256.{final_hash, initial_hash_256, sha256}
use Rattle.sha256_lanes.specs.Lanes.{four}
use Rattle.std.proofs.Common.{List, refl, ℕ}
use Rattle.sha256_lanes.proofs.digest.digest_four.Goals as goal

pub returns : goal.returns
unfolding sha256
returns c =
    let states : ℕ → List ℕ = λ i. final_hash initial_hash_256 (four c.args.first.now c.args.second.now c.args.third.now c.args.fourth.now i) in
    rw (
      c.read_digest.ensures states c.hash_four-state.ensures,
      c.read_digest-2.ensures states c.hash_four-state.ensures,
      c.read_digest-3.ensures states c.hash_four-state.ensures,
      c.read_digest-4.ensures states c.hash_four-state.ensures,
    )
    refl
