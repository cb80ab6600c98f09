use Rattle.sha2.specs.Sha256.{compress, rounds, schedule}
use Rattle.sha256_lanes.specs.Lanes.{four}
use Rattle.sha256_lanes.proofs.compress.compress.Goals as goal

pub returns : goal.returns
unfolding compress
returns c s state =
    let b = four c.args.first.now c.args.second.now c.args.third.now c.args.fourth.now in
    c.add.ensures s (λ i. rounds (s i) (schedule (b i) 48) 64) state (c.run_rounds.ensures b s c.fill_schedule.ensures state)
