use Rattle.sha2.proofs.Schedule256.{rounds_next}
use Rattle.sha2.specs.Sha256.{rounds, schedule}
use Rattle.sha256_lanes.proofs.ByLane.{same_states}
use Rattle.std.proofs.Common.{slice_index, sym, ◌∙◌}
use Rattle.sha256_lanes.proofs.compress.run_round.Goals as goal

pub returns : goal.returns
returns c b s words state =
    let t = c.args.t in
    c.round.ensures (λ i. rounds (s i) (schedule (b i) 48) t) (λ i. slice_index (schedule (b i) 48) t) state (words t c.requires)
    ∙ same_states _ _ (λ i. sym (rounds_next (s i) (schedule (b i) 48) t))
