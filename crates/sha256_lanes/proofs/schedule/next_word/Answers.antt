use Rattle.sha2.proofs.Schedule256.{slice_index-schedule_next}
use Rattle.sha2.specs.Sha256.{schedule}
use Rattle.sha256_lanes.proofs.ByLane.{same_lanes}
use Rattle.std.proofs.Common.{arith, slice_index, sym, ℕ, ◌-◌}
use Rattle.sha256_lanes.proofs.schedule.next_word.Goals as goal

pub returns : goal.returns
returns c b words =
    let t = c.args.t in
    let has : ℕ → ℕ → ℕ = λ k i. slice_index (schedule (b i) 48) k in
    rw (
      c.small_sigma1.ensures (has (t - 2)) (words (t - 2) (omega arith)),
      words (t - 7) (omega arith),
      c.small_sigma0.ensures (has (t - 15)) (words (t - 15) (omega arith)),
      words (t - 16) (omega arith),
    )
    (same_lanes _ _ (λ i. sym (slice_index-schedule_next (b i) 48 t (omega arith) (omega arith))))
