use Rattle.std.proofs.{Common.{arith, inl, inr, ◌≡◌}, lemmas.Bool.cases_lt}
use Rattle.sha256_lanes.proofs.many.digest_left.Goals as goal

pub loop-row-preserved : goal.loop-row-preserved
loop-row-preserved g c = (
  λ q done. c.digest_waiting.ensures.keeps q (c.loop-row.invariant.0 q done),
  λ r lt q waits. elim (cases_lt r c.loop-row.row) [
    | inl less ↦ c.digest_waiting.ensures.keeps q (c.loop-row.invariant.1 r less q waits)
    | inr most ↦ let here : c.loop-row.row ≡ r = omega arith in c.digest_waiting.ensures.done q (rw here waits)
  ],
)

pub returns : goal.returns
returns g c q settled = elim settled [
  | inl done ↦ c.loop-row.invariant.0 q done
  | inr waits ↦ c.loop-row.invariant.1 waits.0 (omega (arith, waits.1)) q waits.2
]
