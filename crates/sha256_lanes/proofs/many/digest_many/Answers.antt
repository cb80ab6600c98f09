use Rattle.sha256_lanes.proofs.Rows.{all_done}
use Rattle.std.proofs.{Common.{arith, inl, inr, ◌≡◌}, lemmas.Bool.cases_lt}
use Rattle.sha256_lanes.proofs.many.digest_many.Goals as goal

pub loop-place-preserved : goal.loop-place-preserved
loop-place-preserved g c = (
  c.take_message.ensures.rows,
  λ q lt. elim (cases_lt q c.loop-place.place) [
    | inl less ↦ c.take_message.ensures.others q (c.loop-place.invariant.1 q less)
    | inr most ↦ let here : c.loop-place.place ≡ q = omega arith in rw (← here) c.take_message.ensures.place
  ],
)

pub returns : goal.returns
returns g c =
    all_done g.row.N c.args.messages.now c.digest_left.new.digests (omega arith)
    (λ q lt. c.digest_left.ensures q (c.loop-place.invariant.1 q (omega (arith, lt))))
