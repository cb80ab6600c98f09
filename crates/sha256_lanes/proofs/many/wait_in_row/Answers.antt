use Rattle.std.proofs.{Common.{arith, inl, inr}, lemmas.List.get_or-set_same}
use Rattle.sha256_lanes.proofs.many.wait_in_row.Goals as goal

pub returns-then-waiting-lt3-clause-place : goal.returns-then-waiting-lt3-clause-place
returns-then-waiting-lt3-clause-place g c =
    inr (c.args.waiting, omega arith, get_or-set_same c.args.row.now c.args.waiting c.args.place 0 (omega arith))

pub returns-clause-place : goal.returns-clause-place
returns-clause-place g c =
    inl (c.digest_row.ensures.done c.args.place (c.args.waiting, omega arith, get_or-set_same c.args.row.now c.args.waiting c.args.place 0 (omega arith)))
