use Rattle.sha256_lanes.proofs.Rows.{settled_in_row, still_settled}
use Rattle.sha256_lanes.specs.Waiting.{texts_of}
use Rattle.std.proofs.Common.{arith, ◌-◌}
use Rattle.sha256_lanes.proofs.many.take_message.Goals as goal

pub returns-clause-place : goal.returns-clause-place
returns-clause-place g c =
    settled_in_row g.row.N (texts_of c.args.messages.now) c.args.digests.now c.wait_in_row.new.digests c.args.rows.now c.args.waiting.now _
    (c.count_blocks-count.result - 1) c.wait_in_row.result (omega arith) (omega arith) (omega arith) c.args.place c.wait_in_row.ensures.place

pub returns-clause-others : goal.returns-clause-others
returns-clause-others g c =
    still_settled g.row.N (texts_of c.args.messages.now) c.args.digests.now c.wait_in_row.new.digests c.args.rows.now c.args.waiting.now _
    (c.count_blocks-count.result - 1) c.wait_in_row.result (omega arith) (omega arith) (omega arith) c.wait_in_row.ensures.keeps
    c.wait_in_row.ensures.others
