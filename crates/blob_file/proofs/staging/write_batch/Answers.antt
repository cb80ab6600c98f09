use Rattle.std.proofs.Common.{arith}
use Rattle.std.proofs.lemmas.Result.{on_ok_weaker}
use Rattle.blob_file.proofs.BatchWrites.{Wrote, staged, batch_written}
use Rattle.blob_file.proofs.FlushWrites.{stays_behind, stays_not}
use Rattle.blob_file.proofs.staging.write_batch.Goals as goal

pub returns-in_err-write_at-clause-stays : goal.returns-in_err-write_at-clause-stays
returns-in_err-write_at-clause-stays g c clean =
    let was = stays_not g.D.Disk c.args.gate _ (c.requires.ready (c.write_at.ensures.clean clean)) in
    stays_behind g.D.Disk c.args.gate _ _ _ _ _ (omega arith) was c.write_at.ensures.others c.write_at.ensures.crash

pub returns-in_err-write_at-2-clause-stays : goal.returns-in_err-write_at-2-clause-stays
returns-in_err-write_at-2-clause-stays g c clean =
    let was = stays_not g.D.Disk c.args.gate _ (c.requires.ready (c.write_at.ensures.clean (c.write_at-2.ensures.clean clean))) in
    let first = stays_behind g.D.Disk c.args.gate _ _ _ _ _ (omega arith) was c.write_at.ensures.others c.write_at.ensures.crash in
    stays_behind g.D.Disk c.args.gate _ _ _ _ _ (omega arith) first c.write_at-2.ensures.others c.write_at-2.ensures.crash

pub returns-clause-stays : goal.returns-clause-stays
returns-clause-stays g c clean =
    let was = stays_not g.D.Disk c.args.gate _ (c.requires.ready (c.write_at.ensures.clean (c.write_at-2.ensures.clean (c.write_at-3.ensures.clean clean)))) in
    let first = stays_behind g.D.Disk c.args.gate _ _ _ _ _ (omega arith) was c.write_at.ensures.others c.write_at.ensures.crash in
    let second = stays_behind g.D.Disk c.args.gate _ _ _ _ _ (omega arith) first c.write_at-2.ensures.others c.write_at-2.ensures.crash in
    stays_behind g.D.Disk c.args.gate _ _ _ _ _ (omega arith) second c.write_at-3.ensures.others c.write_at-3.ensures.crash

pub returns-clause-staged : goal.returns-clause-staged
returns-clause-staged g c =
    on_ok_weaker c.write_at-3.result (λ held clean.
    let w : Wrote c.args.gate c.args.head.now c.args.bodies.now c.args.tail.now _ _ _ _ = record {
      first = c.write_at.ensures.others;
      bodies_there = c.in_ok-write_at.ensures.written;
      second = c.write_at-2.ensures.others;
      tail_there = c.in_ok-write_at-2.ensures.written (omega (arith, c.requires.rows));
      third = c.write_at-3.ensures.others;
      head_there = held (omega (arith, c.requires.head));
      head_size = c.requires.head;
      bodies_size = c.requires.bodies;
      tail_size = c.requires.rows;
      last = c.requires.last;
    } in
    record {
      staged = staged c.args.gate c.args.head.now c.args.bodies.now c.args.tail.now _ _ _ _ w;
      same = batch_written c.args.gate c.args.head.now c.args.bodies.now c.args.tail.now _ _ _ _ w;
    }) c.write_at-3.ensures.written
