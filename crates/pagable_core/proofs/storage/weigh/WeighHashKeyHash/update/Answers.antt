use Rattle.pagable_core.proofs.Weighing.{is_weighed_more, take_next}
use Rattle.std.proofs.Common.{refl, take, ◌++◌}

pub loop-byte-preserved : Rattle.pagable_core.proofs.storage.weigh.WeighHashKeyHash.update.Goals.loop-byte-preserved
loop-byte-preserved c = λ front h.
    rw (take_next c.args.bytes.now c.loop-byte.byte-index c.from.result front c.loop-byte-test.true c.from.ensures)
    (is_weighed_more c.loop-byte.self _ (front ++ take c.loop-byte.byte-index c.args.bytes.now) c.from.result (c.loop-byte.invariant front h) refl refl)
