use Rattle.pagable_flavors.proofs.Varint.{ReadsOn_more}
use Rattle.std.proofs.Common.{arith}

pub loop-place-preserved : Rattle.pagable_flavors.proofs.slice.numbers.varint_of.Goals.loop-place-preserved
loop-place-preserved c =
    let byte_fits = c.type_inv.bytes c.loop-place.place in
    ReadsOn_more c.from.result c.loop-place.invariant c.loop-place-test.true (λ same. grind arith)
    (omega (arith, c.from.ensures, c.if-byte-lt128.false, byte_fits)) c.if-byte-lt128.false
    (omega (arith, byte_fits))
