use Rattle.pagable_flavors.proofs.Varint.{HasRoomFor-128, HasRoomFor_more, WritesOn_more, WritesOn_none}
use Rattle.pagable_flavors.proofs.vec_flavor.writing.push_wide_varint.Goals as goal
use Rattle.std.proofs.Common.{arith, refl, ◌%◌, ◌+◌, ◌∙◌}

pub loop-rest-init : goal.loop-rest-init
loop-rest-init c = (WritesOn_none _ _, HasRoomFor-128 _ c.args.number (omega (arith, c.ranges.number.fits)), refl)

pub loop-rest-preserved : goal.loop-rest-preserved
loop-rest-preserved c = (
  WritesOn_more (128 + c.loop-rest.rest % 128) c.loop-rest.invariant.0 c.loop-rest-test.true refl c.push_reserved.ensures.items,
  HasRoomFor_more c.loop-rest.invariant.1 c.loop-rest-test.true c.push_reserved.ensures.len,
  c.push_reserved.ensures.capacity ∙ c.loop-rest.invariant.2,
)
