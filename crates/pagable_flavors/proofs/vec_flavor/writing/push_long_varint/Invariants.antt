use Rattle.pagable_flavors.proofs.Varint.{HasRoomFor, WritesOn}
use Rattle.pagable_flavors.proofs.vec_flavor.writing.push_long_varint.Given as goal
use Rattle.std.specs.Prelude.{vec_capacity, vec_len, ◌+◌, ◌≡◌}

abbrev pub invariant-loop-rest : goal.invariant-loop-rest
invariant-loop-rest l = WritesOn l.fn.bytes.items l.bytes.items l.number l.rest × HasRoomFor (vec_len l.bytes) (vec_len l.fn.bytes + 10) l.rest
    × (vec_capacity l.bytes ≡ vec_capacity l.fn.bytes)

abbrev pub decreases-loop-rest : goal.decreases-loop-rest
decreases-loop-rest l = l.rest
