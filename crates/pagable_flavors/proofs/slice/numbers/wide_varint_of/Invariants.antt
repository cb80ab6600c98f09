use Rattle.pagable_flavors.proofs.Varint.{ReadsOn}
use Rattle.pagable_flavors.proofs.slice.numbers.wide_varint_of.Given as goal

abbrev pub invariant-loop-place : goal.invariant-loop-place
invariant-loop-place l = ReadsOn l.more l.last l.bytes l.place l.low l.scale
