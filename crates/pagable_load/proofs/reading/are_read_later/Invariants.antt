use Rattle.pagable_load.proofs.reading.are_read_later.Given.{invariant-loop-reference as invariant}
use Rattle.pagable_load.specs.ResolvedReferences.{AreLoose}

-- those before this one aren't
abbrev pub invariant-loop-reference : invariant
invariant-loop-reference l = AreLoose l.reference-index l.got
