use Rattle.pagable_load.proofs.batch.are_stand_ins.Given.{invariant-loop-reference as invariant}
use Rattle.pagable_load.specs.ResolvedReferences.{AreStandIns}

-- those before this one are
abbrev pub invariant-loop-reference : invariant
invariant-loop-reference l = AreStandIns l.reference-index l.noted
