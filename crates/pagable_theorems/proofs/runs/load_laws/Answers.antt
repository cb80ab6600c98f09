use Rattle.pagable_theorems.proofs.{LoadResults.pin_law, StepBounds.one_identity_law}

pub returns-clause-one_identity : Rattle.pagable_theorems.proofs.runs.load_laws.Goals.returns-clause-one_identity
returns-clause-one_identity g c = one_identity_law g.row.E.Denot g.N.SeenAs.seen

pub returns-clause-pins_stand : Rattle.pagable_theorems.proofs.runs.load_laws.Goals.returns-clause-pins_stand
returns-clause-pins_stand g c = pin_law g.N.SeenAs.seen.values
