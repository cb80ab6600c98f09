use Rattle.pagable_theorems.proofs.{RefusalCauses.loads-refused, RefusalEffects.storage-told}

pub returns-clause-loads : Rattle.pagable_theorems.proofs.runs.refusal_laws.Goals.returns-clause-loads
returns-clause-loads g c = loads-refused g.N.SeenAs.seen.values

pub returns-clause-storage_errors_are_true : Rattle.pagable_theorems.proofs.runs.refusal_laws.Goals.returns-clause-storage_errors_are_true
returns-clause-storage_errors_are_true g c = storage-told g.N.SeenAs.seen
