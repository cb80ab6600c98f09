use Rattle.pagable_theorems.proofs.Callers.{pinned_again_law}

pub returns-clause-pinned_again : Rattle.pagable_theorems.proofs.runs.caller_laws.Goals.returns-clause-pinned_again
returns-clause-pinned_again g c = pinned_again_law g.row.E.Denot g.N.SeenAs.seen
