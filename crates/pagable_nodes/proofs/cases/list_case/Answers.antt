use Rattle.pagable_nodes.proofs.Enums.{case_listed}

pub returns-clause-ok : Rattle.pagable_nodes.proofs.cases.list_case.Goals.returns-clause-ok
returns-clause-ok g c = rw c.requires (case_listed _ _ _ _ _ c.list_references.ensures.ok)
