use Rattle.pagable_nodes.proofs.Tags.{tagged_case_listed}

pub returns-clause-ok : Rattle.pagable_nodes.proofs.tagged_cases.references_of_tagged_case.Goals.returns-clause-ok
returns-clause-ok g c = rw c.requires (tagged_case_listed _ _ _ _ c.references_of.ensures.ok)
