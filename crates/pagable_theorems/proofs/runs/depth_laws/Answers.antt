use Rattle.pagable_theorems.proofs.Heights.{depth_is_height}

pub returns-clause-depth_is_height : Rattle.pagable_theorems.proofs.runs.depth_laws.Goals.returns-clause-depth_is_height
returns-clause-depth_is_height g c = depth_is_height
