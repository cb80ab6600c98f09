use Rattle.pagable_tables.proofs.Words.{basics}

pub returns-clause-others : Rattle.pagable_tables.proofs.cache.put.Goals.returns-clause-others
returns-clause-others c k q differs = c.in_ok-insert.ensures.updates.2 (k, q) (grind basics)
