use Rattle.pagable_tables.proofs.Words.{sym, ◌∙◌}

pub returns-in-None-clause-falls : Rattle.pagable_tables.proofs.cascade.finish_cascade.Goals.returns-in-None-clause-falls
returns-in-None-clause-falls g c before w given f = rw (sym c.take.ensures.value ∙ c.in-None.is) at (c.cascade.ensures.falls before w given f)

pub returns-in-Some-clause-falls : Rattle.pagable_tables.proofs.cascade.finish_cascade.Goals.returns-in-Some-clause-falls
returns-in-Some-clause-falls g c before w given f = rw (sym c.take.ensures.value ∙ c.in-Some.is) at (c.cascade.ensures.falls before w given f)
