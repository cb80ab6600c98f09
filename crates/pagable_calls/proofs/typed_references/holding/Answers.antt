use Rattle.pagable_calls.proofs.typed_references.holding.Goals as goal

pub returns-in-None-clause-refused : goal.returns-in-None-clause-refused
returns-in-None-clause-refused g c = rw c.in-None.is at c.in_ok-value.ensures
