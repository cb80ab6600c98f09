use Rattle.pagable_tables.proofs.{OwnedByLoad.does-as, RowCounts.found-among, Words.{basics}}

pub make_handle-requires-clause-suits : Rattle.pagable_tables.proofs.create.clone.Goals.make_handle-requires-clause-suits
make_handle-requires-clause-suits c = grind (basics, found-among, c.in-Some.ensures.found)

pub returns : Rattle.pagable_tables.proofs.create.clone.Goals.returns
returns c = does-as c.make_handle.ensures.does (λ storage made. grind (basics, c.in-Some.ensures.found))
