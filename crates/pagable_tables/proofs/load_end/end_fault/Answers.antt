pub returns : Rattle.pagable_tables.proofs.load_end.end_fault.Goals.returns
returns c storage =
    let fit = c.references_fault-fit.ensures storage in
    rw (← (c.root_fault-root.ensures storage), ← fit, ← c.load_of.ensures, ← c.load_fault-own.ensures, ← c.earlier.ensures) c.earlier-2.ensures
