use Rattle.pagable_tables.proofs.{HandleTable.above-from, Words.{ap, arith}}

pub returns-clause-above : Rattle.pagable_tables.proofs.handle_table.index_above.Goals.returns-clause-above
returns-clause-above c k d low within =
    let e = c.index-places-guess in
    let same = ap (λ p. p.row.number.0) e.is in
    above-from c.args.places.now c.args.guess c.args.number k d e.result c.requires (omega arith) low within
