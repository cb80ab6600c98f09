use Rattle.pagable_tables.proofs.{HandleTable.{changed-known, row-le-live}, Words.unpinned}

pub returns-then-stays : Rattle.pagable_tables.proofs.cascade.remove_or_unpin.Goals.returns-then-stays
returns-then-stays c =
    let old = c.args.handles.now in
    let at = c.args.at in
    let changes = changed-known _ _ at.row c.requires.sound.ordered c.requires.place unpinned in
    rw c.if-stays.true (record {
      becomes = rw changes at c.replace_row.ensures.becomes;
      sums = c.replace_row.ensures.sums;
      there = λ f. row-le-live f old.places.items at.place at.row c.requires.place;
    })
