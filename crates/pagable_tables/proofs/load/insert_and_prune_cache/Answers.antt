use Rattle.pagable_tables.proofs.SameViews.{alike-on}

pub returns : Rattle.pagable_tables.proofs.load.insert_and_prune_cache.Goals.returns
returns c =
    let born = c.insert_and_cache-handle.ensures in
    let forgets = c.forget_gone.ensures.does in
    record {
      does = λ storage. let (next, alike) = born.does storage in (next, λ lists. alike-on (alike lists) (forgets.does storage));
      whole = forgets.whole;
      later = λ later. forgets.later (born.later later);
    }
