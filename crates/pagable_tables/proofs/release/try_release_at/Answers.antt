use Rattle.pagable_tables.proofs.Words.{inl, nobody, only_handle}

pub returns-clause-falls : Rattle.pagable_tables.proofs.release.try_release_at.Goals.returns-clause-falls
returns-clause-falls g c before w f few = c.finish_cascade.ensures.falls before w (only_handle c.args.at.row.number)
    (c.release_at.ensures.so_far before w nobody f few (inl c.requires.not_the_list))
