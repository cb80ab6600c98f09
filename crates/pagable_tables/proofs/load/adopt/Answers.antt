use Rattle.pagable_tables.proofs.{SameViews.fitting, Words.{basics, first_key, key_in, ◌≡◌}}

pub insert_and_prune_cache-requires-clause-fit : Rattle.pagable_tables.proofs.load.adopt.Goals.insert_and_prune_cache-requires-clause-fit
insert_and_prune_cache-requires-clause-fit c = fitting _ _ _ c.args.kind c.args.key c.requires.asked.1
    _ c.requires.asked.2

pub returns : Rattle.pagable_tables.proofs.load.adopt.Goals.returns
returns c = let is : key_in c.if-is_pinned.own_key ≡ first_key c.args.kind.0 c.args.key = grind basics in rw is at c.insert_and_prune_cache.ensures
