use Rattle.pagable_tables.proofs.{CascadeStep.entry-lives, Words.{basics}}

pub unreachable-requires : Rattle.pagable_tables.proofs.queries.pending_entry.Goals.unreachable-requires
unreachable-requires c =
    let t = c.args.t.now.ref_counts in
    let h = c.in_ok-handle.field-0.now in
    let at = c.in_ok-handle.ensures.lookup in
    entry-lives t.list.items t.handles.places.items c.args.place h (grind basics) at (c.requires.core.owners_there.listed h.0)
    c.in_default.ensures.none
