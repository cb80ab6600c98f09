use Rattle.pagable_tables.proofs.{OwnedByLoad.moved-then, SameViews.named-take, Words.{arith, is_named_by, live, sym, take, take_all}}

pub loop-reference-preserved : Rattle.pagable_tables.proofs.handle_table.hand_over_all.Goals.loop-reference-preserved
loop-reference-preserved c =
    let i = c.loop-reference in
    moved-then (is_named_by (take i.reference-index c.args.references.now)) _ _ c.args.owner (live c.args.handles.now.places.items) i.invariant
    c.hand_over_live.ensures
    (λ q. sym (named-take c.args.references.now i.reference-index _ q (omega arith)))

pub returns : Rattle.pagable_tables.proofs.handle_table.hand_over_all.Goals.returns
returns c = rw (take_all c.loop-reference.reference-index c.args.references.now (omega arith)) at c.loop-reference.invariant
