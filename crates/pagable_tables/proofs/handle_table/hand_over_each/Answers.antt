use Rattle.pagable_tables.proofs.{OwnedByLoad.moved-then, SameViews.in-take, Words.{arith, is_in, live, numbers_of, sym, take, take_all}}

pub loop-handle-preserved : Rattle.pagable_tables.proofs.handle_table.hand_over_each.Goals.loop-handle-preserved
loop-handle-preserved c =
    let i = c.loop-handle in
    moved-then (is_in (numbers_of (take i.handle-index c.args.named.now))) _ _ c.args.owner (live c.args.handles.now.places.items) i.invariant
    c.hand_over_live.ensures
    (λ q. sym (in-take c.args.named.now i.handle-index _ q (omega arith)))

pub returns : Rattle.pagable_tables.proofs.handle_table.hand_over_each.Goals.returns
returns c = rw (take_all c.loop-handle.handle-index c.args.named.now (omega arith)) at c.loop-handle.invariant
