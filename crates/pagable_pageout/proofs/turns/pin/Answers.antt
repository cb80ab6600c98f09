use Rattle.pagable_pageout.proofs.{ItemLast.{goes-ends, refused-ends}, Words.acts_map, WorkerTurns.{pin-begins, pin-fails, pin-holds}}

pub returns-in-Held-clause-acts : Rattle.pagable_pageout.proofs.turns.pin.Goals.returns-in-Held-clause-acts
returns-in-Held-clause-acts g c n shelf =
    rw c.referenced_identity-identity.ensures (acts_map (rw c.in-Held.is at c.in-Ok.ensures) pin-holds)

pub returns-in-Begun-clause-acts : Rattle.pagable_pageout.proofs.turns.pin.Goals.returns-in-Begun-clause-acts
returns-in-Begun-clause-acts g c n shelf =
    let says = c.new-reading.ensures in
    rw c.referenced_identity-identity.ensures (acts_map (rw c.in-Begun.is at c.in-Ok.ensures)
    (pin-begins (rw c.node_type.ensures at says.reading) says.key says.for_cell))

pub returns-in-Err-clause-acts : Rattle.pagable_pageout.proofs.turns.pin.Goals.returns-in-Err-clause-acts
returns-in-Err-clause-acts g c n shelf = rw c.referenced_identity-identity.ensures (acts_map c.in-Err.ensures
    (pin-fails c.fail_with.ensures.plain c.fail_with.ensures.todo))

pub returns-in-Held-clause-ends : Rattle.pagable_pageout.proofs.turns.pin.Goals.returns-in-Held-clause-ends
returns-in-Held-clause-ends g c = goes-ends (λ w h. h)

pub returns-in-Begun-clause-ends : Rattle.pagable_pageout.proofs.turns.pin.Goals.returns-in-Begun-clause-ends
returns-in-Begun-clause-ends g c = goes-ends (λ w h. h)

pub returns-in-Err-clause-ends : Rattle.pagable_pageout.proofs.turns.pin.Goals.returns-in-Err-clause-ends
returns-in-Err-clause-ends g c = refused-ends c.fail_with.ensures.todo
