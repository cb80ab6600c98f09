use Rattle.pagable_pageout.proofs.{FinishTurns.{set-fails, set-goes}, ItemLast.{goes-ends, refused-ends}, Words.acts_map}

pub returns-in-Ok-clause-acts : Rattle.pagable_pageout.proofs.turns.set_key.Goals.returns-in-Ok-clause-acts
returns-in-Ok-clause-acts g c n shelf = rw c.referenced_identity-identity.ensures (acts_map (rw c.key.ensures at c.in-Ok.ensures) set-goes)

pub returns-in-Err-clause-acts : Rattle.pagable_pageout.proofs.turns.set_key.Goals.returns-in-Err-clause-acts
returns-in-Err-clause-acts g c n shelf = rw c.referenced_identity-identity.ensures (acts_map (rw c.key.ensures at c.in-Err.ensures)
    (set-fails c.fail_with.ensures.plain c.fail_with.ensures.todo))

pub returns-in-Ok-clause-ends : Rattle.pagable_pageout.proofs.turns.set_key.Goals.returns-in-Ok-clause-ends
returns-in-Ok-clause-ends g c = goes-ends (λ w h. h)

pub returns-in-Err-clause-ends : Rattle.pagable_pageout.proofs.turns.set_key.Goals.returns-in-Err-clause-ends
returns-in-Err-clause-ends g c = refused-ends c.fail_with.ensures.todo
