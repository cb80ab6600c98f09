use Rattle.pagable_pageout.proofs.{ItemLast.{goes-ends, refused-ends}, Words.{acts_map, refl}, WorkerTurns.{load-fails, load-goes, load-pins}}
use Rattle.pagable_pageout.proofs.turns.load.Goals as goal

pub returns-in-None-clause-acts : goal.returns-in-None-clause-acts
returns-in-None-clause-acts g c n shelf =
    rw c.referenced_identity-identity.ensures (acts_map c.in-None.ensures.acts (load-goes refl c.step.ensures.same))

pub returns-in-Some-Pinned-clause-acts : goal.returns-in-Some-Pinned-clause-acts
returns-in-Some-Pinned-clause-acts g c n shelf =
    rw c.referenced_identity-identity.ensures (acts_map (rw c.in-Some-Pinned.field-0-is at c.in-Some-Pinned.ensures.acts) load-pins)

pub returns-in-Some-Refused-clause-acts : goal.returns-in-Some-Refused-clause-acts
returns-in-Some-Refused-clause-acts g c n shelf =
    rw c.referenced_identity-identity.ensures (acts_map (rw c.in-Some-Refused.field-0-is at c.in-Some-Refused.ensures.acts)
    (load-fails c.fail_with.ensures.plain c.fail_with.ensures.todo))

pub returns-in-None-clause-ends : goal.returns-in-None-clause-ends
returns-in-None-clause-ends g c = goes-ends (λ w h. h)

pub returns-in-Some-Pinned-clause-ends : goal.returns-in-Some-Pinned-clause-ends
returns-in-Some-Pinned-clause-ends g c = goes-ends (λ w h. h)

pub returns-in-Some-Refused-clause-ends : goal.returns-in-Some-Refused-clause-ends
returns-in-Some-Refused-clause-ends g c = refused-ends c.fail_with.ensures.todo
