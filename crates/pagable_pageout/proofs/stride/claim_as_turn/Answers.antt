use Rattle.pagable_pageout.proofs.{Joint.both-as, Strides.walk-strides}
use Rattle.pagable_pageout.proofs.stride.claim_as_turn.Goals as goal

pub returns-clause-goes : goal.returns-clause-goes
returns-clause-goes g c = c.claim_and_write.ensures.goes

pub returns-clause-ends : goal.returns-clause-ends
returns-clause-ends g c = c.claim_and_write.ensures.ends

pub returns-clause-acts : goal.returns-clause-acts
returns-clause-acts g c =
    both-as (λ s s' x y walked. walk-strides walked) c.claim_and_write.ensures.acts
