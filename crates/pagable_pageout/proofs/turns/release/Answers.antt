use Rattle.pagable_pageout.proofs.{FinishTurns.{release-ends, release-gives}, ItemLast.{alone-ends, given-ends}, Words.acts_map}
use Rattle.pagable_pageout.proofs.turns.release.Goals as goal

pub returns-in-Ok-clause-acts : goal.returns-in-Ok-clause-acts
returns-in-Ok-clause-acts g c shelf = rw c.referenced_identity-identity.ensures
    (acts_map (rw c.referenced_identity-identity.ensures at c.release_worker_node.ensures)
    (release-gives c.in-Ok.ensures.gives c.in-Ok.ensures.plain))

pub returns-in-Err-clause-acts : goal.returns-in-Err-clause-acts
returns-in-Err-clause-acts g c shelf = rw (c.referenced_identity-identity.ensures, c.key.ensures, c.in-Err.ensures.back)
    (acts_map (rw c.referenced_identity-identity.ensures at c.release_worker_node.ensures)
    (release-ends c.in-Err.ensures.none.0))

pub returns-in-Ok-clause-ends : goal.returns-in-Ok-clause-ends
returns-in-Ok-clause-ends g c = given-ends c.in-Ok.ensures.gives

pub returns-in-Err-clause-ends : goal.returns-in-Err-clause-ends
returns-in-Err-clause-ends g c = alone-ends c.in-Err.ensures.none.0
