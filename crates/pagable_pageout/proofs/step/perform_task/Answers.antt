use Rattle.pagable_pageout.proofs.{
  FinishTurns.{ends-failed, publishes},
  ItemLast.{claimed-ends, failed-ends, goes-ends},
  Joint.{both-each, both-first, both-second},
  Words.{claim_result, no_shelf, tells_all, todos},
  WorkerTurns.start-turns,
}
use Rattle.pagable_pageout.proofs.step.perform_task.Goals as goal

pub returns-in-Start-clause-acts : goal.returns-in-Start-clause-acts
returns-in-Start-clause-acts g c =
    let says = c.task_after_claim.ensures in
    rw (c.in-Start.is, c.referenced_identity.ensures, c.claim_answer-told.ensures.counts, c.claim_answer-told.ensures.found)
    (both-second c.check_reference-checked.ensures c.claim-claim.ensures.step
    (λ s x y fault step. start-turns c.claim-claim.result says.todo says.leaves s (step s.core (todos c.args.path.now.items) fault)))

pub returns-in-Pin-clause-acts : goal.returns-in-Pin-clause-acts
returns-in-Pin-clause-acts g c = rw c.in-Pin.is (both-first (λ q. c.pin.ensures.acts c.args.worker.0 q) no_shelf)

pub returns-in-Load-clause-acts : goal.returns-in-Load-clause-acts
returns-in-Load-clause-acts g c = rw c.in-Load.is (both-first (λ q. c.load.ensures.acts c.args.worker.0 q) no_shelf)

pub returns-in-Write-clause-acts : goal.returns-in-Write-clause-acts
returns-in-Write-clause-acts g c = rw c.in-Write.is (c.write.ensures.step c.args.worker.0)

pub returns-in-Finish-clause-acts : goal.returns-in-Finish-clause-acts
returns-in-Finish-clause-acts g c = rw c.in-Finish.is (both-first (λ q. c.finish.ensures.acts c.args.worker.0 q) no_shelf)

pub returns-in-SetKey-clause-acts : goal.returns-in-SetKey-clause-acts
returns-in-SetKey-clause-acts g c = rw c.in-SetKey.is (both-first (λ q. c.set_key.ensures.acts c.args.worker.0 q) no_shelf)

pub returns-in-Publish-clause-acts : goal.returns-in-Publish-clause-acts
returns-in-Publish-clause-acts g c =
    rw (c.in-Publish.is, c.referenced_identity-in-Publish.ensures, c.key.ensures) (both-second {P = λ s. Unit {0}} (tells_all (λ s. tt)) c.publish.ensures
    (λ s x y u same. publishes s same))

pub returns-in-Release-clause-acts : goal.returns-in-Release-clause-acts
returns-in-Release-clause-acts g c = rw c.in-Release.is (both-first (λ q. c.release.ensures.acts q) no_shelf)

pub returns-in-Fail-clause-acts : goal.returns-in-Fail-clause-acts
returns-in-Fail-clause-acts g c = rw (c.in-Fail.is, c.answer_of_failure.ensures) (both-each c.put_back_on_list.ensures c.fail_claims.ensures
    (λ s s' x y back same. ends-failed same s s' back))

pub returns-in-Pin-clause-ends : goal.returns-in-Pin-clause-ends
returns-in-Pin-clause-ends g c = rw c.in-Pin.is c.pin.ensures.ends

pub returns-in-Load-clause-ends : goal.returns-in-Load-clause-ends
returns-in-Load-clause-ends g c = rw c.in-Load.is c.load.ensures.ends

pub returns-in-Write-clause-ends : goal.returns-in-Write-clause-ends
returns-in-Write-clause-ends g c = rw c.in-Write.is c.write.ensures.ends

pub returns-in-Finish-clause-ends : goal.returns-in-Finish-clause-ends
returns-in-Finish-clause-ends g c = rw c.in-Finish.is c.finish.ensures.ends

pub returns-in-SetKey-clause-ends : goal.returns-in-SetKey-clause-ends
returns-in-SetKey-clause-ends g c = rw c.in-SetKey.is c.set_key.ensures.ends

pub returns-in-Release-clause-ends : goal.returns-in-Release-clause-ends
returns-in-Release-clause-ends g c = rw c.in-Release.is c.release.ensures.ends

pub returns-in-Start-clause-ends : goal.returns-in-Start-clause-ends
returns-in-Start-clause-ends g c = rw c.in-Start.is (claimed-ends (claim_result c.claim-claim.result) c.task_after_claim.ensures.todo)

pub returns-in-Publish-clause-ends : goal.returns-in-Publish-clause-ends
returns-in-Publish-clause-ends g c = rw c.in-Publish.is (goes-ends (λ w h. h))

pub returns-in-Fail-clause-ends : goal.returns-in-Fail-clause-ends
returns-in-Fail-clause-ends g c = rw (c.in-Fail.is, c.answer_of_failure.ensures) (failed-ends c.in-Fail.why)
