use Rattle.pagable_pageout.proofs.{Joint.told-as, Words.sym, WorkerTurns.{claims-there, refuses}}
use Rattle.pagable_pageout.proofs.turns.claim.Goals as goal

pub returns-in-Ok-clause-step : goal.returns-in-Ok-clause-step
returns-in-Ok-clause-step g c =
    told-as (λ s s' there core below fault. claims-there (sym (rw c.in-Ok.is at fault))
    (rw c.referenced_identity.ensures at there)) c.claim_for.ensures.claims

pub returns-in-Err-clause-step : goal.returns-in-Err-clause-step
returns-in-Err-clause-step g c =
    told-as (λ s s' same core below fault. refuses (sym (rw c.in-Err.is at fault)) same) c.forget_wait.ensures
