use Rattle.pagable_load.proofs.LoadSteps.{acts_then}
use Rattle.pagable_pager.proofs.lent.Lent.+put_back.Goals as goal

pub returns : goal.returns
returns g n c = rw c.in-Some.ensures.cases.0 (acts_then c.put_back.ensures c.schedule_for_paging-told.ensures
    (λ s mid t back schedules. (mid, c.schedule_for_paging-told.result, back, schedules)))
