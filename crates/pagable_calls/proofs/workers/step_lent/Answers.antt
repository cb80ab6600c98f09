use Rattle.pagable_calls.proofs.Keeping.{told-both}
use Rattle.pagable_calls.proofs.workers.step_lent.Goals as goal

pub returns-clause-step : goal.returns-clause-step
returns-clause-step g c = λ is. rw c.requires.me at (told-both _ _ _ _ _ _ c.step.ensures.acts.step is).1

pub returns-clause-honest : goal.returns-clause-honest
returns-clause-honest g c = λ is. (told-both _ _ _ _ _ _ c.step.ensures.acts.step is).0
