use Rattle.pagable_load.proofs.LoadSteps.{lender-is, told-so}

pub returns : Rattle.pagable_calls.proofs.events.step_lent.Goals.returns
returns g c =
    let told = told-so _ _ _ _ c.step.ensures.acts.step in
    record {
      step = λ is. record { does = rw c.answer_to-ended.ensures (rw c.requires at (told is).1.does); same = c.step.ensures.same; counts = c.step.ensures.same.steps };
      honest = λ is. (told is).0;
      lender = lender-is c.step.ensures.acts.acting;
    }
