use Rattle.pagable_load.proofs.LoadSteps.{lender-is, told-so}

pub returns : Rattle.pagable_calls.proofs.paging.read_lent.Goals.returns
returns g c =
    let told = told-so _ _ _ _ c.read_over.ensures.acts.step in
    record {
      reads = λ is. (told is).1;
      keyed = c.read_over.ensures.keyed;
      honest = λ is. (told is).0;
      lender = lender-is c.read_over.ensures.acts.acting;
    }
