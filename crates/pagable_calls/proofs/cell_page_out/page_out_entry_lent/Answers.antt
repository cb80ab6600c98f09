use Rattle.pagable_load.proofs.LoadSteps.{lender-is, told-so}

pub returns : Rattle.pagable_calls.proofs.cell_page_out.page_out_entry_lent.Goals.returns
returns g c =
    let told = told-so _ _ _ _ c.page_out_entry.ensures.step in
    record { pages = λ is. (told is).1; honest = λ is. (told is).0; lender = lender-is c.page_out_entry.ensures.acting }
