use Rattle.pagable_calls.proofs.Keeping.{told-both}
use Rattle.pagable_load.proofs.LoadSteps.{lender-is}

pub returns : Rattle.pagable_calls.proofs.paging.page_out_item_lent.Goals.returns
returns g c =
    let told = told-both _ _ _ _ _ _ c.page_out_item_over.ensures.acts.step in
    record { pages = λ is. (told is).1; honest = λ is. (told is).0; lender = lender-is c.page_out_item_over.ensures.acts.acting }
