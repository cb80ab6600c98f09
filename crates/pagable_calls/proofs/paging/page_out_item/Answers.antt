use Rattle.std.proofs.Common.{sym, ◌∙◌, ◌≡◌}

pub returns : Rattle.pagable_calls.proofs.paging.page_out_item.Goals.returns
returns g c =
    let ends : c.page_out_item_lent.new.lent.pager.now ≡ c.pager-1.given.0 =
    sym (c.pager-1.given.1 (sym (c.page_out_item_lent.ensures.lender ∙ c.new-lent.ensures.lent))) in
    let pages = rw ends at (rw c.new-lent.ensures.same at c.page_out_item_lent.ensures.pages) in
    record {
      pages = λ is. record { over = (pages is).over c.assert_invariant.ensures };
      honest = rw ends at (rw c.new-lent.ensures.same at c.page_out_item_lent.ensures.honest);
    }
