use Rattle.pagable_calls.specs.PageOuts.{entry-is-last, list-is-empty}
use Rattle.std.proofs.Common.{arith, sym, ◌∙◌, ◌≡◌}
use Rattle.pagable_calls.proofs.cell_page_out.page_out_last_if_there.Goals as goal

pub returns-then-pending-eq0-clause-pages : goal.returns-then-pending-eq0-clause-pages
returns-then-pending-eq0-clause-pages g c = λ honest. list-is-empty (omega (arith, c.pending-pending.ensures, c.if-pending-eq0.true))

pub returns : goal.returns
returns g c =
    let ends : c.page_out_entry_lent.new.lent.pager.now ≡ c.pager-1.given.0 =
    sym (c.pager-1.given.1 (sym (c.page_out_entry_lent.ensures.lender ∙ c.new-lent.ensures.lent))) in
    let pages = rw ends at (rw c.new-lent.ensures.same at c.page_out_entry_lent.ensures.pages) in
    record {
      pages = λ is. entry-is-last _ _ _ (omega (arith, c.pending-pending.ensures, c.if-pending-eq0.false)) (pages is);
      honest = rw ends at (rw c.new-lent.ensures.same at c.page_out_entry_lent.ensures.honest);
    }
