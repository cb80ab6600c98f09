use Rattle.pagable_load.specs.WorkerCalls.{no-leaf}
use Rattle.pagable_pager.specs.View.{pager_state}
use Rattle.pagable_pager.proofs.pager.Pager.page_out_leaves.Goals as goal

pub returns-in_default-clause-pages : goal.returns-in_default-clause-pages
returns-in_default-clause-pages g c = λ honest. no-leaf

pub returns-clause-pages : goal.returns-clause-pages
returns-clause-pages g c = λ honest.
    c.page_out_written.ensures.pages honest (rw c.env.ensures at (c.write_leaves-leaves.ensures (pager_state g.S.PagableStorage c.args.self.now) c.share_entries-shared.ensures))
