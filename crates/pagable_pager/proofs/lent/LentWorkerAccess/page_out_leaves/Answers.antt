use Rattle.pagable_pager.proofs.LentCalls.{still-at-work}
use Rattle.pagable_pager.proofs.lent.LentWorkerAccess.page_out_leaves.Goals as goal

pub invariant_of-self : goal.invariant_of-self
invariant_of-self g c = record { at_work = still-at-work c.args.self.now.me c.page_out_leaves.ensures.kept c.args.self.now.at_work }
