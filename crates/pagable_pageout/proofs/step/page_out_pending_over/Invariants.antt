use Rattle.pagable_load.specs.AccessView.{Acts}
use Rattle.pagable_pageout.proofs.Words.{values_at}
use Rattle.pagable_pageout.proofs.step.page_out_pending_over.Given as goal
use Rattle.pagable_pageout.specs.PageOuts.{HasPaged}

-- the entries above this place are paged out
abbrev pub invariant-loop-left : goal.invariant-loop-left
invariant-loop-left g l = Acts g.A.Access.known_state g.A.Access.acting l.fn.access l.access
    (λ a. HasPaged (values_at g.E.Node.NodeSet g.E.Env g.E.Hash.KeyHash a.environment) l.left)

abbrev pub decreases-loop-left : goal.decreases-loop-left
decreases-loop-left g l = l.left
