use Rattle.pagable_load.specs.AccessView.{values_at}
use Rattle.pagable_pager.proofs.LeafBatches.{BatchRuns}
use Rattle.pagable_pager.proofs.pager.Pager.page_out_written.Given as goal

-- the entries down to `rest` are paged out, and the leaves that are left have their keys
abbrev pub invariant-loop-rest : goal.invariant-loop-rest
invariant-loop-rest g l = BatchRuns g.S.PagableStorage (λ e. values_at g.E.Node.NodeSet g.E.Env g.E.Hash.KeyHash e) g.E.Hash.KeyHash.digest
    l.fn.leaves.items l.left l.fn.self l.rest l.leaves.items l.keys.items l.self

abbrev pub decreases-loop-rest : goal.decreases-loop-rest
decreases-loop-rest g l = l.rest
