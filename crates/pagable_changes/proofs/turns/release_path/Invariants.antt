use Rattle.pagable_changes.specs.{Changes.ReleasesPath, Keeping.KeepsStorage}
use Rattle.pagable_load.specs.AccessView.{values_at}
use Rattle.pagable_pager.specs.View.{pager_state}
use Rattle.pagable_pager_spec.specs.Pager.{PagerState}
use Rattle.std.proofs.Common.{length}
use Rattle.pagable_changes.proofs.turns.release_path.Given as goal

-- what gives up those that are left has given up all
abbrev pub invariant-loop-node : goal.invariant-loop-node
invariant-loop-node g l = record {
  so : (s' : PagerState g.row.E-Node.Denot g.row.E.Denot) → ReleasesPath (values_at g.E.Node.NodeSet g.E.Env g.E.Hash.KeyHash l.fn.pager.environment)
      l.path.items
      (pager_state g.S.PagableStorage l.pager) s'
      → ReleasesPath (values_at g.E.Node.NodeSet g.E.Env g.E.Hash.KeyHash l.fn.pager.environment) l.fn.path.items
      (pager_state g.S.PagableStorage l.fn.pager) s';
  keeps : KeepsStorage l.fn.pager l.pager;
}

abbrev pub decreases-loop-node : goal.decreases-loop-node
decreases-loop-node g l = length l.path.items
