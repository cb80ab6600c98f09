use Rattle.pagable_changes.proofs.Changing.{TurnsLeave}
use Rattle.pagable_changes.specs.Changes.{stage}
use Rattle.pagable_load.specs.AccessView.{values_at}
use Rattle.pagable_pager.specs.View.{pager_state}
use Rattle.pagable_tables.specs.NumberTable.{row_by}
use Rattle.std.proofs.Common.{IsTrue, ◌≡◌}
use Rattle.pagable_changes.proofs.turns.make_turns.Given as goal

-- as many turns led here as are no longer left, if the storage is honest here
abbrev pub invariant-loop-left : goal.invariant-loop-left
invariant-loop-left g l = record {
  so : IsTrue (g.S.PagableStorage.is_honest l.pager.storage) → TurnsLeave (values_at g.E.Node.NodeSet g.E.Env g.E.Hash.KeyHash l.fn.pager.environment)
      (stage l.fn.path.items l.fn.node (λ n. row_by l.fn.found n) (pager_state g.S.PagableStorage l.fn.pager))
      (stage l.path.items l.node (λ n. row_by l.found n) (pager_state g.S.PagableStorage l.pager)) l.left;
  honest : IsTrue (g.S.PagableStorage.is_honest l.pager.storage) → IsTrue (g.S.PagableStorage.is_honest l.fn.pager.storage);
  environment : l.pager.environment ≡ l.fn.pager.environment;
}

abbrev pub decreases-loop-left : goal.decreases-loop-left
decreases-loop-left g l = l.left
