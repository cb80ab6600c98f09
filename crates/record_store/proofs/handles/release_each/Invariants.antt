use Rattle.record_store.specs.Handles.{FirstAreGone}
use Rattle.std.proofs.Common.{length, ◌≤◌}
use Rattle.record_store.proofs.handles.release_each.Given as goal

-- the handles before this one are released
abbrev pub invariant-loop-handle : goal.invariant-loop-handle
invariant-loop-handle g l = record {
  within : l.handle-index ≤ length l.handles;
  so : FirstAreGone g.S.PagableStorage l.fn.pager l.handles l.handle-index l.pager;
}
