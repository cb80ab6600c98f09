use Rattle.record_store.specs.Handles.{ReleasesFirst}
use Rattle.std.proofs.Common.{length, ◌≡◌, ◌≤◌}
use Rattle.record_store.proofs.handles.release_all.Given as goal

-- the handles before this one are released
abbrev pub invariant-loop-handle : goal.invariant-loop-handle
invariant-loop-handle g l = record {
  within : l.handle-index ≤ length l.handles;
  so : ReleasesFirst g.S.PagableStorage l.fn.pager l.handles l.handle-index l.pager;
  storage : l.pager.storage ≡ l.fn.pager.storage;
}
