use Rattle.record_store.specs.Handles.{ClonesFirst}
use Rattle.std.proofs.Common.{length, ◌≡◌, ◌≤◌}
use Rattle.record_store.proofs.handles.clone_all.Given as goal

-- the handles before this one are cloned
abbrev pub invariant-loop-handle : goal.invariant-loop-handle
invariant-loop-handle g l = record {
  within : l.handle-index ≤ length l.handles;
  so : ClonesFirst g.S.PagableStorage l.fn.pager l.handles l.handle-index l.clones.items l.pager;
  storage : l.pager.storage ≡ l.fn.pager.storage;
}
