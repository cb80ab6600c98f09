use Rattle.pagable_pager.specs.View.{pager_core}
use Rattle.record_store.specs.Records.{RefersThrough}
use Rattle.std.proofs.Common.{length, ◌≤◌}
use Rattle.record_store.proofs.inserting.references.Given as goal

-- the references go through the handles before this one
abbrev pub invariant-loop-handle : goal.invariant-loop-handle
invariant-loop-handle g l = record {
  within : l.handle-index ≤ length l.handles;
  so : RefersThrough (pager_core g.S.PagableStorage l.pager) l.handles l.handle-index l.refs.items;
}
