use Rattle.pagable_budget.proofs.Evicting.{SoFar}
use Rattle.std.proofs.Common.{length, ◌≡◌}
use Rattle.pagable_budget.proofs.evictions.evict_all.Given as goal

abbrev pub invariant-loop-cost : goal.invariant-loop-cost
invariant-loop-cost g l = record {
  so : SoFar g.S.PagableStorage l.fn.pins.entries l.fn.pager l.pins.entries l.pager;
  room : l.pins.cap ≡ l.fn.pins.cap;
}

abbrev pub decreases-loop-cost : goal.decreases-loop-cost
decreases-loop-cost g l = length l.pins.entries
