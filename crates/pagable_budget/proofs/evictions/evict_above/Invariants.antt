use Rattle.pagable_budget.proofs.Evicting.{Needed}
use Rattle.pagable_budget.specs.Budgets.{cost_of}
use Rattle.std.proofs.Common.{length, ◌≡◌, ◌≤◌}
use Rattle.pagable_budget.proofs.evictions.evict_above.Given as goal

-- the pins evicted so far, no more than needed, and the total cost of those that are left
abbrev pub invariant-loop-left : goal.invariant-loop-left
invariant-loop-left g l = record {
  so : Needed g.S.PagableStorage l.most l.fn.pins.entries l.fn.pager l.pins.entries l.pager;
  sum : l.left ≡ cost_of l.pins.entries;
  less : l.left ≤ l.cost;
  room : l.pins.cap ≡ l.fn.pins.cap;
}

abbrev pub decreases-loop-left : goal.decreases-loop-left
decreases-loop-left g l = length l.pins.entries
