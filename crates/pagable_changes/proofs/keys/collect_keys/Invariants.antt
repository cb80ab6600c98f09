use Rattle.pagable_changes.specs.Changes.{AllHaveKeys, height_over}
use Rattle.pagable_pager.specs.View.{pager_core}
use Rattle.pagable_tables.specs.NumberTable.{row_by}
use Rattle.std.proofs.Common.{length, take, ◌-◌, ◌≡◌, ◌≤◌}
use Rattle.pagable_changes.proofs.keys.collect_keys.Given as goal

-- the first references have these keys, and the longest path through them this length
abbrev pub invariant-loop-at : goal.invariant-loop-at
invariant-loop-at g l = record {
  within : l.at ≤ length l.references.items;
  so : AllHaveKeys (λ n. row_by l.found n) (pager_core g.S.PagableStorage l.pager)
      (take l.at l.references.items) l.keys.items;
  tall : l.height ≡ height_over (λ n. row_by l.found n) (take l.at l.references.items);
}

abbrev pub decreases-loop-at : goal.decreases-loop-at
decreases-loop-at g l = length l.references.items - l.at
