use Rattle.blobctl.specs.Kept.{IsAmong, kept_rows, rows_of}
use Rattle.std.proofs.Common.{List, drop, length, ℕ, ◌≡◌, ◌≤◌}
use Rattle.std.specs.{HashMap.get_by_text, List.AllByRecursion, Prelude.unwrap_or}
use Rattle.blobctl.proofs.keep.versions_kept.Given as goal

-- the rows of each name from here on are counted, and those of them that are kept are there
abbrev pub invariant-loop-at : goal.invariant-loop-at
invariant-loop-at l = record {
  within : l.at ≤ length l.changes;
  counts : (q : List ℕ) → unwrap_or (get_by_text l.counts q) 0 ≡ rows_of q (drop l.at l.changes);
  kept : AllByRecursion (IsAmong l.kept.items) (kept_rows l.keep (drop l.at l.changes));
}

abbrev pub decreases-loop-at : goal.decreases-loop-at
decreases-loop-at l = l.at
