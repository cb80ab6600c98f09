use Rattle.pagable_tables.proofs.Words.{HandleRow, Some, counts_at, find_row, held, is_in, live, numbers_of, refs_at, take, true, ℕ, ◌≡◌, ◌≤◌}
use Rattle.pagable_tables.specs.Nodes.{most_worker_handles_at}
use Rattle.pagable_tables.proofs.load_end.raise_worker_bounds.Given as goal

abbrev pub invariant-loop-handle : goal.invariant-loop-handle
invariant-loop-handle l = record {
  counts : (n : ℕ) → counts_at l.nodes n ≡ counts_at l.fn.nodes n;
  refs : (n : ℕ) → refs_at l.nodes n ≡ refs_at l.fn.nodes n;
  worker_bound : (n : ℕ) → most_worker_handles_at l.fn.nodes n ≤ most_worker_handles_at l.nodes n;
  here : (q : ℕ) (row : HandleRow) → is_in (numbers_of (take l.handle-index l.named)) q ≡ true → find_row q (live l.handles.places.items) ≡ Some row
      → held row.node.0 (live l.handles.places.items) ≤ most_worker_handles_at l.nodes row.node.0;
}
