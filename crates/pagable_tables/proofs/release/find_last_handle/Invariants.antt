use Rattle.pagable_tables.proofs.Words.{Core, LoadsAre, Place, contains_row, get_or, length, true, ℕ, ◌<◌, ◌≡◌, ◌≤◌}
use Rattle.pagable_tables.proofs.release.find_last_handle.Given as goal

abbrev pub invariant-loop-place : goal.invariant-loop-place
invariant-loop-place l = record {
  within : l.place ≤ length l.handles.places.items;
  passed : (w : Core) (k : ℕ) (d : Place) → LoadsAre l.loads w → l.place ≤ k → k < length l.handles.places.items → (get_or l.handles.places.items k d).is_live
      ≡ true
      → contains_row w l.giving (get_or l.handles.places.items k d).row ≡ true → l.left < (get_or l.handles.places.items k d).row.number.0;
}

abbrev pub decreases-loop-place : goal.decreases-loop-place
decreases-loop-place l = l.place
