use Rattle.pagable_tables.proofs.{
  OwnedByLoad.past_of,
  Words.{Core, DropsValues, InReach, IsSoundInCascade, LoadsAre, None, ReleasedSoFar, contains_row, counts_at, false, length, nobody, owns_nothing, passes_in},
  Words.{row_by, rows_of, true, ℕ, [], ◌≡◌, ◌≤◌},
}
use Rattle.pagable_tables.proofs.release.release_owned.Given as goal

abbrev pub invariant-loop-at : goal.invariant-loop-at
invariant-loop-at g l = IsSoundInCascade l.t [] owns_nothing
    × (length (rows_of l.t) ≤ length (rows_of l.fn.t))
    × ((before u w : Core) → LoadsAre l.loads w → ReleasedSoFar before u nobody l.lists (record l.fn.t { listing_error = None })
    → length (rows_of l.fn.t) ≤ length u.rows
    → ((q : ℕ) → passes_in (contains_row w l.giving) u.rows q ≡ true → InReach l.reach q × (q ≤ l.until))
    → ReleasedSoFar before u (past_of u w l.giving l.left) l.lists l.t)
    × DropsValues (counts_at l.fn.t.nodes) (row_by l.fn.values) (counts_at l.t.nodes) (row_by l.values)
    × (l.lists ≡ false → l.t.list.items ≡ l.fn.t.list.items)

abbrev pub decreases-loop-at : goal.decreases-loop-at
decreases-loop-at g l = l.left
