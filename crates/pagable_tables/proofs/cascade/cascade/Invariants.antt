use Rattle.pagable_tables.proofs.{
  CascadeEnd.Lasting,
  Words.{AreKept, Bool, Core, IsSoundInCascade, List, ReleasedSoFar, counts_at, false, length, owns_nothing, row_by, rows_of, valued, ℕ, ◌*◌, ◌+◌, ◌≡◌, ◌≤◌},
}
use Rattle.pagable_tables.proofs.cascade.cascade.Given as goal

abbrev pub invariant-finish_cascade : goal.invariant-finish_cascade
invariant-finish_cascade g l =
    ((stack : List ℕ) × IsSoundInCascade l.t stack owns_nothing × (2 * valued (rows_of l.t) + length stack ≤ l.left))
    × ((before w : Core) (given : ℕ → Bool) → ReleasedSoFar before w given l.lists l.initial.t → ReleasedSoFar before w given l.lists l.t)
    × (AreKept (counts_at l.initial.t.nodes) (row_by l.initial.values) → (n : ℕ)
    → Lasting (counts_at l.t.nodes n) (row_by l.initial.values n) (row_by l.values n))
    × (length (rows_of l.t) ≤ length (rows_of l.initial.t))
    × (l.lists ≡ false → l.t.list.items ≡ l.initial.t.list.items)

abbrev pub decreases-finish_cascade : goal.decreases-finish_cascade
decreases-finish_cascade g l = l.left
