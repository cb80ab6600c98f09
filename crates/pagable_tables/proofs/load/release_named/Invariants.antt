use Rattle.pagable_tables.proofs.{
  Words.{Core, DropsValues, IsSoundInCascade, None, Owner, ReleasedSoFar, counts_at, is_named_by, is_owned_in, length, nobody, owns_nothing, row_by, rows_of},
  Words.{take, [], ◌&&◌, ◌≤◌},
}
use Rattle.pagable_tables.proofs.load.release_named.Given as goal

abbrev pub invariant-loop-reference : goal.invariant-loop-reference
invariant-loop-reference g l = IsSoundInCascade l.t [] owns_nothing
    × (length (rows_of l.t) ≤ length (rows_of l.fn.t))
    × ((before w : Core) → ReleasedSoFar before w nobody l.lists (record l.fn.t { listing_error = None })
    → length (rows_of l.fn.t) ≤ length w.rows
    → ReleasedSoFar before w (λ q. is_named_by (take l.reference-index l.references) q && is_owned_in w (Owner.Load l.load) q) l.lists l.t)
    × DropsValues (counts_at l.fn.t.nodes) (row_by l.fn.values) (counts_at l.t.nodes) (row_by l.values)
