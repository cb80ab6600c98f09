use Rattle.blob_file.specs.History.{said_by}
use Rattle.pagable_file.specs.Logged.{logged_by}
use Rattle.std.proofs.Common.{map, take, ◌≡◌, ◌≤◌}
use Rattle.pagable_file.proofs.root_log.log_rows.Given as goal

-- the rows so far
abbrev pub invariant-loop-row : goal.invariant-loop-row
invariant-loop-row l = (map logged_by l.all.items ≡ map said_by (take l.row-index l.rows)) × (l.fn.stats.failures ≤ l.stats.failures)
