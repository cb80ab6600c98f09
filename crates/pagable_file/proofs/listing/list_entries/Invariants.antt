use Rattle.pagable_file.specs.Listed.{entry_of}
use Rattle.std.proofs.Common.{map, take, ◌≡◌, ◌≤◌}
use Rattle.pagable_file.proofs.listing.list_entries.Given as goal

-- the entries so far
abbrev pub invariant-loop-entry : goal.invariant-loop-entry
invariant-loop-entry l = (l.all.items ≡ map entry_of (take l.entry-index l.entries)) × (l.fn.stats.failures ≤ l.stats.failures)
