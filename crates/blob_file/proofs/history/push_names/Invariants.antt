use Rattle.std.proofs.Common.{map, length, ◌++◌, ◌≡◌}
use Rattle.blob_file.specs.{History.said_by, Rows.names_in}
use Rattle.blob_file.proofs.history.push_names.Given as goal

-- what was told so far, and what the rest says
abbrev pub invariant-loop-rest : goal.invariant-loop-rest
invariant-loop-rest l = map said_by l.told.items ++ names_in l.rest ≡ map said_by l.initial.told.items ++ names_in l.rows

abbrev pub decreases-loop-rest : goal.decreases-loop-rest
decreases-loop-rest l = length l.rest
