use Rattle.std.proofs.Common.{map, ◌++◌, ◌≡◌}
use Rattle.blob_file.specs.File.{listed_entry}
use Rattle.blob_file.proofs.listing.list_places.Given as goal

-- what was listed, and what is to come, is all
abbrev pub invariant-loop-key : goal.invariant-loop-key
invariant-loop-key l = l.listed.items ++ map listed_entry l.key-iterator ≡ map listed_entry l.fn.places.entries
