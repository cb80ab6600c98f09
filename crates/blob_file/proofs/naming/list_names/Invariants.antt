use Rattle.std.proofs.Common.{map, string_bytes, ◌++◌, ◌≡◌}
use Rattle.std.specs.HashMap.{keys}
use Rattle.blob_file.proofs.naming.list_names.Given as goal

-- the names so far, and those to come, are all names
abbrev pub invariant-loop-name : goal.invariant-loop-name
invariant-loop-name l = map string_bytes l.listed.items ++ map string_bytes l.name-iterator ≡ map string_bytes (keys l.fn.names)
