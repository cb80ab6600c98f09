use Rattle.pagable_file.specs.Bodies.{CanBeKey}
use Rattle.std.proofs.Common.{take, ◌++◌, ◌≡◌}
use Rattle.std.specs.{Int.{to_le_bytes, w128}, List.{AllByRecursion, flat_map}}
use Rattle.pagable_file.proofs.bodies.write_keys.Given as goal

-- the keys so far were appended
abbrev pub invariant-loop-key : goal.invariant-loop-key
invariant-loop-key l = (l.body.items ≡ l.fn.body.items ++ flat_map (to_le_bytes w128) (take l.key-index l.keys))
    × AllByRecursion CanBeKey (take l.key-index l.keys)
