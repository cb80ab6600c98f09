use Rattle.pagable_file.proofs.Keys.{joined}
use Rattle.pagable_file.specs.Bodies.{keys_from, keys_in}
use Rattle.std.proofs.Common.{length, ◌*◌, ◌-◌, ◌≡◌}
use Rattle.pagable_file.proofs.bodies.read_keys.Given as goal

-- the keys so far, and behind them those that are left
abbrev pub invariant-loop-at : goal.invariant-loop-at
invariant-loop-at l = (length l.rest ≡ length l.bytes - 16 * l.at) × (joined l.keys.items (keys_from (l.count - l.at) l.rest) ≡ keys_in l.bytes)
