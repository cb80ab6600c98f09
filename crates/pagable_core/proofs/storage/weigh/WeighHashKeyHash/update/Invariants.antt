use Rattle.pagable_core.specs.Data.{IsWeighed}
use Rattle.std.proofs.Common.{List, take, ℕ, ◌++◌}
use Rattle.pagable_core.proofs.storage.weigh.WeighHashKeyHash.update.Given as goal

abbrev pub invariant-loop-byte : goal.invariant-loop-byte
invariant-loop-byte l = (front : List ℕ) → IsWeighed l.fn.self front → IsWeighed l.self (front ++ take l.byte-index l.bytes)
