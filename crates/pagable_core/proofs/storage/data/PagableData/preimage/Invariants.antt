use Rattle.std.proofs.Common.{length, take, ◌++◌, ◌≡◌}
use Rattle.std.specs.{Int.{to_le_bytes, w128, w64}, List.flat_map}
use Rattle.pagable_core.proofs.storage.data.PagableData.preimage.Given as goal

-- the count, the bytes and the keys so far
abbrev pub invariant-loop-key : goal.invariant-loop-key
invariant-loop-key l = l.bytes.items ≡ (to_le_bytes w64 (length l.self.arcs.items) ++ l.self.bytes.items)
    ++ flat_map (to_le_bytes w128) (take l.key-index l.key-items)
