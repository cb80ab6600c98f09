use Rattle.sha256_lanes.specs.Waiting.{IsDone, IsWaiting, KeepsDone, texts_of}
use Rattle.std.proofs.Common.{slice_index, slice_index_or, ℕ, [], ◌<◌}
use Rattle.sha256_lanes.proofs.many.digest_left.Given as goal

-- the messages that waited in the rows before this one are done
abbrev pub invariant-loop-row : goal.invariant-loop-row
invariant-loop-row g l = KeepsDone g.row.N (texts_of l.messages) l.fn.digests l.digests
    × ((r : ℕ) → r < l.row
    → (q : ℕ) → IsWaiting (slice_index_or l.rows r []) (slice_index l.waiting r) q → IsDone g.row.N (texts_of l.messages) l.digests q)
