use Rattle.sha256_lanes.specs.Waiting.{AreRows, IsSettledIn, texts_of}
use Rattle.std.proofs.Common.{ℕ, ◌<◌}
use Rattle.sha256_lanes.proofs.many.digest_many.Given as goal

-- the messages before this one are done, or wait
abbrev pub invariant-loop-place : goal.invariant-loop-place
invariant-loop-place g l = AreRows (texts_of l.messages) l.rows l.waiting
    × ((q : ℕ) → q < l.place → IsSettledIn g.row.N (texts_of l.messages) l.digests l.rows l.waiting q)
