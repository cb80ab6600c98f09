use Rattle.std.proofs.Common.{map, take, ◌≡◌}
use Rattle.pagable_codec.proofs.hash.KeyHash.digest_many.Given as goal

-- the messages before this one are done
abbrev pub invariant-loop-place : goal.invariant-loop-place
invariant-loop-place g l = take l.place l.digests ≡ map (λ message. g.Self.KeyHash.digest message.now) (take l.place l.messages)
