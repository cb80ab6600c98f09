use Rattle.std.proofs.Common.{map, take, ◌≡◌}
use Rattle.pagable_core.proofs.storage.data.borrow_all.Given as goal

-- the messages before this one are lent
abbrev pub invariant-loop-message : goal.invariant-loop-message
invariant-loop-message l = map (λ message. message.now) l.lent.items ≡ map (λ message. message.items) (take l.message-index l.messages)
