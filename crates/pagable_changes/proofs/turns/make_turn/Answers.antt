use Rattle.pagable_changes.specs.Changes.{turns-once}
use Rattle.pagable_changes.proofs.turns.make_turn.Goals as goal

pub returns-in-Ok-clause-turns : goal.returns-in-Ok-clause-turns
returns-in-Ok-clause-turns g c = λ honest. turns-once _ c.in-Ok.ensures.turns

pub returns-in-Err-clause-fails : goal.returns-in-Err-clause-fails
returns-in-Err-clause-fails g c = λ honest. c.in-Err.ensures.fails
