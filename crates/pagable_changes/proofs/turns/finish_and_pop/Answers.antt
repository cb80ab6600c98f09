use Rattle.pagable_changes.specs.Changes.{goes-up, isnt-left, last-is-left, turns-once}
use Rattle.pagable_changes.proofs.turns.finish_and_pop.Goals as goal

pub returns-in-Err-clause-fails : goal.returns-in-Err-clause-fails
returns-in-Err-clause-fails g c = λ honest. isnt-left _ _ (c.in-Err.ensures.fails honest)

pub returns-in-Some-clause-turns : goal.returns-in-Some-clause-turns
returns-in-Some-clause-turns g c = λ honest. turns-once _ (goes-up _ c.in-Ok.key c.in-Some.ensures.some (c.in-Ok.ensures.finishes honest))

pub returns-in-None-clause-turns : goal.returns-in-None-clause-turns
returns-in-None-clause-turns g c = λ honest. last-is-left c.in-Ok.key _ c.in-None.ensures.none (c.in-Ok.ensures.finishes honest)
