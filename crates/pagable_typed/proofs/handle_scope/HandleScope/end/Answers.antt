use Rattle.std.proofs.Common.{rules}
use Rattle.std.proofs.lemmas.Fn.{filter_same}
use Rattle.pagable_typed.proofs.handle_scope.HandleScope.end.Goals as goal

pub returns-clause-ended : goal.returns-clause-ended
returns-clause-ended g c = filter_same _ _ _ (λ x b f' k. search rules) _ _ c.retain.ensures.filtered
