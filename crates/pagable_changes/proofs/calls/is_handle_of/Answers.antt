use Rattle.pagable_changes.proofs.Changing.{of-another}
use Rattle.pagable_changes.proofs.calls.is_handle_of.Goals as goal

pub returns-in-Ok-clause-elsewhere : goal.returns-in-Ok-clause-elsewhere
returns-in-Ok-clause-elsewhere g c = λ differ. of-another c.in-Ok.ensures differ
