use Rattle.std.proofs.Common.{refl}
use Rattle.pagable_changes.proofs.keys.cell_key.Goals as goal

pub returns-then-not-is_handle_of-clause-refused : goal.returns-then-not-is_handle_of-clause-refused
returns-then-not-is_handle_of-clause-refused g c = (refl, c.if-not-is_handle_of.ensures.elsewhere refl)
