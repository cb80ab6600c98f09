-- Printed by pagable_derive: change the declaration instead.
-- What reading a value owes where its fields are refused.
use Rattle.pagable_traits.proofs.JsonSteps.{read-err}
use Rattle.history.proofs.folder.FolderNodeValueHistory.read.Goals as goal

pub returns-in_err-fields-clause-reads : goal.returns-in_err-fields-clause-reads
returns-in_err-fields-clause-reads g c =
    let q = c.in_err-fields.ensures.reads in
    read-err c.from_residual.ensures.1
    (record { gives = q.gives; moves = q.moves; same_env = q.same_env; same_levels = q.same_levels }) (λ h. h) (λ h. h)
