-- Printed by pagable_derive: change the declaration instead.
-- What reading a case owes where it has no fields, and where they are refused.
use Rattle.pagable_nodes.proofs.Enums.{fields_refused, no_fields}
use Rattle.std.proofs.Common.{refl, sym}
use Rattle.declared_types.proofs.choice.ChoiceCaseReader.read_fields.Goals as goal

pub returns-in-0-clause-reads : goal.returns-in-0-clause-reads
returns-in-0-clause-reads g c =
    no_fields (rw c.in-0.is refl) (sym c.in-0.is, refl)

pub returns-in_err-first-in-1-clause-reads : goal.returns-in_err-first-in-1-clause-reads
returns-in_err-first-in-1-clause-reads g c =
    fields_refused c.from_residual.ensures.1 c.in_err-first-in-1.ensures.reads (rw c.in-1.is refl) (rw c.in-1.is refl)

pub returns-in_err-fields-in-2-clause-reads : goal.returns-in_err-fields-in-2-clause-reads
returns-in_err-fields-in-2-clause-reads g c =
    fields_refused c.from_residual-in_err-fields-in-2.ensures.1 c.in_err-fields-in-2.ensures.reads (rw c.in-2.is refl) (rw c.in-2.is refl)
