use Rattle.pagable_nodes.proofs.Enums.{case_was_read, fields_were_refused, number_was_refused}
use Rattle.pagable_traits.proofs.Lent.{held_before}
use Rattle.pagable_nodes.proofs.cases.read_case.Goals as goal

pub returns-in_err-number-clause-reads : goal.returns-in_err-number-clause-reads
returns-in_err-number-clause-reads g c = number_was_refused g.V.HasCases.cases g.V.HasCases.case_of c.from_residual.ensures.1 c.in_err-number.ensures

pub returns-in_err-value-clause-reads : goal.returns-in_err-value-clause-reads
returns-in_err-value-clause-reads g c =
    fields_were_refused g.V.HasCases.cases g.V.HasCases.case_of c.from_residual-in_err-value.ensures.1 c.in_ok-number.ensures c.in_err-value.ensures.reads

pub returns-clause-reads : goal.returns-clause-reads
returns-clause-reads g c = case_was_read g.V.HasCases.cases g.V.HasCases.case_of c.in_ok-number.ensures c.in_ok-value.ensures.reads

pub returns-clause-holds : goal.returns-clause-holds
returns-clause-holds g c = held_before c.in_ok-number.ensures.moves c.in_ok-value.ensures.holds
