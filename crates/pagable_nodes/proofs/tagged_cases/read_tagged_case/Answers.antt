use Rattle.pagable_nodes.proofs.Tags.{tag_was_refused, tagged_case_was_read, tagged_fields_were_refused}
use Rattle.pagable_traits.proofs.Lent.{held_before}
use Rattle.pagable_nodes.proofs.tagged_cases.read_tagged_case.Goals as goal

pub returns-in_err-number-clause-reads : goal.returns-in_err-number-clause-reads
returns-in_err-number-clause-reads g c = tag_was_refused g.V.HasCases.cases g.V.HasCases.case_of g.V.HasTags.tags c.from_residual.ensures.1 c.in_err-number.ensures

pub returns-in_err-value-clause-reads : goal.returns-in_err-value-clause-reads
returns-in_err-value-clause-reads g c =
    tagged_fields_were_refused g.V.HasCases.cases g.V.HasCases.case_of g.V.HasTags.tags g.met.V.HasTags.fit c.from_residual-in_err-value.ensures.1 c.in_ok-number.ensures c.in_err-value.ensures.reads

pub returns-clause-reads : goal.returns-clause-reads
returns-clause-reads g c = tagged_case_was_read g.V.HasCases.cases g.V.HasCases.case_of g.V.HasTags.tags g.met.V.HasTags.fit c.in_ok-number.ensures c.in_ok-value.ensures.reads

pub returns-clause-holds : goal.returns-clause-holds
returns-clause-holds g c = held_before c.in_ok-number.ensures.moves c.in_ok-value.ensures.holds
