use Rattle.pagable_nodes.proofs.Enums.{case_wrote, fields_listed, number_unwritten}
use Rattle.std.proofs.Common.{sym, ◌∙◌}
use Rattle.pagable_nodes.proofs.cases.write_case.Goals as goal

pub returns-in_err-write_number-clause-wrote : goal.returns-in_err-write_number-clause-wrote
returns-in_err-write_number-clause-wrote g c = number_unwritten _ _ c.args.number c.from_residual.ensures.1 c.in_err-write_number.ensures

pub returns-clause-wrote : goal.returns-clause-wrote
returns-clause-wrote g c =
    let number = c.in_ok-write_number.ensures in
    case_wrote _ _ _ c.args.number c.requires.number (λ m h. g.met.T.OneMeaning.single c.args.fields.now m h ∙ sym c.requires.means) c.requires.causes _
    c.requires.shape c.ranges.number.fits number (rw number.same_env at c.write_with_refs.ensures.wrote)

pub returns-clause-listed : goal.returns-clause-listed
returns-clause-listed g c =
    let out = g.S.PagableSerializer.out in
    rw (c.requires.means, c.requires.number)
    (fields_listed _ _ c.args.number (out c.args.serializer.now) (out c.write_number.new.serializer) (out c.write_with_refs.new.serializer) _
    c.in_ok-write_number.ensures.ok c.write_with_refs.ensures.listed)
