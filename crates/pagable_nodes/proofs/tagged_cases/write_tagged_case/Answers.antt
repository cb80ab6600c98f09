use Rattle.pagable_nodes.proofs.Tags.{tag_unwritten, tagged_listed, tagged_wrote}
use Rattle.std.proofs.Common.{sym, ◌∙◌}
use Rattle.pagable_nodes.proofs.tagged_cases.write_tagged_case.Goals as goal

pub returns-in_err-serialize_str-clause-wrote : goal.returns-in_err-serialize_str-clause-wrote
returns-in_err-serialize_str-clause-wrote g c =
    tag_unwritten _ _ (g.V.HasCases.case_of c.args.value.now) _ (rw c.requires.number c.requires.tag) c.from_residual.ensures.1 c.in_err-serialize_str.ensures

pub returns-clause-wrote : goal.returns-clause-wrote
returns-clause-wrote g c =
    let tag = c.in_ok-serialize_str.ensures in
    tagged_wrote _ _ g.met.V.HasTags.fit (g.V.HasCases.case_of c.args.value.now) _ (λ m h. g.met.T.OneMeaning.single c.args.fields.now m h ∙ sym c.requires.means)
    (rw c.requires.number c.requires.causes) _ _ (rw c.requires.number c.requires.tag) (rw c.requires.number c.requires.shape) tag (rw tag.same_env at c.write_with_refs.ensures.wrote)

pub returns-clause-listed : goal.returns-clause-listed
returns-clause-listed g c =
    let out = g.S.PagableSerializer.out in
    rw c.requires.means
    (tagged_listed _ _ _ _ _ (out c.args.serializer.now) (out c.serialize_str.new.serializer) (out c.write_with_refs.new.serializer)
    c.in_ok-serialize_str.ensures.ok c.write_with_refs.ensures.listed)
