use Rattle.pagable_traits.proofs.{Lent.held_so, Registered.{body_read, unknown_read}}
use Rattle.std.proofs.Common.{refl}

pub returns-in_default-clause-reads : Rattle.pagable_traits.proofs.typetag.TypetagRegistry.deserialize_tagged.Goals.returns-in_default-clause-reads
returns-in_default-clause-reads g c = unknown_read g.E.Env g.D.PagableDeserializer g.F.TagReader.read_causes.are g.T.PagableTagged.tag
    g.T.PagableTagged.body_means.of g.F.TagReader.grammar _ _ _
    c.in_ok-tag.ensures c.as_str.ensures.value refl c.in_default.ensures.missing

pub returns-clause-reads : Rattle.pagable_traits.proofs.typetag.TypetagRegistry.deserialize_tagged.Goals.returns-clause-reads
returns-clause-reads g c = body_read g.E.Env g.D.PagableDeserializer g.F.TagReader.read_causes.are g.T.PagableTagged.tag g.T.PagableTagged.body_means.of
    g.F.TagReader.grammar _ _ _ _ _ c.read.result
    c.in_ok-tag.ensures c.as_str.ensures.value refl c.in-Some.ensures.found c.in-Some.ensures.own c.read.ensures.reads c.read.ensures.of_tag

pub returns-clause-holds : Rattle.pagable_traits.proofs.typetag.TypetagRegistry.deserialize_tagged.Goals.returns-clause-holds
returns-clause-holds g c = held_so g.T.PagableTagged.body_holds_target c.read.result c.in_ok-tag.ensures.moves c.read.ensures.holds
