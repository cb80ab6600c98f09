use Rattle.pagable_traits.proofs.{Parts.text-read, Words.{read, read_with, refl}}
use Rattle.pagable_value_spec.specs.Meaning.{text}

pub returns-clause-reads : Rattle.pagable_traits.proofs.impls.texts.StringPagableDeserialize.pagable_deserialize.Goals.returns-clause-reads
unfolding read read_with
returns-clause-reads g c =
    let law = g.met.D.PagableDeserializer in
    let old = c.args.deserializer.now in
    let told = rw c.serde.ensures.value at c.read_string.ensures in
    text-read g.E.Env g.D.PagableDeserializer text c.read_string.result _ (λ c rest. refl) (law.bytes_are old) (law.rest_of_with old _)
    (law.moves_of_with old _)
    (law.environment_of_with old _) (law.levels_of_with old _) told.gives told.moves
