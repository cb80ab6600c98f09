use Rattle.pagable_traits.proofs.{Parts.{text-read, text_not_refused}, Words.{read, read_with, refl}}
use Rattle.pagable_value_spec.specs.Meaning.{pattern}

pub returns : Rattle.pagable_traits.proofs.saved_regex.read_text.Goals.returns
unfolding read read_with
returns g c =
    let law = g.met.D.PagableDeserializer in
    let old = c.args.deserializer.now in
    let told = rw c.serde.ensures.value at c.read_string.ensures in
    record {
      reads = text-read g.E.Env g.D.PagableDeserializer pattern c.read_string.result _ (λ c rest. refl) (law.bytes_are old) (law.rest_of_with old _)
          (law.moves_of_with old _)
          (law.environment_of_with old _) (law.levels_of_with old _) told.gives told.moves;
      never_refused = text_not_refused _ _ _ told.gives;
    }
