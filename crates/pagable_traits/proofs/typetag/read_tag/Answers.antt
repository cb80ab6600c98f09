use Rattle.pagable_traits.proofs.{Registered.text_is_read, Words.string_bytes}

pub returns : Rattle.pagable_traits.proofs.typetag.read_tag.Goals.returns
returns g c =
    let law = g.met.D.PagableDeserializer in
    let old = c.args.deserializer.now in
    let told = rw c.serde.ensures.value at c.read_string.ensures in
    record {
      gives = text_is_read string_bytes c.read_string.result _ _ _ _ (law.bytes_are old) (law.rest_of_with old _) told.gives;
      moves = law.moves_of_with old _ told.moves;
      same_env = law.environment_of_with old _;
      same_levels = law.levels_of_with old _;
    }
