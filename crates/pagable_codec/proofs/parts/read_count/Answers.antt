use Rattle.pagable_codec.proofs.Reading.{part_read}

pub returns : Rattle.pagable_codec.proofs.parts.read_count.Goals.returns
returns g c =
    let law = g.met.D.PagableDeserializer in
    let old = c.args.deserializer.now in
    let told = rw c.serde.ensures.value at c.read_len.ensures in
    part_read _ c.read_len.result (law.bytes_are old) (law.rest_of_with old _) (law.moves_of_with old _) (law.environment_of_with old _)
    (law.levels_of_with old _) told
