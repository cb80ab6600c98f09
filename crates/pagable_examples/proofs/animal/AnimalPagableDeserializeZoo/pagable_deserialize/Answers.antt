use Rattle.pagable_examples.specs.Animals.{written}

pub returns-clause-reads : Rattle.pagable_examples.proofs.animal.AnimalPagableDeserializeZoo.pagable_deserialize.Goals.returns-clause-reads
returns-clause-reads g c = c.deserialize_tagged.ensures.reads written
