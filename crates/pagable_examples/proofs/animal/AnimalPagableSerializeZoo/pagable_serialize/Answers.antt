pub returns : Rattle.pagable_examples.proofs.animal.AnimalPagableSerializeZoo.pagable_serialize.Goals.returns
returns g c = c.serialize_tagged.ensures _ _
