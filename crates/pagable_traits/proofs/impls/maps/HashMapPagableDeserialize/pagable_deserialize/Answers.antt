use Rattle.pagable_traits.proofs.{Hashed.reads_hash_map, JsonSteps.reads-as, Lent.hash_map_holds, Maps.same-of}

pub returns-clause-reads : Rattle.pagable_traits.proofs.impls.maps.HashMapPagableDeserialize.pagable_deserialize.Goals.returns-clause-reads
returns-clause-reads g c = reads-as c.read_collected.ensures.reads
    (λ h. reads_hash_map _ (same-of g.met.K.PagableKey.key g.met.K.OneMeaning.single g.met.K.Eq.laws.symm) _ _ _ _ _ _ _ _ h)

pub returns-clause-holds : Rattle.pagable_traits.proofs.impls.maps.HashMapPagableDeserialize.pagable_deserialize.Goals.returns-clause-holds
returns-clause-holds g c = hash_map_holds _ _ _ _ c.read_collected.result _ c.read_collected.ensures.holds
