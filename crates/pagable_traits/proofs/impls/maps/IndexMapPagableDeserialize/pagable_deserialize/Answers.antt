use Rattle.pagable_traits.proofs.{JsonSteps.reads-as, Lent.placed_map_holds, Maps.{same-of, reads_placed_map}}

pub returns-clause-reads : Rattle.pagable_traits.proofs.impls.maps.IndexMapPagableDeserialize.pagable_deserialize.Goals.returns-clause-reads
returns-clause-reads g c = reads-as c.read_collected.ensures.reads
    (λ h. reads_placed_map _ _ _ _ _ _ _ _ _ (same-of g.met.K.PagableKey.key g.met.K.OneMeaning.single g.met.K.Eq.laws.symm) h)

pub returns-clause-holds : Rattle.pagable_traits.proofs.impls.maps.IndexMapPagableDeserialize.pagable_deserialize.Goals.returns-clause-holds
returns-clause-holds g c = placed_map_holds _ _ _ _ c.read_collected.result _ c.read_collected.ensures.holds
