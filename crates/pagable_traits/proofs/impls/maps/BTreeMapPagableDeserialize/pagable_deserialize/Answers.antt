use Rattle.pagable_traits.proofs.{JsonSteps.reads-as, Lent.sorted_map_holds, Maps.{order-of, reads_sorted_map}}

pub returns-clause-reads : Rattle.pagable_traits.proofs.impls.maps.BTreeMapPagableDeserialize.pagable_deserialize.Goals.returns-clause-reads
returns-clause-reads g c = reads-as c.read_collected.ensures.reads
    (λ h. reads_sorted_map _ _ _ _ _ _ _ _ _ _
    (order-of g.K.Carried.means g.K.PagableOrdKey.order g.met.K.OneMeaning.single g.met.K.PagableOrdKey.is_order g.met.K.Ord.total.antisymm) h)

pub returns-clause-holds : Rattle.pagable_traits.proofs.impls.maps.BTreeMapPagableDeserialize.pagable_deserialize.Goals.returns-clause-holds
returns-clause-holds g c = sorted_map_holds _ _ _ _ c.read_collected.result _ c.read_collected.ensures.holds
