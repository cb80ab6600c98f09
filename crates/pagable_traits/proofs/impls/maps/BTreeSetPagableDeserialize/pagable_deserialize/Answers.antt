use Rattle.pagable_traits.proofs.{JsonSteps.reads-as, Maps.{order-of, reads_sorted_set}}

pub returns-clause-reads : Rattle.pagable_traits.proofs.impls.maps.BTreeSetPagableDeserialize.pagable_deserialize.Goals.returns-clause-reads
returns-clause-reads g c = reads-as c.read_collected.ensures.reads
    (λ h. reads_sorted_set _ _ _ _ _ _ _ _ _
    (order-of g.T.Carried.means g.T.PagableOrdKey.order g.met.T.OneMeaning.single g.met.T.PagableOrdKey.is_order g.met.T.Ord.total.antisymm) h)
