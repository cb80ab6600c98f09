use Rattle.pagable_traits.proofs.{JsonSteps.reads-as, Maps.{same-of, reads_placed_set}}

pub returns-clause-reads : Rattle.pagable_traits.proofs.impls.maps.IndexSetPagableDeserialize.pagable_deserialize.Goals.returns-clause-reads
returns-clause-reads g c = reads-as c.read_collected.ensures.reads
    (λ h. reads_placed_set _ _ _ _ _ _ _ _ (same-of g.met.T.PagableKey.key g.met.T.OneMeaning.single g.met.T.Eq.laws.symm) h)
