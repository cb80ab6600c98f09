use Rattle.pagable_traits.proofs.{Hashed.hash_maps_mean_alike, Maps.same-of}

pub returns-clause-any_order : Rattle.pagable_traits.proofs.laws.hash_map_is_carried.Goals.returns-clause-any_order
returns-clause-any_order g c x y m = hash_maps_mean_alike _
    (same-of g.met.K.PagableKey.key g.met.K.OneMeaning.single g.met.K.Eq.laws.symm) x.entries y.entries m
