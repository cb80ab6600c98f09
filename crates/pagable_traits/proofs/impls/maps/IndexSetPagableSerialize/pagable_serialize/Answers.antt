use Rattle.pagable_traits.proofs.{Items.shows_items, JsonSteps.wrote-counted, Maps.{same-of, wraps_placed_set}, Words.some}

pub returns : Rattle.pagable_traits.proofs.impls.maps.IndexSetPagableSerialize.pagable_serialize.Goals.returns
returns g c = wrote-counted (some g.T.Carried.means) c.len.ensures.len c.write_counted.ensures (shows_items c.iter.ensures.rest)
    (λ n. wraps_placed_set (same-of g.met.T.PagableKey.key g.met.T.OneMeaning.single g.met.T.Eq.laws.symm) c.len.ensures.unique)
