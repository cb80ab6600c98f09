use Rattle.pagable_traits.proofs.{Items.shows_items, JsonSteps.wrote-counted, Maps.{order-of, wraps_sorted_set}, Words.some}

pub returns : Rattle.pagable_traits.proofs.impls.maps.BTreeSetPagableSerialize.pagable_serialize.Goals.returns
returns g c = wrote-counted (some g.T.Carried.means) c.len.ensures.len c.write_counted.ensures (shows_items c.iter.ensures.rest)
    (λ n. wraps_sorted_set _
    (order-of g.T.Carried.means g.T.PagableOrdKey.order g.met.T.OneMeaning.single g.met.T.PagableOrdKey.is_order g.met.T.Ord.total.antisymm)
    c.len.ensures.ordered)
