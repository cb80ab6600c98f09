use Rattle.pagable_traits.proofs.{Items.shows_entries, JsonSteps.wrote-counted, Maps.{order-of, wraps_sorted_map}, Words.{pairs, some}}

pub returns : Rattle.pagable_traits.proofs.impls.maps.BTreeMapPagableSerialize.pagable_serialize.Goals.returns
returns g c = wrote-counted (some (pairs g.K.Carried.means g.V.Carried.means)) c.len.ensures.len c.write_counted.ensures
    (shows_entries c.iter-entries.ensures.rest)
    (λ n. wraps_sorted_map _ _
    (order-of g.K.Carried.means g.K.PagableOrdKey.order g.met.K.OneMeaning.single g.met.K.PagableOrdKey.is_order g.met.K.Ord.total.antisymm)
    c.len.ensures.ordered)
