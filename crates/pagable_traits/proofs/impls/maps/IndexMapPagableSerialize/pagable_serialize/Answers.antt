use Rattle.pagable_traits.proofs.{Items.shows_entries, JsonSteps.wrote-counted, Maps.{same-of, wraps_placed_map}, Words.{pairs, some}}

pub returns : Rattle.pagable_traits.proofs.impls.maps.IndexMapPagableSerialize.pagable_serialize.Goals.returns
returns g c = wrote-counted (some (pairs g.K.Carried.means g.V.Carried.means)) c.len.ensures.len c.write_counted.ensures (shows_entries c.iter.ensures.rest)
    (λ n. wraps_placed_map _ (same-of g.met.K.PagableKey.key g.met.K.OneMeaning.single g.met.K.Eq.laws.symm) c.len.ensures.unique)
