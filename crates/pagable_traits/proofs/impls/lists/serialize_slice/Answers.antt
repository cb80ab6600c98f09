use Rattle.pagable_traits.proofs.{Items.shows_slice, JsonSteps.wrote-counted, Maps.wraps_list, Words.{refl, some}}

pub returns : Rattle.pagable_traits.proofs.impls.lists.serialize_slice.Goals.returns
returns g c = wrote-counted (some g.T.Carried.means) refl c.write_counted.ensures (shows_slice c.iter.ensures.rest) (λ n. wraps_list)
