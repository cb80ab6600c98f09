use Rattle.pagable_traits.proofs.Listed.{map_listed}

pub returns-clause-ok : Rattle.pagable_traits.proofs.references.IndexMapRefers.list_references.Goals.returns-clause-ok
returns-clause-ok g c = map_listed g.K.Carried.means.meaning g.V.Carried.means.meaning c.list_each.result c.args.list.now.items c.list_each.new.list.items
    c.iter.ensures.rest c.list_each.ensures.ok
