use Rattle.pagable_traits.proofs.Listed.{item_listed, items_listed}

pub loop-item-preserved : Rattle.pagable_traits.proofs.references.list_item_references.Goals.loop-item-preserved
loop-item-preserved g c =
    item_listed g.T.Carried.means.meaning c.args.items.now c.loop-item.item-index c.item-item.result c.loop-item.list.items c.list_references.new.list.items _
    c.loop-item-test.true c.item-item.is
    c.in_ok-list_references.ensures.ok c.loop-item.invariant

pub returns-clause-ok : Rattle.pagable_traits.proofs.references.list_item_references.Goals.returns-clause-ok
returns-clause-ok g c = items_listed g.T.Carried.means.meaning c.args.items.now c.loop-item.item-index c.loop-item.list.items _ c.loop-item-test.false
    c.loop-item.invariant
