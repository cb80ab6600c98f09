use Rattle.record_store.specs.Handles.{birth-is-refused, is-born, isnt-made}
use Rattle.record_store.proofs.inserting.insert_pinned.Goals as goal

pub returns-in-Err : goal.returns-in-Err
returns-in-Err g c = isnt-made _

pub returns-in-Err-node : goal.returns-in-Err-node
returns-in-Err-node g c = isnt-made _

pub returns-in-Ok-new_loose : goal.returns-in-Ok-new_loose
returns-in-Ok-new_loose g c =
    let born = c.in-Ok-new_loose.ensures in
    is-born _ _ _ (record { refs = c.in-Ok.refs; through = c.in-Ok.ensures; is = c.in-Ok-node.ensures })
    (record { step = born.step; moves = born.moves; storage = born.storage })

pub returns-in-Err-new_loose : goal.returns-in-Err-new_loose
returns-in-Err-new_loose g c =
    let born = c.in-Err-new_loose.ensures in
    birth-is-refused _ _ _ (record { refs = c.in-Ok.refs; through = c.in-Ok.ensures; is = c.in-Ok-node.ensures })
    (record { step = born.step; moves = born.moves; storage = born.storage })
