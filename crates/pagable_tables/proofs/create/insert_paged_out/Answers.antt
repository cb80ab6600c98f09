use Rattle.pagable_tables.proofs.{OwnedByLoad.{away-born, does-then}, SameViews.{failed, weaker}, Views.none-named, Words.arith}
use Rattle.pagable_tables.proofs.create.insert_paged_out.Goals as goal

pub insert_node-requires-clause-fit : goal.insert_node-requires-clause-fit
insert_node-requires-clause-fit c = none-named _ _ _ c.new.ensures.items

pub returns : goal.returns
returns c = does-then c.make_room_for_node.ensures.does c.insert_node.ensures.does
    (λ storage room born. away-born _ _ _ _ _ _ room
    c.in_ok-make_room_for_node.ensures.ready.node_left c.get.ensures.value (omega arith) c.new.ensures.items born)

pub returns-in_err-make_room_for_node : goal.returns-in_err-make_room_for_node
returns-in_err-make_room_for_node c = rw (failed _ c.from_residual.ensures.1) (let ready = c.make_room_for_node.ensures.does in
    record {
      does = λ storage. record { made = tt; refused = weaker (c.in_err-make_room_for_node.ensures.refused storage) };
      whole = ready.whole;
      later = ready.later;
    })
