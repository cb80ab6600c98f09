use Rattle.pagable_pageout.proofs.{
  FinishTurns.{finish-fails, finish-stores},
  ItemLast.{refused-ends, stored-ends},
  Words.{acts_map, arc_value, keys_of, refl, written_of},
}

pub returns-in-Ok-clause-acts : Rattle.pagable_pageout.proofs.turns.finish.Goals.returns-in-Ok-clause-acts
returns-in-Ok-clause-acts g c n shelf = rw c.identity_of_node-identity.ensures (acts_map c.in-Ok.ensures.acts
    (finish-stores c.requires c.args.path.now.items refl c.turn_after_store.ensures.follows))

pub returns-in-Err-clause-acts : Rattle.pagable_pageout.proofs.turns.finish.Goals.returns-in-Err-clause-acts
returns-in-Err-clause-acts g c n shelf = rw c.identity_of_node-identity.ensures (acts_map c.in-Err.ensures.acts
    (finish-fails c.requires c.fail_with.ensures.plain c.fail_with.ensures.todo))

pub returns-in-Ok-clause-ends : Rattle.pagable_pageout.proofs.turns.finish.Goals.returns-in-Ok-clause-ends
returns-in-Ok-clause-ends g c =
    let w = c.args.waiting in
    stored-ends w.node (written_of (arc_value w.written)) (keys_of w.children.items) c.in-Ok.key c.args.path.now.items c.turn_after_store.ensures.follows
    c.turn_after_store.ensures.over

pub returns-in-Err-clause-ends : Rattle.pagable_pageout.proofs.turns.finish.Goals.returns-in-Err-clause-ends
returns-in-Err-clause-ends g c = refused-ends c.fail_with.ensures.todo
