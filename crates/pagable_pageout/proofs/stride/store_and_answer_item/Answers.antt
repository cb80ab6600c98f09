use Rattle.pagable_pageout.proofs.{
  FinishTurns.{finish-fails, finish-stores},
  ItemLast.{refused-ends, stored-ends},
  Strides.turn-comes,
  Words.{acts_map, arc_value, keys_of, refl, written_of},
}
use Rattle.pagable_pageout.proofs.stride.store_and_answer_item.Goals as goal

pub returns-in-Ok-clause-acts : goal.returns-in-Ok-clause-acts
returns-in-Ok-clause-acts g c n shelf =
    acts_map c.in-Ok.ensures.acts
    (λ s t call. turn-comes (finish-stores c.requires c.args.path.now.items refl c.turn_after_store.ensures.follows s t call))

pub returns-in-Err-clause-acts : goal.returns-in-Err-clause-acts
returns-in-Err-clause-acts g c n shelf =
    acts_map c.in-Err.ensures.acts (λ s t call. turn-comes (finish-fails c.requires c.fail_with.ensures.plain c.fail_with.ensures.todo s t call))

pub returns-in-Ok-clause-ends : goal.returns-in-Ok-clause-ends
returns-in-Ok-clause-ends g c =
    let w = c.args.waiting in
    stored-ends w.node (written_of (arc_value w.written)) (keys_of w.children.items) c.in-Ok.key c.args.path.now.items c.turn_after_store.ensures.follows
    c.turn_after_store.ensures.over

pub returns-in-Err-clause-ends : goal.returns-in-Err-clause-ends
returns-in-Err-clause-ends g c = refused-ends c.fail_with.ensures.todo
