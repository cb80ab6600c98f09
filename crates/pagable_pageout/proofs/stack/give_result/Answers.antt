use Rattle.pagable_pageout.proofs.{
  Stacks.{give-is, takes-next, todos-more},
  Words.{advance, ap, arc_value, keys_of, sym, todos, waiting_todo, written_of, ◌∙◌, ◌∷◌},
}

pub returns-clause-gives : Rattle.pagable_pageout.proofs.stack.give_result.Goals.returns-clause-gives
returns-clause-gives g c =
    let w = c.in-Some.waiting in
    let d = c.args.done in
    let rest = todos c.pop.new.self.items in
    record {
      x = waiting_todo w;
      rest = rest;
      was = ap todos c.in-Some.ensures.items ∙ todos-more c.pop.new.self.items w;
      is = c.advance.ensures.todo ∙ ap (λ t. advance (t ∷ rest)) c.with_result.ensures
          ∙ sym (give-is w.node (written_of (arc_value w.written)) (keys_of w.children.items) rest d.reference d.found.key d.found.height);
    }

pub with_result-requires : Rattle.pagable_pageout.proofs.stack.give_result.Goals.with_result-requires
with_result-requires g c =
    let w = c.in-Some.waiting in
    let e = ap todos c.in-Some.ensures.items ∙ todos-more c.pop.new.self.items w in
    takes-next w.node (written_of (arc_value w.written)) (keys_of w.children.items) (todos c.pop.new.self.items) c.args.done.reference c.args.done.found.height
    (rw e at c.requires)
