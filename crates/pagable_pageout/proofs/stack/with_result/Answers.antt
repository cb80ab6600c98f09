use Rattle.pagable_pageout.proofs.{
  Stacks.{ids-more, raise_height-has},
  Words.{Some, arc_value, length-map, longest_path, slice_get, subst, sym, ◌+◌, ◌∙◌, ◌≡◌, ◌≤◌},
}

pub invariant_of-result-clause-near : Rattle.pagable_pageout.proofs.stack.with_result.Goals.invariant_of-result-clause-near
invariant_of-result-clause-near g c n is = raise_height-has (λ m. m.place + m.height ≤ longest_path) _ _ c.args.waiting.node c.requires.near n
    (sym c.raise_height-node.ensures ∙ is)

pub invariant_of-result-clause-each : Rattle.pagable_pageout.proofs.stack.with_result.Goals.invariant_of-result-clause-each
invariant_of-result-clause-each g c =
    let w = c.args.waiting in
    let next = subst (λ n. slice_get (arc_value w.written).arcs.items n ≡ Some c.args.done.reference) (length-map w.children.items (λ r. r.key))
    c.requires.next in
    ids-more (arc_value w.written).arcs.items w.children.items c.push_reserved.new.self.items c.args.done.reference c.args.done.found w.each next
    c.args.done.own c.push_reserved.ensures.items
