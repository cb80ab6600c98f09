use Rattle.pagable_tables.proofs.{SameViews.{earlier-each, in-other, one-named}, Words.{ap, arith, drop, earlier, named_fault, refl, seen, sym, ◌+◌, ◌∙◌}}

pub loop-i-preserved : Rattle.pagable_tables.proofs.checks.named_fault.Goals.loop-i-preserved
loop-i-preserved c =
    let l = c.loop-i in
    let hs = c.args.named.now in
    record {
      lowest = λ q below. in-other hs l.i q (omega arith) (l.invariant.lowest q (omega arith));
      highest = λ q above. in-other hs l.i q (omega arith) (l.invariant.highest q (omega arith));
      rest = λ w is. ap (λ x. earlier x (named_fault w c.args.owner (seen hs (l.i + 1)) (drop (l.i + 1) hs))) c.earlier-fault.ensures
          ∙ earlier-each l.fault _ _
          ∙ ap (earlier l.fault) (one-named w _ hs l.i _ _ (omega arith)
          (rw (is, sym c.is_among_first-is_seen.ensures) c.hand_over_one_fault.ensures) refl) ∙ l.invariant.rest w is;
    }
