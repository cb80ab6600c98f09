use Rattle.pagable_load.proofs.{Lending.{all_lent, more_lent, none_lent}, LoadSteps.{tells_all, tells_both, tells_map}}
use Rattle.pagable_load.specs.ResolvedReferences.{LendsEach}
use Rattle.std.proofs.{Common.{arith, rules, subst, sym}, lemmas.Option.slice_get-get_or}
use Rattle.std.specs.Arc.{arc_value}
use Rattle.pagable_load.proofs.reading.values_of.Goals as goal

pub returns-then-are_read_later-clause-lends : goal.returns-then-are_read_later-clause-lends
returns-then-are_read_later-clause-lends g c =
    tells_all (λ s. subst (LendsEach arc_value s c.args.got.now) (sym c.new-lent.ensures.items)
    (none_lent arc_value s c.args.got.now (c.are_read_later.ensures c.if-are_read_later.true)))

pub loop-reference-preserved : goal.loop-reference-preserved
loop-reference-preserved g c =
    let l = c.loop-reference in
    record {
      long = search rules;
      lent = tells_both (λ s to lends. rw c.in_ok-push.ensures.items (more_lent arc_value s c.args.got.now l.reference-index _ l.lent.items c.in_ok-value.value
          l.invariant.long (slice_get-get_or c.args.got.now l.reference-index _ c.loop-reference-test.true) to lends)) l.invariant.lent
          c.in_ok-value.ensures.lends;
    }

pub returns-clause-lends : goal.returns-clause-lends
returns-clause-lends g c = tells_map (λ s to. all_lent arc_value s c.args.got.now c.loop-reference.reference-index c.loop-reference.lent.items (omega arith)
    (omega (arith, c.loop-reference.invariant.long)) to) c.loop-reference.invariant.lent
