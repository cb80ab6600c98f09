use Rattle.pagable_traits.proofs.{
  Items.{collected_more, collected_none},
  JsonSteps.{all-read, none-so-far, one-more, refused-so-far, seen-same},
  Lent.{more_held, none_held},
}
use Rattle.pagable_traits.proofs.impls.collecting.collect_items.Goals as goal

pub loop-index-init : goal.loop-index-init
loop-index-init g c =
    let made = c.in_ok-collected.ensures in (
      none-so-far (collected_none _ _ _ made.empty) made.same_rest made.moves made.same_env made.same_levels,
      none_held _ _ made.empty,
    )

pub loop-index-preserved : goal.loop-index-preserved
loop-index-preserved g c =
    let so = c.loop-index.invariant.0 in (
      one-more c.loop-index-test.true so (rw so.same_env at c.in_ok-value.ensures.reads)
          (λ ms m each is. collected_more _ _ _ _ ms _ m each is c.in_ok-put_in.ensures.ok),
      more_held _ _ so.moves c.loop-index.invariant.1 c.in_ok-value.ensures.holds c.in_ok-put_in.ensures.ok,
    )

pub returns-in_err-value-clause-reads : goal.returns-in_err-value-clause-reads
returns-in_err-value-clause-reads g c =
    let so = c.loop-index.invariant.0 in
    refused-so-far c.from_residual-in_err-value.ensures.1 c.loop-index-test.true so (rw so.same_env at c.in_err-value.ensures.reads) (λ h. h) (λ h. h)

pub returns-clause-reads : goal.returns-clause-reads
returns-clause-reads g c = all-read (λ ms. ms) c.loop-index-test.false c.loop-index.invariant.0 (λ ms each. each) (seen-same _)

pub returns-clause-holds : goal.returns-clause-holds
returns-clause-holds g c = c.loop-index.invariant.1
