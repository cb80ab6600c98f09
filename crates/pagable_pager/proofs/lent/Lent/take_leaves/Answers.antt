use Rattle.pagable_load.proofs.LoadSteps.{acts_all, acts_then}
use Rattle.pagable_pager.proofs.TakenLeaves.{taken-more}
use Rattle.pagable_pager.specs.TakenLeaves.{none-taken}
use Rattle.std.proofs.Common.{arith, rules}
use Rattle.pagable_pager.proofs.lent.Lent.take_leaves.Goals as goal

pub returns-in_default-clause-acts : goal.returns-in_default-clause-acts
returns-in_default-clause-acts g c = rw c.new.ensures.items (acts_all (λ s. (c.args.left, none-taken)))

pub loop-place-init : goal.loop-place-init
loop-place-init g c = (rw c.in-Ok.ensures.items (acts_all (λ s. none-taken)), search rules, search rules)

pub loop-place-preserved : goal.loop-place-preserved
loop-place-preserved g c =
    let (taken, count, room) = c.loop-place.invariant in (
      rw c.push_reserved.ensures.items (acts_then taken c.take_leaf.ensures (λ s mid t before takes.
          taken-more c.in-Some.leaf c.loop-place.place (omega (arith, c.loop-place-test.true)) before (rw c.in-Some.is at takes))),
      search rules,
      search rules,
    )
