use Rattle.pagable_changes.proofs.Changing.{fails-same, no-turns-yet, one-turn-more, turned-same}
use Rattle.pagable_changes.specs.Changes.{a-turn-fails, turns-are-spent}
use Rattle.pagable_load.specs.AccessView.{values_at}
use Rattle.std.proofs.Common.{arith, refl, ◌∙◌}
use Rattle.pagable_changes.proofs.turns.make_turns.Goals as goal

pub loop-left-init : goal.loop-left-init
loop-left-init g c = record { so = λ honest. no-turns-yet (values_at g.E.Node.NodeSet g.E.Env g.E.Hash.KeyHash c.args.pager.now.environment) _; honest = λ honest. honest; environment = refl }

pub loop-left-preserved : goal.loop-left-preserved
loop-left-preserved g c =
    let i = c.loop-left.invariant in
    record {
      so = λ honest. one-turn-more (values_at g.E.Node.NodeSet g.E.Env g.E.Hash.KeyHash c.args.pager.now.environment) (i.so (c.in-Ok.ensures.honest honest)) (omega (arith, c.loop-left-test.true))
          (turned-same (values_at g.E.Node.NodeSet g.E.Env g.E.Hash.KeyHash) i.environment (rw c.in-None.is at c.in-Ok.ensures.turns honest));
      honest = λ honest. i.honest (c.in-Ok.ensures.honest honest);
      environment = c.in-Ok.ensures.environment ∙ i.environment;
    }

pub returns-in-Some-clause-turns : goal.returns-in-Some-clause-turns
returns-in-Some-clause-turns g c = λ honest.
    let i = c.loop-left.invariant in
    record {
      last = _;
      so = (i.so (c.in-Ok.ensures.honest honest)).so;
      out = turned-same (values_at g.E.Node.NodeSet g.E.Env g.E.Hash.KeyHash) i.environment
          (rw c.in-Some.is at c.in-Ok.ensures.turns honest);
    }

pub returns-in-Err-clause-fails : goal.returns-in-Err-clause-fails
returns-in-Err-clause-fails g c = λ honest.
    let i = c.loop-left.invariant in
    record {
      last = _;
      so = (i.so (c.in-Err.ensures.honest honest)).so;
      fails = a-turn-fails _ _ (fails-same (values_at g.E.Node.NodeSet g.E.Env g.E.Hash.KeyHash) i.environment (c.in-Err.ensures.fails honest));
      path_is = c.in-Err.ensures.stays.0;
      node_is = c.in-Err.ensures.stays.1;
    }

pub returns-clause-fails : goal.returns-clause-fails
returns-clause-fails g c = λ honest.
    let t = c.loop-left.invariant.so honest in
    record { last = _; so = t.so; fails = turns-are-spent (let made = t.made in omega (arith, made, c.loop-left-test.false)); path_is = refl; node_is = refl }
