use Rattle.pagable_load.specs.AccessView.{values_at}
use Rattle.pagable_locked.proofs.Order.{more-keyed, not-empty, rest-keyed}
use Rattle.pagable_locked.specs.Answers.{AnswersEach, IsAnswerOf}
use Rattle.std.proofs.Common.{ap, arith, rules, subst, sym, take, ◌+◌, ◌∙◌}
use Rattle.pagable_locked.proofs.page_out_all.order_results.Goals as goal

pub unreachable-requires : goal.unreachable-requires
unreachable-requires g c =
    let d = c.index_mut.result.now in
    not-empty (IsAnswerOf g.E.Hash.KeyHash.digest (values_at g.E.Node.NodeSet g.E.Env g.E.Hash.KeyHash)) (λ q. q.items) c.args.workers c.args.items.now
    c.loop-i.i (omega arith) c.loop-i.lists.items d (ap (λ q. q.items) (sym c.index_mut.ensures.value) ∙ search rules) c.loop-i.invariant.each
    c.requires.some

pub loop-i-preserved : goal.loop-i-preserved
loop-i-preserved g c =
    let d = c.index_mut.result.now in
    let q = c.pop_front.new.self in
    let k = c.in-Some.key in
    let is = ap (λ x. x.items) (sym c.index_mut.ensures.value) ∙ search rules in
    record {
      count = search rules;
      each = rest-keyed (IsAnswerOf g.E.Hash.KeyHash.digest (values_at g.E.Node.NodeSet g.E.Env g.E.Hash.KeyHash))
          (λ x. x.items) c.args.workers c.args.items.now c.loop-i.i (omega arith) c.loop-i.lists.items q k d (search rules) is c.loop-i.invariant.each
          c.requires.some;
      keyed = subst (AnswersEach (IsAnswerOf g.E.Hash.KeyHash.digest (values_at g.E.Node.NodeSet g.E.Env g.E.Hash.KeyHash))
          (take (c.loop-i.i + 1) c.args.items.now)) (search rules)
          (more-keyed (IsAnswerOf g.E.Hash.KeyHash.digest (values_at g.E.Node.NodeSet g.E.Env g.E.Hash.KeyHash)) (λ x. x.items) c.args.workers c.args.items.now
          c.loop-i.i (omega arith) c.loop-i.lists.items q k d (search rules) is c.loop-i.invariant.each c.requires.some c.loop-i.keys.items
          c.loop-i.invariant.keyed);
    }
