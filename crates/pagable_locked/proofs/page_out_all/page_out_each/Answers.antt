use Rattle.pagable_load.specs.AccessView.{values_at}
use Rattle.pagable_locked.proofs.{Order.{step-hit, step-miss}, page_out_all.page_out_each.Goals.{else-i-workers, then-i-workers+in_ok-push_back}}
use Rattle.pagable_locked.specs.Answers.{AnswersEach, IsAnswerOf, items_of}
use Rattle.std.proofs.{Common.{arith, rules, subst, take, ◌+◌}, lemmas.Bool.Decides.nat_tests}
use Rattle.pagable_locked.proofs.page_out_all.page_out_each.Goals as goal

pub loop-i-preserved : goal.loop-i-preserved
loop-i-preserved g c =
    let items = c.args.items.now in
    let old = c.loop-i.invariant in
    elim c.if-i-workers.branch [
      | then-i-workers+in_ok-push_back w ↦ record {
        keyed = subst (AnswersEach (IsAnswerOf g.E.Hash.KeyHash.digest (values_at g.E.Node.NodeSet g.E.Env g.E.Hash.KeyHash))
            (items_of c.args.workers c.args.worker 0 (take (c.loop-i.i + 1) items))) (search rules)
            (step-hit (IsAnswerOf g.E.Hash.KeyHash.digest (values_at g.E.Node.NodeSet g.E.Env g.E.Hash.KeyHash)) c.args.workers c.args.worker items c.loop-i.i
            (omega arith) w.index-items-i.result w.index-items-i.result c.loop-i.keys.items w.page_out_one-key.result
            (grind (arith, nat_tests)) w.index-items-i.is old.keyed w.page_out_one-key.ensures);
      }
      | else-i-workers w ↦ record {
        keyed = subst (AnswersEach (IsAnswerOf g.E.Hash.KeyHash.digest (values_at g.E.Node.NodeSet g.E.Env g.E.Hash.KeyHash))
            (items_of c.args.workers c.args.worker 0 (take (c.loop-i.i + 1) items))) (search rules)
            (step-miss (IsAnswerOf g.E.Hash.KeyHash.digest (values_at g.E.Node.NodeSet g.E.Env g.E.Hash.KeyHash)) c.args.workers c.args.worker items c.loop-i.i
            (omega arith) c.loop-i.keys.items (grind (arith, nat_tests)) old.keyed);
      }
    ]
