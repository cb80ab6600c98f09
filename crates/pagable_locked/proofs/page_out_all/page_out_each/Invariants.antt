use Rattle.pagable_load.specs.AccessView.{values_at}
use Rattle.pagable_locked.specs.Answers.{AnswersEach, IsAnswerOf, items_of}
use Rattle.std.proofs.Common.{take}
use Rattle.pagable_locked.proofs.page_out_all.page_out_each.Given as goal

abbrev pub invariant-loop-i : goal.invariant-loop-i
invariant-loop-i g l = record {
  keyed : AnswersEach (IsAnswerOf g.E.Hash.KeyHash.digest (values_at g.E.Node.NodeSet g.E.Env g.E.Hash.KeyHash))
      (items_of l.workers l.worker 0 (take l.i l.items)) l.keys.items;
}
