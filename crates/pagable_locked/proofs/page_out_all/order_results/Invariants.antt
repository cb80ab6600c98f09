use Rattle.pagable_load.specs.AccessView.{values_at}
use Rattle.pagable_locked.specs.Answers.{AnswersEach, IsAnswerOf, items_of}
use Rattle.std.proofs.Common.{drop, slice_index_or, take, vec_len, ℕ, ◌<◌, ◌≡◌}
use Rattle.pagable_locked.proofs.page_out_all.order_results.Given as goal

abbrev pub invariant-loop-i : goal.invariant-loop-i
invariant-loop-i g l = record {
  count : vec_len l.lists ≡ l.workers;
  each : (w : ℕ) (d : _) → w < l.workers → AnswersEach (IsAnswerOf g.E.Hash.KeyHash.digest (values_at g.E.Node.NodeSet g.E.Env g.E.Hash.KeyHash))
      (items_of l.workers w l.i (drop l.i l.items)) (slice_index_or l.lists.items w d).items;
  keyed : AnswersEach (IsAnswerOf g.E.Hash.KeyHash.digest (values_at g.E.Node.NodeSet g.E.Env g.E.Hash.KeyHash)) (take l.i l.items) l.keys.items;
}
