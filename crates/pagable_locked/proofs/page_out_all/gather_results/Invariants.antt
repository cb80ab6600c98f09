use Rattle.pagable_load.specs.AccessView.{values_at}
use Rattle.pagable_locked.specs.Answers.{AnswersEach, IsAnswerOf, items_of}
use Rattle.std.proofs.Common.{drop, slice_index_or, vec_len, ℕ, ◌+◌, ◌<◌, ◌≡◌, ◌≤◌}
use Rattle.pagable_locked.proofs.page_out_all.gather_results.Given as goal

abbrev pub invariant-loop-end : goal.invariant-loop-end
invariant-loop-end g l =
    (goal.iterator-loop-end g).can_next l.end-iterator
    × (goal.iterator-loop-end g).is_finite l.end-iterator
    × (l.all.share.parts ≡ l.initial.all.share.parts + vec_len l.lists)
    × (l.end-iterator.rest.items ≡ drop (vec_len l.lists) l.fn.ends.items)
    × (vec_len l.lists ≤ l.workers)
    × ((i : ℕ) (d : _) → i < vec_len l.lists → AnswersEach (IsAnswerOf g.E.Hash.KeyHash.digest (values_at g.E.Node.NodeSet g.E.Env g.E.Hash.KeyHash))
    (items_of l.workers i 0 l.items) (slice_index_or l.lists.items i d).items)
