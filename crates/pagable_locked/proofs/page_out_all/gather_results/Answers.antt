use Rattle.pagable_load.specs.AccessView.{values_at}
use Rattle.pagable_locked.proofs.Order.{drop-next, snoc-each}
use Rattle.pagable_locked.specs.Answers.{AnswersEach, IsAnswerOf, items_of}
use Rattle.std.proofs.Common.{arith, rules, sym, vec_len, [], ◌++◌, ◌+◌, ◌∙◌, ◌∷◌, ◌≡◌}
use Rattle.pagable_locked.proofs.page_out_all.gather_results.Goals as goal

pub loop-end-preserved : goal.loop-end-preserved
loop-end-preserved g c =
    let inv = c.loop-end.invariant in
    let k = vec_len c.loop-end.lists in
    let next = drop-next c.args.ends.items k c.in-Some.end c.next.new.self.rest.items (sym inv.3 ∙ c.in-Some.ensures.steps.0) in
    let lists = c.loop-end.lists in
    let more = c.push.new.self in
    let items : more.items ≡ lists.items ++ c.in_ok-keys.keys ∷ [] = search rules in
    let count : vec_len more ≡ k + 1 = search rules in
    let one : c.in_ok-keys.share.share.share.parts ≡ 1 = search rules in
    let lt = next.1 in
    let within = c.requires.count in
    let here = rw (next.2 c.in-Some.end, c.in_ok-keys.was) at (c.requires.each k c.in-Some.end (omega (arith, lt, within))) in (
      tt,
      tt,
      (let a = inv.2 in let b = c.merge.ensures.parts in omega (arith, a, b, count, one)),
      next.0 ∙ search rules,
      omega (arith, lt, within, count),
      snoc-each (λ i q. AnswersEach (IsAnswerOf g.E.Hash.KeyHash.digest (values_at g.E.Node.NodeSet g.E.Env g.E.Hash.KeyHash))
          (items_of c.args.workers i 0 c.args.items.now) q.items) lists.items more.items c.in_ok-keys.keys k (vec_len more) items (search rules)
          (search rules) inv.5 (search rules),
    )
