use Rattle.pagable_pageout.proofs.{Waits.{leads-no-more, leads-on, nearer}, Words.{false, shelf_of, sym, tests, true, ◌∙◌}}
use Rattle.pagable_pageout.proofs.lent_table.LentTable.would_deadlock.Goals as goal
use Rattle.pagable_pager_spec.specs.Workers.{is-asker}

pub returns-then-worker-asker : goal.returns-then-worker-asker
returns-then-worker-asker g c = c.loop-worker.invariant true (is-asker c.loop-worker.worker (grind (tests, c.if-worker-asker.true)))

pub returns-in_default : goal.returns-in_default
returns-in_default g c = c.loop-worker.invariant false (leads-no-more _ _ _ (sym c.waits_for.ensures ∙ c.in_default.is)
    (grind (tests, c.if-worker-asker.false)))

pub loop-worker-preserved : goal.loop-worker-preserved
loop-worker-preserved g c = λ b h. c.loop-worker.invariant b (leads-on _ _ _ _ (sym c.waits_for.ensures ∙ c.in-Some.is)
    (grind (tests, c.if-worker-asker.false)) b h)

pub loop-worker-smaller : goal.loop-worker-smaller
loop-worker-smaller g c = nearer (shelf_of c.args.self.now) c.args.self.now.ends c.loop-worker.worker c.in-Some.next (sym c.waits_for.ensures ∙ c.in-Some.is)
