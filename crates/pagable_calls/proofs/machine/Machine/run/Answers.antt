use Rattle.pagable_calls.proofs.Running.{all-ran, at-first, one-more}
use Rattle.std.proofs.Common.{arith, length, rules, sym, ◌≡◌}
use Rattle.pagable_calls.proofs.machine.Machine.run.Goals as goal

pub loop-event-init : goal.loop-event-init
loop-event-init g c = record {
  room = grind arith;
  run = rw (c.in-Ok.ensures.items, c.from_vec-rest.ensures.items) (at-first _ _ _ _ c.self.inside.pager c.self.inside.held
      (sym c.self.view_is) c.self.invariant);
}

pub loop-event-smaller : goal.loop-event-smaller
loop-event-smaller g c = rw c.in-Some.ensures.items (search rules)

pub loop-event-preserved : goal.loop-event-preserved
loop-event-preserved g c = record {
  room = grind arith;
  run = rw c.push_reserved.ensures.items (one-more _ _ _ _ _ c.in-Some.event _ _ _ _ _ _ (rw c.in-Some.ensures.items at c.loop-event.invariant.run)
      c.run_event-reply.ensures);
}

pub returns-clause-run : goal.returns-clause-run
returns-clause-run g c = let none : length c.loop-event.rest.items ≡ 0 = search rules in all-ran _ _ _ _ _ _ _ _ none c.loop-event.invariant.run

pub returns-clause-honest : goal.returns-clause-honest
returns-clause-honest g c = c.loop-event.invariant.run.faithful

pub invariant_of-self : goal.invariant_of-self
invariant_of-self g c = c.loop-event.invariant.run.in_step
