use Rattle.pagable_calls.proofs.{Keeping.{at-work, nothing-done, one-on, refused, refuses}, Running.{apart, worker-moved}}
use Rattle.pagable_calls.specs.Driving.{SetsOne, kept_at}
use Rattle.pagable_load.specs.AccessView.{values_at}
use Rattle.std.proofs.{Common.{Some, arith, refl, rules, sym}, lemmas.Bool.Decides.nat_tests}
use Rattle.pagable_calls.proofs.workers.step_worker.Goals as goal

pub returns-then-is_done : goal.returns-then-is_done
returns-then-is_done g c = refuses c.requires refl (omega arith) (λ q. refl)
    (λ serving. refused _ serving c.assert_invariant.ensures (nothing-done _ c.assert_invariant.ensures) (λ l. refl) refl (λ q. refl) _ _ (λ q. refl)
    (λ stays. record { moves = tt; refused = (refl, search rules, stays) }) tt)

pub returns-then-not-has_worker : goal.returns-then-not-has_worker
returns-then-not-has_worker g c = refuses c.requires refl (omega arith) (λ q. refl) (λ serving. let works = at-work serving c.args.worker.0 (search rules) in
    absurd (grind (arith, nat_tests, works)))

pub step_running_worker-requires-clause-on_table : goal.step_running_worker-requires-clause-on_table
step_running_worker-requires-clause-on_table g c = c.requires.on_tables.each _ _ (sym c.in-Some.ensures.value)

pub returns : goal.returns
returns g c =
    let writes = (c.get_mut.follows.holds c.step_running_worker.new.walk).3 (search rules) in
    let keeps : SetsOne (kept_at c.args.held.now.walks) c.args.worker.0 (Some c.step_running_worker.new.walk)
    (kept_at (c.get_mut.follows.lender c.step_running_worker.new.walk)) =
    record { here = writes.1; others = λ q other. writes.2 q (apart c.args.worker.0 q (λ is. other (sym is))) } in
    record {
      makes = λ is. worker-moved (values_at g.E.Node.NodeSet g.E.Env g.E.Hash.KeyHash c.args.pager.now.environment) _ _ _
          (c.requires.serving (c.step_running_worker.ensures.honest is)) c.assert_invariant.ensures c.args.worker
          _ c.step_running_worker.new.walk (sym c.in-Some.ensures.value) c.step_running_worker.result (c.step_running_worker.ensures.walks is) keeps;
      honest = c.step_running_worker.ensures.honest;
      on_tables = one-on c.requires.on_tables c.args.worker.0 c.step_running_worker.new.walk keeps c.step_running_worker.ensures.count
          c.step_running_worker.ensures.on_table;
    }
