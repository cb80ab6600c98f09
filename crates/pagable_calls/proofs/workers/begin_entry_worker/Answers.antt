use Rattle.pagable_calls.proofs.{
  Driven.{begun-on, entry-refused, keeps-after, listed-started},
  Keeping.{drives, nothing-done, one-on, refused, refuses, stay-on},
}
use Rattle.pagable_load.{proofs.LoadSteps.{lender-is, told-so}, specs.AccessView.values_at}
use Rattle.pagable_tables.proofs.SameViews.{failed}
use Rattle.std.proofs.Common.{arith, inl, inr, refl, sym, ◌∙◌, ◌≡◌}
use Rattle.pagable_calls.proofs.workers.begin_entry_worker.Goals as goal

pub returns-then-place-pending : goal.returns-then-place-pending
returns-then-place-pending g c = refuses c.requires refl (omega arith) (λ q. refl)
    (λ serving. refused _ serving c.assert_invariant.ensures (nothing-done _ c.assert_invariant.ensures) (λ l. refl) refl (λ q. refl) _ _ (λ q. refl)
    (λ stays. record { starts = tt; refused = (inl (refl, inr (grind arith)), stays) }) tt)

pub returns-in_err-make_room_for_worker : goal.returns-in_err-make_room_for_worker
returns-in_err-make_room_for_worker g c =
    rw (failed c.from_residual.result c.from_residual.ensures.1) (refuses c.requires refl (omega arith) c.make_room_for_worker.ensures.same
    (λ serving. refused _ serving c.assert_invariant.ensures (nothing-done _ c.assert_invariant.ensures)
    (λ l. refl) refl c.make_room_for_worker.ensures.same _ _
    (λ q. refl) (λ stays. record {
      starts = tt;
      refused = (
        elim c.in_err-make_room_for_worker.ensures.refused
            [ inl (is, none) ↦ inl (is, inl none) | inr (is, there) ↦ inr (inr (inr is, there, grind arith)) ],
        stays,
      );
    })
    tt))

pub returns : goal.returns
returns g c =
    let ends : c.worker_listed.new.self.pager.now ≡ c.pager-1.given.0 = sym
    (c.pager-1.given.1 (sym (lender-is c.in_ok-worker.ensures.begins.acting ∙ c.new-lent.ensures.lent))) in
    let told = rw ends at (rw c.new-lent.ensures.same at (told-so _ _ _ _ c.in_ok-worker.ensures.begins.step)) in
    let keeps = keeps-after c.make_room_for_worker.ensures.same c.put.ensures in
    drives c.requires (λ is. (told is).0) (one-on c.requires.on_tables _ _ keeps refl
    (begun-on c.in_ok-make_room_for_worker.ensures.table_exists c.new_entry_worker-walk.ensures))
    (λ is serving.
    listed-started (values_at g.E.Node.NodeSet g.E.Env g.E.Hash.KeyHash) _ _ _ _ serving c.assert_invariant.ensures c.put.new.kept c.args.table
    c.in_ok-worker.worker
    c.new_entry_worker-walk.result
    c.in_ok-make_room_for_worker.ensures.table_exists keeps c.args.place c.in_ok-worker.reference
    (told is).1 c.new_entry_worker-walk.ensures)

pub returns-in_err-worker : goal.returns-in_err-worker
returns-in_err-worker g c =
    let ends : c.worker_listed.new.self.pager.now ≡ c.pager-1.given.0 = sym
    (c.pager-1.given.1 (sym (lender-is c.in_err-worker.ensures.refused.acting ∙ c.new-lent.ensures.lent))) in
    let told = rw ends at (rw c.new-lent.ensures.same at (told-so _ _ _ _ c.in_err-worker.ensures.refused.step)) in
    rw (failed c.from_residual-in_err-worker.result c.from_residual-in_err-worker.ensures.1)
    (drives c.requires (λ is. (told is).0) (stay-on c.requires.on_tables c.make_room_for_worker.ensures.same (omega arith)) (λ is serving.
    entry-refused (values_at g.E.Node.NodeSet g.E.Env g.E.Hash.KeyHash) _ _ _ _ serving
    c.assert_invariant.ensures c.make_room_for_worker.new.walks c.args.table _ c.args.place c.in_ok-make_room_for_worker.ensures.table_exists (grind arith)
    (told is).1 c.make_room_for_worker.ensures.same))
