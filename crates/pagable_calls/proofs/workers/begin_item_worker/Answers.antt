use Rattle.pagable_calls.proofs.{
  Driven.{begun-on, item-started, keeps-after},
  Keeping.{as-made, drives, nothing-done, one-on, refused, refuses, stay-on},
}
use Rattle.pagable_load.{proofs.LoadSteps.{lender-is, told-so}, specs.AccessView.values_at}
use Rattle.pagable_tables.proofs.SameViews.{failed}
use Rattle.std.proofs.Common.{arith, inl, inr, refl, sym, ◌∙◌, ◌≡◌}
use Rattle.pagable_calls.proofs.workers.begin_item_worker.Goals as goal

pub returns-in_err-make_room_for_worker : goal.returns-in_err-make_room_for_worker
returns-in_err-make_room_for_worker g c =
    rw (failed c.from_residual.result c.from_residual.ensures.1) (refuses c.requires refl (omega arith) c.make_room_for_worker.ensures.same
    (λ serving. refused _ serving c.assert_invariant.ensures (nothing-done _ c.assert_invariant.ensures) (λ l. refl) refl c.make_room_for_worker.ensures.same
    _ _ (λ q. refl) (λ stays. record {
      starts = tt;
      refused = (
        elim c.in_err-make_room_for_worker.ensures.refused
            [ inl none ↦ inl none | inr (is, there) ↦ inr (inr is, there) ],
        stays,
      );
    }) tt))

pub returns-in_err-walk : goal.returns-in_err-walk
returns-in_err-walk g c =
    rw (failed c.from_residual-in_err-walk.result c.from_residual-in_err-walk.ensures.1)
    (refuses c.requires refl (omega arith) c.make_room_for_worker.ensures.same (λ serving. refused _ serving c.assert_invariant.ensures
    (nothing-done _ c.assert_invariant.ensures)
    (λ l. refl) refl
    c.make_room_for_worker.ensures.same _ _ (λ q. refl) (λ stays. record {
      starts = tt;
      refused = (inr (inr c.in_err-walk.ensures.only, c.in_ok-make_room_for_worker.ensures.table_exists), stays);
    })
    tt))

pub returns : goal.returns
returns g c =
    let ends : c.worker_begin.new.self.pager.now ≡ c.pager-1.given.0 = sym
    (c.pager-1.given.1 (sym (lender-is c.in_ok-worker.ensures.begins.acting ∙ c.new-lent.ensures.lent))) in
    let told = rw ends at (rw c.new-lent.ensures.same at (told-so _ _ _ _ c.in_ok-worker.ensures.begins.step)) in
    let keeps = keeps-after c.make_room_for_worker.ensures.same c.put.ensures in
    drives c.requires (λ is. (told is).0) (one-on c.requires.on_tables _ _ keeps refl
    (begun-on c.in_ok-make_room_for_worker.ensures.table_exists c.in_ok-walk.ensures.begun))
    (λ is serving.
    item-started (values_at g.E.Node.NodeSet g.E.Env g.E.Hash.KeyHash) _ _ _ _ serving c.assert_invariant.ensures c.put.new.kept c.args.table
    c.in_ok-worker.worker
    c.in_ok-walk.walk
    c.in_ok-make_room_for_worker.ensures.table_exists keeps c.args.item
    (told is).1 c.in_ok-walk.ensures.begun)

pub returns-in_err-worker : goal.returns-in_err-worker
returns-in_err-worker g c =
    let ends : c.worker_begin.new.self.pager.now ≡ c.pager-1.given.0 = sym
    (c.pager-1.given.1 (sym (lender-is c.in_err-worker.ensures.refused.acting ∙ c.new-lent.ensures.lent))) in
    let told = rw ends at (rw c.new-lent.ensures.same at (told-so _ _ _ _ c.in_err-worker.ensures.refused.step)) in
    rw (failed c.from_residual-in_err-worker.result c.from_residual-in_err-worker.ensures.1)
    (drives c.requires (λ is. (told is).0) (stay-on c.requires.on_tables c.make_room_for_worker.ensures.same (omega arith))
    (λ is serving. as-made (refused _ serving c.assert_invariant.ensures
    (told is).1.1 (λ l. refl) refl c.make_room_for_worker.ensures.same _ _ (λ q. refl)
    (λ stays. record { starts = tt; refused = (inr (inl (told is).1.0, c.in_ok-make_room_for_worker.ensures.table_exists), stays) }) tt)))
