use Rattle.pagable_calls.proofs.{Driven.{no-place-made, step-made, step-refused, untyped-made}, Keeping.{drives, drives-beside}}
use Rattle.pagable_load.specs.AccessView.{values_at}
use Rattle.pagable_tables.proofs.SameViews.{failed}
use Rattle.std.proofs.{Common.{arith, refl, rules, sym, ◌∙◌, ◌≡◌}, lemmas.{Bool.Decides.nat_tests, Grind.common_steps}}
use Rattle.pagable_calls.proofs.events.load_step.Goals as goal

pub returns-in_err-key : goal.returns-in_err-key
returns-in_err-key g c =
    rw (failed c.from_residual.result c.from_residual.ensures.1) (drives-beside c.requires refl (omega arith) (λ q. refl)
    (λ serving. step-refused (values_at g.E.Node.NodeSet g.E.Env g.E.Hash.KeyHash) _ _ c.args.pager.now _ serving c.assert_invariant.ensures
    c.args.held.now.readings _ _ (λ q. refl) (grind (arith, common_steps, nat_tests, c.in_err-key.ensures.fault))))

pub returns-in-Err : goal.returns-in-Err
returns-in-Err g c =
    let refused = c.in-Err.ensures.refused in
    rw refused.0 (drives-beside c.requires c.load_drop-told.ensures.only.storage (omega arith) (λ q. refl)
    (λ serving. no-place-made (values_at g.E.Node.NodeSet g.E.Env g.E.Hash.KeyHash) _ _ c.load_drop-told.new.self _ serving c.assert_invariant.ensures
    c.keep_reading.new.readings _ _ _ c.in_ok-key.ensures.reads c.keep_reading.ensures.kept refused.1 refused.2
    c.load_drop-told.result c.load_drop-told.ensures.step c.load_drop-told.ensures.only c.assert_invariant-in-Err.ensures))

pub returns-in_default-get_mut : goal.returns-in_default-get_mut
returns-in_default-get_mut g c =
    rw c.get_mut.follows.holds-at-none (drives-beside c.requires refl (omega arith) (λ q. refl)
    (λ serving. untyped-made (values_at g.E.Node.NodeSet g.E.Env g.E.Hash.KeyHash) _ _ c.args.pager.now _ serving c.assert_invariant.ensures
    c.keep_reading.new.readings
    _ _ _ c.in_ok-key.ensures.reads c.keep_reading.ensures.kept (search rules) (search rules)))

pub returns : goal.returns
returns g c =
    let ends : c.step_lent-reply.new.lent.pager.now ≡ c.pager-1.given.0 = sym
    (c.pager-1.given.1 (sym (c.step_lent-reply.ensures.lender ∙ c.new-lent.ensures.lent))) in
    drives c.requires (rw ends at (rw c.new-lent.ensures.same at c.step_lent-reply.ensures.honest)) c.requires.on_tables (λ is serving.
    step-made (values_at g.E.Node.NodeSet g.E.Env g.E.Hash.KeyHash) _ _ _ _ serving c.assert_invariant.ensures _ _ _ _ c.in_ok-key.ensures.reads
    c.keep_reading.new.readings
    _ _
    c.keep_reading.ensures.kept c.forget_if_ended.ensures c.in-Some.own.now c.step_lent-reply.new.own (sym c.in-Some.ensures.value)
    ((rw ends at (rw c.new-lent.ensures.same at c.step_lent-reply.ensures.step)) is) (record { here = search rules; others = search rules }))
