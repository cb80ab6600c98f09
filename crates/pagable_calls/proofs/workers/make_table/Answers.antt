use Rattle.pagable_calls.proofs.{Driven.table-made, Keeping.{drives-beside, nothing-done, refused, refuses}}
use Rattle.pagable_load.specs.AccessView.{values_at}
use Rattle.pagable_tables.proofs.SameViews.{failed}
use Rattle.std.proofs.{Common.{ap, arith, length, refl, rules, [], ◌++◌, ◌∙◌, ◌∷◌}, lemmas.List.length-append}
use Rattle.pagable_calls.proofs.workers.make_table.Goals as goal

pub returns-in_err-reserve : goal.returns-in_err-reserve
returns-in_err-reserve g c =
    rw (failed c.from_residual.result c.from_residual.ensures.1) (let e = ap length c.reserve.ensures.items in
    refuses c.requires refl (omega (arith, e)) (λ q. refl) (λ serving. refused _ serving c.assert_invariant.ensures (nothing-done _ c.assert_invariant.ensures)
    (λ l. refl) c.reserve.ensures.items (λ q. refl)
    _ _ (λ q. refl) (λ stays. record { made = tt; refused = (refl, stays) }) tt))

pub returns : goal.returns
returns g c =
    let is = c.push_reserved.ensures.items ∙ ap (λ tables. tables ++ c.new.result ∷ []) c.reserve.ensures.items in
    let more = ap length is ∙ length-append _ (c.new.result ∷ []) in
    drives-beside c.requires refl (omega (arith, more)) (λ q. refl)
    (λ serving. table-made (values_at g.E.Node.NodeSet g.E.Env g.E.Hash.KeyHash) _ _ c.args.pager.now _ serving c.assert_invariant.ensures
    c.push_reserved.new.self
    c.new.result _ is (search rules) c.new.ensures)
