use Rattle.std.proofs.Common.{arith}
use Rattle.std.proofs.lemmas.List.{nil_from_length}
use Rattle.std.proofs.lemmas.Bool.Decides.{nat_tests}
use Rattle.blob_file.proofs.Failures.{fails_for_err}
use Rattle.blob_file.proofs.RowWalks.{none_left, takes_all, takes_next, takes_none, takes_not}
use Rattle.blob_file.proofs.index.take_rows.Goals as goal

pub loop-rest-init : goal.loop-rest-init
loop-rest-init c = takes_none c.args.first c.args.bodies c.args.rows.now c.args.index.now

pub returns-in_err-behind-clause-refused : goal.returns-in_err-behind-clause-refused
returns-in_err-behind-clause-refused c =
    fails_for_err c.from_residual.result _ c.from_residual.ensures.1 c.in_err-behind.ensures.refused (takes_not _ _ _ _ _ _ _ c.loop-rest.invariant)
    (λ bad. bad)

pub loop-rest-preserved : goal.loop-rest-preserved
loop-rest-preserved c =
    let done = c.in_ok-behind.ensures in
    takes_next _ _ _ c.in_ok-behind.behind _ _ c.in_ok-behind.more.now _ _ c.take_row.new.index c.loop-rest.invariant
    done.left done.whole done.learns done.behind

pub returns-then-left-ne0-clause-refused : goal.returns-then-left-ne0-clause-refused
returns-then-left-ne0-clause-refused c =
    let none = nil_from_length c.loop-rest.rest.now (grind (arith, nat_tests)) in
    takes_not _ _ _ _ _ _ _ c.loop-rest.invariant (none_left _ _ none c.if-left-ne0.true)

pub returns-clause-learns : goal.returns-clause-learns
returns-clause-learns c =
    let none = nil_from_length c.loop-rest.rest.now (grind (arith, nat_tests)) in
    (takes_all _ _ _ _ _ _ _ c.loop-rest.invariant none c.if-left-ne0.false).1

pub returns-clause-formed : goal.returns-clause-formed
returns-clause-formed c =
    let none = nil_from_length c.loop-rest.rest.now (grind (arith, nat_tests)) in
    (takes_all _ _ _ _ _ _ _ c.loop-rest.invariant none c.if-left-ne0.false).0
