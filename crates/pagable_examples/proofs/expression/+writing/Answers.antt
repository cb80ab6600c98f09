use Rattle.pagable_examples.proofs.{Expressions.{left_unwritten, nothing, number_written, sum_written, written_down}, Levels.refused-deep}
use Rattle.pagable_examples.specs.Expressions.{nodes}
use Rattle.pagable_traits.proofs.JsonSteps.{wrote-deep, wrote-nothing}
use Rattle.pagable_value_spec.specs.Outcomes.{IsOutOfMemory}
use Rattle.std.proofs.Common.{inl, refl}
use Rattle.pagable_examples.proofs.expression.+writing.Goals as goal

pub write_nested-returns-in_err-enter : goal.write_nested-returns-in_err-enter
write_nested-returns-in_err-enter g t c =
    let h = c.in_err-enter.ensures in
    wrote-deep c.from_residual.ensures.1
    (wrote-nothing {P = nothing} {causes = IsOutOfMemory} refl) h.err h.same_out h.same_env
    (λ n le. refused-deep nodes 0 _ _ _ n.levels refl le) (λ e. inl e)

pub write_nested-returns : goal.write_nested-returns
write_nested-returns g t c =
    let entered = c.in_ok-enter.ensures in
    written_down _ g.S.PagableSerializer _ c.write_variant-done.result entered.ok entered.same_out entered.same_env c.write_variant-done.ensures
    c.leave.ensures.up
    c.leave.ensures.same_out c.leave.ensures.same_env

pub write_variant-returns-in_ok-write_flag-in-Number : goal.write_variant-returns-in_ok-write_flag-in-Number
write_variant-returns-in_ok-write_flag-in-Number g t c =
    let f = c.in_ok-write_flag-in-Number.ensures in
    let n = c.pagable_serialize.ensures in
    number_written _ g.S.PagableSerializer _ _ c.in-Number.is c.pagable_serialize.result
    (record { ok = f.ok; refused = tt; only = tt; grows = f.grows; same_env = f.same_env; same_levels = f.same_levels })
    (record { ok = n.ok; refused = n.refused; only = n.only; grows = n.grows; same_env = n.same_env; same_levels = n.same_levels })

pub write_variant-returns-in_err-write_nested-in-Sum : goal.write_variant-returns-in_err-write_nested-in-Sum
write_variant-returns-in_err-write_nested-in-Sum g t c =
    let f = c.in_ok-write_flag-in-Sum.ensures in
    left_unwritten _ g.S.PagableSerializer c.in-Sum.left.value c.in-Sum.right.value _ (rw c.in-Sum.is refl)
    (record { ok = f.ok; refused = tt; only = tt; grows = f.grows; same_env = f.same_env; same_levels = f.same_levels })
    c.from_residual-in_err-write_nested-in-Sum.result c.from_residual-in_err-write_nested-in-Sum.ensures.1
    (rw c.deref.ensures at c.in_err-write_nested-in-Sum.ensures)

pub write_variant-returns-in_ok-write_nested-in-Sum : goal.write_variant-returns-in_ok-write_nested-in-Sum
write_variant-returns-in_ok-write_nested-in-Sum g t c =
    let f = c.in_ok-write_flag-in-Sum.ensures in
    sum_written _ g.S.PagableSerializer c.in-Sum.left.value c.in-Sum.right.value _ (rw c.in-Sum.is refl)
    (record { ok = f.ok; refused = tt; only = tt; grows = f.grows; same_env = f.same_env; same_levels = f.same_levels })
    c.write_nested-in-Sum.result (rw c.deref.ensures at c.in_ok-write_nested-in-Sum.ensures) (rw c.deref-in-Sum.ensures at c.write_nested-in-Sum.ensures)
