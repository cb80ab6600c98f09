use Rattle.pagable_load.specs.AccessView.{values_at}
use Rattle.pagable_pager.proofs.LentPins.{away-dropped, away-loads-pinned, away-loads-refused, away-pinned}
use Rattle.std.proofs.{lemmas.Result.err_from_is_err_and}
use Rattle.pagable_pager.proofs.lent.Lent.pin_paged_out.Goals as goal

pub returns-in_err-handle-clause-goes : goal.returns-in_err-handle-clause-goes
returns-in_err-handle-clause-goes g c =
    let p = err_from_is_err_and c.from_residual-in_err-handle.result c.from_residual-in_err-handle.ensures.1 in
    λ h. rw (p.1, p.2) (away-loads-refused (λ e. values_at g.E.Node.NodeSet g.E.Env g.E.Hash.KeyHash e) c.in_ok-started.ensures.environment
    ((rw c.in-Some.is at c.in_ok-started.ensures.fetched) (c.in_err-handle.ensures.honest h)) (rw c.in-Some.is at c.in_ok-started.ensures.number) _ _
    (c.in_err-handle.ensures.loads h))

pub returns-in_default-read-clause-goes : goal.returns-in_default-read-clause-goes
returns-in_default-read-clause-goes g c = λ h. away-loads-pinned (λ e. values_at g.E.Node.NodeSet g.E.Env g.E.Hash.KeyHash e)
    c.in_ok-started.ensures.environment ((rw c.in-Some.is at c.in_ok-started.ensures.fetched) (c.in_ok-handle.ensures.honest h))
    (rw c.in-Some.is at c.in_ok-started.ensures.number) _ _ (c.in_ok-handle.ensures.loads h)

pub returns-in_err-handle-2-clause-goes : goal.returns-in_err-handle-2-clause-goes
returns-in_err-handle-2-clause-goes g c =
    let p = err_from_is_err_and c.from_residual-in_err-handle-2.result c.from_residual-in_err-handle-2.ensures.1 in
    λ h. rw (p.1, p.2) (away-dropped (λ e. values_at g.E.Node.NodeSet g.E.Env g.E.Hash.KeyHash e) c.in_ok-started.ensures.environment
    ((rw c.in-Some.is at c.in_ok-started.ensures.fetched) (rw c.in_err-handle-2.ensures.storage at h))
    (rw c.in-Some.is at c.in_ok-started.ensures.number) _ _ c.in_err-handle-2.ensures.dropped)

pub returns-clause-goes : goal.returns-clause-goes
returns-clause-goes g c =
    λ h. away-pinned (λ e. values_at g.E.Node.NodeSet g.E.Env g.E.Hash.KeyHash e) c.in_ok-started.ensures.environment
    ((rw c.in-Some.is at c.in_ok-started.ensures.fetched) (rw c.in_ok-handle-2.ensures.storage at h))
    (rw c.in-Some.is at c.in_ok-started.ensures.number) c.in-Some-read.value c.in_ok-handle-2.handle _ (rw c.as_ref.ensures at c.in-Some-read.ensures.read)
    c.in-Some-read.ensures.bare c.in_ok-handle-2.ensures.pinned
