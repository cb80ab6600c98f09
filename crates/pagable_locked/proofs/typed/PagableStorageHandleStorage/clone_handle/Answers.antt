use Rattle.pagable_locked.proofs.Numbers.{clone_is_later}
use Rattle.pagable_pager.specs.View.{pager_core}
use Rattle.pagable_pager_spec.specs.{Calls.CloneCall, declared.handle_row.Owner.Owner}
use Rattle.std.proofs.Common.{subst, sym, ◌∙◌}
use Rattle.pagable_locked.proofs.typed.PagableStorageHandleStorage.clone_handle.Goals as goal

-- the pager whose invariant is stated is the one of which the call is made
pub returns-clause-later : goal.returns-clause-later
returns-clause-later g c =
    let same = c.deref_mut.ensures.value ∙ sym c.deref-2.ensures in
    clone_is_later _ _ c.assert_invariant.ensures _ _ _ _ (subst (λ p. CloneCall (pager_core g.S.PagableStorage p) Owner.Caller c.args.handle
    c.clone.result (pager_core g.S.PagableStorage c.clone.new.self)) same c.clone.ensures.step)
