use Rattle.pagable_locked.proofs.Numbers.{offered_is_later}
use Rattle.pagable_pager.specs.View.{pager_core}
use Rattle.pagable_pager_spec.specs.{Calls.OfferCall, declared.handle_row.Owner.Owner}
use Rattle.std.proofs.Common.{subst, sym, ◌∙◌}
use Rattle.pagable_locked.proofs.storage_handle.PagableStorageHandle.on_arc_deserialized.Goals as goal

-- the pager whose invariant is stated is the one of which the call is made
pub returns-clause-later : goal.returns-clause-later
returns-clause-later g c =
    let same = c.deref_mut.ensures.value ∙ sym c.deref-2.ensures in
    offered_is_later _ _ c.assert_invariant.ensures _ _ _ _ _ _ (subst (λ p. OfferCall (pager_core g.S.PagableStorage p) Owner.Caller c.args.kind c.args.key c.args.handle
    c.on_arc_deserialized.result (pager_core g.S.PagableStorage c.on_arc_deserialized.new.self)) same c.on_arc_deserialized.ensures.step)
