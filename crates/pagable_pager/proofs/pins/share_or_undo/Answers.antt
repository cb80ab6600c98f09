use Rattle.pagable_load.proofs.{Lending.{shares-not, shares-nothing}, LoadSteps.{acts_from, acts_then, tells_map}}
use Rattle.pagable_load.specs.{AccessView.{Acts, IfKnown, values_at}, PinStart.{SharesPinned, TakesBack}}
use Rattle.pagable_pager.proofs.LentPins.{back-so, shares-back}
use Rattle.std.proofs.Common.{Err, true}
use Rattle.std.specs.{Arc.arc_value, declared.alloc.Global.Global}
use Rattle.pagable_pager.proofs.pins.share_or_undo.Goals.{in-Err, in-Ok-None}
use Rattle.pagable_pager.proofs.pins.share_or_undo.Goals as goal

pub returns : goal.returns
returns g c =
    let h = c.args.handle in
    let k = c.args.pinned in
    let e = c.match-share.refused in
    let refused : IfKnown (g.A.Access.known_state _) (λ s. SharesPinned (arc_value {Z = Global}) s k (Err e)) = elim c.match-share.branch [
      | in-Ok-None w ↦ rw w.refused-is (tells_map (λ s shared. shares-nothing _ s k _ (rw (w.in-Ok-None.is, w.in-Ok-None.field-0-is) at shared)) c.share.ensures)
      | in-Err w ↦ rw w.refused-is (tells_map (λ s shared. shares-not _ s k _ (rw w.in-Err.is at shared)) c.share.ensures)
    ] in
    let back : Acts g.A.Access.known_state g.A.Access.acting _ _ (λ a. TakesBack (values_at g.E.Node.NodeSet g.E.Env g.E.Hash.KeyHash a.environment) true h k) =
    acts_then c.unpin-told.ensures c.release-told.ensures (λ s low t unpins releases. back-so _ h k c.requires.caller c.unpin-told.result c.release-told.result
    s low t unpins releases) in
    acts_from refused back (λ s t shares taken. shares-back _ h k (arc_value {Z = Global}) e s t shares taken)
