use Rattle.pagable_load.proofs.{Lending.{shares-not, shares-nothing}, LoadSteps.{acts_from, acts_then, tells_map}, PinsAndReads.{taken_back, takes_back}}
use Rattle.pagable_load.specs.{AccessView.{Acts, IfKnown, values_at}, PinStart.{SharesPinned, TakesBack}}
use Rattle.std.proofs.Common.{Err, ap, ◌∙◌}
use Rattle.std.specs.{Arc.arc_value, declared.alloc.Global.Global}
use Rattle.pagable_load.proofs.step.pin_with_state_over.Goals.{in-Err, in-Ok-None}
use Rattle.pagable_load.proofs.step.pin_with_state_over.Goals as goal

pub returns-clause-acts : goal.returns-clause-acts
returns-clause-acts g c =
    let told = c.in_ok-pinned.ensures in
    let made = c.in_ok-pinned.field-0 in
    let mine = ap (λ a. a.me) told.acts.acting ∙ c.requires.caller in
    let h = c.args.handle in
    let e = c.match-shared.refused in
    let refused : IfKnown (g.A.Access.known_state _) (λ s. SharesPinned (arc_value {Z = Global}) s made.handle (Err e)) = elim c.match-shared.branch [
      | in-Ok-None w ↦ rw w.refused-is (tells_map (λ s shared. shares-nothing _ s made.handle _ (rw (w.in-Ok-None.is, w.in-Ok-None.field-0-is) at shared)) told.shares)
      | in-Err w ↦ rw w.refused-is (tells_map (λ s shared. shares-not _ s made.handle _ (rw w.in-Err.is at shared)) told.shares)
    ] in
    let back : Acts g.A.Access.known_state g.A.Access.acting _ _ (λ a. TakesBack (values_at g.E.Node.NodeSet g.E.Env g.E.Hash.KeyHash a.environment)
    made.was_unpinned h made.handle) =
    acts_then c.unpin_again.ensures c.release-told.ensures (λ mid low t goes call. takes_back _ h mine made.handle made.was_unpinned mid low t
    c.release-told.result goes call) in
    let both : Acts g.A.Access.known_state g.A.Access.acting _ _
    (λ a s t. SharesPinned (arc_value {Z = Global}) s made.handle (Err e) × TakesBack (values_at g.E.Node.NodeSet g.E.Env g.E.Hash.KeyHash a.environment)
    made.was_unpinned h made.handle s t) =
    acts_from refused back (λ s t shares taken. (shares, taken)) in
    acts_then told.acts both (λ s mid t first x. taken_back _ h (arc_value {Z = Global}) made.handle made.was_unpinned e s mid t first x.0 x.1)
