use Rattle.pagable_pager.proofs.NewValues.{ended-held, ended-so, ended-told, no-room, ready-told, roomier, unended, vain}
use Rattle.std.proofs.Common.{ap, inl, refl, ◌∙◌}
use Rattle.std.specs.Arc.{arc_value}
use Rattle.pagable_pager.proofs.pager.Pager.load_end_for.Goals as goal

pub invariant_of-self : goal.invariant_of-self
invariant_of-self g c = roomier c.self.invariant c.self.inside.values c.prepare_end.ensures.does (λ n. refl)

pub invariant_of-self-in-Err-HandleLost : goal.invariant_of-self-in-Err-HandleLost
invariant_of-self-in-Err-HandleLost g c = roomier c.self.invariant c.self.inside.values c.prepare_end.ensures.does (λ n. refl)

pub returns-in-Err-Refused-clause-step : goal.returns-in-Err-Refused-clause-step
returns-in-Err-Refused-clause-step g c =
    rw (← c.self.view_is) (unended (arc_value c.args.value) (c.node_type-node_type.ensures.value ∙ ap g.E.Node.NodeSet.type_of c.deref-2.ensures) (c.deref-3.ensures.value ∙ (c.in-Ok.ensures.ok ∙ ap g.E.Node.NodeSet.refs_of c.deref.ensures))
    ((rw c.in-Err-Refused.field-0-is at c.in-Err-Refused.ensures.unended) _))

pub returns-in-Err-HandleLost-clause-step : goal.returns-in-Err-HandleLost-clause-step
returns-in-Err-HandleLost-clause-step g c =
    rw (← c.self.view_is) (vain (arc_value c.args.value) (c.node_type-node_type.ensures.value ∙ ap g.E.Node.NodeSet.type_of c.deref-2.ensures) (c.deref-3.ensures.value ∙ (c.in-Ok.ensures.ok ∙ ap g.E.Node.NodeSet.refs_of c.deref.ensures))
    c.load_drop_for.result
    ((rw c.in-Err-HandleLost.field-0-is at c.in-Err-HandleLost.ensures.unended) _)
    c.load_drop_for.ensures.called.step)

pub returns-in-Err-HandleLost-clause-moves : goal.returns-in-Err-HandleLost-clause-moves
returns-in-Err-HandleLost-clause-moves g c = let less = c.load_drop_for.ensures.only in
    rw (← c.self.view_is) (record { each = λ n x has. inl (less.values n x has); environment = less.environment })

pub invariant_of-self-in-Err-put_shared : goal.invariant_of-self-in-Err-put_shared
invariant_of-self-in-Err-put_shared g c = roomier c.self.invariant c.put_shared.new.values c.prepare_end.ensures.does c.in-Err-put_shared.ensures.kept

pub returns-in-Err-put_shared-clause-step : goal.returns-in-Err-put_shared-clause-step
returns-in-Err-put_shared-clause-step g c = rw (← c.self.view_is, c.in-Err-put_shared.ensures.only)
    (no-room c.self.invariant c.put_shared.new.values c.prepare_end.ensures.does c.in-Err-put_shared.ensures.back
    (c.in-Ok-prepare_end.ensures.ready _))

pub install-handle-requires-clause-ready : goal.install-handle-requires-clause-ready
install-handle-requires-clause-ready g c storage = ready-told refl c.deref-3.ensures.value (c.in-Ok-prepare_end.ensures.ready storage)

pub invariant_of-self-2 : goal.invariant_of-self-2
invariant_of-self-2 g c =
    ended-so c.self.invariant (arc_value c.args.value) c.put_shared.new.values c.install-handle.new.values
    (c.node_type-node_type.ensures.value ∙ ap g.E.Node.NodeSet.type_of c.deref-2.ensures) c.deref-3.ensures.value
    (c.in-Ok.ensures.ok ∙ ap g.E.Node.NodeSet.refs_of c.deref.ensures) c.prepare_end.ensures.does c.prepare_end.ensures.nodes
    c.in-Ok-prepare_end.ensures.ready c.install-handle.ensures.does c.has_closed-lists.ensures c.in_default.ensures.placed c.install-handle.ensures.drops

pub returns : goal.returns
returns g c =
    let typed = c.node_type-node_type.ensures.value ∙ ap g.E.Node.NodeSet.type_of c.deref-2.ensures in
    let listed = c.in-Ok.ensures.ok ∙ ap g.E.Node.NodeSet.refs_of c.deref.ensures in
    let ended = ended-told c.self.invariant (arc_value c.args.value) c.put_shared.new.values c.install-handle.new.values typed c.deref-3.ensures.value listed
    c.prepare_end.ensures.does c.prepare_end.ensures.nodes c.in-Ok-prepare_end.ensures.ready c.install-handle.ensures.does c.has_closed-lists.ensures
    c.in_default.ensures.placed c.install-handle.ensures.drops in
    let held = ended-held c.self.invariant (arc_value c.args.value) c.put_shared.new.values c.install-handle.new.values typed c.deref-3.ensures.value listed
    c.prepare_end.ensures.does c.prepare_end.ensures.nodes c.in-Ok-prepare_end.ensures.ready c.install-handle.ensures.does c.has_closed-lists.ensures
    c.in_default.ensures.placed c.install-handle.ensures.drops (rw (← c.self.view_is) at c.requires.at_work) in
    rw (← c.self.view_is) (record { step = ended.0; moves = ended.1; given = held; storage = refl })
