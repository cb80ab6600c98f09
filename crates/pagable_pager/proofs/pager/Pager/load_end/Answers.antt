use Rattle.pagable_pager.proofs.NewValues.{ended-so, ended-told, no-room, ready-told, roomier, unended, vain}
use Rattle.std.proofs.Common.{inl, refl, ◌∙◌}
use Rattle.pagable_pager.proofs.pager.Pager.load_end.Goals as goal

pub invariant_of-self : goal.invariant_of-self
invariant_of-self g c = roomier c.self.invariant c.self.inside.values c.prepare_end.ensures.does (λ n. refl)

pub invariant_of-self-in-Err-HandleLost : goal.invariant_of-self-in-Err-HandleLost
invariant_of-self-in-Err-HandleLost g c = roomier c.self.invariant c.self.inside.values c.prepare_end.ensures.does (λ n. refl)

pub returns-in-Err-Refused-clause-step : goal.returns-in-Err-Refused-clause-step
returns-in-Err-Refused-clause-step g c =
    rw (← c.self.view_is, c.in-Err-Refused.field-0-is) (unended c.args.value c.node_type-node_type.ensures.value (c.deref.ensures.value ∙ c.in-Ok.ensures.ok)
    ((rw c.in-Err-Refused.field-0-is at c.in-Err-Refused.ensures.unended) _))

pub returns-in-Err-HandleLost-clause-step : goal.returns-in-Err-HandleLost-clause-step
returns-in-Err-HandleLost-clause-step g c =
    rw (← c.self.view_is, c.in-Err-HandleLost.field-0-is) (vain c.args.value c.node_type-node_type.ensures.value (c.deref.ensures.value ∙ c.in-Ok.ensures.ok)
    c.load_drop_for.result
    ((rw c.in-Err-HandleLost.field-0-is at c.in-Err-HandleLost.ensures.unended) _)
    c.load_drop_for.ensures.called.step)

pub returns-in-Err-HandleLost-clause-moves : goal.returns-in-Err-HandleLost-clause-moves
returns-in-Err-HandleLost-clause-moves g c = let less = c.load_drop_for.ensures.only in
    rw (← c.self.view_is) (record { each = λ n x has. inl (less.values n x has); environment = less.environment })

pub invariant_of-self-in-Err-put_value : goal.invariant_of-self-in-Err-put_value
invariant_of-self-in-Err-put_value g c = roomier c.self.invariant c.put_value.new.values c.prepare_end.ensures.does c.in-Err-put_value.ensures.kept

pub returns-in-Err-put_value-clause-step : goal.returns-in-Err-put_value-clause-step
returns-in-Err-put_value-clause-step g c = rw (← c.self.view_is, c.in-Err-put_value.ensures.only)
    (no-room c.self.invariant c.put_value.new.values c.prepare_end.ensures.does c.in-Err-put_value.ensures.back
    (c.in-Ok-prepare_end.ensures.ready _))

pub install-requires-clause-ready : goal.install-requires-clause-ready
install-requires-clause-ready g c storage = ready-told refl c.deref.ensures.value (c.in-Ok-prepare_end.ensures.ready storage)

pub invariant_of-self-2 : goal.invariant_of-self-2
invariant_of-self-2 g c =
    ended-so c.self.invariant c.args.value c.put_value.new.values c.install.new.values c.node_type-node_type.ensures.value c.deref.ensures.value
    c.in-Ok.ensures.ok
    c.prepare_end.ensures.does
    c.prepare_end.ensures.nodes c.in-Ok-prepare_end.ensures.ready c.install.ensures.does c.has_closed-lists.ensures c.in_default.ensures.placed
    c.install.ensures.drops

pub returns : goal.returns
returns g c =
    let ended = ended-told c.self.invariant c.args.value c.put_value.new.values c.install.new.values c.node_type-node_type.ensures.value c.deref.ensures.value
    c.in-Ok.ensures.ok
    c.prepare_end.ensures.does c.prepare_end.ensures.nodes c.in-Ok-prepare_end.ensures.ready c.install.ensures.does c.has_closed-lists.ensures
    c.in_default.ensures.placed c.install.ensures.drops in
    rw (← c.self.view_is) (record { step = ended.0; moves = ended.1; storage = refl })
