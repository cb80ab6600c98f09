use Rattle.pagable_pager.proofs.NewValues.{born-so, born-told, only-room, roomier}
use Rattle.pagable_tables.proofs.SameViews.{room-alike}
use Rattle.std.proofs.Common.{inr, refl, ◌∙◌}
use Rattle.pagable_pager.proofs.pager.Pager.new_node.Goals as goal

pub invariant_of-self : goal.invariant_of-self
invariant_of-self g c = roomier c.self.invariant c.self.inside.values c.prepare_insert.ensures.does (λ n. refl)

pub invariant_of-self-in-Err-put_value : goal.invariant_of-self-in-Err-put_value
invariant_of-self-in-Err-put_value g c = roomier c.self.invariant c.put_value.new.values c.prepare_insert.ensures.does c.in-Err-put_value.ensures.kept

pub returns-in-Err-put_value-clause-step : goal.returns-in-Err-put_value-clause-step
returns-in-Err-put_value-clause-step g c =
    let stays = room-alike (only-room c.self.invariant c.put_value.new.values c.prepare_insert.ensures.does) in
    rw (← c.self.view_is) (record {
      made = tt;
      refused = (
        c.in-Err-put_value.ensures.back,
        record { why = inr (c.in-Err-put_value.ensures.only, refl, tt); stays = stays },
      );
    })

pub invariant_of-self-2 : goal.invariant_of-self-2
invariant_of-self-2 g c =
    born-so c.self.invariant c.put_value.new.values c.prepare_insert.ensures.does c.insert_node.new.t c.args.node c.in_default-put_value.ensures.placed
    c.insert_node.ensures.does
    c.in_default.ensures.ready.node_left c.in_default.ensures.fit c.deref.ensures.value c.node_type-node_type.ensures.value c.in-Ok.ensures.ok c.requires

pub returns : goal.returns
returns g c =
    let born = born-told c.self.invariant c.put_value.new.values c.prepare_insert.ensures.does c.insert_node.new.t c.args.node
    c.in_default-put_value.ensures.placed
    c.insert_node.ensures.does
    c.in_default.ensures.ready.node_left c.in_default.ensures.fit c.deref.ensures.value c.node_type-node_type.ensures.value c.in-Ok.ensures.ok in
    rw (← c.self.view_is) (record { step = born.0; moves = born.1; storage = refl })

pub returns-in-Err-prepare_insert-clause-step : goal.returns-in-Err-prepare_insert-clause-step
returns-in-Err-prepare_insert-clause-step g c = rw (← c.self.view_is) (record {
  made = tt;
  refused = (
    refl,
    (rw (c.deref.ensures.value ∙ c.in-Ok.ensures.ok) at c.in-Err-prepare_insert.ensures.refused) _,
  );
})
