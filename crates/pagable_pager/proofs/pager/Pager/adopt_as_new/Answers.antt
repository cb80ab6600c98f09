use Rattle.pagable_pager.proofs.NewValues.{new-asked, new-memory, new-refused, new-so, new-told, new-unknown, roomier}
use Rattle.std.proofs.Common.{refl}
use Rattle.pagable_pager.proofs.pager.Pager.adopt_as_new.Goals as goal

pub invariant_of-self : goal.invariant_of-self
invariant_of-self g c = roomier c.self.invariant c.self.inside.values c.make_room_for_node.ensures.does (λ n. refl)

pub returns-in-Err-clause-step : goal.returns-in-Err-clause-step
returns-in-Err-clause-step g c = rw (← c.self.view_is) (new-refused c.self.invariant c.self.view_is _ _ _ _ c.args.node c.requires.listed c.requires.fresh
    c.requires.unknown (c.in-Err.ensures.refused _))

pub invariant_of-self-in-Err-put_value : goal.invariant_of-self-in-Err-put_value
invariant_of-self-in-Err-put_value g c = roomier c.self.invariant c.put_value.new.values c.make_room_for_node.ensures.does c.in-Err-put_value.ensures.kept

pub returns-in-Err-put_value-clause-step : goal.returns-in-Err-put_value-clause-step
returns-in-Err-put_value-clause-step g c =
    rw (← c.self.view_is, c.in-Err-put_value.ensures.only) (new-memory c.self.invariant c.self.view_is _ _ _ _ c.args.node c.requires.listed c.requires.fresh
    c.requires.unknown c.put_value.new.values
    c.make_room_for_node.ensures.does c.in-Err-put_value.ensures.back)

pub adopt-requires-clause-later : goal.adopt-requires-clause-later
adopt-requires-clause-later g c = c.make_room_for_node.ensures.does.later c.self.invariant.later

pub adopt-requires-clause-asked : goal.adopt-requires-clause-asked
adopt-requires-clause-asked g c = (
  c.args.me,
  _,
  new-asked c.self.invariant c.self.view_is _ _ _ _ c.args.node c.requires.listed c.requires.fresh c.requires.unknown
      c.make_room_for_node.ensures.does,
)

pub adopt-requires-clause-unknown : goal.adopt-requires-clause-unknown
adopt-requires-clause-unknown g c = new-unknown c.self.invariant c.self.view_is _ _ _ _ c.args.node c.requires.listed c.requires.fresh c.requires.unknown
    c.make_room_for_node.ensures.does

pub invariant_of-self-2 : goal.invariant_of-self-2
invariant_of-self-2 g c = new-so c.self.invariant c.self.view_is _ _ _ _ c.args.node c.requires.listed c.requires.fresh c.requires.unknown
    c.put_value.new.values
    c.make_room_for_node.ensures.does c.in_default-put_value.ensures.placed c.adopt.new.t c.has_closed-lists.ensures c.in_default.ensures.ready.node_left
    c.adopt.ensures

pub returns : goal.returns
returns g c =
    let new = new-told c.self.invariant c.self.view_is _ _ _ _ c.args.node c.requires.listed c.requires.fresh c.requires.unknown c.put_value.new.values
    c.make_room_for_node.ensures.does c.in_default-put_value.ensures.placed c.adopt.new.t c.has_closed-lists.ensures c.in_default.ensures.ready.node_left
    c.adopt.ensures in
    rw (← c.self.view_is) (record { step = new.0; moves = new.1; storage = refl })
