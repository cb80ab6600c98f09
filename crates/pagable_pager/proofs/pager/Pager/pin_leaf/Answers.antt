use Rattle.pagable_pager.proofs.LeafCalls.{given-so, given-told, pinned-held, pinned-so, pinned-told}
use Rattle.pagable_pager.proofs.pager.Pager.pin_leaf.Goals as goal

pub invariant_of-self : goal.invariant_of-self
invariant_of-self g c =
    let i = c.pin_loaded_leaf-pinned.ensures in
    pinned-so c.self.invariant c.pin_loaded_leaf-pinned.new.t c.put_and_share.new.values c.args.leaf c.args.value c.pin_loaded_leaf-pinned.result
    (rw (← c.self.view_is) at c.requires.leaf) c.requires.typed c.requires.bare i.pins i.values i.whole
    (i.later c.self.invariant.later) c.in-Ok.ensures.placed

pub invariant_of-self-in-Err : goal.invariant_of-self-in-Err
invariant_of-self-in-Err g c = given-so c.self.invariant c.leave_unloaded.new.t c.put_and_share.new.values c.in-Err.ensures.kept c.args.leaf
    c.leave_unloaded.ensures.does
    c.leave_unloaded.ensures.same

pub returns-in-Ok-clause-pinned : goal.returns-in-Ok-clause-pinned
returns-in-Ok-clause-pinned g c =
    let i = c.pin_loaded_leaf-pinned.ensures in
    rw (← c.self.view_is) (pinned-told c.self.invariant c.pin_loaded_leaf-pinned.new.t c.put_and_share.new.values c.args.leaf c.args.value c.pin_loaded_leaf-pinned.result
    (rw (← c.self.view_is) at c.requires.leaf) c.requires.typed c.requires.bare i.pins
    i.values i.whole (i.later c.self.invariant.later) c.in-Ok.ensures.placed)

pub returns-in-Err-clause-dropped : goal.returns-in-Err-clause-dropped
returns-in-Err-clause-dropped g c =
    rw (← c.self.view_is) (
      c.in-Err.ensures.only,
      given-told c.self.invariant c.leave_unloaded.new.t c.put_and_share.new.values c.in-Err.ensures.kept c.args.leaf
          c.leave_unloaded.ensures.does c.leave_unloaded.ensures.same,
    )

pub returns-in-Ok-clause-held : goal.returns-in-Ok-clause-held
returns-in-Ok-clause-held g c =
    let i = c.pin_loaded_leaf-pinned.ensures in
    let held = pinned-held c.self.invariant c.pin_loaded_leaf-pinned.new.t c.put_and_share.new.values c.args.leaf c.args.value c.pin_loaded_leaf-pinned.result
    (rw (← c.self.view_is) at c.requires.leaf) c.requires.typed c.requires.bare i.pins i.values i.whole (i.later c.self.invariant.later) c.in-Ok.ensures.placed in
    record { row = held.found.0; live = held.found.1; held = held.found.2.1 }
