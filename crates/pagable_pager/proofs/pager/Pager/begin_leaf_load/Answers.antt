use Rattle.pagable_pager.proofs.{
  Invariant.called,
  LeafCalls.{given-so, given-told},
  LeafPins.{begin-told, in-memory-never, unbegun-leaf, unbegun-place, unbegun-told},
}
use Rattle.pagable_tables.proofs.LeafRoom.{begin-wants}
use Rattle.pagable_theorems.proofs.ValuesOwned.{begins}
use Rattle.std.proofs.Common.{refl}
use Rattle.pagable_pager.proofs.pager.Pager.begin_leaf_load.Goals as goal

pub invariant_of-self : goal.invariant_of-self
invariant_of-self g c = called c.self.invariant c.load_begin.ensures (begins c.self.invariant.state.whole c.load_begin.result)

pub returns-in-Ok-Load-clause-begun : goal.returns-in-Ok-Load-clause-begun
returns-in-Ok-Load-clause-begun g c =
    let after = called c.self.invariant c.load_begin.ensures (begins c.self.invariant.state.whole c.load_begin.result) in
    rw (← c.self.view_is, c.in-Ok-Load.load-is) (begin-told c.self.invariant c.load_begin.new.t after c.args.leaf
    (rw (← c.self.view_is) at c.requires.leaf)
    ((rw c.in-Ok-Load.field-0-is at c.in-Ok-Load.ensures.does) _))

pub unreachable-requires : goal.unreachable-requires
unreachable-requires g c = in-memory-never (rw (← c.self.view_is) at c.requires.leaf)
    ((rw c.in-Ok-InMemory.field-0-is at c.in-Ok-InMemory.ensures.does) _)

pub leave_unloaded-requires-clause-leaf : goal.leave_unloaded-requires-clause-leaf
leave_unloaded-requires-clause-leaf g c =
    let after = called c.self.invariant c.load_begin.ensures (begins c.self.invariant.state.whole c.load_begin.result) in
    unbegun-leaf c.self.invariant after c.args.leaf c.in-Err.e (rw (← c.self.view_is) at c.requires.leaf)
    (c.in-Err.ensures.does _) (record { values = refl; storage = refl; environment = refl })

pub leave_unloaded-requires-clause-place : goal.leave_unloaded-requires-clause-place
leave_unloaded-requires-clause-place g c =
    let after = called c.self.invariant c.load_begin.ensures (begins c.self.invariant.state.whole c.load_begin.result) in
    unbegun-place c.self.invariant after c.args.leaf c.in-Err.e (rw (← c.self.view_is) at c.requires.leaf)
    (c.in-Err.ensures.does _) (record { values = refl; storage = refl; environment = refl })
    (rw (← c.self.view_is) at c.requires.place)

pub invariant_of-self-in-Err : goal.invariant_of-self-in-Err
invariant_of-self-in-Err g c =
    let after = called c.self.invariant c.load_begin.ensures (begins c.self.invariant.state.whole c.load_begin.result) in
    given-so after c.leave_unloaded.new.t c.self.inside.values (λ n. refl) c.args.leaf c.leave_unloaded.ensures.does c.leave_unloaded.ensures.same

pub returns-in-Err-clause-dropped : goal.returns-in-Err-clause-dropped
returns-in-Err-clause-dropped g c =
    let after = called c.self.invariant c.load_begin.ensures (begins c.self.invariant.state.whole c.load_begin.result) in
    let leaf = rw (← c.self.view_is) at c.requires.leaf in
    let call = c.in-Err.ensures.does _ in
    let dropped = given-told after c.leave_unloaded.new.t c.self.inside.values (λ n. refl) c.args.leaf c.leave_unloaded.ensures.does
    c.leave_unloaded.ensures.same in
    rw (← c.self.view_is) (
      begin-wants leaf call,
      unbegun-told c.self.invariant after c.args.leaf c.in-Err.e leaf call
          (record { values = refl; storage = refl; environment = refl }) dropped,
    )
