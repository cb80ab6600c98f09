use Rattle.pagable_pager.proofs.{
  LeafCalls.{given-so, given-told},
  LeafPins.{asked-in, fetch-refused, fetch-told, leaf-after, leaf-asked, not-begun, pager-in},
  NewValues.roomier,
}
use Rattle.std.proofs.Common.{refl, ◌≡◌}
use Rattle.pagable_pager.proofs.pager.Pager.start_leaf.Goals as goal

pub invariant_of-self-in-Err : goal.invariant_of-self-in-Err
invariant_of-self-in-Err g c = roomier c.self.invariant c.self.inside.values c.prepare_pin.ensures.does (λ n. refl)

pub returns-in-Err-clause-refused : goal.returns-in-Err-clause-refused
returns-in-Err-clause-refused g c =
    λ h. rw (← c.self.view_is)
    (not-begun c.self.invariant c.prepare_pin.new.t (roomier c.self.invariant c.self.inside.values c.prepare_pin.ensures.does (λ n. refl))
    (c.in-Err.ensures.refused _))

pub invariant_of-self-2 : goal.invariant_of-self-2
invariant_of-self-2 g c = roomier c.self.invariant c.self.inside.values c.prepare_pin.ensures.does (λ n. refl)

pub leave_unloaded-requires-clause-leaf : goal.leave_unloaded-requires-clause-leaf
leave_unloaded-requires-clause-leaf g c = leaf-after c.self-2.view_is c.in-Err-fetch.ensures.asks.only.tables
    (rw c.in-Ok-Some.field-0-is at c.in-Ok-Some.ensures.leaf)

pub invariant_of-self-in-Err-fetch : goal.invariant_of-self-in-Err-fetch
invariant_of-self-in-Err-fetch g c = given-so c.self-2.invariant c.leave_unloaded.new.t c.self-2.inside.values
    (λ n. refl) c.in-Ok-Some.leaf c.leave_unloaded.ensures.does
    c.leave_unloaded.ensures.same

pub returns-in-Ok-clause-leaf : goal.returns-in-Ok-clause-leaf
returns-in-Ok-clause-leaf g c = leaf-asked g.S.PagableStorage c.fetch.new.self c.in-Ok.ensures.asks.only.tables
    (rw c.in-Ok-Some.field-0-is at c.in-Ok-Some.ensures.leaf)

pub returns-in-Ok-clause-fetched : goal.returns-in-Ok-clause-fetched
returns-in-Ok-clause-fetched g c =
    let asks = c.in-Ok.ensures.asks in
    λ h. rw (← c.self.view_is) (fetch-told c.self.invariant (pager-in c.self-2.view_is c.self-2.invariant) c.prepare_pin.new.t c.prepare_pin.ensures.does
    c.in-Ok-Some.leaf (rw c.in-Ok-Some.field-0-is at c.in-Ok-Some.ensures.leaf) _ (asks.step h) asks.only _ refl)

pub returns-in-Err-fetch-clause-refused : goal.returns-in-Err-fetch-clause-refused
returns-in-Err-fetch-clause-refused g c =
    let asks = asked-in c.self-2.view_is c.in-Err-fetch.ensures.asks in
    let dropped = given-told c.self-2.invariant c.leave_unloaded.new.t c.self-2.inside.values (λ n. refl) c.in-Ok-Some.leaf c.leave_unloaded.ensures.does
    c.leave_unloaded.ensures.same in
    let number : c.in-Ok-Some.leaf.row.number ≡ c.args.handle = rw c.in-Ok-Some.field-0-is at c.in-Ok-Some.ensures.number in
    λ h. rw (← c.self.view_is, ← number) (fetch-refused c.self.invariant c.self-2.invariant c.prepare_pin.new.t c.prepare_pin.ensures.does c.in-Ok-Some.leaf
    (rw c.in-Ok-Some.field-0-is at c.in-Ok-Some.ensures.leaf) _ (asks.step h) asks.only _ _ refl dropped)
