use Rattle.pagable_pager.proofs.{Invariant.{known-valued, none-so, only-less, release_at, same-so}, NewValues.not-adopted}
use Rattle.pagable_tables.proofs.OwnedByLoad.{eager-pins}
use Rattle.pagable_theorems.proofs.ValuesOwned.{adopted_known}
use Rattle.std.proofs.Common.{ap, inl, not, refl, ◌∙◌}
use Rattle.pagable_pager.proofs.pager.Pager.load_adopt_for.Goals as goal

pub adopt_if_cached-requires-clause-valued : goal.adopt_if_cached-requires-clause-valued
adopt_if_cached-requires-clause-valued g c n known eager = known-valued c.self.invariant c.args.kind.0 c.args.key n known (eager-pins c.args.kind.0 eager)

pub invariant_of-self : goal.invariant_of-self
invariant_of-self g c =
    let e = c.in-Ok-Some.ensures in
    release_at c.self.invariant _ _ e.whole e.later e.drops
    (λ left. adopted_known c.self.invariant.state left ((rw c.in-Ok-Some.field-0-is at e.known) _
    (ap not c.has_closed-lists.ensures))
    (rw c.in-Ok-Some.field-0-is at e.given).1)

pub returns-in-Ok-Some : goal.returns-in-Ok-Some
returns-in-Ok-Some g c =
    let e = c.in-Ok-Some.ensures in
    let less = only-less c.self.invariant c.adopt_if_cached.new.t c.adopt_if_cached.new.values e.drops in
    rw (← c.self.view_is, ← c.node_type-node_type.ensures.value, ← (c.deref.ensures.value ∙ c.in-Ok.ensures.ok)) (record {
      step = record {
        adopts = (rw c.in-Ok-Some.field-0-is at e.known) _
            (ap not c.has_closed-lists.ensures);
        refused = tt;
      };
      moves = record { each = λ n x has. inl (less.values n x has); environment = less.environment };
      storage = refl;
    })

pub invariant_of-self-in-Ok-None : goal.invariant_of-self-in-Ok-None
invariant_of-self-in-Ok-None g c = let e = c.in-Ok-None.ensures in none-so c.self.invariant _ _ e.whole e.later e.drops (rw c.in-Ok-None.field-0-is at e.same)

pub adopt_as_new-requires-clause-fresh : goal.adopt_as_new-requires-clause-fresh
adopt_as_new-requires-clause-fresh g c storage =
    let e = c.in-Ok-None.ensures in
    rw ((rw c.in-Ok-None.field-0-is at e.same), ← c.node_type-node_type.ensures.value, ← c.deref.ensures.value)
    ((rw c.in-Ok-None.field-0-is at e.fresh) storage)

pub adopt_as_new-requires-clause-unknown : goal.adopt_as_new-requires-clause-unknown
adopt_as_new-requires-clause-unknown g c = let e = c.in-Ok-None.ensures in rw (rw c.in-Ok-None.field-0-is at e.same) (rw c.in-Ok-None.field-0-is at e.unknown)

pub returns-in-Ok-None : goal.returns-in-Ok-None
returns-in-Ok-None g c =
    let e = c.in-Ok-None.ensures in
    rw (← c.self.view_is, ← (rw c.in-Ok-None.field-0-is at e.same), ← (rw c.in-Ok-None.field-0-is at e.kept))
    (record { step = c.adopt_as_new.ensures.step; moves = c.adopt_as_new.ensures.moves; storage = c.adopt_as_new.ensures.storage })

pub invariant_of-self-in-Err-adopt_if_cached : goal.invariant_of-self-in-Err-adopt_if_cached
invariant_of-self-in-Err-adopt_if_cached g c = let e = c.in-Err-adopt_if_cached.ensures in
    same-so c.self.invariant _ _ e.whole e.later e.drops (e.refused _).stays

pub returns-in-Err-adopt_if_cached : goal.returns-in-Err-adopt_if_cached
returns-in-Err-adopt_if_cached g c =
    let e = c.in-Err-adopt_if_cached.ensures in
    let less = only-less c.self.invariant c.adopt_if_cached.new.t c.adopt_if_cached.new.values e.drops in
    rw (← c.self.view_is) (record {
      step = not-adopted c.node_type-node_type.ensures.value (c.deref.ensures.value ∙ c.in-Ok.ensures.ok) refl
          (e.refused _);
      moves = record { each = λ n x has. inl (less.values n x has); environment = less.environment };
      storage = refl;
    })
