use Rattle.pagable_pager.proofs.{LeafPins.{err-map}, NewValues.{roomier}}
use Rattle.pagable_pager.specs.View.{storage_view}
use Rattle.pagable_tables.proofs.SameViews.{room-alike}
use Rattle.std.proofs.Common.{inl, refl}
use Rattle.pagable_pager.proofs.pager.Pager.find_leaf.Goals as goal

pub invariant_of-self : goal.invariant_of-self
invariant_of-self g c = roomier c.self.invariant c.self.inside.values c.prepare_pin.ensures.does (λ n. refl)

pub returns-clause-leaf : goal.returns-clause-leaf
returns-clause-leaf g c = c.prepare_pin.ensures.leaf (storage_view g.S.PagableStorage c.self.inside.storage)

pub returns-clause-stays : goal.returns-clause-stays
returns-clause-stays g c = rw (← c.self.view_is) (record {
  step = room-alike (c.prepare_pin.ensures.does.does (storage_view g.S.PagableStorage c.self.inside.storage));
  moves = record { each = λ n x has. inl has; environment = refl };
  whole = (roomier c.self.invariant c.self.inside.values c.prepare_pin.ensures.does (λ n. refl)).state;
})

pub returns-clause-refused : goal.returns-clause-refused
returns-clause-refused g c = rw (← c.self.view_is) (err-map c.prepare_pin.result (λ e call. record {
  step = call;
  moves = record { each = λ n x has. inl has; environment = refl };
  whole = (roomier c.self.invariant c.self.inside.values c.prepare_pin.ensures.does (λ n. refl)).state;
}) (c.prepare_pin.ensures.refused (storage_view g.S.PagableStorage c.self.inside.storage)))
