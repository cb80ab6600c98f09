use Rattle.pagable_tables.proofs.{LeafRoom.{begin-refused, leaf-roomier}, OwnedByLoad.widens-does, Words.refl}
use Rattle.pagable_tables.proofs.leaf.prepare_pin.Goals as goal

pub returns-in-Ok-clause-does : goal.returns-in-Ok-clause-does
returns-in-Ok-clause-does c = widens-does c.requires c.reserve.ensures.widens (λ n. refl) (λ n. refl) (λ n. refl) (λ kind key. refl)

pub returns-in-Ok-clause-leaf : goal.returns-in-Ok-clause-leaf
returns-in-Ok-clause-leaf c storage = leaf-roomier ((returns-in-Ok-clause-does c).does storage) (c.in-Some.ensures.leaf storage)

pub returns-in-Err-clause-does : goal.returns-in-Err-clause-does
returns-in-Err-clause-does c = widens-does c.requires c.reserve.ensures.widens (λ n. refl) (λ n. refl) (λ n. refl) (λ kind key. refl)

pub returns-in-Err-clause-refused : goal.returns-in-Err-clause-refused
returns-in-Err-clause-refused c storage = rw c.from.ensures
    (begin-refused _ c.in-Some.ensures.number ((returns-in-Err-clause-does c).does storage) (c.in-Some.ensures.leaf storage))
