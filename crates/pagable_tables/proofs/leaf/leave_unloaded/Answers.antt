use Rattle.pagable_tables.proofs.{LeafLoad.drops-leaf, OwnedByLoad.does-as}
use Rattle.pagable_tables.proofs.leaf.leave_unloaded.Goals as goal

pub returns-clause-does : goal.returns-clause-does
returns-clause-does c =
    let taken = c.take_numbers.ensures.does in
    does-as taken (λ storage is. drops-leaf _ _ storage c.requires.whole taken.whole _ _ c.requires.leaf is
    c.requires.place)
