use Rattle.pagable_changes.proofs.Changing.{at-same}
use Rattle.pagable_changes.specs.Changes.{both-go, one-goes}
use Rattle.pagable_load.specs.AccessView.{values_at}
use Rattle.pagable_value_spec.specs.declared.numbers.HandleNumber.{HandleNumber}
use Rattle.std.proofs.Common.{ap, ℕ}
use Rattle.pagable_changes.proofs.calls.release_both.Goals as goal

pub returns-then-pin-cloned-clause-releases : goal.returns-then-pin-cloned-clause-releases
returns-then-pin-cloned-clause-releases g c =
    both-go _ _ _ _ c.release-unpinned.ensures.called (at-same (values_at g.E.Node.NodeSet g.E.Env g.E.Hash.KeyHash)
    c.release-unpinned.ensures.keeps.environment c.release-released.ensures.called)

pub returns-else-pin-cloned-clause-releases : goal.returns-else-pin-cloned-clause-releases
returns-else-pin-cloned-clause-releases g c =
    one-goes _ _ (ap (λ (n : ℕ). let h : HandleNumber = record { 0 = n } in h) c.if-pin-cloned.false) c.release-unpinned.ensures.called
