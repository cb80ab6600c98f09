use Rattle.pagable_load.specs.AccessView.{values_at}
use Rattle.pagable_pager.specs.TakenLeaves.{WritesEach}
use Rattle.std.proofs.Common.{length, ◌≡◌}
use Rattle.pagable_pager.proofs.lent.leaves.add_blobs.Given as goal

-- the leaves before this one are written
abbrev pub invariant-loop-leaf : goal.invariant-loop-leaf
invariant-loop-leaf g l = WritesEach (values_at g.E.Node.NodeSet g.E.Env g.E.Hash.KeyHash l.env) l.taken l.blobs.items
    × (length l.blobs.items ≡ l.leaf-index)
