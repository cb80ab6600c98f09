use Rattle.pagable_core.specs.Data.{blob_of}
use Rattle.pagable_load.specs.AccessView.{Acts, values_at}
use Rattle.pagable_pager.specs.{TakenLeaves.{HasStored}, View.{pager_state}}
use Rattle.pagable_value_spec.specs.Blob.{key_of}
use Rattle.std.proofs.Common.{None, Some, if◌then◌else◌, length, map, ◌≡◌}
use Rattle.std.specs.Vec.Iter.{into_iter_items, into_iter_len}
use Rattle.pagable_pager.proofs.lent.Lent.finish_leaves.Given as goal

-- the leaves before those that are left are stored, and the keys that are left are those of the blobs
abbrev pub invariant-loop-leaf : goal.invariant-loop-leaf
invariant-loop-leaf g l = Acts (λ p. if g.S.PagableStorage.is_honest p.pager.now.storage then Some (pager_state g.S.PagableStorage p.pager.now) else None)
    (λ p. record { me = p.me; environment = p.pager.now.environment; lender = p.pager.ghost_name }) l.fn.self l.self
    (λ a s t. HasStored (values_at g.E.Node.NodeSet g.E.Env g.E.Hash.KeyHash a.environment) a.me l.taken l.fn.written.blobs.items s l.left
    (into_iter_items l.blobs) t)
    × (into_iter_items l.keys ≡ map (λ blob. key_of g.E.Hash.KeyHash.digest (blob_of blob)) (into_iter_items l.blobs))
    × (into_iter_len l.blobs ≡ length (into_iter_items l.blobs))

abbrev pub decreases-loop-leaf : goal.decreases-loop-leaf
decreases-loop-leaf g l = length l.left
