use Rattle.std.proofs.Common.{map, take, ◌≡◌}
use Rattle.pagable_pager.proofs.pager.leaf_page_out.borrow_blobs.Given as goal

-- the blobs of the leaves before this one
abbrev pub invariant-loop-leaf : goal.invariant-loop-leaf
invariant-loop-leaf l = map (λ blob. blob.now) l.blobs.items ≡ map (λ leaf. leaf.blob) (take l.leaf-index l.leaves)
