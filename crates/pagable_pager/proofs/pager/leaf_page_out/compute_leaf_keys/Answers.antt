use Rattle.pagable_core.specs.Data.{blob_of}
use Rattle.pagable_pager.proofs.LeafBatches.{leaf-keys-are}
use Rattle.pagable_value_spec.specs.Blob.{key_of}
use Rattle.std.proofs.Common.{ap, map, ◌∙◌}
use Rattle.pagable_pager.proofs.pager.leaf_page_out.compute_leaf_keys.Goals as goal

pub returns : goal.returns
returns g c =
    leaf-keys-are g.H.KeyHash.digest (λ blob. blob.now) c.in_ok-blobs.blobs.items c.args.leaves.now c.in_ok-keys.keys.items c.in_ok-blobs.ensures
    (c.in_ok-keys.ensures.ok ∙ ap (map (λ blob. key_of g.H.KeyHash.digest (blob_of blob.now))) c.deref.ensures.value)
