use Rattle.pagable_core.specs.Data.{blob_of}
use Rattle.pagable_value_spec.specs.Blob.{preimage}
use Rattle.std.proofs.Common.{map, take, ◌≡◌}
use Rattle.pagable_core.proofs.storage.data.preimages_of.Given as goal

-- the preimages of the blobs before this one
abbrev pub invariant-loop-blob : goal.invariant-loop-blob
invariant-loop-blob l = map (λ bytes. bytes.items) l.preimages.items ≡ map (λ blob. preimage (blob_of blob.now)) (take l.blob-index l.blobs)
