use Rattle.pagable_core.proofs.Weighing.{keys-follow}
use Rattle.pagable_core.specs.Data.{blob_of, key_of_digest}
use Rattle.pagable_value_spec.specs.Blob.{preimage}
use Rattle.std.proofs.Common.{ap, map, ◌∙◌}
use Rattle.pagable_core.proofs.storage.data.compute_keys.Goals as goal

pub returns-clause-ok : goal.returns-clause-ok
returns-clause-ok g c =
    keys-follow g.H.KeyHash.digest (λ blob. preimage (blob_of blob.now)) (λ bytes. bytes.items) (λ message. message.now) c.args.blobs.now
    c.in_ok-preimages.preimages.items c.in_ok-messages.messages.items c.in_ok-digests.digests.items c.in_ok-keys.keys.items
    c.in_ok-preimages.ensures.ok (c.in_ok-messages.ensures.ok ∙ ap (map (λ bytes. bytes.items)) c.deref.ensures.value)
    (c.in_ok-digests.ensures.ok ∙ ap (map (λ message. g.H.KeyHash.digest message.now)) c.deref-2.ensures.value)
    (c.in_ok-keys.ensures.ok ∙ ap (map key_of_digest) c.deref-3.ensures.value)
