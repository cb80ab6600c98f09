use Rattle.pagable_core.proofs.Adding.{stored_more}
use Rattle.pagable_core.specs.Data.{blob_of}
use Rattle.std.proofs.Common.{ap}

pub returns-clause-ok : Rattle.pagable_core.proofs.storage.in_memory.put.Goals.returns-clause-ok
returns-clause-ok c = stored_more c.args.blobs.now c.insert.new.self c.args.key c.in_ok-kept.kept (blob_of c.args.blob)
    (λ q. c.in_ok-insert.ensures.updates.0 q) (ap blob_of c.in_ok-kept.ensures.ok)
