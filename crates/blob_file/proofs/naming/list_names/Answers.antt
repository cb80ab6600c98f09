use Rattle.blob_file.proofs.Listings.{all_listed}
use Rattle.blob_file.proofs.naming.list_names.Goals as goal

pub returns-clause-each : goal.returns-clause-each
returns-clause-each c =
    all_listed c.args.names.now c.loop-name.listed.items c.loop-name.name-iterator c.in-None.ensures.steps.0
    c.loop-name.invariant c.keys-name-items.ensures.unique
