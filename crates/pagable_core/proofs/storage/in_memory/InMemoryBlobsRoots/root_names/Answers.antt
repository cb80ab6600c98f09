use Rattle.pagable_core.proofs.Names.{all_listed}
use Rattle.pagable_core.proofs.storage.in_memory.InMemoryBlobsRoots.root_names.Goals as goal

pub returns-clause-each : goal.returns-clause-each
returns-clause-each g c honest =
    all_listed c.args.self.now.roots c.loop-name.names.items c.loop-name.name-iterator c.in-None.ensures.steps.0 c.loop-name.invariant c.keys-name-items.ensures.unique
