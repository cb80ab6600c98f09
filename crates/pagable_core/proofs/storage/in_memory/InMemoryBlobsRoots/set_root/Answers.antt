-- A name is set at its bytes, and no other one changes.
use Rattle.std.proofs.{Common.arith, lemmas.Map.Text.text_keys}
use Rattle.pagable_core.proofs.storage.in_memory.InMemoryBlobsRoots.set_root.Goals as goal

pub returns-clause-sets : goal.returns-clause-sets
returns-clause-sets g c = grind (arith, text_keys)

pub returns-in_default-clause-sets : goal.returns-in_default-clause-sets
returns-in_default-clause-sets g c = grind (arith, text_keys)
