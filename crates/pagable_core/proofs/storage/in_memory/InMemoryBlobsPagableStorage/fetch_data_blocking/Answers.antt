use Rattle.pagable_core.specs.Data.{blob_of}
use Rattle.std.proofs.Common.{arith}
use Rattle.std.specs.Arc.{arc_value}
use Rattle.pagable_core.proofs.storage.in_memory.InMemoryBlobsPagableStorage.fetch_data_blocking.Goals as goal

pub returns-in_ok-clone-in-Some-clause-named : goal.returns-in_ok-clone-in-Some-clause-named
returns-in_ok-clone-in-Some-clause-named g c = c.args.self.now.named c.args.key (blob_of (arc_value c.in_ok-clone-in-Some.field-0)) (search (arith))
