use Rattle.pagable_core.specs.Data.{blob_of}
use Rattle.pagable_load.proofs.Keyed.{from_root}
use Rattle.std.specs.Arc.{arc_value}
use Rattle.pagable_load.proofs.cell_reading.CellReading.read.Goals as goal

pub returns-in-Pinned-clause-keyed : goal.returns-in-Pinned-clause-keyed
returns-in-Pinned-clause-keyed g c = from_root (blob_of (arc_value c.args.blob)) c.put_root.ensures.same.key c.put_root.ensures.same.node_type
    c.put_root.ensures.root c.requires.named c.in-Pinned.ensures.keyed
