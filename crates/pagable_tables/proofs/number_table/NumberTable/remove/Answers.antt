use Rattle.pagable_tables.proofs.ListPlaces.{freed-chunk}
use Rattle.std.proofs.Common.{refl}
use Rattle.pagable_tables.proofs.number_table.NumberTable.remove.Goals as goal

pub returns-clause-freed : goal.returns-clause-freed
returns-clause-freed g c some none = freed-chunk c.take.new.self _ c.args.number c.chunk_of.result c.trim.new.rows c.index_mut.result.now
    c.chunk_of.ensures (c.in_ok-row.ensures.ready refl) refl c.trim.ensures.rows c.trim.ensures.freed none
